-- With digits by division and remainder a division means what it must.
use mathlib.Core.Path.{◌≡◌, ◌∙◌}
use Prim.Native.Nat.{ℕ, ◌+◌, ◌*◌, ◌^◌, ◌/◌, ◌%◌, ◌≤◌, ◌<◌}
use native.Mathlib.Omega.{arith}
use native.Mathlib.Nat.{div-add-mod', mod-lt, div-le_self}
use lib.Dec.{eqb}
use Rattle.digits.specs.Digits.{digit, number}
use Rattle.digits.proofs.Numbers.{number_same, number_digits}
use Rattle.visits.specs.Claims.{Meaning}
use Rattle.visits.specs.Divide.{Division}

-- where the digits of the quotient and the remainder are a meaning's, it is the division of a by d
pub division : (M : Meaning) (k w a d : ℕ) → a < 2 ^ w → 1 ≤ d → ((j : ℕ) → j < w → M.quotient k j ≡ eqb (digit (a / d) j) 1) → ((j : ℕ) → j < w → M.remainder k j ≡ eqb (digit (a % d) j) 1)
    → Division M k w a d
division M k w a d lt pos hq hr =
    let q : number (M.quotient k) w ≡ a / d = number_same (M.quotient k) (λ j. eqb (digit (a / d) j) 1) w hq ∙ number_digits (a / d) w (omega (arith, div-le_self a d)) in
    let less : a % d < d = mod-lt a pos in
    let most : a / d * d + a % d ≡ a = div-add-mod' a d in
    let r : number (M.remainder k) w ≡ a % d = number_same (M.remainder k) (λ j. eqb (digit (a % d) j) 1) w hr ∙ number_digits (a % d) w (omega arith) in
    rw (q, r) (most, less)
