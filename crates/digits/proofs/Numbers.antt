-- The digits of a number say it, and a number's digits are determined by it.
use mathlib.Core.Path.{◌≡◌, refl, ap, sym, ◌∙◌}
use mathlib.Core.Bool.{Bool, true, false}
use Prim.Native.Nat.{ℕ, zero, suc, ◌+◌, ◌-◌, ◌*◌, ◌/◌, ◌%◌, ◌^◌, ◌≤◌, ◌<◌}
use native.Mathlib.Omega.{arith}
use native.Mathlib.Decide.{dec_lt}
use native.Mathlib.Nat.{pow-suc, div-add-mod, div-div-eq-div-mul, div-one, div-eq_of_lt, mod-lt, mod-eq_of_lt, add-mul-mod_self_left, mul-add-div_right, mul-add-mod_self_right}
use lib.Dec.{eqb, leb}
use borrow.Author.Tests.{leb-true, leb-false}
use Rattle.loops.specs.Loop.{bit, first}
use Rattle.loops.proofs.Loop.{first-true, first_below, first-le}
use Rattle.digits.specs.Digits.{digit, powers_below, number, Parts}

pub pow_pos : (i : ℕ) → 0 < 2 ^ i
pow_pos zero = omega arith
pow_pos (suc i) = rw (pow-suc 2 i) (omega (arith, pow_pos i))

pub bit_le : (b : Bool) → bit b ≤ 1
bit_le true = omega arith
bit_le false = omega arith

pub digit_lt : (a i : ℕ) → digit a i < 2
unfolding digit
digit_lt a i = mod-lt (a / 2 ^ i) (omega arith)

pub bit-eqb : (y : ℕ) → y < 2 → bit (eqb y 1) ≡ y
bit-eqb zero h = refl
bit-eqb (suc zero) h = refl
bit-eqb (suc (suc y)) h = absurd (omega arith)

pub number_lt : (v : ℕ → Bool) (w : ℕ) → number v w < 2 ^ w
unfolding number
number_lt v zero = omega arith
number_lt v (suc w) = go (number_lt v w) (v w)
  where
    go : number v w < 2 ^ w → (b : Bool) → number v w + 2 ^ w * bit b < 2 ^ suc w
    go h true = rw (pow-suc 2 w) (omega arith)
    go h false = rw (pow-suc 2 w) (omega arith)

pub number_same : (u v : ℕ → Bool) (w : ℕ) → ((j : ℕ) → j < w → u j ≡ v j) → number u w ≡ number v w
unfolding number
number_same u v zero h = refl
number_same u v (suc w) h = rw (number_same u v w (λ j l. h j (omega arith)), h w (omega arith))

-- the lowest w digits, and the rest
number-rest : (x w : ℕ) → number (λ j. eqb (digit x j) 1) w + 2 ^ w * (x / 2 ^ w) ≡ x
unfolding number digit
number-rest x zero = rw (div-one x) (omega arith)
number-rest x (suc w) =
    let y : ℕ = x / 2 ^ w in
    let h : number (λ j. eqb (digit x j) 1) w + 2 ^ w * y ≡ x = number-rest x w in
    let d : x / 2 ^ suc w ≡ y / 2 = ap (λ (z : ℕ). x / z) (pow-suc 2 w) ∙ sym (div-div-eq-div-mul x (2 ^ w) 2) in
    let b : bit (eqb (digit x w) 1) ≡ y % 2 = bit-eqb (y % 2) (mod-lt y (omega arith)) in
    let m : 2 ^ w * (2 * (y / 2) + y % 2) ≡ 2 ^ w * y = ap (λ (z : ℕ). 2 ^ w * z) (div-add-mod y 2) in
    rw (d, b, pow-suc 2 w) (omega arith)

-- the first w digits of x say x modulo 2 ^ w
pub number-mod : (x w : ℕ) → number (λ j. eqb (digit x j) 1) w ≡ x % 2 ^ w
number-mod x w =
    let v : ℕ → Bool = λ j. eqb (digit x j) 1 in
    let r : number v w + 2 ^ w * (x / 2 ^ w) ≡ x = number-rest x w in
    sym (mod-eq_of_lt (number_lt v w)) ∙ (sym (add-mul-mod_self_left (number v w) (2 ^ w) (x / 2 ^ w)) ∙ ap (λ (z : ℕ). z % 2 ^ w) r)

pub number_digits : (x w : ℕ) → x < 2 ^ w → number (λ j. eqb (digit x j) 1) w ≡ x
number_digits x w h = number-mod x w ∙ mod-eq_of_lt h

-- two lists of truth values that say the same number are the same
pub number-digit : (u v : ℕ → Bool) (w : ℕ) → number u w ≡ number v w → (j : ℕ) → j < w → u j ≡ v j
unfolding number
number-digit u v zero e j h = absurd (omega arith)
number-digit u v (suc w) e j h = go (λ q l. number-digit u v w q j l) (u w) (v w) refl refl e (dec_lt j w)
  where
    go : (number u w ≡ number v w → j < w → u j ≡ v j) → (a b : Bool) → u w ≡ a → v w ≡ b → number u w + 2 ^ w * bit a ≡ number v w + 2 ^ w * bit b → Dec (j < w)
        → u j ≡ v j
    go ih true true p q e (yes l) = ih (omega arith) l
    go ih true true p q e (no l) = let z : j ≡ w = omega arith in rw z (p ∙ sym q)
    go ih false false p q e (yes l) = ih (omega arith) l
    go ih false false p q e (no l) = let z : j ≡ w = omega arith in rw z (p ∙ sym q)
    go ih true false p q e l = absurd (omega (arith, number_lt u w, number_lt v w))
    go ih false true p q e l = absurd (omega (arith, number_lt u w, number_lt v w))

pow_more : (i : ℕ) → i < 2 ^ i
pow_more zero = omega arith
pow_more (suc i) = rw (pow-suc 2 i) (omega (arith, pow_more i))

-- the powers of two below w: each of them is, the next is not, and they are fewer than w
module _ (w : ℕ) where
  pub powers-each : (j : ℕ) → j < powers_below w → 2 ^ j < w
  unfolding powers_below
  powers-each j l = leb-false w (2 ^ j) (first_below (λ j. leb w (2 ^ j)) w j l)

  pub powers-few : powers_below w ≤ w
  unfolding powers_below
  powers-few = first-le (λ j. leb w (2 ^ j)) w

  pub powers-less : 1 ≤ w → powers_below w < w
  unfolding powers_below
  powers-less h = go (dec_lt (w - 1) (first w (λ j. leb w (2 ^ j))))
    where
      go : Dec (w - 1 < first w (λ j. leb w (2 ^ j))) → first w (λ j. leb w (2 ^ j)) < w
      go (yes l) = absurd (omega (arith, leb-false w (2 ^ (w - 1)) (first_below (λ j. leb w (2 ^ j)) w (w - 1) l), pow_more (w - 1)))
      go (no l) = omega arith

  pub powers-enough : 1 ≤ w → w ≤ 2 ^ powers_below w
  unfolding powers_below
  powers-enough h = leb-true w (2 ^ first w (λ j. leb w (2 ^ j))) (first-true (λ j. leb w (2 ^ j)) w (powers-less h))

-- one quotient and one remainder, and none by 0
pub parts-one : (q r n d : ℕ) → Parts q r n d → (q ≡ n / d) × (r ≡ n % d) × (0 < d)
parts-one q r n d h =
    let pos : 0 < d = omega arith in (
      rw (← h.0, mul-add-div_right pos q r, div-eq_of_lt h.1) (omega arith),
      rw (← h.0, mul-add-mod_self_right q d r, mod-eq_of_lt h.1),
      pos,
    )
