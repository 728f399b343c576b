-- Known operands, divided as numbers.
use mathlib.Core.Path.{◌≡◌}
use mathlib.Core.List.{List}
use mathlib.Core.Bool.{Bool}
use Prim.Native.Nat.{ℕ, zero, suc, ◌+◌, ◌*◌, ◌-◌, ◌^◌, ◌/◌, ◌%◌, ◌≤◌, ◌<◌}
use native.Mathlib.Omega.{arith}
use native.Mathlib.Nat.{div-le_self, mod-le, mul-add-div, div-eq_of_lt}
use lib.Dec.{eqb}
use lib.ListN.{length}
use Rattle.loops.proofs.Loop.{by-pick}
use Rattle.digits.specs.Digits.{known_bits, known_number, put_digits}
use Rattle.digits.proofs.Numbers.{pow_pos, digit_lt, number_lt}
use Rattle.digits.proofs.Words as digits
use Rattle.words.proofs.NumLaws.{num-known, num-digits}
use Rattle.words.proofs.AddLaws.{pow-add}
use Rattle.division.specs.Known.{answer_of, known_word, KnownLaw}
use Rattle.values.specs.Value.{div_word, rem_word}

answer-less : (quotient : Bool) (w n d : ℕ) → n < 2 ^ w → answer_of quotient w n d < 2 ^ w
unfolding div_word rem_word
answer-less quotient w n d h =
    by-pick (λ a. a < 2 ^ w) quotient _ _
    (λ q. by-pick (λ a. a < 2 ^ w) (eqb d 0) (2 ^ w - 1) (n / d) (λ z. omega (arith, pow_pos w)) (λ z. omega (arith, div-le_self n d)))
    (λ q. by-pick (λ a. a < 2 ^ w) (eqb d 0) n (n % d) (λ z. h) (λ z. omega (arith, mod-le n d)))

pub known-law : (quotient : Bool) (w : ℕ) (n d out : List ℕ) → w ≤ length out → KnownLaw quotient w n d out (known_word quotient w n d out)
known-law quotient w n d out fits =
    let a : ℕ = answer_of quotient w (known_number w n) (known_number w d) in
    let p : digits.Put a out w (put_digits a w out) = digits.put-law a w out fits in
    record {
      long = p.long;
      rest = p.other;
      known = λ j l. rw (p.there j l) (digit_lt a j);
      value = λ s e o kn kd.
          rw (num-known s e n w o kn, num-known s e d w o kd)
          (num-digits s e (put_digits a w out) w a o (answer-less quotient w (known_number w n) (known_number w d) (number_lt (known_bits n) w)) p.there (digit_lt a));
    }

-- w ones, by shift
pub ones : (w : ℕ) → w ≤ 64 → 18446744073709551615 / 2 ^ (64 - w) ≡ 2 ^ w - 1
ones w h =
    let m : w + (64 - w) ≡ 64 = omega arith in
    let a : 18446744073709551616 ≡ 2 ^ w * 2 ^ (64 - w) = rw m at (pow-add w (64 - w)) in
    let b : 18446744073709551615 ≡ 2 ^ (64 - w) * (2 ^ w - 1) + (2 ^ (64 - w) - 1) = split (2 ^ w) (2 ^ (64 - w)) (pow_pos w) (pow_pos (64 - w)) a in
    rw (b, mul-add-div (pow_pos (64 - w)) (2 ^ w - 1) (2 ^ (64 - w) - 1), div-eq_of_lt (rest (2 ^ (64 - w)) (pow_pos (64 - w)))) (omega arith)
  where
    split : (x y : ℕ) → 0 < x → 0 < y → 18446744073709551616 ≡ x * y → 18446744073709551615 ≡ y * (x - 1) + (y - 1)
    split zero y hx hy e = absurd (omega arith)
    split (suc x) y hx hy e = let q : suc x - 1 ≡ x = omega arith in rw q (omega arith)

    rest : (y : ℕ) → 0 < y → y - 1 < y
    rest y h = omega arith
