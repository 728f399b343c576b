-- The law of the product, over the width. One number k stands for what is lost above w bits: sum + 2 ^ w · k ≡ left · right.
use mathlib.Core.Path.{◌≡◌, refl, ap, ◌∙◌}
use mathlib.Core.List.{List}
use Prim.Native.Nat.{ℕ, ◌+◌, ◌*◌, ◌-◌, ◌^◌, ◌≤◌, ◌<◌}
use native.Mathlib.Omega.{arith}
use native.Mathlib.Nat.{add-mul-mod_self_left, mod-eq_of_lt, zero-div}
use lib.ListN.{length, get_or}
use Rattle.loops.specs.Loop.{iter, sum}
use Rattle.loops.proofs.Loop.{iter-inv}
use Rattle.gates.proofs.Laws.{ext_refl, ext-weaken}
use Rattle.digits.specs.Digits.{digit, put_digits}
use Rattle.digits.proofs.Words as digits
use Rattle.words.specs.Num.{num}
use Rattle.words.specs.Each.{Word}
use Rattle.words.specs.Mul.{mul_step, mul_words, mul_cost, MulLaw}
use Rattle.words.proofs.Sums.{sum-within}
use Rattle.words.proofs.NumLaws.{num-lt, num-none}
use Rattle.words.proofs.MulStep.{num-zero, RowsLaw, mul-step, rows-cost}

-- the digits of 0: known false
pub zero-digit : (j : ℕ) → digit 0 j ≡ 0
unfolding digit
zero-digit j = rw zero-div

module _ (w : ℕ) (left right : List ℕ) (s : Word) (small : w ≤ 65) (fits : w ≤ length s.out) where
  start : Word
  start = record { net = s.net; out = put_digits 0 w s.out }

  p : digits.Put 0 s.out w (put_digits 0 w s.out)
  p = digits.put-law 0 w s.out fits

  blank-start : (j : ℕ) → j < w → get_or start.out j 0 ≡ 0
  unfolding start
  blank-start j l = p.there j l ∙ zero-digit j

  none : RowsLaw w left right start 0 start
  none =
      record {
        ext = ext_refl start.net _;
        long = refl;
        rest = λ j l. refl;
        value = λ e o. (0, rw (num-none e right) (omega (arith, num-zero e start.out w (λ j l. ap e (blank-start j l) ∙ o.low))));
        formed = λ rm bl br f. (f, λ j l. omega (arith, blank-start j l, f.two));
        known = λ bl br. (refl, λ j l. omega (arith, blank-start j l));
      }

  rows : (i : ℕ) → i ≤ w → RowsLaw w left right start i (iter i (mul_step w left right) start)
  unfolding start
  rows i l = iter-inv (RowsLaw w left right start) (mul_step w left right) start i none (λ j x lt h. mul-step w left right start small (omega (arith, p.long)) j x (omega arith) h)

  -- the first i rows, and room for one more
  pub rows-room : (i : ℕ) → i < w → (iter i (mul_step w left right) (record { net = s.net; out = put_digits 0 w s.out })).net.n + 4 * (w - i) ≤ s.net.n + mul_cost w
  unfolding start
  rows-room i l = omega (arith, (rows i (omega arith)).ext.grows.upto, sum-within (λ j. 4 * (w - j)) i w l, rows-cost w w (omega arith))

  pub mul-law : MulLaw w left right s (mul_words w left right s)
  unfolding start
  mul-law =
      let k : RowsLaw w left right start w (mul_words w left right s) = rows w (omega arith) in
      record {
        ext = ext-weaken s.net _ (sum w (λ j. 4 * (w - j))) (mul_cost w) (omega (arith, rows-cost w w (omega arith))) k.ext;
        long = k.long ∙ p.long;
        rest = λ j l. k.rest j l ∙ p.other j l;
        value = λ e o.
            let v : (k : ℕ) × (num e (mul_words w left right s).out w + 2 ^ w * k ≡ num e left w * num e right w) = k.value e o in
            rw (← v.1, add-mul-mod_self_left (num e (mul_words w left right s).out w) (2 ^ w) v.0, mod-eq_of_lt (num-lt e (mul_words w left right s).out w));
        formed = k.formed;
        known = k.known;
      }
