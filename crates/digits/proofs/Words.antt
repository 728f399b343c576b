-- Words of known bits: the digits that were put, the test, and what the code's steps come to.
use mathlib.Core.Path.{◌≡◌, refl, ap, sym, ◌∙◌}
use mathlib.Core.List.{List}
use mathlib.Core.Bool.{Bool, true, false, not, false≢true}
use Prim.Native.Nat.{ℕ, zero, suc, ◌+◌, ◌*◌, ◌/◌, ◌%◌, ◌^◌, ◌≤◌, ◌<◌}
use native.Mathlib.Omega.{arith}
use native.Mathlib.Decide.{dec_lt}
use native.Mathlib.Nat.{pow-suc, pow-le-pow_right, mod-eq_of_lt, one-mul}
use lib.Bits.{bit_and, and_mask}
use native.Mathlib.Numerals.{add-one}
use lib.Dec.{leb}
use lib.Pow.{pow-lt}
use lib.ListN.{length, get_or, set, length-set}
use lib.Seq.{get_or-set_same, get_or-set_other}
use borrow.Author.Tests.{leb-true, le-leb, not-false}
use Rattle.std.specs.declared.option.Option.{Option}
use Rattle.std.specs.declared.option.Option.TheVariants.{Some, None}
use Rattle.std.specs.Option.{unwrap_or}
use Rattle.loops.specs.Loop.{first, found}
use Rattle.loops.proofs.Search.{first-is, found_or, first_same}
use Rattle.loops.proofs.Loop.{by-pick, iter-inv, loop-more, first_below}
use Rattle.netlist.proofs.BitLaws.{known-less, less-known}
use Rattle.digits.specs.Digits.{digit, powers_below, number, digit_step, put_digits, Below, unknown_at, all_known, known_bits, known_number, known}
use Rattle.digits.proofs.Numbers.{bit-eqb, number_lt}

-- after put_digits: the digits stand there, and every other place is as before
pub record Put (a : ℕ) (l : List ℕ) (w : ℕ) (out : List ℕ) : Type 0 where
  pub long : length out ≡ length l
  pub there : (j : ℕ) → j < w → get_or out j 0 ≡ digit a j
  pub other : (j : ℕ) → w ≤ j → get_or out j 0 ≡ get_or l j 0

pub put-law : (a w : ℕ) (l : List ℕ) → w ≤ length l → Put a l w (put_digits a w l)
unfolding digit_step
put-law a w l fits =
    iter-inv (Put a l) (digit_step a) l w (record { long = refl; there = λ j h. absurd (omega arith); other = λ j h. refl })
    (λ i x lt p. record {
      long = length-set x i _ ∙ p.long;
      there = λ j h. one i x lt p j h (dec_lt j i);
      other = λ j h. get_or-set_other x i j _ 0 (omega arith) ∙ p.other j (omega arith);
    })
  where
    one : (i : ℕ) (x : List ℕ) → i < w → Put a l i x → (j : ℕ) → j < suc i → Dec (j < i) → get_or (set x i (digit a i)) j 0 ≡ digit a j
    one i x lt p j h (yes q) = get_or-set_other x i j _ 0 (omega arith) ∙ p.there j q
    one i x lt p j h (no q) = let z : j ≡ i = omega arith in rw z (get_or-set_same x i _ 0 (omega (arith, p.long)))

-- the test tells known words from others
pub all_true : (bs : List ℕ) (w : ℕ) → all_known w bs ≡ true → Below 2 bs w
unfolding all_known unknown_at
all_true bs w h i l =
    known-less (get_or bs i 0) (not-false _ (first_below (unknown_at bs) w i (omega (arith, leb-true w (first w (unknown_at bs)) h))))

pub below_all : (bs : List ℕ) (w : ℕ) → Below 2 bs w → all_known w bs ≡ true
unfolding all_known unknown_at
below_all bs w k =
    let none : first w (unknown_at bs) ≡ w = first-is (unknown_at bs) w w (omega arith) (λ i h. ap not (less-known (get_or bs i 0) (k i h))) (λ h. absurd (omega arith)) in
    le-leb w (first w (unknown_at bs)) (omega arith)

pub all-false : (bs : List ℕ) (w : ℕ) → all_known w bs ≡ false → Below 2 bs w → ⊥
all-false bs w h k = false≢true (sym h ∙ below_all bs w k)

-- what a caller learns of either answer
module _ (w : ℕ) (bs : List ℕ) where
  pub some_known : (a : ℕ) → Some a ≡ known w bs → (all_known w bs ≡ true) × (a ≡ known_number w bs)
  unfolding known
  some_known a e = by-pick (λ r. Some a ≡ r → (all_known w bs ≡ true) × (a ≡ known_number w bs)) (all_known w bs) _ None (λ t q. (t, grind arith)) (λ t q. absurd (grind arith)) e

  pub none_known : None ≡ known w bs → all_known w bs ≡ false
  unfolding known
  none_known e = by-pick (λ r. None ≡ r → all_known w bs ≡ false) (all_known w bs) (Some (known_number w bs)) None (λ t q. absurd (grind arith)) (λ t q. t) e

-- what the code's steps come to
pub digits_more : (a i r : ℕ) (l x : List ℕ) → x ≡ put_digits a i l → r ≡ digit a i → set x i r ≡ put_digits a (i + 1) l
unfolding digit_step
digits_more a i r l x e q = loop-more (digit_step a) l x _ i e (ap (set x i) q)

-- the digit by shift and mask
pub masked : (a i : ℕ) → bit_and (a / 2 ^ i) 1 ≡ digit a i
unfolding digit
masked a i = and_mask (a / 2 ^ i) 1

-- one digit more
pub shifted_fits : (b i : ℕ) → b < 2 → i < 64 → (b * 2 ^ i ≤ 2 ^ i) × (2 ^ i + 2 ^ i ≤ 18446744073709551616)
shifted_fits b i hb hi = (low b hb, omega (arith, rw (pow-suc 2 i) at (pow-le-pow_right {n = 2} (omega arith) {i = suc i} {j = 64} hi)))
  where
    low : (b : ℕ) → b < 2 → b * 2 ^ i ≤ 2 ^ i
    low zero h = omega arith
    low (suc zero) h = omega arith
    low (suc (suc b)) h = absurd (omega arith)

pub number_none : (v : ℕ → Bool) → 0 ≡ number v 0
unfolding number
number_none v = refl

pub number_more : (bs : List ℕ) (i x r : ℕ) → get_or bs i 0 < 2 → x ≡ number (known_bits bs) i → r ≡ x + 2 ^ i * get_or bs i 0 → r ≡ number (known_bits bs) (i + 1)
unfolding number
number_more bs i x r h e q = rw (add-one i, bit-eqb (get_or bs i 0) h) (q ∙ ap (λ (z : ℕ). z + 2 ^ i * get_or bs i 0) e)

pub number_less : (v : ℕ → Bool) (i x : ℕ) → x ≡ number v i → x < 2 ^ i
number_less v i x e = rw e (number_lt v i)

-- the search for the first power of two that is not below w; the code has the power by a shift
module _ (w : ℕ) (fits : w ≤ 64) where
  by-shift : (j : ℕ) → j < w → 1 * 2 ^ j % 2 ^ 64 ≡ 2 ^ j
  by-shift j l =
      let small : 2 ^ j < 2 ^ 64 = pow-lt {i = j} {j = 64} (omega arith) in
      rw (one-mul (2 ^ j)) (mod-eq_of_lt small)

  pub powers_found : (r : Option ℕ) → r ≡ found w (λ j. leb w (1 * 2 ^ j % 2 ^ 64)) → unwrap_or r w ≡ powers_below w
  unfolding powers_below
  powers_found r e = ap (λ z. unwrap_or z w) e ∙ (found_or _ w ∙ first_same (λ j. leb w (2 ^ j)) (λ j. leb w (1 * 2 ^ j % 2 ^ 64)) w (λ j l. ap (leb w) (by-shift j l)))
