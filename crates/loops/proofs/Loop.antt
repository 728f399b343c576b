-- The laws of `pick`, `iter`, `first` and `sum`, as a loop's proof wants them.
use mathlib.Core.Path.{◌≡◌, refl, ap, sym, ◌∙◌}
use mathlib.Core.Bool.{Bool, true, false, ◌&&◌, ◌||◌}
use Prim.Native.Nat.{ℕ, zero, suc, ◌+◌, ◌≤◌, ◌<◌}
use native.Mathlib.Omega.{arith}
use native.Mathlib.Decide.{dec_lt}
use native.Mathlib.Numerals.{add-one}
use borrow.Author.Tests.{lt-ltb, le-ltb}
use Rattle.loops.specs.Loop.{pick, iter, first}

-- a law of a case is the law of each side, where the test is known
pub by-pick : {A : Type 0} (P : A → Type 0) (t : Bool) (a b : A) → (t ≡ true → P a) → (t ≡ false → P b) → P (pick t a b)
unfolding pick
by-pick P true a b f g = f refl
by-pick P false a b f g = g refl

pub pick_true : {A : Type 0} (t : Bool) (a b : A) → t ≡ true → pick t a b ≡ a
unfolding pick
pick_true true a b e = refl
pick_true false a b e = absurd (let z : ◌≡◌ {A = ℕ} 0 1 = cc in omega arith)

pub pick-false : {A : Type 0} (t : Bool) (a b : A) → t ≡ false → pick t a b ≡ b
unfolding pick
pick-false true a b e = absurd (let z : ◌≡◌ {A = ℕ} 0 1 = cc in omega arith)
pick-false false a b e = refl

-- a loop whose state is `iter i f s`
module _ {A : Type 0} (f : ℕ → A → A) (s x : A) where
  pub loop-none : x ≡ s → x ≡ iter 0 f s
  unfolding iter
  loop-none e = e

  pub loop-more : (y : A) (i : ℕ) → x ≡ iter i f s → y ≡ f i x → y ≡ iter (i + 1) f s
  unfolding iter
  loop-more y i e h = rw add-one (h ∙ ap (f i) e)

-- what a `for` asks whose state is `iter`: name it at the function, `using(loops::proofs::Loop::for_loop)`
pub ruleset for_loop = (loop-none, loop-more)

-- a search that has passed the numbers below i
module _ (p : ℕ → Bool) where
  pub first-none : 0 ≡ first 0 p
  unfolding first pick
  first-none = refl

  pub first_more : (i : ℕ) (r : Bool) → i ≡ first i p → r ≡ p i → r ≡ false → i + 1 ≡ first (i + 1) p
  unfolding first pick
  first_more i r e q h = rw (add-one, ← e, le-ltb i i (omega arith), ← q, h)

  first_step : (n i : ℕ) → i < suc n → i ≡ first i p → p i ≡ true → (i < n → i ≡ first n p) → Dec (i < n) → i ≡ first (suc n) p
  unfolding first pick
  first_step n i l e h k (yes m) = rw (← k m, lt-ltb i n m)
  first_step n i l e h k (no m) = let q : n ≡ i = omega arith in rw (q, ← e, le-ltb i i (omega arith), h)

  first-stays : (n i : ℕ) → i < n → i ≡ first i p → p i ≡ true → i ≡ first n p
  first-stays zero i l e h = absurd (omega arith)
  first-stays (suc n) i l e h = first_step n i l e h (λ m. first-stays n i m e h) (dec_lt i n)

  pub first_found : (n i : ℕ) (r : Bool) → i < n → i ≡ first i p → r ≡ p i → r ≡ true → i ≡ first n p
  first_found n i r l e q h = first-stays n i l e (sym q ∙ h)

  pub first_done : (i n : ℕ) → n ≤ i → i ≤ n → i ≡ first i p → i ≡ first n p
  first_done i n h k e = let q : n ≡ i = omega arith in rw q e

  step-true : (n : ℕ) → (first n p < n → p (first n p) ≡ true) → Dec (first n p < n) → (b : Bool) → p n ≡ b → first (suc n) p < suc n → p (first (suc n) p) ≡ true
  unfolding first pick
  step-true n k (yes m) b e = rw (lt-ltb (first n p) n m) (λ h. k m)
  step-true n k (no m) true e = rw (le-ltb (first n p) n (omega arith), e) (λ h. e)
  step-true n k (no m) false e = rw (le-ltb (first n p) n (omega arith), e) (λ h. absurd (omega arith))

  -- what is found has p, and what lies below it has not
  pub first-true : (n : ℕ) → first n p < n → p (first n p) ≡ true
  first-true zero h = absurd (omega arith)
  first-true (suc n) h = step-true n (first-true n) (dec_lt (first n p) n) (p n) refl h

  step-below : (n : ℕ) → (first n p ≤ n) × ((i : ℕ) → i < first n p → p i ≡ false) → Dec (first n p < n) → (b : Bool) → p n ≡ b
      → (first (suc n) p ≤ suc n) × ((i : ℕ) → i < first (suc n) p → p i ≡ false)
  unfolding first pick
  step-below n k (yes m) b e = rw (lt-ltb (first n p) n m) (omega arith, k.1)
  step-below n k (no m) true e = rw (le-ltb (first n p) n (omega arith), e) (omega arith, λ i h. k.1 i (omega arith))
  step-below n k (no m) false e =
      rw (le-ltb (first n p) n (omega arith), e)
      (omega arith, below_last n (λ i h. k.1 i (omega arith)) e)
    where
      below_last : (n : ℕ) → ((i : ℕ) → i < n → p i ≡ false) → p n ≡ false → (i : ℕ) → i < suc n → p i ≡ false
      below_last n k e i h = go (dec_lt i n)
        where
          go : Dec (i < n) → p i ≡ false
          go (yes q) = k i q
          go (no q) = let r : i ≡ n = omega arith in rw r e

  below_all : (n : ℕ) → (first n p ≤ n) × ((i : ℕ) → i < first n p → p i ≡ false)
  unfolding first pick
  below_all zero = (omega arith, λ i h. absurd (omega arith))
  below_all (suc n) = step-below n (below_all n) (dec_lt (first n p) n) (p n) refl

  pub first_below : (n i : ℕ) → i < first n p → p i ≡ false
  first_below n = (below_all n).1

  pub first-le : (n : ℕ) → first n p ≤ n
  first-le n = (below_all n).0

pub iter-inv {ℓ} : {A : Type ℓ} (P : ℕ → A → Type 0) (f : ℕ → A → A) (a : A) (w : ℕ) → P 0 a → ((i : ℕ) (x : A) → i < w → P i x → P (suc i) (f i x)) → P w (iter w f a)
unfolding iter
iter-inv P f a zero z s = z
iter-inv P f a (suc w) z s = s w _ (omega arith) (iter-inv P f a w z (λ i x h. s i x (omega arith)))

pub both : (a b : Bool) → (a && b) ≡ true → (a ≡ true) × (b ≡ true)
both true b e = (refl, e)
both false b e = absurd (let z : ◌≡◌ {A = ℕ} 0 1 = cc in omega arith)

pub either : (p q : Bool) (A : Type 0) → (p ≡ true → A) → (q ≡ true → A) → (p || q) ≡ true → A
either true q A f g e = f refl
either false q A f g e = g e
