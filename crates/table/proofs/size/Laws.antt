-- Places and offsets.
use mathlib.Core.Path.{◌≡◌, refl, ap, sym, ◌∙◌}
use mathlib.Core.List.{List}
use Prim.Native.Nat.{ℕ, zero, suc, ◌+◌, ◌-◌, ◌≤◌, ◌<◌}
use native.Mathlib.Omega.{arith}
use native.Mathlib.Decide.{dec_lt}
use native.Mathlib.Numerals.{add-one}
use lib.ListN.{length, get_or, set, length-set}
use lib.Seq.{get_or-set_other, get_or-set_same}
use Rattle.loops.specs.Loop.{iter, sum}
use Rattle.loops.proofs.Loop.{iter-inv, loop-more}
use Rattle.table.specs.declared.Unit.{Unit}
use Rattle.table.specs.Node.{nodes}
use Rattle.table.specs.Size.{node_size, offset_of, size_sum, offset_step, offsets_into, Offsets}

-- a sum grows by one term
module _ (f : ℕ → ℕ) where
  pub sum-none : (s : ℕ) → s ≡ s + sum 0 f
  unfolding sum
  sum-none s = omega arith

  pub sum_more : (s x r i : ℕ) → x ≡ s + sum i f → r ≡ f i → x + r ≡ s + sum (i + 1) f
  unfolding sum
  sum_more s x r i e q = rw (add-one, e, q) (omega arith)

step-mono : (f : ℕ → ℕ) (i m : ℕ) → i ≤ suc m → (i ≤ m → sum i f ≤ sum m f) → Dec (i < suc m) → sum i f ≤ sum (suc m) f
unfolding sum
step-mono f i m h k (yes q) = omega (arith, k (omega arith))
step-mono f i m h k (no q) = let e : i ≡ suc m = omega arith in rw e (omega arith)

pub sum_mono : (f : ℕ → ℕ) (i m : ℕ) → i ≤ m → sum i f ≤ sum m f
sum_mono f i zero h = let e : i ≡ 0 = omega arith in rw e (omega arith)
sum_mono f i (suc m) h = step-mono f i m h (sum_mono f i m) (dec_lt i (suc m))

module _ (u : Unit) (t : List ℕ) (n w : ℕ) where
  -- node i + 1 begins where the sum of those below it ends
  pub offset_at : (i : ℕ) → offset_of u t n w (i + 1) ≡ sum i (node_size u t n w)
  unfolding offset_of
  offset_at i = let e : i + 1 - 1 ≡ i = omega arith in rw e

  pub offset-none : offset_of u t n w 0 ≡ 0
  unfolding offset_of sum
  offset-none = refl

  pub offset-end : offset_of u t n w (nodes t + 1) ≡ size_sum u t n w
  unfolding size_sum
  offset-end = offset_at (nodes t)

  -- a node's places end where those of a later node begin, at the latest
  pub apart : (i k : ℕ) → i < k → offset_of u t n w (i + 1) + node_size u t n w i ≤ offset_of u t n w (k + 1)
  unfolding sum
  apart i k h = rw (offset_at i, offset_at k) (sum_mono (node_size u t n w) (suc i) k h)

  pub begins : (i k : ℕ) → i ≤ k → offset_of u t n w (i + 1) ≤ offset_of u t n w (k + 1)
  begins i k h = rw (offset_at i, offset_at k) (sum_mono (node_size u t n w) i k h)

  -- and lie within all places
  pub size_room : (i : ℕ) → i < nodes t → offset_of u t n w (i + 1) + node_size u t n w i ≤ size_sum u t n w
  unfolding size_sum sum
  size_room i h = rw (offset_at i) (sum_mono (node_size u t n w) (suc i) (nodes t) h)

  -- the loop of `offsets`
  module _ (x y : List ℕ) (i a : ℕ) (q : a ≡ 0 + sum i (node_size u t n w)) where
    pub store_step : y ≡ set x (i + 1) a → y ≡ offset_step u t n w i x
    unfolding offset_step
    store_step h =
        let z : a ≡ offset_of u t n w (i + 1) = omega (arith, offset_at i) in
        h ∙ ap (λ v. set x (i + 1) v) z

    pub store-last : (o : List ℕ) (m : ℕ) → m ≡ nodes t → m ≤ i → i ≤ m → x ≡ iter i (offset_step u t n w) (set o 0 0) → y ≡ set x (m + 1) a → y ≡ offsets_into u t n w o
    unfolding offsets_into
    store-last o m em h k e d =
        let f : i ≡ nodes t = omega arith in
        let g : m ≡ i = omega arith in
        rw (← f) (loop-more (offset_step u t n w) (set o 0 0) x y i e (store_step (d ∙ ap (λ v. set x (v + 1) a) g)))

    pub store-end : (m : ℕ) → m ≡ nodes t → m ≤ i → i ≤ m → a ≡ size_sum u t n w
    unfolding size_sum
    store-end m em h k =
        let f : i ≡ nodes t = omega arith in
        let z : a ≡ sum i (node_size u t n w) = omega arith in
        rw f at z

  step-long : (k : ℕ) (x : List ℕ) → length (offset_step u t n w k x) ≡ length x
  unfolding offset_step
  step-long k x = length-set x (k + 1) _

  step_other : (k i : ℕ) (x : List ℕ) → i ≤ k → get_or (offset_step u t n w k x) i 0 ≡ get_or x i 0
  unfolding offset_step
  step_other k i x h = get_or-set_other x (k + 1) i _ 0 (omega arith)

  step_same : (k : ℕ) (x : List ℕ) → k + 1 < length x → get_or (offset_step u t n w k x) (k + 1) 0 ≡ offset_of u t n w (k + 1)
  unfolding offset_step
  step_same k x h = get_or-set_same x (k + 1) _ 0 h

  -- what the list holds after k steps
  Held : List ℕ → ℕ → List ℕ → Type 0
  Held o k x = (length x ≡ length o) × ((i : ℕ) → i ≤ k → i < length o → get_or x i 0 ≡ offset_of u t n w i)

  held_first : (o : List ℕ) → Held o 0 (set o 0 0)
  unfolding Held
  held_first o = (
    length-set o 0 0,
    λ i h m.
        let e : i ≡ 0 = omega arith in
        rw e (get_or-set_same o 0 0 0 (omega arith) ∙ sym offset-none),
  )

  held_more : (o : List ℕ) (k : ℕ) (x : List ℕ) → Held o k x → Held o (suc k) (offset_step u t n w k x)
  unfolding Held
  held_more o k x s = (step-long k x ∙ s.0, λ i h m. at i h m (dec_lt k i))
    where
      at : (i : ℕ) → i ≤ suc k → i < length o → Dec (k < i) → get_or (offset_step u t n w k x) i 0 ≡ offset_of u t n w i
      at i h m (no q) = step_other k i x (omega arith) ∙ s.1 i (omega arith) m
      at i h m (yes q) = let f : i ≡ k + 1 = omega arith in rw f (step_same k x (omega (arith, s.0)))

  held : (o : List ℕ) (k : ℕ) → Held o k (iter k (offset_step u t n w) (set o 0 0))
  held o k = iter-inv (Held o) (offset_step u t n w) (set o 0 0) k (held_first o) (λ i x h s. held_more o i x s)

  pub stored : (o x : List ℕ) → nodes t + 2 ≤ length o → x ≡ offsets_into u t n w o → Offsets u t n w x
  unfolding offsets_into Held
  stored o x h e =
      let s = held o (nodes t + 1) in
      record {
        at = λ i q. ap (λ v. get_or v i 0) e ∙ s.1 i q (omega arith);
        long = omega (arith, ap length e, s.0);
      }
