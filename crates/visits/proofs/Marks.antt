-- Tests, marks and sums of ceilings.
use mathlib.Core.Path.{◌≡◌, refl, sym, ◌∙◌}
use mathlib.Core.List.{List, [], ◌∷◌}
use mathlib.Core.Bool.{Bool, true, false, false≢true}
use Prim.Native.Nat.{ℕ, zero, suc, ◌+◌, ◌≤◌, ◌<◌}
use native.Mathlib.Omega.{arith}
use borrow.Author.Tests.{eqb-true, eqb-false, ne_eqb}
use lib.Dec.{eqb}
use lib.ListN.{length, get_or, set}
use Rattle.loops.specs.Loop.{pick}
use Rattle.loops.proofs.Loop.{by-pick}
use Rattle.visits.specs.Claims.{left, spent, sum_from}

pub pick-by : {A : Type 0} (P : A → Type 0) (t : Bool) {x y : A} → (t ≡ true → P x) → (t ≡ false → P y) → P (pick t x y)
pick-by P t {x} {y} p q = by-pick P t x y p q

pub pick-eq : {A : Type 0} (P : A → Type 0) (a b : ℕ) {x y : A} → (a ≡ b → P x) → ((a ≡ b → ⊥) → P y) → P (pick (eqb a b) x y)
pick-eq P a b p q = pick-by P (eqb a b) (λ h. p (eqb-true a b h)) (λ h. q (eqb-false a b h))

pub positive : (k : ℕ) → (k ≡ 0 → ⊥) → 1 ≤ k
positive zero h = absurd (h refl)
positive (suc k) h = omega arith

pub contrary : {A : Type 0} {b : Bool} → b ≡ true → b ≡ false → A
contrary p q = absurd (false≢true (sym q ∙ p))

-- marking a node takes its ceiling off what is left
pub left-mark : (c : ℕ → ℕ) (i : ℕ) (z : List ℕ) (k : ℕ) → k < length z → (get_or z k 0 ≡ 1 → ⊥) → left c i (set z k 1) + c (i + k) ≡ left c i z
unfolding left pick
left-mark c i [] k lt h = absurd (omega arith)
left-mark c i (x ∷ xs) zero lt h =
    let e : i + 0 ≡ i = omega arith in
    rw (e, ne_eqb x 1 h) (omega arith)
left-mark c i (x ∷ xs) (suc k) lt h =
    let r : left c (suc i) (set xs k 1) + c (suc i + k) ≡ left c (suc i) xs = left-mark c (suc i) xs k (omega arith) h in
    let e : i + suc k ≡ suc i + k = omega arith in
    rw e (omega arith)

pub left-marked : (c : ℕ → ℕ) (z : List ℕ) (k : ℕ) → k < length z → (get_or z k 0 ≡ 1 → ⊥) → left c 0 (set z k 1) + c k ≡ left c 0 z
left-marked c z k lt h =
    let e : 0 + k ≡ k = omega arith in
    rw e at (left-mark c 0 z k lt h)

-- what is spent and what is left are the sum
pub spent-left : (c : ℕ → ℕ) (i : ℕ) (z : List ℕ) → spent c i z + left c i z ≡ sum_from c i (length z)
unfolding spent left sum_from pick
spent-left c i [] = refl
spent-left c i (x ∷ xs) =
    let r : spent c (suc i) xs + left c (suc i) xs ≡ sum_from c (suc i) (length xs) = spent-left c (suc i) xs in
    pick-both (eqb x 1) r
  where
    pick-both : (t : Bool) → spent c (suc i) xs + left c (suc i) xs ≡ sum_from c (suc i) (length xs)
        → pick t (c i) 0 + spent c (suc i) xs + (pick t 0 (c i) + left c (suc i) xs) ≡ c i + sum_from c (suc i) (length xs)
    pick-both true r = omega arith
    pick-both false r = omega arith

-- nothing seen, nothing spent
pub spent-none : (c : ℕ → ℕ) (i : ℕ) (z : List ℕ) → ((k : ℕ) → get_or z k 0 ≡ 0) → spent c i z ≡ 0
unfolding spent pick
spent-none c i [] h = refl
spent-none c i (x ∷ xs) h =
    let z : x ≡ 0 = h 0 in
    let r : spent c (suc i) xs ≡ 0 = spent-none c (suc i) xs (λ k. h (suc k)) in
    rw (z, r)
