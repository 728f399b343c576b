-- Sums of costs.
use mathlib.Core.Path.{◌≡◌, refl}
use Prim.Native.Nat.{ℕ, zero, suc, ◌+◌, ◌*◌, ◌≤◌, ◌<◌}
use native.Mathlib.Omega.{arith}
use native.Mathlib.Decide.{dec_lt}
use Rattle.loops.specs.Loop.{sum}

pub sum-suc : (f : ℕ → ℕ) (w : ℕ) → sum (suc w) f ≡ sum w f + f w
unfolding sum
sum-suc f w = refl

pub sum-none : (f : ℕ → ℕ) → sum 0 f ≡ 0
unfolding sum
sum-none f = refl

-- a part of a sum, with the next summand, is within it
pub sum-within : (f : ℕ → ℕ) (i w : ℕ) → i < w → sum i f + f i ≤ sum w f
unfolding sum
sum-within f i zero h = absurd (omega arith)
sum-within f i (suc w) h = go (λ l. sum-within f i w l) (dec_lt i w)
  where
    go : (i < w → sum i f + f i ≤ sum w f) → Dec (i < w) → sum i f + f i ≤ sum w f + f w
    go ih (yes l) = omega (arith, ih l)
    go ih (no l) = let e : i ≡ w = omega arith in rw e (omega arith)

pub sum_mono : (f g : ℕ → ℕ) (w : ℕ) → ((i : ℕ) → i < w → f i ≤ g i) → sum w f ≤ sum w g
unfolding sum
sum_mono f g zero h = omega arith
sum_mono f g (suc w) h = omega (arith, sum_mono f g w (λ i l. h i (omega arith)), h w (omega arith))

pub sum-most : (f : ℕ → ℕ) (k w : ℕ) → ((i : ℕ) → i < w → f i ≤ k) → sum w f ≤ k * w
unfolding sum
sum-most f k zero h = omega arith
sum-most f k (suc w) h = omega (arith, sum-most f k w (λ i l. h i (omega arith)), h w (omega arith))
