use mathlib.Core.Path.{◌≡◌, refl, sym, subst}
use Prim.Native.Nat.{ℕ, ◌≤◌, ◌<◌}
use native.Mathlib.Omega.{arith}
use lib.ListN.{length, replicate, length-replicate}
use Rattle.ramstitcher.proofs.run.Goals as goal

-- an array's length by a lemma: computing it would walk the array
long : (P : ℕ → Type 0) (n : ℕ) → P n → P (length {A = ℕ} (replicate n 0))
long P n h = subst P (sym (length-replicate {A = ℕ} n 0)) h

pub slice_bounds-stitch_input-end : goal.slice_bounds-stitch_input-end
slice_bounds-stitch_input-end c = long (λ z. 72859 ≡ z) 72859 refl

pub slice_bounds-stitch_input-end-2 : goal.slice_bounds-stitch_input-end-2
slice_bounds-stitch_input-end-2 c = long (λ z. 750639 ≡ z) 750639 refl

pub stitch_input-requires : goal.stitch_input-requires
stitch_input-requires c = (long (λ z. 72858 < z) 72859 (omega arith), long (λ z. 750639 ≤ z) 750639 (omega arith))
