-- What was written lies within the buffer.
use mathlib.Core.Path.{◌≡◌}
use mathlib.Core.List.{List, ◌++◌}
use Prim.Native.Nat.{ℕ, ◌≤◌}
use native.Mathlib.Omega.{arith}
use lib.ListN.{length, take, drop, length-append, length-take}
use Rattle.text.specs.Write.{Written}

pub within : (before bytes after : List ℕ) (n : ℕ) → Written before bytes after n → n ≤ length after
within before bytes after n h =
    let e : after ≡ bytes ++ drop (length bytes) before = h.1 in
    rw e (rw (length-append bytes (drop (length bytes) before)) (omega arith))

pub within-take : (before bytes after : List ℕ) (n : ℕ) → Written before bytes after n → n ≡ length (take n after)
within-take before bytes after n h =
    let l : n ≤ length after = within before bytes after n h in
    rw (length-take n after) (omega arith)
