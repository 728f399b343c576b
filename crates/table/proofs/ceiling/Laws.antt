-- Ceilings and their sums, path by path.
use mathlib.Core.Path.{◌≡◌}
use mathlib.Core.List.{List}
use Prim.Native.Nat.{ℕ, ◌+◌, ◌≤◌}
use native.Mathlib.Omega.{arith}
use Rattle.loops.specs.Loop.{sum}
use Rattle.table.specs.declared.Sums.{Sums}
use Rattle.table.specs.declared.Unit.TheVariants.{Bit}
use Rattle.table.specs.Node.{nodes}
use Rattle.table.specs.Size.{node_size, size_sum}
use Rattle.table.specs.Ceiling.{node_gates, node_constraints, sums_of}

pub sums-path : (t : List ℕ) (n w g m c i : ℕ) → nodes t ≤ i → i ≤ nodes t → g ≡ 2 + sum i (node_gates t n w) → m ≡ 0 + sum i (node_size Bit t n w) → c ≡ 0 + sum i (node_constraints t)
    → ◌≡◌ {A = Sums} (record { gates = g; map = m; constraints = c }) (sums_of t n w)
unfolding sums_of size_sum
sums-path t n w g m c i h k eg em ec =
    let f : nodes t ≡ i = omega arith in
    let em' : m ≡ sum i (node_size Bit t n w) = omega arith in
    let ec' : c ≡ sum i (node_constraints t) = omega arith in
    rw (f, ← eg, ← em', ← ec')
