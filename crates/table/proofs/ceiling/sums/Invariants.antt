use mathlib.Core.Path.{◌≡◌}
use Prim.Native.Nat.{◌+◌, ◌*◌, ◌≤◌}
use lib.ListN.{length}
use Rattle.loops.specs.Loop.{sum}
use Rattle.table.specs.declared.Unit.TheVariants.{Bit}
use Rattle.table.specs.Size.{node_size}
use Rattle.table.specs.Ceiling.{node_gates, node_constraints}
use Rattle.table.proofs.ceiling.sums.Given as goal

abbrev pub invariant-loop-i : goal.invariant-loop-i
invariant-loop-i l = (l.gates ≤ 2 + 67108864 * l.i) × (l.map ≤ 16777216 * l.i) × (l.constraints ≤ 67108864 * l.i) × (l.gates ≡ 2 + sum l.i (node_gates l.table (length l.addrs) l.w)) × (l.map ≡ 0 + sum l.i (node_size Bit l.table (length l.addrs) l.w)) × (l.constraints ≡ 0 + sum l.i (node_constraints l.table))
