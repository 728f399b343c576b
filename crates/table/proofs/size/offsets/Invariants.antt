use mathlib.Core.Path.{◌≡◌}
use Prim.Native.Nat.{◌+◌, ◌*◌, ◌≤◌}
use Rattle.loops.specs.Loop.{iter, sum}
use Rattle.table.specs.Size.{node_size, offset_step}
use Rattle.table.proofs.size.offsets.Given as goal

abbrev pub invariant-loop-i : goal.invariant-loop-i
invariant-loop-i l = (l.at ≤ 16777216 * l.i) × (l.at ≡ 0 + sum l.i (node_size l.unit l.table l.n l.w)) × (l.out ≡ iter l.i (offset_step l.unit l.table l.n l.w) l.initial.out)
