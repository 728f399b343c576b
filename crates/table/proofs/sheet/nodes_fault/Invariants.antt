use mathlib.Core.Path.{◌≡◌}
use Rattle.loops.specs.Loop.{first}
use Rattle.table.specs.Sheet.{node_bad}
use Rattle.table.proofs.sheet.nodes_fault.Given as goal

abbrev pub invariant-loop-i : goal.invariant-loop-i
invariant-loop-i l = l.i ≡ first l.i (node_bad l.table l.w)
