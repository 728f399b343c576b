use mathlib.Core.Path.{◌≡◌}
use Rattle.text.specs.Rows.{rows}
use Rattle.text.proofs.Readings.{Nodes}
use Rattle.text.proofs.read.read_nodes.Given as goal

abbrev pub invariant-loop-n : goal.invariant-loop-n
invariant-loop-n l = Nodes l.nodes l.n (rows l.rest) ≡ Nodes l.initial.nodes 0 (rows l.text)
