use mathlib.Core.Path.{refl, ◌∙◌}
use native.Mathlib.Omega.{arith}
use Rattle.text.proofs.Fields.{record-none, record-some}
use Rattle.text.proofs.Readings.{node-bad, node-more, nodes_full}
use Rattle.text.proofs.read.read_nodes.Goals as goal

pub returns-in_default : goal.returns-in_default
returns-in_default c = node-bad c.loop-n.rest.now c.loop-n.n c.loop-n.nodes (record-none c.node_line.result _ c.node_line.ensures c.in_default.is) ∙ c.loop-n.invariant

pub loop-n-preserved : goal.loop-n-preserved
loop-n-preserved c =
    node-more c.loop-n.rest.now c.loop-n.n c.loop-n.nodes _ _ _ c.store.ensures (record-some c.node_line.result _ _ _ c.node_line.ensures c.in-Some.is) refl (omega arith) ∙ c.loop-n.invariant

pub returns : goal.returns
returns c = nodes_full c.loop-n.nodes c.loop-n.n _ _ (omega arith) (omega arith) ∙ c.loop-n.invariant
