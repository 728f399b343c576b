use native.Mathlib.Omega.{arith}
use Rattle.lowering.proofs.RootFacts.{root-skip, root-visit}
use Rattle.lowering.specs.Visit.{low_of}
use Rattle.nodes.specs.Laid.{source_of}
use Rattle.lowering.proofs.root.root_step.Goals as goal

pub returns-then-node-ne-BAD-clause-made : goal.returns-then-node-ne-BAD-clause-made
returns-then-node-ne-BAD-clause-made c = root-skip (source_of c.args.laid.now) c.args.k _ c.node_at-node.ensures (low_of c.args.lists.now c.args.map.now c.args.seen.now) c.if-node-ne-BAD.true

pub returns-clause-made : goal.returns-clause-made
returns-clause-made c = root-visit (source_of c.args.laid.now) c.args.k _ c.node_at-node.ensures (low_of c.args.lists.now c.args.map.now c.args.seen.now) (omega arith) _ c.visit.ensures.made
