use Rattle.lowering.proofs.VisitFacts.{first-less, first-asks, cond-asks1, second-less, second-asks, cond-asks2, third-less, third-asks, own-asks, entered}
use Rattle.nodes.specs.Laid.{source_of}
use native.Mathlib.Omega.{arith}
use Rattle.lowering.proofs.VisitFacts.{goes-mark, is-node}
use Rattle.lowering.specs.Visit.{low_of}
use Rattle.nodes.specs.Recipe.{recipe}
use Rattle.visits.proofs.Paths.{visit-none, visit-seen, visit-goes}
use Rattle.visits.specs.Flow.{Low}
use Rattle.lowering.proofs.visit.+process_visit.Goals as goal
use Rattle.lowering.proofs.visit.+process_visit.Goals.{visit-then-k-eq0-via-then-k-eq0, visit-then-k-eq0-via-else-k-eq0+then-seen-k-eq1}

pub process-visit-requires : goal.process-visit-requires
process-visit-requires t c = (omega (arith, first-less (source_of c.args.laid.now) c.args.laid.now.offs.now c.args.k c.requires.1 _ c.node_at-node.ensures _ c.requires.0), first-asks (source_of c.args.laid.now) c.args.laid.now.offs.now c.args.k c.requires.1 _ c.node_at-node.ensures _ c.requires.0)

pub process-condition-cond1-requires : goal.process-condition-cond1-requires
process-condition-cond1-requires t c = cond-asks1 (source_of c.args.laid.now) c.args.laid.now.offs.now c.args.k c.requires.1 _ c.node_at-node.ensures _ c.requires.0 _ c.visit.ensures.made

pub process-visit-requires-2 : goal.process-visit-requires-2
process-visit-requires-2 t c = (omega (arith, second-less (source_of c.args.laid.now) c.args.laid.now.offs.now c.args.k c.requires.1 _ c.node_at-node.ensures _ c.requires.0 _ c.visit.ensures.made _ c.condition-cond1.ensures _ c.second.ensures), second-asks (source_of c.args.laid.now) c.args.laid.now.offs.now c.args.k c.requires.1 _ c.node_at-node.ensures _ c.requires.0 _ c.visit.ensures.made _ c.condition-cond1.ensures _ c.second.ensures)

pub process-condition-cond2-requires : goal.process-condition-cond2-requires
process-condition-cond2-requires t c = cond-asks2 (source_of c.args.laid.now) c.args.laid.now.offs.now c.args.k c.requires.1 _ c.node_at-node.ensures _ c.requires.0 _ c.visit.ensures.made _ c.condition-cond1.ensures _ c.second.ensures _ c.visit-2.ensures.made

pub process-visit-requires-3 : goal.process-visit-requires-3
process-visit-requires-3 t c = (omega (arith, third-less (source_of c.args.laid.now) c.args.laid.now.offs.now c.args.k c.requires.1 _ c.node_at-node.ensures _ c.requires.0 _ c.visit.ensures.made _ c.condition-cond1.ensures _ c.second.ensures _ c.visit-2.ensures.made _ c.condition-cond2.ensures _ c.third.ensures), third-asks (source_of c.args.laid.now) c.args.laid.now.offs.now c.args.k c.requires.1 _ c.node_at-node.ensures _ c.requires.0 _ c.visit.ensures.made _ c.condition-cond1.ensures _ c.second.ensures _ c.visit-2.ensures.made _ c.condition-cond2.ensures _ c.third.ensures)

pub process-own_step-requires : goal.process-own_step-requires
process-own_step-requires t c = own-asks (source_of c.args.laid.now) c.args.laid.now.offs.now c.args.k c.requires.1 _ c.node_at-node.ensures _ c.requires.0 _ c.visit.ensures.made _ c.condition-cond1.ensures _ c.second.ensures _ c.visit-2.ensures.made _ c.condition-cond2.ensures _ c.third.ensures _ c.visit-3.ensures.made

pub process-returns-clause-made : goal.process-returns-clause-made
process-returns-clause-made t c = entered (source_of c.args.laid.now) c.args.laid.now.offs.now c.args.k c.requires.1 _ c.node_at-node.ensures _ c.requires.0 _ c.visit.ensures.made _ c.condition-cond1.ensures _ c.second.ensures _ c.visit-2.ensures.made _ c.condition-cond2.ensures _ c.third.ensures _ c.visit-3.ensures.made _ c.own_step.ensures.made

pub visit-returns-then-k-eq0-clause-made : goal.visit-returns-then-k-eq0-clause-made
visit-returns-then-k-eq0-clause-made t c =
    let at : Low = low_of c.args.lists.now c.args.map.now c.args.seen.now in
    elim c.then-k-eq0.branch [
      | visit-then-k-eq0-via-then-k-eq0 w ↦ λ f lt. visit-none (recipe (source_of c.args.laid.now)) c.args.k f at w.if-k-eq0.true
      | visit-then-k-eq0-via-else-k-eq0+then-seen-k-eq1 w ↦ λ f lt. visit-seen (recipe (source_of c.args.laid.now)) c.args.k f at w.if-k-eq0.false w.if-seen-k-eq1.true
    ]

pub visit-bounds-seen-k : goal.visit-bounds-seen-k
visit-bounds-seen-k t c = omega (arith, c.requires.0.marked, c.requires.1)

pub visit-bounds-seen-k-2 : goal.visit-bounds-seen-k-2
visit-bounds-seen-k-2 t c = omega (arith, c.requires.0.marked, c.requires.1)

pub visit-process-requires : goal.visit-process-requires
visit-process-requires t c = (omega arith, (goes-mark c.args.k c.requires.0 c.requires.1 c.if-seen-k-eq1.false, is-node (source_of c.args.laid.now) c.args.k c.requires.1 c.if-k-eq0.false))

pub visit-returns-clause-made : goal.visit-returns-clause-made
visit-returns-clause-made t c = λ f lt. visit-goes (recipe (source_of c.args.laid.now)) c.args.k f (low_of c.args.lists.now c.args.map.now c.args.seen.now) _ lt c.if-k-eq0.false c.if-seen-k-eq1.false c.process.ensures.made
