use mathlib.Core.Path.{sym, ◌∙◌}
use Rattle.nodes.specs.Laid.{source_of}
use Rattle.nodes.specs.Asked.{core_of}
use Rattle.nodes.proofs.OwnFacts.{own-divided}
use Rattle.nodes.proofs.place.Here.own_step.Goals as goal

pub returns-then-divides-clause-made : goal.returns-then-divides-clause-made
returns-then-divides-clause-made c =
    own-divided (source_of c.args.self.now.laid) c.args.self.now.k (core_of c.args.lists.now c.args.map.now) c.args.self.now.node c.args.self.now.is (sym c.divides.ensures ∙ c.if-divides.true) _
    c.divide_node.ensures.made
