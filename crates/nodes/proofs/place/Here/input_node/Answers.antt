use Rattle.nodes.specs.Laid.{source_of}
use Rattle.nodes.proofs.Facts.{input-asks, input-turn}
use Rattle.nodes.proofs.place.Here.input_node.Goals as goal

pub input_words-requires : goal.input_words-requires
input_words-requires c = let h = input-asks (source_of c.args.self.now.laid) c.args.self.now.laid.offs.now c.args.list.now _ c.args.self.now.k _ c.requires.0 (rw c.args.self.now.is at c.requires.1) c.place_of-place.ensures in
    (h.room, h.small, h.node, h.bits, h.within)

pub returns-clause-made : goal.returns-clause-made
returns-clause-made c = input-turn (source_of c.args.self.now.laid) c.args.self.now.k _ _ _ _ _ c.place_of-place.ensures c.input_words.ensures.made
