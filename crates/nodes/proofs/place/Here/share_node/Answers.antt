use Rattle.nodes.specs.Laid.{source_of}
use Rattle.nodes.proofs.Facts.{share-asks, share-turn}
use Rattle.nodes.proofs.place.Here.share_node.Goals as goal

pub share_words-requires : goal.share_words-requires
share_words-requires c = let h = share-asks (source_of c.args.self.now.laid) c.args.self.now.laid.offs.now _ c.args.self.now.k c.args.x _ _ c.requires.stands c.requires.le_x.0 c.requires.le_x.1 c.requires.le_x.2 c.place_of-place.ensures c.place_of-shared.ensures in
    (h.from-small, h.small, h.from-within, h.within)

pub returns : goal.returns
returns c = share-turn (source_of c.args.self.now.laid) c.args.self.now.k c.args.above c.args.x _ _ _ _ c.place_of-place.ensures c.place_of-shared.ensures c.share_words.ensures
