use Rattle.nodes.specs.Laid.{source_of}
use Rattle.nodes.proofs.Facts.{a_in}
use Rattle.nodes.proofs.WordFacts.{const-asks, const-turn, right-in, plain-asks, plain_turn}
use native.Mathlib.Omega.{arith}
use Rattle.nodes.proofs.place.Here.word_node.Goals as goal

pub const_node-requires : goal.const_node-requires
const_node-requires c = const-asks (source_of c.args.self.now.laid) c.args.self.now.laid.offs.now c.args.list.now _ c.args.self.now.k c.requires.0 c.args.self.now.node c.args.self.now.is c.requires.1 c.if-node-eq-CONST.true _ c.place_of-place.ensures

pub returns-then-node-eq-CONST-clause-made : goal.returns-then-node-eq-CONST-clause-made
returns-then-node-eq-CONST-clause-made c = const-turn (source_of c.args.self.now.laid) c.args.self.now.laid.offs.now c.args.list.now _ c.args.self.now.k c.requires.0 c.args.self.now.node c.args.self.now.is c.requires.1 _ c.place_of-place.ensures c.if-node-eq-CONST.true _ _ _ c.const_node.ensures

pub place_of-left-requires : goal.place_of-left-requires
place_of-left-requires c = (c.requires.0.stands.offsets, a_in (source_of c.args.self.now.laid) c.args.self.now.laid.offs.now _ c.args.self.now.k c.requires.0.stands c.args.self.now.node c.args.self.now.is)

pub offset_bounds-self-right_of : goal.offset_bounds-self-right_of
offset_bounds-self-right_of c = omega (arith, right-in (source_of c.args.self.now.laid) c.args.self.now.laid.offs.now c.args.list.now _ c.args.self.now.k c.requires.0 c.args.self.now.node c.args.self.now.is c.requires.1 c.if-node-eq-CONST.false _ c.place_of-place.ensures _ c.place_of-left.ensures _ c.right_of.ensures)

pub bounds-self-right_of : goal.bounds-self-right_of
bounds-self-right_of c = omega (arith, right-in (source_of c.args.self.now.laid) c.args.self.now.laid.offs.now c.args.list.now _ c.args.self.now.k c.requires.0 c.args.self.now.node c.args.self.now.is c.requires.1 c.if-node-eq-CONST.false _ c.place_of-place.ensures _ c.place_of-left.ensures _ c.right_of.ensures)

pub plain_node-requires : goal.plain_node-requires
plain_node-requires c = let h = plain-asks (source_of c.args.self.now.laid) c.args.self.now.laid.offs.now c.args.list.now _ c.args.self.now.k c.requires.0 c.args.self.now.node c.args.self.now.is c.requires.1 c.if-node-eq-CONST.false _ c.place_of-place.ensures _ c.place_of-left.ensures _ c.right_of.ensures in
    record { fits = h.room; kind = (c.if-node-eq-CONST.false, h.even); le_v = (h.some, h.small, h.own, h.left-within, h.right-within, h.within) }

pub returns-clause-made : goal.returns-clause-made
returns-clause-made c = plain_turn (source_of c.args.self.now.laid) c.args.self.now.laid.offs.now c.args.list.now _ c.args.self.now.k c.requires.0 c.args.self.now.node c.args.self.now.is c.requires.1 c.if-node-eq-CONST.false _ c.place_of-place.ensures _ c.place_of-left.ensures _ c.right_of.ensures _ _ _ _ c.plain_node.ensures.made
