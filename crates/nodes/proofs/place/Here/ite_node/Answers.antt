use Rattle.nodes.specs.Laid.{source_of}
use Rattle.nodes.proofs.Facts.{operands-in, cond-asks, side-asks, ite-known, ite-open, choose-asks, choose-turn}
use native.Mathlib.Omega.{arith}
use Rattle.nodes.proofs.place.Here.ite_node.Goals as goal

pub condition-cond-requires : goal.condition-cond-requires
condition-cond-requires c = cond-asks (source_of c.args.self.now.laid) c.args.self.now.laid.offs.now _ c.args.self.now.k c.requires.0.stands c.args.self.now.node c.args.self.now.is

pub share_node-requires : goal.share_node-requires
share_node-requires c = record { stands = c.requires.0.stands; le_x = side-asks (source_of c.args.self.now.laid) c.args.self.now.laid.offs.now _ c.args.self.now.k c.requires.0.stands c.args.self.now.node c.args.self.now.is c.args.map.now _ c.condition-cond.ensures c.requires.1 _ c.second.ensures }

pub returns-then-is_known-clause-made : goal.returns-then-is_known-clause-made
returns-then-is_known-clause-made c = ite-known (source_of c.args.self.now.laid) c.args.self.now.laid.offs.now _ c.args.self.now.k c.requires.0.stands c.args.self.now.node c.args.self.now.is c.args.map.now _ c.condition-cond.ensures c.requires.1 _ c.second.ensures _ c.is_known.ensures c.if-is_known.true _ _ c.share_node.ensures

pub offset_bounds-offs-node : goal.offset_bounds-offs-node
offset_bounds-offs-node c = omega (arith, operands-in (source_of c.args.self.now.laid) c.args.self.now.laid.offs.now _ c.args.self.now.k c.requires.0.stands c.args.self.now.node c.args.self.now.is)

pub bounds-offs-node : goal.bounds-offs-node
bounds-offs-node c = omega (arith, operands-in (source_of c.args.self.now.laid) c.args.self.now.laid.offs.now _ c.args.self.now.k c.requires.0.stands c.args.self.now.node c.args.self.now.is)

pub offset_bounds-offs-node-2 : goal.offset_bounds-offs-node-2
offset_bounds-offs-node-2 c = omega (arith, operands-in (source_of c.args.self.now.laid) c.args.self.now.laid.offs.now _ c.args.self.now.k c.requires.0.stands c.args.self.now.node c.args.self.now.is)

pub bounds-offs-node-2 : goal.bounds-offs-node-2
bounds-offs-node-2 c = omega (arith, operands-in (source_of c.args.self.now.laid) c.args.self.now.laid.offs.now _ c.args.self.now.k c.requires.0.stands c.args.self.now.node c.args.self.now.is)

pub offset_bounds-offs-node-3 : goal.offset_bounds-offs-node-3
offset_bounds-offs-node-3 c = omega (arith, operands-in (source_of c.args.self.now.laid) c.args.self.now.laid.offs.now _ c.args.self.now.k c.requires.0.stands c.args.self.now.node c.args.self.now.is)

pub bounds-offs-node-3 : goal.bounds-offs-node-3
bounds-offs-node-3 c = omega (arith, operands-in (source_of c.args.self.now.laid) c.args.self.now.laid.offs.now _ c.args.self.now.k c.requires.0.stands c.args.self.now.node c.args.self.now.is)

pub choose_words-requires : goal.choose_words-requires
choose_words-requires c = let h = choose-asks (source_of c.args.self.now.laid) c.args.self.now.laid.offs.now c.args.list.now _ c.args.self.now.k c.requires.0 c.args.self.now.node c.args.self.now.is c.requires.1 _ c.place_of-place.ensures in
    record { fits = (h.room, h.small, h.cond-within); w_in_bounds = (h.left-within, h.right-within, h.within) }

pub returns-clause-made : goal.returns-clause-made
returns-clause-made c = ite-open (source_of c.args.self.now.laid) c.args.self.now.laid.offs.now _ c.args.self.now.k c.requires.0.stands c.args.self.now.node c.args.self.now.is c.args.map.now _ c.condition-cond.ensures c.requires.1 _ c.is_known.ensures c.if-is_known.false _ _ _ (choose-turn (source_of c.args.self.now.laid) c.args.self.now.laid.offs.now c.args.list.now _ c.args.self.now.k c.requires.0 c.args.self.now.node c.args.self.now.is c.requires.1 _ c.place_of-place.ensures _ _ _ _ c.choose_words.ensures.made)
