use native.Mathlib.Omega.{arith}
use Rattle.nodes.specs.Laid.{source_of}
use Rattle.nodes.proofs.Facts.{a_in}
use Rattle.nodes.proofs.OwnFacts.{above-none, above_in, above-path}
use Rattle.nodes.proofs.place.Here.above_of.Goals as goal

pub returns-then-self-ne-SEXT : goal.returns-then-self-ne-SEXT
returns-then-self-ne-SEXT c = above-none (source_of c.args.self.now.laid) c.args.self.now.laid.offs.now _ c.args.self.now.k c.requires c.args.self.now.node c.args.self.now.is c.if-self-ne-SEXT.true c.args.map.now

pub place_of-shared-requires : goal.place_of-shared-requires
place_of-shared-requires c = (c.requires.offsets, a_in (source_of c.args.self.now.laid) c.args.self.now.laid.offs.now _ c.args.self.now.k c.requires c.args.self.now.node c.args.self.now.is)

pub overflow_add-end : goal.overflow_add-end
overflow_add-end c = omega (arith, above_in (source_of c.args.self.now.laid) c.args.self.now.laid.offs.now _ c.args.self.now.k c.requires c.args.self.now.node c.args.self.now.is c.if-self-ne-SEXT.false _ c.place_of-shared.ensures)

pub overflow_sub-result : goal.overflow_sub-result
overflow_sub-result c = omega (arith, above_in (source_of c.args.self.now.laid) c.args.self.now.laid.offs.now _ c.args.self.now.k c.requires c.args.self.now.node c.args.self.now.is c.if-self-ne-SEXT.false _ c.place_of-shared.ensures)

pub offset_bounds-map-end : goal.offset_bounds-map-end
offset_bounds-map-end c = omega (arith, above_in (source_of c.args.self.now.laid) c.args.self.now.laid.offs.now _ c.args.self.now.k c.requires c.args.self.now.node c.args.self.now.is c.if-self-ne-SEXT.false _ c.place_of-shared.ensures)

pub bounds-map-end : goal.bounds-map-end
bounds-map-end c = omega (arith, above_in (source_of c.args.self.now.laid) c.args.self.now.laid.offs.now _ c.args.self.now.k c.requires c.args.self.now.node c.args.self.now.is c.if-self-ne-SEXT.false _ c.place_of-shared.ensures)

pub returns : goal.returns
returns c = above-path (source_of c.args.self.now.laid) c.args.self.now.laid.offs.now _ c.args.self.now.k c.requires c.args.self.now.node c.args.self.now.is c.if-self-ne-SEXT.false _ c.place_of-shared.ensures c.args.map.now
