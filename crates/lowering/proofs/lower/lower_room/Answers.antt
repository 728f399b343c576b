use Rattle.lowering.proofs.LowerFacts.{offsets-asks, marks-room, map-room, begins, ended-done}
use Rattle.nodes.specs.Source.{source}
use native.Mathlib.Omega.{arith}
use lib.ListN.{replicate}
use lib.Seq.{length-take-le}
use mathlib.Core.Path.{sym}
use Rattle.lowering.proofs.lower.lower_room.Goals as goal

pub offsets-total-requires : goal.offsets-total-requires
offsets-total-requires c = let p = offsets-asks (source c.args.table.now c.args.addrs.now c.args.word) c.args.gates.now c.args.constraints.now c.args.map.now c.requires.accepted (replicate 514 0) c.args.marks.now (omega arith) c.requires.in_bounds in record { n_bound = p.0; table_in_bounds = p.1 }

pub slice_bounds-lower_roots-end : goal.slice_bounds-lower_roots-end
slice_bounds-lower_roots-end c = map-room (source c.args.table.now c.args.addrs.now c.args.word) c.args.gates.now c.args.constraints.now c.args.map.now c.requires.accepted (replicate 514 0) c.args.marks.now (omega arith) c.requires.in_bounds _ c.offsets-total.ensures.0

pub slice_bounds-lower_roots-end-2 : goal.slice_bounds-lower_roots-end-2
slice_bounds-lower_roots-end-2 c = sym (length-take-le _ _ (map-room (source c.args.table.now c.args.addrs.now c.args.word) c.args.gates.now c.args.constraints.now c.args.map.now c.requires.accepted (replicate 514 0) c.args.marks.now (omega arith) c.requires.in_bounds _ c.offsets-total.ensures.0))

pub slice_bounds-lower_roots-end-3 : goal.slice_bounds-lower_roots-end-3
slice_bounds-lower_roots-end-3 c = marks-room (source c.args.table.now c.args.addrs.now c.args.word) c.args.gates.now c.args.constraints.now c.args.map.now c.requires.accepted (replicate 514 0) c.args.marks.now (omega arith) c.requires.in_bounds

pub slice_bounds-lower_roots-end-4 : goal.slice_bounds-lower_roots-end-4
slice_bounds-lower_roots-end-4 c = sym (length-take-le _ _ (marks-room (source c.args.table.now c.args.addrs.now c.args.word) c.args.gates.now c.args.constraints.now c.args.map.now c.requires.accepted (replicate 514 0) c.args.marks.now (omega arith) c.requires.in_bounds))

pub lower_roots-requires : goal.lower_roots-requires
lower_roots-requires c = begins (source c.args.table.now c.args.addrs.now c.args.word) c.args.gates.now c.args.constraints.now c.args.map.now c.requires.accepted (replicate 514 0) c.args.marks.now (omega arith) c.requires.in_bounds _ _ c.offsets-total.ensures

pub returns : goal.returns
returns c = let p = ended-done (source c.args.table.now c.args.addrs.now c.args.word) c.args.gates.now c.args.constraints.now c.args.map.now c.args.marks.now _ _ _ _ _ c.lower_roots.ensures _ c.offsets-total.ensures.0 in record { map_after = p.0; marks_after = p.1 }
