use native.Mathlib.Omega.{arith}
use Rattle.lowering.proofs.LowerFacts.{no-gate-room, no-bit-room, no-constraint-room, accepted, roomy}
use Rattle.nodes.specs.Source.{source}
use Rattle.lowering.proofs.lower.lower_clear.Goals as goal

pub returns-then-records-sums : goal.returns-then-records-sums
returns-then-records-sums c = let p = no-gate-room (source c.args.table.now c.args.addrs.now c.args.word) c.args.gates.now c.args.constraints.now c.args.map.now c.args.marks.now _ c.sums-sums.ensures _ c.count-records.ensures (omega arith) in record { map_after = p.0; marks_after = p.1 }

pub returns-then-places-sums : goal.returns-then-places-sums
returns-then-places-sums c = let p = no-bit-room (source c.args.table.now c.args.addrs.now c.args.word) c.args.gates.now c.args.constraints.now c.args.map.now c.args.marks.now _ c.sums-sums.ensures _ c.count-records.ensures (omega arith) (omega arith) in record { map_after = p.0; marks_after = p.1 }

pub returns-then-pairs-sums : goal.returns-then-pairs-sums
returns-then-pairs-sums c = let p = no-constraint-room (source c.args.table.now c.args.addrs.now c.args.word) c.args.gates.now c.args.constraints.now c.args.map.now c.args.marks.now _ c.sums-sums.ensures _ c.count-records.ensures (omega arith) (omega arith) (omega arith) in record { map_after = p.0; marks_after = p.1 }

pub lower_room-requires : goal.lower_room-requires
lower_room-requires c = record { accepted = accepted (source c.args.table.now c.args.addrs.now c.args.word) c.args.gates.now c.args.constraints.now c.args.map.now c.args.marks.now _ c.sums-sums.ensures _ c.count-records.ensures (omega arith) (omega arith) (omega arith) c.requires.word_value; in_bounds = c.requires.in_bounds }

pub returns : goal.returns
returns c = record { map_after = roomy (source c.args.table.now c.args.addrs.now c.args.word) c.args.gates.now c.args.constraints.now c.args.map.now c.args.marks.now _ c.sums-sums.ensures _ c.count-records.ensures (omega arith) (omega arith) (omega arith) _ c.lower_room.ensures.map_after; marks_after = c.lower_room.ensures.marks_after }
