use Rattle.text.specs.Write.{done_line, done_name, output}
use Rattle.text.proofs.Writes.{written}
use Rattle.text.proofs.Rooms.{output-length}
use Prim.Native.Nat.{◌≤◌}
use lib.ListN.{length}
use native.Mathlib.Omega.{arith}
use borrow.Author.Rules.{rules}
use Rattle.text.proofs.write.write.Goals as goal

pub returns : goal.returns
unfolding done_line done_name
returns c = let a = c.args in
    let fits =
    output-length a.gates.now a.map.now a.offsets.now a.marks.now a.constraints.now
    (λ i. (c.type_inv.gates i).fits) (λ i. (c.type_inv.map i).fits) (λ i. (c.type_inv.constraints i).fits)
    (omega (arith, c.well_formed)) (omega (arith, c.well_formed)) (omega (arith, c.well_formed)) c.requires.offsets in
    let room : length (output a.gates.now a.map.now a.offsets.now a.marks.now a.constraints.now) ≤ length a.out.now = omega (arith, c.requires.constraints_in_bounds) in
    written a.gates.now a.map.now a.offsets.now a.marks.now a.constraints.now a.out.now
    _ _ _ _ c.pair.new.self.out.now _ _ (search rules) room c.count-g.ensures c.gate_lines.ensures.after c.bits_lines.ensures.after c.constraint_lines.ensures.after c.pair.ensures.after
