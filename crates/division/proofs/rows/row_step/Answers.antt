use native.Mathlib.Omega.{arith}
use Prim.Native.Nat.{◌-◌}
use lib.ListN.{get_or}
use Rattle.words.specs.Num.{filled}
use Rattle.words.proofs.AddLaws.{chain-three}
use Rattle.words.proofs.MulStep.{row-cost}
use Rattle.division.specs.Rows.{places}
use Rattle.division.proofs.Paths.{row-most}
use Rattle.division.proofs.rows.row_step.Goals as goal

pub each_bit-requires-2-clause-fits : goal.each_bit-requires-2-clause-fits
unfolding filled
each_bit-requires-2-clause-fits c =
    let d = get_or c.args.den.now c.args.i 0 in
    let k = c.args.w - c.args.i in
    omega (
      arith,
      row-most c.args.quot.now d k c.args.lists.now.gates c.each_bit.new.list _ c.each_bit.ensures.made,
      row-cost (places k c.args.w c.args.quot.now) d c.args.i,
    )

pub add_onto-carry-requires-clause-fits : goal.add_onto-carry-requires-clause-fits
unfolding filled
add_onto-carry-requires-clause-fits c =
    let d = get_or c.args.den.now c.args.i 0 in
    let k = c.args.w - c.args.i in
    omega (
      arith,
      row-most c.args.quot.now d k c.args.lists.now.gates c.each_bit.new.list _ c.each_bit.ensures.made,
      row-most (places k c.args.w c.args.quot.now) d c.args.i c.each_bit.new.list c.each_bit-2.new.list _ c.each_bit-2.ensures.made,
      chain-three c.args.i c.args.sum.now c.each_bit.new.out k,
    )
