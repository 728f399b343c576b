use native.Mathlib.Omega.{arith}
use Prim.Native.Nat.{◌-◌}
use lib.ListN.{get_or}
use Rattle.words.specs.Num.{filled}
use Rattle.words.proofs.MulStep.{row-cost}
use Rattle.words.proofs.Paths.{mul-room, mul-path}
use Rattle.words.proofs.mul.mul_step.Goals as goal

pub each_bit-requires : goal.each_bit-requires
each_bit-requires c = omega (arith, row-cost c.args.left.now (get_or c.args.right.now c.args.i 0) (c.args.w - c.args.i))

pub add_onto-requires : goal.add_onto-requires
unfolding filled
add_onto-requires c = omega (arith, mul-room c.args.w c.args.left.now c.args.right.now c.args.list.now c.each_bit.new.list _ c.args.sum.now c.args.i c.each_bit.ensures.made)

pub returns-clause-made : goal.returns-clause-made
unfolding filled
returns-clause-made c = mul-path c.args.w c.args.left.now c.args.right.now c.args.list.now c.each_bit.new.list _ c.args.sum.now c.args.i c.each_bit.ensures.made c.add_onto.new.list _ _ c.add_onto.ensures.made
