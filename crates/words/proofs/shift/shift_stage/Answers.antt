use native.Mathlib.Omega.{arith}
use lib.ListN.{get_or}
use Rattle.digits.proofs.Numbers.{powers-less}
use Rattle.words.specs.Num.{filled}
use Rattle.words.specs.Each.{word_of}
use Rattle.words.proofs.EachLaws.{choose-cost}
use Rattle.words.proofs.Paths.{stage-places, stage-path}
use Rattle.words.proofs.shift.shift_stage.Goals as goal

pub overflow_shl-places : goal.overflow_shl-places
overflow_shl-places c = omega (arith, powers-less c.args.w c.requires.j_bound.1)

pub offset_bounds-amount-j : goal.offset_bounds-amount-j
offset_bounds-amount-j c = omega (arith, powers-less c.args.w c.requires.j_bound.1)

pub bounds-amount-j : goal.bounds-amount-j
bounds-amount-j c = omega (arith, powers-less c.args.w c.requires.j_bound.1)

pub move_bits-requires : goal.move_bits-requires
move_bits-requires c = omega (arith, stage-places c.args.w c.args.j c.requires.j_bound.2 c.requires.j_bound.0)

pub each_onto-requires : goal.each_onto-requires
each_onto-requires c = omega (arith, choose-cost (get_or c.args.amount.now c.args.j 0) c.move_bits.new.out c.args.out.now c.args.w)

pub returns-clause-made : goal.returns-clause-made
unfolding filled
returns-clause-made c =
    stage-path c.args.w c.args.j c.requires.j_bound.2 c.requires.j_bound.0 c.args.to c.args.amount.now _ (word_of c.args.list.now c.args.out.now) _ c.move_bits.ensures c.each_onto.ensures.made
