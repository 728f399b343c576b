use native.Mathlib.Omega.{arith}
use Rattle.words.specs.Num.{filled}
use Rattle.words.proofs.Paths.{joins-and, eq-room, eq-path}
use Rattle.words.proofs.eq.eq_words.Goals as goal

pub join_all-requires : goal.join_all-requires
unfolding filled
join_all-requires c = record {
  joins = joins-and;
  fits = omega (arith, eq-room _ _ c.args.list.now c.each_bit.new.list _ c.args.w c.each_bit.ensures.made);
  le_w = omega arith;
}

pub returns-clause-made : goal.returns-clause-made
unfolding filled
returns-clause-made c = eq-path _ _ c.args.list.now c.each_bit.new.list _ c.args.w c.each_bit.ensures.made c.join_all.new.list _ c.join_all.ensures.made
