use native.Mathlib.Omega.{arith}
use Rattle.words.specs.Num.{filled}
use Rattle.words.proofs.Paths.{sub-room, sub-path}
use Rattle.words.proofs.sub.sub_words.Goals as goal

pub add_words-requires : goal.add_words-requires
unfolding filled
add_words-requires c =
    omega (arith, sub-room c.args.left.now c.args.right.now c.args.list.now c.each_bit.new.list _ c.args.w c.each_bit.ensures.made c.args.out.now c.requires.w_bound.0 c.requires.w_bound.3)

pub returns-clause-made : goal.returns-clause-made
unfolding filled
returns-clause-made c = sub-path c.args.left.now c.args.right.now c.args.list.now c.each_bit.new.list _ c.args.w c.each_bit.ensures.made c.add_words.new.list _ _ _ c.add_words.ensures.made
