use native.Mathlib.Omega.{arith}
use Rattle.words.specs.Num.{filled}
use Rattle.words.proofs.Paths.{ult-room, ult-long, ult-path}
use Rattle.words.proofs.sub.ult_words.Goals as goal

pub sub_words-requires : goal.sub_words-requires
unfolding filled
sub_words-requires c =
    omega (
      arith,
      ult-room c.args.left.now c.args.right.now _ _ c.args.w c.requires.w_bound.0 c.put_bits.ensures c.put_bits-2.ensures,
      ult-long c.args.left.now c.args.right.now _ _ c.args.w c.requires.w_bound.0 c.put_bits.ensures c.put_bits-2.ensures,
    )

pub returns-clause-made : goal.returns-clause-made
unfolding filled
returns-clause-made c = ult-path c.args.left.now c.args.right.now _ _ _ c.args.list.now c.sub_words.new.list c.args.w _ c.put_bits.ensures c.put_bits-2.ensures c.sub_words.ensures.made
