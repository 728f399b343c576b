use native.Mathlib.Omega.{arith}
use Rattle.words.specs.Num.{filled}
use Rattle.memory.proofs.Paths.{ands-room, ors-room, read-one-path}
use Rattle.memory.proofs.read.read_one.Goals as goal

pub each_bit-requires-clause-fits : goal.each_bit-requires-clause-fits
each_bit-requires-clause-fits c =
    omega (arith, ands-room c.args.w c.args.a c.args.word.now c.args.adr.now c.args.list.now c.at_listed-equal.new.list _ c.requires.le_w.0 c.requires.le_w.1 c.at_listed-equal.ensures.made)

pub each_onto-requires-clause-fits : goal.each_onto-requires-clause-fits
unfolding filled
each_onto-requires-clause-fits c =
    omega (
      arith,
      ors-room c.args.w c.args.a c.args.word.now c.args.adr.now c.args.list.now c.at_listed-equal.new.list _ c.requires.le_w.0 c.requires.le_w.1 c.at_listed-equal.ensures.made
          c.each_bit.new.list _ c.each_bit.ensures.made c.args.out.now,
    )

pub returns-clause-made : goal.returns-clause-made
unfolding filled
returns-clause-made c =
    read-one-path c.args.w c.args.a c.args.word.now c.args.adr.now c.args.list.now c.at_listed-equal.new.list _ c.requires.le_w.0 c.requires.le_w.1 c.at_listed-equal.ensures.made
    c.each_bit.new.list _ c.each_bit.ensures.made c.args.out.now (omega arith) c.each_onto.new.list _ _ c.each_onto.ensures.made c.put_bits.ensures
