use borrow.Author.Rules.{rules}
use native.Mathlib.Omega.{arith}
use Rattle.memory.proofs.Paths.{choose-room, write-one-path}
use Rattle.memory.proofs.write.write_one.Goals as goal

pub each_onto-requires-clause-fits : goal.each_onto-requires-clause-fits
each_onto-requires-clause-fits c =
    omega (
      arith,
      choose-room c.args.w c.args.a c.args.adr.now c.args.val.now c.args.list.now c.at_listed-equal.new.list _ c.at_listed-equal.ensures.made c.args.word.now c.requires.le_w.0
          c.requires.le_w.1,
    )

pub returns-clause-made : goal.returns-clause-made
returns-clause-made c = search (rules, write-one-path)
