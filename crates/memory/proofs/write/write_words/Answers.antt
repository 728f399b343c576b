use mathlib.Core.Path.{sym, ◌∙◌}
use borrow.Author.Rules.{rules}
use native.Mathlib.Omega.{arith}
use Rattle.words.specs.Each.{word_of}
use Rattle.loops.proofs.Loop.{loop-none, loop-more}
use Rattle.memory.proofs.AddressLaws.{word_end}
use Rattle.memory.proofs.Paths.{writes-room, write-step-path, write-at-known, write-at-other}
use Rattle.memory.proofs.write.write_words.Goals as goal

pub returns-in-Some-clause-made : goal.returns-in-Some-clause-made
returns-in-Some-clause-made c = search (rules, write-at-known, sym c.in-Some.is ∙ c.known.ensures)

pub loop-i-init : goal.loop-i-init
loop-i-init c = search (rules, loop-none)

pub write_one-requires-clause-fits : goal.write_one-requires-clause-fits
write_one-requires-clause-fits c =
    omega (
      arith,
      writes-room c.args.w c.args.addrs.now c.args.adr.now c.args.val.now c.requires.le_w.0 c.requires.le_w.1 (word_of c.args.list.now c.args.mem.now) c.loop-i.list _ c.loop-i.i
          c.loop-i.invariant.made _ c.loop-i-test.true,
      c.requires,
    )

pub loop-i-preserved : goal.loop-i-preserved
loop-i-preserved c =
    search (
      rules,
      loop-more,
      write-step-path c.args.w c.loop-i.i c.args.addrs.now c.args.adr.now c.args.val.now c.loop-i.mem c.requires.le_w.1 (omega (arith, word_end _ _ c.args.w c.loop-i-test.true, c.requires)),
    )

pub returns-clause-made : goal.returns-clause-made
returns-clause-made c = search (rules, write-at-other)
