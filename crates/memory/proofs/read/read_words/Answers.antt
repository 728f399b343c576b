use mathlib.Core.Path.{sym, ◌∙◌}
use borrow.Author.Rules.{rules}
use native.Mathlib.Omega.{arith}
use Rattle.words.specs.Each.{word_of}
use Rattle.loops.proofs.Loop.{loop-none, loop-more}
use Rattle.memory.proofs.Paths.{reads-room, read-step-path, read-at-known, read-at-other}
use Rattle.memory.proofs.read.read_words.Goals as goal

pub returns-in-Some-clause-made : goal.returns-in-Some-clause-made
returns-in-Some-clause-made c = search (rules, read-at-known, sym c.in-Some.is ∙ c.known.ensures)

pub loop-i-init : goal.loop-i-init
loop-i-init c = search (rules, loop-none)

pub read_one-requires-clause-fits : goal.read_one-requires-clause-fits
read_one-requires-clause-fits c =
    omega (
      arith,
      reads-room c.args.w c.args.addrs.now c.args.mem.now c.args.adr.now c.requires.le_w.0 c.requires.le_w.1 (word_of c.args.list.now c.clear.new.out) c.loop-i.list _ c.loop-i.i
          c.loop-i.invariant.made _ c.loop-i-test.true,
      c.requires,
    )

pub loop-i-preserved : goal.loop-i-preserved
loop-i-preserved c = search (rules, loop-more, read-step-path)

pub returns-clause-made : goal.returns-clause-made
returns-clause-made c = search (rules, read-at-other)
