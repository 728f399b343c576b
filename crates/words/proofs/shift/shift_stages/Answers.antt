use borrow.Author.Rules.{rules}
use native.Mathlib.Omega.{arith}
use Rattle.loops.proofs.Loop.{loop-none, loop-more}
use Rattle.words.specs.Each.{word_of}
use Rattle.words.proofs.Paths.{stages-room}
use Rattle.words.proofs.shift.shift_stages.Goals as goal

pub loop-j-init : goal.loop-j-init
loop-j-init c = search (rules, loop-none)

pub shift_stage-requires : goal.shift_stage-requires
shift_stage-requires c =
    omega (
      arith,
      stages-room c.args.to c.args.w c.args.amount.now (word_of c.args.list.now c.args.out.now) c.requires.s_bound.2 c.requires.s_bound.4 c.loop-j.list _ c.loop-j.j c.args.s
          c.loop-j-test.true c.requires.s_bound.0 c.loop-j.invariant.made,
    )

pub loop-j-preserved : goal.loop-j-preserved
loop-j-preserved c = search (rules, loop-more)
