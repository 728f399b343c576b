use borrow.Author.Rules.{rules}
use native.Mathlib.Omega.{arith}
use Rattle.loops.proofs.Loop.{loop-none, loop-more}
use Rattle.words.specs.Each.{word_of}
use Rattle.words.proofs.Paths.{mul_most}
use Rattle.words.proofs.mul.mul_words.Goals as goal

pub loop-i-init : goal.loop-i-init
loop-i-init c = search (rules, loop-none)

pub mul_step-requires : goal.mul_step-requires
mul_step-requires c =
    omega (
      arith,
      mul_most c.args.w c.args.left.now c.args.right.now (word_of c.args.list.now c.args.out.now) _ c.requires.w_bound.0 c.requires.w_bound.3 c.put_digits.ensures
          c.loop-i.list _ c.loop-i.i c.loop-i-test.true c.loop-i.invariant.made,
    )

pub loop-i-preserved : goal.loop-i-preserved
loop-i-preserved c = search (rules, loop-more)
