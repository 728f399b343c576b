use borrow.Author.Rules.{rules}
use native.Mathlib.Omega.{arith}
use Rattle.loops.proofs.Loop.{loop-none, loop-more}
use Rattle.words.proofs.Paths.{each-room, each-turn}
use Rattle.words.proofs.each.each_bit.Goals as goal

pub loop-i-init : goal.loop-i-init
loop-i-init c = search (rules, loop-none)

pub bit_of-requires : goal.bit_of-requires
bit_of-requires c = omega (arith, each-room _ _ _ _ c.loop-i.here _ c.loop-i.i c.loop-i.invariant.made c.args.w c.loop-i-test.true)

pub loop-i-preserved : goal.loop-i-preserved
loop-i-preserved c = search (rules, loop-more, each-turn)
