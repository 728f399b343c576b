use borrow.Author.Rules.{rules}
use native.Mathlib.Omega.{arith}
use Rattle.loops.proofs.Loop.{loop-none, loop-more}
use Rattle.words.proofs.Paths.{onto-room, add-path}
use Rattle.words.proofs.add.add_onto.Goals as goal

pub loop-j-init : goal.loop-j-init
loop-j-init c = search (rules, loop-none)

pub adder_bit-s-requires : goal.adder_bit-s-requires
adder_bit-s-requires c = omega (arith, onto-room _ _ _ c.loop-j.here _ c.loop-j.c c.loop-j.j c.loop-j.invariant.made c.args.w c.loop-j-test.true c.requires.w_in_bounds.1)

pub loop-j-preserved : goal.loop-j-preserved
loop-j-preserved c = search (rules, loop-more, add-path)
