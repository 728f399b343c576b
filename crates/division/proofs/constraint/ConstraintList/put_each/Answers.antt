use borrow.Author.Rules.{rules}
use Rattle.loops.proofs.Loop.{loop-none, loop-more}
use Rattle.division.specs.Constraint.{con_step}
use Rattle.division.proofs.constraint.ConstraintList.put_each.Goals as goal

pub loop-j-init : goal.loop-j-init
loop-j-init c = search (rules, loop-none)

pub loop-j-preserved : goal.loop-j-preserved
unfolding con_step
loop-j-preserved c = search (rules, loop-more)
