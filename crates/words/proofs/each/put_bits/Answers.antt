use borrow.Author.Rules.{rules}
use Rattle.loops.proofs.Loop.{loop-more}
use Rattle.words.specs.Each.{copy_step}
use Rattle.words.proofs.each.put_bits.Goals as goal

pub loop-i-preserved : goal.loop-i-preserved
unfolding copy_step
loop-i-preserved c = (search (rules, loop-more), search rules)
