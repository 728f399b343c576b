use Rattle.text.proofs.Puts.{push-in, push-out}
use borrow.Author.Rules.{rules}
use Rattle.text.proofs.put.Writer.byte.Goals as goal

pub returns-then-at-self-clause-after : goal.returns-then-at-self-clause-after
returns-then-at-self-clause-after c = search (rules, push-in)

pub returns-else-at-self-clause-after : goal.returns-else-at-self-clause-after
returns-else-at-self-clause-after c = search (rules, push-out)
