use Rattle.text.proofs.Puts.{number_put}
use borrow.Author.Rules.{rules}
use Rattle.text.proofs.put.Writer.number.Goals as goal

pub returns-clause-after : goal.returns-clause-after
returns-clause-after c = search (rules, number_put)
