use Rattle.text.proofs.Puts.{decimal-put}
use borrow.Author.Rules.{rules}
use Rattle.text.proofs.put.Writer.decimal.Goals as goal

pub returns-clause-after : goal.returns-clause-after
returns-clause-after c = search (rules, decimal-put)
