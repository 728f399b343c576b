use Rattle.text.proofs.Puts.{rest_put}
use borrow.Author.Rules.{rules}
use Rattle.text.proofs.put.Writer.rest.Goals as goal

pub returns-clause-after : goal.returns-clause-after
returns-clause-after c = search (rules, rest_put)
