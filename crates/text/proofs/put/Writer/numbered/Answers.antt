use Rattle.text.proofs.Puts.{numbered-put}
use borrow.Author.Rules.{rules}
use Rattle.text.proofs.put.Writer.numbered.Goals as goal

pub returns-clause-after : goal.returns-clause-after
returns-clause-after c = search (rules, numbered-put)
