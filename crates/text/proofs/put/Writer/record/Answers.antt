use Rattle.text.proofs.Puts.{record-put}
use borrow.Author.Rules.{rules}
use Rattle.text.proofs.put.Writer.record.Goals as goal

pub returns-clause-after : goal.returns-clause-after
returns-clause-after c = search (rules, record-put)
