use Rattle.text.proofs.Puts.{pair_put}
use borrow.Author.Rules.{rules}
use Rattle.text.proofs.put.Writer.pair.Goals as goal

pub returns-clause-after : goal.returns-clause-after
returns-clause-after c = search (rules, pair_put)
