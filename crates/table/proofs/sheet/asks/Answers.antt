use borrow.Author.Tests.{tests}
use borrow.Author.Rules.{rules}
use Rattle.table.proofs.Any.{by_any}
use Rattle.table.specs.Sheet.{asks_at, asks}
use Rattle.table.proofs.sheet.asks.Goals as goal

pub returns : goal.returns
unfolding asks asks_at
returns c = let e = by_any (asks_at c.args.table.now) _ _ _ c.any.result c.any.ensures.ran (λ x b q k. search (rules, tests)) in cc
