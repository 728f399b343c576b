use borrow.Author.Tests.{tests}
use borrow.Author.Rules.{rules}
use lib.ListN.{length}
use Rattle.table.proofs.Any.{by_any}
use Rattle.table.specs.Sheet.{address_bad, addresses_bad}
use Rattle.table.proofs.sheet.addresses_bad.Goals as goal

pub returns : goal.returns
unfolding addresses_bad
returns c = by_any (address_bad c.args.addrs.now c.args.w) (length c.args.addrs.now) _ _ _ c.any.ensures.ran (λ x b q k. search (rules, tests))
