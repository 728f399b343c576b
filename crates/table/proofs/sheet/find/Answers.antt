use mathlib.Core.Path.{◌∙◌}
use borrow.Author.Tests.{tests}
use borrow.Author.Rules.{rules}
use lib.Dec.{eqb}
use Rattle.std.proofs.lemmas.Iterator.{YieldsList-from_slice}
use Rattle.std.proofs.lemmas.Iterator.Search.{position_from_yields_List}
use Rattle.loops.proofs.Search.{position_found}
use Rattle.table.specs.Sheet.{is_at}
use Rattle.table.proofs.sheet.find.Goals as goal

pub returns : goal.returns
unfolding is_at
returns c =
    position_from_yields_List (λ y. eqb y c.args.x) _ _ c.position.result c.position.ensures.ran (YieldsList-from_slice c.args.addrs.now cc) (λ x b q k. search (rules, tests))
    ∙ position_found (λ y. eqb y c.args.x) c.args.addrs.now 0
