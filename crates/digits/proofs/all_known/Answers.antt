use Rattle.std.proofs.Common.{rules, tests, ◌∙◌}
use Rattle.std.proofs.lemmas.Iterator.{YieldsList-from_slice}
use Rattle.std.proofs.lemmas.Iterator.Search.{all_from_yields_List}
use Rattle.loops.proofs.Search.{every}
use Rattle.netlist.specs.Bit.{is_known}
use Rattle.digits.specs.Digits.{all_known, unknown_at}
use Rattle.digits.proofs.all_known.Goals as goal

pub returns : goal.returns
unfolding all_known unknown_at
returns c =
    let bits = c.args.bits.now in
    all_from_yields_List is_known _ _ c.all.result c.all.ensures.ran (YieldsList-from_slice bits cc) (λ x b q k. search (rules, tests)) ∙ every is_known bits 0
