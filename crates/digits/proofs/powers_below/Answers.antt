use Rattle.std.proofs.Common.{◌*◌, ◌%◌, ◌^◌, ◌∙◌, rules, tests}
use lib.Dec.{leb}
use Rattle.loops.proofs.Search.{found_by_find}
use Rattle.digits.proofs.Words.{powers_found}
use Rattle.digits.proofs.powers_below.Goals as goal

pub returns : goal.returns
returns c =
    let w = c.args.w in
    c.unwrap_or.ensures ∙ powers_found w c.requires _ (found_by_find (λ j. leb w (1 * 2 ^ j % 2 ^ 64)) w _ _ _ c.find.ensures.ran (λ x b q k. search (rules, tests)))
