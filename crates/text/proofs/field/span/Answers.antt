use mathlib.Core.Path.{◌∙◌}
use mathlib.Core.Bool.{true, false}
use Rattle.std.proofs.Common.{rules, tests, ◌≡◌}
use Rattle.std.proofs.lemmas.Iterator.{YieldsList-from_slice, IsFirst-from_position}
use Rattle.text.specs.Field.{parts}
use Rattle.text.proofs.Fields.{span-is}
use Rattle.text.proofs.field.span.Goals as goal

pub returns-clause-value : goal.returns-clause-value
returns-clause-value c =
    c.unwrap_or.ensures
    ∙ span-is c.args.text.now c.position.result
    (IsFirst-from_position _ _ c.position.result (λ b. parts b ≡ true) (λ b. parts b ≡ false) c.position.ensures.ran (YieldsList-from_slice c.args.text.now c.iter.ensures.rest)
    (λ x q k. search (rules, tests)) (λ x q k. search (rules, tests)))
