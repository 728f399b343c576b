use mathlib.Core.Path.{ap, ◌∙◌}
use Rattle.text.proofs.Fields.{counted, rest-none, rest-some, pair-none, pair-some}
use Rattle.text.proofs.line.pair_line.Goals as goal

pub returns-in_err-rest : goal.returns-in_err-rest
returns-in_err-rest c = ap counted c.from_residual.ensures ∙ pair-none _ _ (rest-none c.name_field.result _ c.name_field.ensures c.in_err-rest.was)

pub returns : goal.returns
returns c = pair-some _ _ _ _ (rest-some c.name_field.result _ _ c.name_field.ensures c.in_ok-rest.was) c.last_number.ensures
