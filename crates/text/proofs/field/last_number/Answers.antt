use mathlib.Core.Path.{ap, ◌∙◌}
use Rattle.text.specs.Number.{number}
use Rattle.text.specs.Field.{last_number}
use Rattle.text.proofs.Fields.{counted, valued-none, valued-stops, valued-some}
use Rattle.text.proofs.field.last_number.Goals as goal

pub returns-in_err-field : goal.returns-in_err-field
unfolding last_number
returns-in_err-field c = ap counted c.from_residual.ensures ∙ valued-none c.last.result _ c.last.ensures number c.in_err-field.was

pub returns-in_err-value : goal.returns-in_err-value
unfolding last_number
returns-in_err-value c =
    ap counted c.from_residual-in_err-value.ensures
    ∙ valued-stops c.last.result _ c.last.ensures c.in_ok-field.field c.in_ok-field.rest c.in_ok-field.was number c.number.result c.number.ensures c.in_err-value.was

pub returns : goal.returns
unfolding last_number
returns c = valued-some c.last.result _ c.last.ensures c.in_ok-field.field c.in_ok-field.rest c.in_ok-field.was number c.number.result c.in_ok-value.value c.number.ensures c.in_ok-value.was
