use mathlib.Core.Path.{ap, ◌∙◌}
use Rattle.text.specs.Name.{kind}
use Rattle.text.specs.Field.{kind_field}
use Rattle.text.proofs.Fields.{counted, valued-none, valued-stops, valued-some}
use Rattle.text.proofs.field.kind_field.Goals as goal

pub returns-in_err-field : goal.returns-in_err-field
unfolding kind_field
returns-in_err-field c = ap counted c.from_residual.ensures ∙ valued-none c.inner.result _ c.inner.ensures kind c.in_err-field.was

pub returns-in_err-value : goal.returns-in_err-value
unfolding kind_field
returns-in_err-value c =
    ap counted c.from_residual-in_err-value.ensures
    ∙ valued-stops c.inner.result _ c.inner.ensures c.in_ok-field.field c.in_ok-field.rest c.in_ok-field.was kind c.kind.result c.kind.ensures c.in_err-value.was

pub returns : goal.returns
unfolding kind_field
returns c = valued-some c.inner.result _ c.inner.ensures c.in_ok-field.field c.in_ok-field.rest c.in_ok-field.was kind c.kind.result c.in_ok-value.value c.kind.ensures c.in_ok-value.was
