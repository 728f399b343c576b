use mathlib.Core.Path.{ap, sym, ◌∙◌}
use Rattle.text.specs.Name.{same}
use Rattle.text.specs.Field.{name_field}
use Rattle.text.proofs.Fields.{rested, named-none, named-some, named-other}
use Rattle.text.proofs.field.name_field.Goals as goal

pub returns-in_err-field : goal.returns-in_err-field
unfolding name_field
returns-in_err-field c = ap rested c.from_residual.ensures ∙ named-none c.inner.result _ c.inner.ensures c.args.name.now c.in_err-field.was

pub returns-then-eq : goal.returns-then-eq
unfolding name_field same
returns-then-eq c = named-some c.inner.result _ c.inner.ensures c.in_ok-field.field c.in_ok-field.rest c.in_ok-field.was c.args.name.now (sym c.eq.ensures ∙ c.if-eq.true)

pub returns-else-eq : goal.returns-else-eq
unfolding name_field same
returns-else-eq c = named-other c.inner.result _ c.inner.ensures c.in_ok-field.field c.in_ok-field.rest c.in_ok-field.was c.args.name.now (sym c.eq.ensures ∙ c.if-eq.false)
