use mathlib.Core.Path.{ap, ◌∙◌}
use Rattle.text.specs.NodeLine.{node_fields}
use Rattle.text.proofs.Fields.{recorded, count-none, count-some}
use Rattle.text.proofs.line.node_fields.Goals as goal

pub returns-in_err-kind : goal.returns-in_err-kind
unfolding node_fields
returns-in_err-kind c =
    ap recorded c.from_residual.ensures ∙ rw (count-none c.kind_field.result _ c.kind_field.ensures c.in_err-kind.was)

pub returns-in_err-width : goal.returns-in_err-width
unfolding node_fields
returns-in_err-width c =
    ap recorded c.from_residual-in_err-width.ensures ∙ rw (
      count-some c.kind_field.result _ _ _ c.kind_field.ensures c.in_ok-kind.was,
      count-none c.number_field.result _ c.number_field.ensures c.in_err-width.was,
    )

pub returns-in_err-a : goal.returns-in_err-a
unfolding node_fields
returns-in_err-a c =
    ap recorded c.from_residual-in_err-a.ensures ∙ rw (
      count-some c.kind_field.result _ _ _ c.kind_field.ensures c.in_ok-kind.was,
      count-some c.number_field.result _ _ _ c.number_field.ensures c.in_ok-width.was,
      count-none c.number_field-2.result _ c.number_field-2.ensures c.in_err-a.was,
    )

pub returns-in_err-b : goal.returns-in_err-b
unfolding node_fields
returns-in_err-b c =
    ap recorded c.from_residual-in_err-b.ensures ∙ rw (
      count-some c.kind_field.result _ _ _ c.kind_field.ensures c.in_ok-kind.was,
      count-some c.number_field.result _ _ _ c.number_field.ensures c.in_ok-width.was,
      count-some c.number_field-2.result _ _ _ c.number_field-2.ensures c.in_ok-a.was,
      count-none c.number_field-3.result _ c.number_field-3.ensures c.in_err-b.was,
    )

pub returns-in_err-c : goal.returns-in_err-c
unfolding node_fields
returns-in_err-c c =
    ap recorded c.from_residual-in_err-c.ensures ∙ rw (
      count-some c.kind_field.result _ _ _ c.kind_field.ensures c.in_ok-kind.was,
      count-some c.number_field.result _ _ _ c.number_field.ensures c.in_ok-width.was,
      count-some c.number_field-2.result _ _ _ c.number_field-2.ensures c.in_ok-a.was,
      count-some c.number_field-3.result _ _ _ c.number_field-3.ensures c.in_ok-b.was,
      count-none c.number_field-4.result _ c.number_field-4.ensures c.in_err-c.was,
    )

pub returns-in_err-imm : goal.returns-in_err-imm
unfolding node_fields
returns-in_err-imm c =
    ap recorded c.from_residual-in_err-imm.ensures ∙ rw (
      count-some c.kind_field.result _ _ _ c.kind_field.ensures c.in_ok-kind.was,
      count-some c.number_field.result _ _ _ c.number_field.ensures c.in_ok-width.was,
      count-some c.number_field-2.result _ _ _ c.number_field-2.ensures c.in_ok-a.was,
      count-some c.number_field-3.result _ _ _ c.number_field-3.ensures c.in_ok-b.was,
      count-some c.number_field-4.result _ _ _ c.number_field-4.ensures c.in_ok-c.was,
      count-none c.last_number.result _ c.last_number.ensures c.in_err-imm.was,
    )

pub returns : goal.returns
unfolding node_fields
returns c =
    rw (
      count-some c.kind_field.result _ _ _ c.kind_field.ensures c.in_ok-kind.was,
      count-some c.number_field.result _ _ _ c.number_field.ensures c.in_ok-width.was,
      count-some c.number_field-2.result _ _ _ c.number_field-2.ensures c.in_ok-a.was,
      count-some c.number_field-3.result _ _ _ c.number_field-3.ensures c.in_ok-b.was,
      count-some c.number_field-4.result _ _ _ c.number_field-4.ensures c.in_ok-c.was,
      count-some c.last_number.result _ _ _ c.last_number.ensures c.in_ok-imm.was,
    )
