use mathlib.Core.Path.{ap, ◌∙◌}
use native.Mathlib.Omega.{arith}
use Rattle.text.specs.Name.{node_name}
use Rattle.text.proofs.Fields.{recorded, rest-none, rest-some, count-none, count-some, node-none, number-none, node-other, node-whole}
use Rattle.text.proofs.line.node_line.Goals as goal

pub returns-in_err-rest : goal.returns-in_err-rest
unfolding node_name
returns-in_err-rest c = ap recorded c.from_residual.ensures ∙ node-none _ _ (rest-none c.name_field.result _ c.name_field.ensures c.in_err-rest.was)

pub returns-in_err-n : goal.returns-in_err-n
unfolding node_name
returns-in_err-n c =
    ap recorded c.from_residual-in_err-n.ensures
    ∙ number-none _ _ _ (rest-some c.name_field.result _ _ c.name_field.ensures c.in_ok-rest.was) (count-none c.number_field.result _ c.number_field.ensures c.in_err-n.was)

pub returns-then-n-i : goal.returns-then-n-i
unfolding node_name
returns-then-n-i c =
    node-other _ _ _ (rest-some c.name_field.result _ _ c.name_field.ensures c.in_ok-rest.was) _ _ (count-some c.number_field.result _ _ _ c.number_field.ensures c.in_ok-n.was)
    (λ e. omega arith)

pub returns : goal.returns
unfolding node_name
returns c =
    node-whole _ _ _ (rest-some c.name_field.result _ _ c.name_field.ensures c.in_ok-rest.was) _ _ (count-some c.number_field.result _ _ _ c.number_field.ensures c.in_ok-n.was)
    (omega arith) _ c.node_fields.ensures
