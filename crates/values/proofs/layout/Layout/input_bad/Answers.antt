use Rattle.std.proofs.Common.{rules, tests, ap, refl, ◌∙◌}
use mathlib.Core.Bool.{not}
use Rattle.table.proofs.Any.{by_any}
use Rattle.values.specs.Eval.{slot_bad}
use Rattle.values.proofs.input.Laws.{input-path}
use Rattle.values.proofs.layout.Layout.input_bad.Goals as goal

pub returns : goal.returns
returns c =
    by_any (slot_bad _ c.args.values.now _) c.slots_of.result _ _ _ c.any.ensures.ran (λ x b q k. search (rules, tests))
    ∙ input-path _ _ _ _ _ _ _ c.node_at-node.ensures c.is_given.ensures _ _ _ _ (ap not c.if-not-is_given.false) c.slot_width-u.ensures c.offset-o.ensures.0 c.slots_of.ensures.0 refl
