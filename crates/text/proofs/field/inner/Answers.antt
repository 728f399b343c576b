use mathlib.Core.Path.{ap, ◌∙◌}
use Rattle.text.proofs.Fields.{parted, tab-head, no_tab, inner_by}
use Rattle.text.proofs.field.inner.Goals as goal

pub returns-in_err-next : goal.returns-in_err-next
returns-in_err-next c =
    ap parted c.from_residual.ensures
    ∙ inner_by c.args.text.now _ c.span.ensures.value _ _ c.split_at.ensures.front c.split_at.ensures.back _
    (no_tab c.split_at.result.0.now c.split_at.result.1.now c.in_err-next.ensures.cases)

pub returns : goal.returns
returns c =
    inner_by c.args.text.now _ c.span.ensures.value _ _ c.split_at.ensures.front c.split_at.ensures.back _
    (tab-head c.split_at.result.0.now c.split_at.result.1.now _ c.in_ok-next.ensures.cases.0 c.in_ok-next.ensures.cases.1)
