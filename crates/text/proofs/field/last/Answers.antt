use native.Mathlib.Omega.{arith}
use Rattle.text.proofs.Fields.{end-none, end-tab, end-line, last_by}
use Rattle.text.proofs.field.last.Goals as goal

pub returns-in-empty : goal.returns-in-empty
returns-in-empty c =
    last_by c.args.text.now _ c.span.ensures.value _ _ c.split_at.ensures.front c.split_at.ensures.back _
    (end-none _ c.split_at.result.1.now (omega arith))

pub returns-in-9 : goal.returns-in-9
returns-in-9 c =
    last_by c.args.text.now _ c.span.ensures.value _ _ c.split_at.ensures.front c.split_at.ensures.back _
    (end-tab c.split_at.result.0.now c.split_at.result.1.now (omega arith) (omega arith))

pub returns-in-len1-up : goal.returns-in-len1-up
returns-in-len1-up c =
    last_by c.args.text.now _ c.span.ensures.value _ _ c.split_at.ensures.front c.split_at.ensures.back _
    (end-line _ c.split_at.result.1.now (omega arith) (λ z. omega arith))
