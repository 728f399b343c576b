use mathlib.Core.Path.{◌∙◌}
use native.Mathlib.Omega.{arith}
use Rattle.text.proofs.Numbers.{add-none, add-big, added-is}
use Rattle.text.proofs.number.add_digit.Goals as goal

pub returns-then-not-is_ascii_digit : goal.returns-then-not-is_ascii_digit
returns-then-not-is_ascii_digit c = add-none c.args.v c.args.c (λ h g. omega (arith, c.if-not-is_ascii_digit.ensures.cases))

pub returns-in_err-checked_mul : goal.returns-in_err-checked_mul
returns-in_err-checked_mul c =
    c.from_residual.ensures
    ∙ add-big c.args.v c.args.c (omega (arith, c.if-not-is_ascii_digit.ensures.cases)) (omega (arith, c.if-not-is_ascii_digit.ensures.cases)) (omega (arith, c.in_err-checked_mul.ensures))

pub returns : goal.returns
returns c =
    added-is c.args.v c.args.c (omega (arith, c.if-not-is_ascii_digit.ensures.cases)) (omega (arith, c.if-not-is_ascii_digit.ensures.cases))
    _ _ _ (omega (arith, c.in_ok-checked_mul.ensures)) c.from.ensures c.checked_add.ensures
