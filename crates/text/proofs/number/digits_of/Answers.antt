use mathlib.Core.Path.{refl, ◌∙◌}
use native.Mathlib.Omega.{arith}
use Rattle.text.proofs.Numbers.{number-none, number_stops, number_more}
use Rattle.text.proofs.number.digits_of.Goals as goal

pub loop-c-init : goal.loop-c-init
loop-c-init c = number-none c.args.s.now

pub returns-in_err-n : goal.returns-in_err-n
returns-in_err-n c = c.from_residual.ensures ∙ number_stops c.args.s.now c.loop-c.c-index _ _ (omega arith) c.loop-c.invariant refl _ c.add_digit.ensures c.in_err-n.was

pub loop-c-preserved : goal.loop-c-preserved
loop-c-preserved c = number_more c.args.s.now c.loop-c.c-index _ _ (omega arith) c.loop-c.invariant refl _ _ c.add_digit.ensures c.in_ok-n.was
