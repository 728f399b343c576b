use native.Mathlib.Omega.{arith}
use Rattle.text.proofs.Numbers.{number-other}
use Rattle.text.proofs.number.number.Goals as goal

pub returns : goal.returns
returns c = number-other c.args.s.now _ (omega arith) (λ l z. omega arith) c.digits_of.ensures
