use native.Mathlib.Omega.{arith}
use Rattle.text.proofs.Puts.{digits-small, digits_more}
use borrow.Author.Rules.{rules}
use Rattle.text.proofs.put.Writer.+digits.Goals as goal

pub returns-then-n-lt10-clause-after : goal.returns-then-n-lt10-clause-after
returns-then-n-lt10-clause-after c = search (rules, digits-small)

pub returns-clause-after : goal.returns-clause-after
returns-clause-after t c = digits_more _ _ _ _ (omega arith) c.digits.ensures.after c.byte-2.ensures.after
