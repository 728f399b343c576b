use mathlib.Core.Path.{sym, ◌∙◌}
use native.Mathlib.Omega.{arith}
use borrow.Author.Rules.{rules}
use Rattle.memory.proofs.Paths.{listed-end, write-listed, write-unlisted}
use Rattle.memory.proofs.write.write_known.Goals as goal

pub overflow_mul-from : goal.overflow_mul-from
overflow_mul-from c = omega (arith, listed-end _ _ _ c.args.w (sym c.in-Some.is ∙ c.find.ensures))

pub put_bits-requires : goal.put_bits-requires
put_bits-requires c = omega (arith, listed-end _ _ _ c.args.w (sym c.in-Some.is ∙ c.find.ensures))

pub returns-in-Some : goal.returns-in-Some
returns-in-Some c = write-listed _ _ _ _ _ _ _ (sym c.in-Some.is ∙ c.find.ensures) c.put_bits.ensures

pub returns-in_default : goal.returns-in_default
returns-in_default c = search (rules, write-unlisted)
