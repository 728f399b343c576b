use mathlib.Core.Path.{sym, ◌∙◌}
use native.Mathlib.Omega.{arith}
use borrow.Author.Rules.{rules}
use Rattle.memory.proofs.Paths.{listed-end, read-listed, read-unlisted}
use Rattle.memory.proofs.read.read_known.Goals as goal

pub overflow_mul-from : goal.overflow_mul-from
overflow_mul-from c = omega (arith, listed-end _ _ _ c.args.w (sym c.in-Some.is ∙ c.find.ensures))

pub overflow_add-from : goal.overflow_add-from
overflow_add-from c = omega (arith, listed-end _ _ _ c.args.w (sym c.in-Some.is ∙ c.find.ensures))

pub offset_bounds-mem-from : goal.offset_bounds-mem-from
offset_bounds-mem-from c = omega (arith, listed-end _ _ _ c.args.w (sym c.in-Some.is ∙ c.find.ensures))

pub slice_bounds-put_bits-end : goal.slice_bounds-put_bits-end
slice_bounds-put_bits-end c = omega (arith, listed-end _ _ _ c.args.w (sym c.in-Some.is ∙ c.find.ensures))

pub returns-in-Some : goal.returns-in-Some
returns-in-Some c = read-listed _ _ _ _ _ _ _ (sym c.in-Some.is ∙ c.find.ensures) c.put_bits.ensures

pub returns : goal.returns
returns c = search (rules, read-unlisted)
