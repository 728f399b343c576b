use Rattle.std.proofs.Common.{arith, sym, ◌∙◌}
use Rattle.table.proofs.size.Laws.{stored}
use Rattle.loops.proofs.Search.{some_first}
use Rattle.values.proofs.eval.eval_clear.Goals as goal

pub offsets-room-requires : goal.offsets-room-requires
offsets-room-requires c = record { n_bound = (c.requires.fine.short, omega arith, c.requires.fine.few, c.requires.fine.narrow); table_in_bounds = omega (arith, c.requires.fine.few, c.requires.in_bounds) }

pub invariant_of-layout : goal.invariant_of-layout
invariant_of-layout c = record { ready = record { fine = c.requires.fine; offsets = stored _ _ _ _ _ _ (omega (arith, c.requires.fine.few, c.requires.in_bounds)) c.offsets-room.ensures.1 } }

pub overflow_add-result : goal.overflow_add-result
overflow_add-result c = omega (arith, (some_first _ _ _ (sym c.in-Some.is ∙ c.first_bad_input.ensures)).1, c.requires.fine.few)
