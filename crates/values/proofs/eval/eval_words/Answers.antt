use Rattle.std.proofs.Common.{arith, sym, ◌∙◌}
use Rattle.table.proofs.Whole.{checked}
use Rattle.values.proofs.eval.eval_words.Goals as goal

pub eval_clear-requires : goal.eval_clear-requires
eval_clear-requires c = record { fine = checked _ _ _ (sym c.in_ok-check_table.was ∙ c.check_table.ensures); in_bounds = omega arith }
