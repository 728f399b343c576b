use mathlib.Core.Path.{◌≡◌}
use Rattle.loops.specs.Loop.{iter}
use Rattle.division.specs.Rows.{checked_of, row_step, SameLists}
use Rattle.division.proofs.rows.div_rows.Given as goal

abbrev pub invariant-loop-i : goal.invariant-loop-i
invariant-loop-i l = record {
  same : SameLists l.initial.lists l.lists;
  made : checked_of l.lists l.sum ≡ iter l.i (row_step l.w l.quot l.den) (checked_of l.initial.lists l.initial.sum);
}
