use mathlib.Core.Path.{◌≡◌}
use Rattle.division.specs.Constraint.{cons_in, constrain_each, SameCons}
use Rattle.division.proofs.constraint.ConstraintList.put_each.Given as goal

abbrev pub invariant-loop-j : goal.invariant-loop-j
invariant-loop-j l = record {
  same : SameCons l.initial.here l.here;
  put : cons_in l.here ≡ constrain_each l.bits l.value l.j (cons_in l.initial.here);
}
