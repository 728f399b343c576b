use mathlib.Core.Path.{◌≡◌}
use lib.ListN.{length}
use Rattle.loops.specs.Loop.{iter}
use Rattle.netlist.specs.Eval.{eval_step}
use Rattle.netlist.proofs.eval.eval_all.Given as goal

abbrev pub invariant-loop-i : goal.invariant-loop-i
invariant-loop-i l = (length l.values ≡ length l.initial.values) × (l.values ≡ iter l.i (eval_step l.gates) l.initial.values)
