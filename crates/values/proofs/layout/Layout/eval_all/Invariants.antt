use Rattle.std.proofs.Common.{◌≡◌}
use Rattle.loops.specs.Loop.{iter}
use Rattle.values.specs.Eval.{node_step}
use Rattle.values.proofs.layout.Layout.eval_all.Given as goal

abbrev pub invariant-loop-i : goal.invariant-loop-i
invariant-loop-i l = l.values ≡ iter l.i (node_step l.self.table.now l.self.addrs.now) l.initial.values
