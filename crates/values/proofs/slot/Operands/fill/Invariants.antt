use Rattle.std.proofs.Common.{◌≡◌}
use Rattle.loops.specs.Loop.{iter}
use Rattle.values.specs.Eval.{slot_step}
use Rattle.values.proofs.slot.Operands.fill.Given as goal

abbrev pub invariant-loop-j : goal.invariant-loop-j
invariant-loop-j l = l.values ≡ iter l.j (slot_step l.addrs l.self.node l.self.v l.o l.self.a l.self.b l.self.c l.self.p) l.initial.values
