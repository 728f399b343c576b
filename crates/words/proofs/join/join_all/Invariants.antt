use mathlib.Core.Path.{◌≡◌}
use Rattle.gates.specs.Made.{SameList}
use Rattle.loops.specs.Loop.{iter}
use Rattle.gates.specs.Made.{net_of, made_of, kept}
use Rattle.words.specs.Join.{join_step}
use Rattle.words.proofs.join.join_all.Given as goal

abbrev pub invariant-loop-i : goal.invariant-loop-i
invariant-loop-i l = record {
  same : SameList l.initial.list l.list;
  made : made_of l.list l.joined ≡ iter l.i (join_step l.op l.bits) (kept (net_of l.initial.list) l.initial.joined);
}
