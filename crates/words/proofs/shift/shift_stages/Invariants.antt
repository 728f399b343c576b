use mathlib.Core.Path.{◌≡◌}
use Rattle.gates.specs.Made.{SameList}
use Rattle.loops.specs.Loop.{iter}
use Rattle.words.specs.Each.{word_of}
use Rattle.words.specs.Shift.{stage}
use Rattle.words.proofs.shift.shift_stages.Given as goal

abbrev pub invariant-loop-j : goal.invariant-loop-j
invariant-loop-j l = record {
  same : SameList l.initial.list l.list;
  made : word_of l.list l.out ≡ iter l.j (stage l.to l.w l.amount) (word_of l.initial.list l.initial.out);
}
