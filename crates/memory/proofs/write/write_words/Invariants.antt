use mathlib.Core.Path.{◌≡◌}
use Rattle.gates.specs.Made.{SameList}
use Rattle.loops.specs.Loop.{iter}
use Rattle.words.specs.Each.{word_of}
use Rattle.memory.specs.Write.{write_step}
use Rattle.memory.proofs.write.write_words.Given as goal

abbrev pub invariant-loop-i : goal.invariant-loop-i
invariant-loop-i l = record {
  same : SameList l.initial.list l.list;
  made : word_of l.list l.mem ≡ iter l.i (write_step l.w l.addrs l.adr l.val) (word_of l.initial.list l.initial.mem);
}
