use mathlib.Core.Path.{◌≡◌}
use Rattle.gates.specs.Made.{SameList}
use Rattle.loops.specs.Loop.{iter}
use Rattle.words.specs.Each.{word_of}
use Rattle.memory.specs.Read.{read_step}
use Rattle.memory.proofs.read.read_words.Given as goal

abbrev pub invariant-loop-i : goal.invariant-loop-i
invariant-loop-i l = record {
  same : SameList l.initial.list l.list;
  made : word_of l.list l.out ≡ iter l.i (read_step l.w l.addrs l.mem l.adr) (word_of l.initial.list l.initial.out);
}
