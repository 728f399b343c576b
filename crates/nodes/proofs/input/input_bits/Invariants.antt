use mathlib.Core.Path.{◌≡◌}
use Rattle.loops.specs.Loop.{iter}
use Rattle.gates.specs.Made.{SameList}
use Rattle.words.specs.Each.{word_of}
use Rattle.nodes.specs.Own.{input_step}
use Rattle.nodes.proofs.input.input_bits.Given as goal

abbrev pub invariant-loop-j : goal.invariant-loop-j
invariant-loop-j l = record {
  same : SameList l.initial.list l.list;
  made : word_of l.list l.out ≡ iter l.j (input_step l.node l.from) (word_of l.initial.list l.initial.out);
}
