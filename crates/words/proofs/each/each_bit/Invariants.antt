use mathlib.Core.Path.{◌≡◌}
use Rattle.gates.specs.Made.{SameList}
use Rattle.words.specs.Each.{word_of, each_bit}
use Rattle.words.proofs.each.each_bit.Given as goal

abbrev pub invariant-loop-i : goal.invariant-loop-i
invariant-loop-i l = record {
  same : SameList l.initial.here l.here;
  made : word_of l.here l.out ≡ each_bit l.op l.left l.right l.i (word_of l.initial.here l.initial.out);
}
