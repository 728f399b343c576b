use mathlib.Core.Path.{◌≡◌}
use Rattle.gates.specs.Made.{SameList}
use Rattle.division.specs.Pair.{pair_of, pair_words}
use Rattle.division.proofs.pair.pair_words.Given as goal

abbrev pub invariant-loop-i : goal.invariant-loop-i
invariant-loop-i l = record {
  same : SameList l.initial.list l.list;
  made : pair_of l.list l.quot l.rem ≡ pair_words l.i l.node (pair_of l.initial.list l.initial.quot l.initial.rem);
}
