use mathlib.Core.Path.{◌≡◌}
use Rattle.gates.specs.Made.{SameList}
use Rattle.words.specs.Add.{chain_of, add_onto}
use Rattle.words.proofs.add.add_onto.Given as goal

abbrev pub invariant-loop-j : goal.invariant-loop-j
invariant-loop-j l = record {
  same : SameList l.initial.here l.here;
  made : chain_of l.here l.c l.sum ≡ add_onto l.from l.right l.j (chain_of l.initial.here l.initial.c l.initial.sum);
}
