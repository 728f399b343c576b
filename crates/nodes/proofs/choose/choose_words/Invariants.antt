use mathlib.Core.Path.{◌≡◌}
use Rattle.loops.specs.Loop.{iter}
use Rattle.gates.specs.Made.{SameList}
use Rattle.words.specs.Each.{word_of}
use Rattle.nodes.specs.Place.{placed, choices}
use Rattle.nodes.proofs.choose.choose_words.Given as goal

abbrev pub invariant-loop-i : goal.invariant-loop-i
invariant-loop-i l = record {
  same : SameList l.initial.list l.list;
  made : word_of l.list l.map ≡ iter l.i (placed l.to.off l.to.wide (choices l.cond l.a l.b l.to.wide)) (word_of l.initial.list l.initial.map);
}
