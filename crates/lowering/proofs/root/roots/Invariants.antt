use mathlib.Core.Path.{◌≡◌}
use Prim.Native.Nat.{◌+◌}
use lib.ListN.{length}
use Rattle.loops.specs.Loop.{iter}
use Rattle.table.specs.Node.{nodes}
use Rattle.visits.specs.Flow.{root_step}
use Rattle.division.specs.Rows.{SameLists}
use Rattle.nodes.specs.Laid.{source_of}
use Rattle.nodes.specs.Recipe.{recipe}
use Rattle.lowering.specs.Visit.{Goes, low_of}
use Rattle.lowering.proofs.root.roots.Given as goal

abbrev pub invariant-loop-k : goal.invariant-loop-k
invariant-loop-k l = record {
  same : SameLists l.initial.lists l.lists;
  marks : length l.initial.seen ≡ nodes l.laid.table.now + 1;
  goes : Goes (source_of l.laid) l.laid.offs.now 0 0 (low_of l.lists l.map l.seen);
  made : low_of l.lists l.map l.seen ≡ iter l.k (root_step (recipe (source_of l.laid))) (low_of l.initial.lists l.initial.map l.initial.seen);
}
