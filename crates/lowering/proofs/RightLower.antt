-- Demand 2 of the lowering of a table without fault, with room for the sums, under any given slots that the word evaluator takes: an assignment
-- that meets the constraints exists, any two such agree on every gate, and each says every reached node's value.
use Rattle.std.specs.Prelude.{Ok}
use mathlib.Core.Path.{◌≡◌}
use mathlib.Core.List.{List}
use Prim.Native.Nat.{ℕ}
use Rattle.values.specs.Eval.{eval_words}
use Rattle.visits.specs.Claims.{Lowered}
use Rattle.visits.proofs.Values as visits
use Rattle.nodes.specs.Source.{Source}
use Rattle.nodes.specs.Recipe.{recipe}
use Rattle.lowering.specs.Lower.{start, lowered, Accepted}
use Rattle.nodes.specs.Meaning.{meaning}
use Rattle.nodes.proofs.ShapeLaws.{shape}
use Rattle.nodes.proofs.Owed.{reads_owed, writes-owed}
use Rattle.lowering.proofs.StartLaws.{starts}
use Rattle.lowering.proofs.VisitFacts.{own-steps}
use Rattle.nodes.proofs.Meaning.{done-evaluated}
use Rattle.nodes.proofs.RightOwn.{own-right}

pub right : (S : Source) (g c m : List ℕ) → Accepted S g c m → (v : List ℕ) → (eval_words S.table S.addrs S.word v).answer ≡ Ok tt
    → Lowered (recipe S) (meaning S (eval_words S.table S.addrs S.word v).values) (lowered S g c)
right S g c m a v e =
    visits.lowered (shape S a.clear) (own-steps S a.clear) (own-right (done-evaluated S v e) (reads_owed S a.clear) (writes-owed S a.clear))
    (start S g c) (starts S g c a.gates a.constraints)
