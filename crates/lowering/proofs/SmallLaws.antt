-- Demand 3 of the lowering of a table without fault that asks something, with room for the sums: it is done, and what it makes is small and formed.
use Rattle.std.specs.Prelude.{Ok}
use mathlib.Core.Path.{◌≡◌, ap, ◌∙◌}
use mathlib.Core.List.{List}
use Prim.Native.Nat.{ℕ}
use lib.ListN.{length}
use borrow.Author.Tests.{le-ltb}
use Rattle.loops.proofs.Loop.{pick_true, pick-false}
use Rattle.netlist.specs.Record.{records}
use Rattle.visits.specs.Claims.{Small}
use Rattle.visits.proofs.Small as visits
use Rattle.nodes.specs.Source.{Source}
use Rattle.nodes.specs.Recipe.{recipe}
use Rattle.lowering.specs.Lower.{counted, start, lowered, sums, con_records, Run, ended, lower_clear, lower_asked, lower_all, Accepted}
use Rattle.nodes.proofs.ShapeLaws.{shape}
use Rattle.lowering.proofs.StartLaws.{starts}
use Rattle.lowering.proofs.VisitFacts.{own-steps}

module _ (S : Source) (g c m : List ℕ) (a : Accepted S g c m) where
  -- then none of the refusals 1 to 9 and 14 stands in its way
  lowers : lower_all S g c m ≡ ended S m (lowered S g c)
  unfolding lower_all lower_asked lower_clear
  lowers =
      rw a.clear
      (pick_true _ _ _ a.asked
      ∙ (pick-false _ _ _ (le-ltb (records g) (sums S).gates a.gates)
      ∙ (pick-false _ _ _ (le-ltb (length m) (sums S).map a.map)
      ∙ pick-false _ _ _ (le-ltb (con_records c) (sums S).constraints a.constraints))))

  pub done : (lower_all S g c m).answer ≡ Ok (counted (lowered S g c).core.net.n (lowered S g c).core.nc)
  unfolding ended
  done = ap (λ (r : Run). r.answer) lowers

  -- what it has made
  pub small : Small (recipe S) (start S g c) (lowered S g c)
  small = visits.small (shape S a.clear) (own-steps S a.clear) (start S g c) (starts S g c a.gates a.constraints)
