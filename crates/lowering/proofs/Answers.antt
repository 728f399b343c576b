-- What a caller of the lowering knows by its answer.
use Rattle.std.specs.Prelude.{Ok, Err}
use mathlib.Core.Path.{◌≡◌, refl, sym, ◌∙◌, subst}
use mathlib.Core.List.{List}
use mathlib.Core.Bool.{Bool, true, false}
use Prim.Native.Nat.{ℕ, ◌+◌, ◌≤◌, ◌<◌}
use native.Mathlib.Omega.{arith}
use lib.ListN.{length}
use Rattle.loops.proofs.Loop.{pick-false}
use Rattle.table.specs.Kind.{BAD}
use Rattle.table.specs.Node.{nodes, kind_of}
use Rattle.table.specs.Sheet.{table_fault, asks}
use Rattle.table.proofs.Whole.{asked}
use Rattle.netlist.specs.Record.{gate, put, Room}
use Rattle.netlist.proofs.RecordLaws.{put-length}
use Rattle.division.specs.Constraint.{con_used}
use Rattle.visits.specs.Claims.{Start}
use Rattle.visits.proofs.Later.{Later}
use Rattle.visits.proofs.Walk.{Fit, fit-later}
use Rattle.visits.proofs.Roots.{start-fit, rooted}
use Rattle.visits.proofs.Small.{net-invariant, start-net}
use Rattle.lowering.specs.declared.lower.Refusal.TheVariants.{NothingAsked}
use Rattle.nodes.specs.Source.{Source}
use Rattle.nodes.specs.Recipe.{recipe}
use Rattle.lowering.specs.Lower.{Answer, counted, Run, run, start, lowered, lower_asked, lower_all, Accepted}
use Rattle.nodes.proofs.ShapeLaws.{shape}
use Rattle.lowering.proofs.StartLaws.{starts}
use Rattle.lowering.proofs.VisitFacts.{own-steps}
use Rattle.lowering.proofs.PromiseLaws.{Finished, Ends, finished}

-- done: the table was accepted, what is counted lies in the lent buffers, and each node has its mark
pub record Made (S : Source) (g c m : List ℕ) (n k : ℕ) : Type 0 where
  pub accepted : Accepted S g c m
  pub gates : Room g n
  pub constraints : con_used k ≤ length c
  pub marks : length (lowered S g c).seen ≡ nodes S.table + 1

module _ (S : Source) (g c m : List ℕ) where
  start-long : (length (start S g c).core.net.gates ≡ length g) × (length (start S g c).core.cons ≡ length c)
  unfolding start
  start-long = (put-length (put g 0 (gate 0 0 0 0)) 1 (gate 1 0 0 0) ∙ put-length g 0 (gate 0 0 0 0), refl)

  module _ (a : Accepted S g c m) where
    begun : Start (recipe S) (start S g c)
    begun = starts S g c a.gates a.constraints

    later : Later (recipe S) (recipe S).size 0 0 (start S g c) (lowered S g c)
    later = (rooted (shape S a.clear) (own-steps S a.clear) (net-invariant (shape S a.clear) (own-steps S a.clear)) (start S g c) begun (start-net (shape S a.clear) (own-steps S a.clear) begun)).later

    fit : Fit (recipe S) 0 0 (lowered S g c)
    fit = fit-later (start-fit begun) later

  pub made : (n k : ℕ) (a : Answer) (g' c' m' : List ℕ) → run a g' c' m' ≡ lower_all S g c m → a ≡ Ok (counted n k) → Made S g c m n k
  made n k a g' c' m' e h =
      let f : Finished S g c m n k (run a g' c' m') = subst (λ (r : Run). Ends S g c m n k r) (sym e) (finished S g c m n k) h in
      let l = later f.accepted in
      let r = fit f.accepted in
      record {
        accepted = f.accepted;
        gates = omega (arith, r.room, l.long, start-long.0, f.count);
        constraints = omega (arith, r.room_asks, l.cons_long, start-long.1, f.asks);
        marks = l.seen_long ∙ (begun f.accepted).nodes;
      }

-- a table without fault that has no bad node is turned down, whatever is lent
module _ (S : Source) (g c m : List ℕ) (none : (i : ℕ) → i < nodes S.table → kind_of S.table (i + 1) ≡ BAD → ⊥) where
  asks_nothing : (b : Bool) → asks S.table ≡ b → asks S.table ≡ false
  asks_nothing true e = let q = asked S.table e in absurd (none q.0 q.1 q.2)
  asks_nothing false e = e

  pub turned_down : table_fault S.table S.addrs S.word ≡ Ok tt → lower_all S g c m ≡ run (Err NothingAsked) g c m
  unfolding lower_all lower_asked
  turned_down clear = rw clear (pick-false _ _ _ (asks_nothing (asks S.table) refl))
