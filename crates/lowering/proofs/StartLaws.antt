-- Where a table has no fault and the buffers have room for the sums, a lowering may begin; so it keeps demand 3.
use mathlib.Core.Path.{◌≡◌, refl, ap, ◌∙◌}
use mathlib.Core.List.{List}
use Prim.Native.Nat.{ℕ, zero, suc, ◌+◌, ◌-◌, ◌≤◌}
use native.Mathlib.Omega.{arith}
use lib.ListN.{length, get_or, replicate, length-replicate}
use borrow.Author.Tests.{ne_eqb}
use Rattle.loops.specs.Loop.{pick, sum}
use Rattle.loops.proofs.Loop.{pick-false}
use Rattle.table.specs.Node.{nodes}
use Rattle.table.specs.Ceiling.{node_gates, node_constraints, sums_of}
use Rattle.netlist.specs.Record.{gate, put, records, Room}
use Rattle.netlist.proofs.RecordLaws.{put-length, put_same, put_other}
use Rattle.gates.specs.Law.{Formed}
use Rattle.visits.specs.Claims.{sum_from, Start}
use Rattle.nodes.specs.Source.{Source, listed, gates_of, asks_of, total_of}
use Rattle.nodes.specs.Recipe.{recipe}
use Rattle.lowering.specs.Lower.{start, sums, con_records, UNREACHED}

-- the sum from a node on, with its last term apart
last-term : (c : ℕ → ℕ) (i n : ℕ) → sum_from c i (suc n) ≡ sum_from c i n + c (i + n)
unfolding sum_from
last-term c i zero = let e : i + 0 ≡ i = omega arith in rw e (omega arith)
last-term c i (suc n) =
    let e : suc i + n ≡ i + suc n = omega arith in
    let q : sum_from c (suc i) (suc n) ≡ sum_from c (suc i) n + c (suc i + n) = last-term c (suc i) n in
    let r : c (suc i + n) ≡ c (i + suc n) = ap c e in
    omega arith

-- the ceilings of all nodes are those of the table: node 0 has none, and node i + 1 is the table's i
same_sum : (c f : ℕ → ℕ) (n : ℕ) → c 0 ≡ 0 → ((i : ℕ) → c (i + 1) ≡ f i) → sum_from c 0 (n + 1) ≡ sum n f
unfolding sum_from sum
same_sum c f zero z h = omega arith
same_sum c f (suc n) z h =
    let e : suc n + 1 ≡ suc (n + 1) = omega arith in
    let t : 0 + (n + 1) ≡ n + 1 = omega arith in
    let q : sum_from c 0 (suc (n + 1)) ≡ sum_from c 0 (n + 1) + c (0 + (n + 1)) = last-term c 0 (n + 1) in
    let r : c (0 + (n + 1)) ≡ f n = ap c t ∙ h n in
    let s : sum_from c 0 (n + 1) ≡ sum n f = same_sum c f n z h in
    rw e (omega arith)

nothing : (n k : ℕ) → ◌≡◌ {A = ℕ} (get_or (replicate n 0) k 0) 0
nothing zero k = refl
nothing (suc n) zero = refl
nothing (suc n) (suc k) = nothing n k

-- the two constants alone are formed
two_formed : (g : List ℕ) → Room g 2 → Formed (record { gates = put (put g 0 (gate 0 0 0 0)) 1 (gate 1 0 0 0); n = 2 })
two_formed g room =
    record {
      two = omega arith;
      low = put_other (put g 0 (gate 0 0 0 0)) 1 (gate 1 0 0 0) 0 (omega arith) ∙ put_same g 0 (gate 0 0 0 0) (omega arith);
      high = put_same (put g 0 (gate 0 0 0 0)) 1 (gate 1 0 0 0) (omega (arith, put-length g 0 (gate 0 0 0 0)));
      good = λ i lo hi. absurd (omega arith);
    }

module _ (S : Source) where
  gates-next : (i : ℕ) → gates_of S (i + 1) ≡ node_gates S.table (listed S) S.word i
  unfolding gates_of
  gates-next i = let e : i + 1 - 1 ≡ i = omega arith in pick-false _ _ _ (ne_eqb (i + 1) 0 (λ q. omega arith)) ∙ rw e

  asks-next : (i : ℕ) → asks_of S (i + 1) ≡ node_constraints S.table i
  unfolding asks_of
  asks-next i = let e : i + 1 - 1 ≡ i = omega arith in pick-false _ _ _ (ne_eqb (i + 1) 0 (λ q. omega arith)) ∙ rw e

  none_first : (gates_of S 0 ≡ 0) × (asks_of S 0 ≡ 0)
  unfolding gates_of asks_of pick
  none_first = (refl, refl)

  -- the sums are those of refusals 7 and 9
  pub gates-sum : 2 + sum_from (gates_of S) 0 (nodes S.table + 1) ≡ (sums S).gates
  unfolding sums_of
  gates-sum = ap (λ (n : ℕ). 2 + n) (same_sum (gates_of S) (node_gates S.table (listed S) S.word) (nodes S.table) none_first.0 gates-next)

  pub asks-sum : sum_from (asks_of S) 0 (nodes S.table + 1) ≡ (sums S).constraints
  unfolding sums_of
  asks-sum = same_sum (asks_of S) (node_constraints S.table) (nodes S.table) none_first.1 asks-next

  module _ (g c : List ℕ) (gates : (sums S).gates ≤ records g) (constraints : (sums S).constraints ≤ con_records c) where
    gates-room : Room g (2 + sum_from (gates_of S) 0 (nodes S.table + 1))
    gates-room = let e = gates-sum in omega arith

    constants-long : length (put (put g 0 (gate 0 0 0 0)) 1 (gate 1 0 0 0)) ≡ length g
    constants-long = put-length (put g 0 (gate 0 0 0 0)) 1 (gate 1 0 0 0) ∙ put-length g 0 (gate 0 0 0 0)

    pub starts : Start (recipe S) (start S g c)
    unfolding start
    starts =
        record {
          mapped = length-replicate {A = ℕ} (total_of S) UNREACHED;
          nodes = length-replicate {A = ℕ} (nodes S.table + 1) 0;
          none = λ k. nothing (nodes S.table + 1) k;
          two = refl;
          formed = two_formed g (omega (arith, gates-room));
          zero = refl;
          room = omega (arith, gates-room, constants-long);
          room_asks = let e = asks-sum in omega arith;
        }
