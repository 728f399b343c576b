-- What the proof of the visits cites: which state they go on from, and what one node's visits make of it.
use Rattle.std.specs.Prelude.{Ok}
use mathlib.Core.Path.{◌≡◌, ap, sym, ◌∙◌, subst}
use mathlib.Core.List.{List}
use mathlib.Core.Bool.{◌&&◌}
use Prim.Native.Nat.{ℕ, suc, ◌≤◌, ◌<◌}
use native.Mathlib.Omega.{arith}
use lib.Dec.{eqb}
use lib.ListN.{length, get_or, set, length-set}
use Rattle.loops.specs.Loop.{pick}
use Rattle.table.specs.declared.Node.{Node}
use Rattle.table.specs.Kind.{ITE}
use Rattle.table.specs.Node.{nodes}
use Rattle.table.specs.Sheet.{table_fault}
use Rattle.netlist.specs.Bit.{is_known}
use Rattle.visits.specs.Flow.{Core, Low, visit_to}
use Rattle.visits.specs.Claims.{Is, OwnLaw}
use Rattle.visits.proofs.Marks.{positive, left-marked}
use Rattle.visits.proofs.Later.{Later, Sound, visit-later}
use Rattle.visits.proofs.Paths.{enter-done}
use Rattle.nodes.specs.Source.{Source, node_of, gates_of, asks_of, second_of, third_of}
use Rattle.nodes.specs.Own.{own_step}
use Rattle.nodes.specs.Recipe.{recipe}
use Rattle.nodes.specs.Asked.{Stands, Owns}
use Rattle.lowering.specs.Visit.{Goes, Visits, Enters}
use Rattle.nodes.proofs.ShapeLaws.{shape}
use Rattle.nodes.proofs.OwnLaws.{own-law}
use Rattle.nodes.proofs.Owed.{reads_owed, writes-owed}
use Rattle.nodes.proofs.Facts.{cond-asks, second-path, third-path}

-- the law of every own step, with nothing left to owe
pub own-steps : (S : Source) → table_fault S.table S.addrs S.word ≡ Ok tt → OwnLaw (recipe S)
own-steps S clear = own-law S clear (reads_owed S clear) (writes-owed S clear)

pub goes-less : {S : Source} {o : List ℕ} {e f : ℕ} {s : Low} → Goes S o e f s → Goes S o 0 0 s
goes-less h =
    record {
      clear = h.clear;
      offsets = h.offsets;
      mapped = h.mapped;
      marked = h.marked;
      room = omega (arith, h.room);
      cap = omega (arith, h.cap);
      asks = omega (arith, h.asks);
    }

-- after a visit there is as much room as before
pub goes-visited : {S : Source} {o : List ℕ} {e f : ℕ} {s t : Low} (k : ℕ) → Goes S o e f s → k ≤ nodes S.table → t ≡ visit_to (suc k) (recipe S) k s → Goes S o e f t
goes-visited {S} {o} {e} {f} {s} {t} k h le v =
    let d : Sound (recipe S) s = record { mapped = h.mapped; nodes = h.marked } in
    let l : Later (recipe S) k 0 0 s t = subst (λ (x : Low). Later (recipe S) k 0 0 s x) (sym v) (visit-later (shape S h.clear) (own-steps S h.clear) (suc k) k s d (omega arith)) in
    record {
      clear = h.clear;
      offsets = h.offsets;
      mapped = l.map_long ∙ h.mapped;
      marked = l.seen_long ∙ h.marked;
      room = omega (arith, h.room, l.paid, l.long);
      cap = omega (arith, h.cap, l.paid);
      asks = omega (arith, h.asks, l.cons_paid, l.cons_long);
    }

goes-visit : {S : Source} {o : List ℕ} {e f : ℕ} {s t : Low} (k : ℕ) → Goes S o e f s → k ≤ nodes S.table → Visits S k s t → Goes S o e f t
goes-visit k h le v = goes-visited k h le (v (suc k) (omega arith))

-- a node that is marked has its own ceilings as room
pub goes-mark : {S : Source} {o : List ℕ} {s : Low} (k : ℕ) → Goes S o 0 0 s → k ≤ nodes S.table → (get_or s.seen k 0 ≡ 1 → ⊥)
    → Goes S o (gates_of S k) (asks_of S k) (record { core = s.core; seen = set s.seen k 1 })
goes-mark {S} {o} {s} k h le un =
    let lt : k < length s.seen = omega (arith, h.marked) in
    record {
      clear = h.clear;
      offsets = h.offsets;
      mapped = h.mapped;
      marked = length-set s.seen k 1 ∙ h.marked;
      room = omega (arith, h.room, left-marked (gates_of S) s.seen k lt un);
      cap = omega (arith, h.cap, left-marked (gates_of S) s.seen k lt un);
      asks = omega (arith, h.asks, left-marked (asks_of S) s.seen k lt un);
    }

pub is-node : (S : Source) (k : ℕ) → k ≤ nodes S.table → (k ≡ 0 → ⊥) → Is (recipe S) k
is-node S k le nz = record { low = positive k nz; high = omega arith }

-- node k, its operands one after the other
module _ (S : Source) (o : List ℕ) (k : ℕ) (is : Is (recipe S) k) (d : Node) (same : d ≡ node_of S k) (s : Low) (h : Goes S o (gates_of S k) (asks_of S k) s) where
  stands : {t : Low} → Goes S o (gates_of S k) (asks_of S k) t → Stands S o (length t.core.map) k
  stands g = record { clear = g.clear; is = is; offsets = g.offsets; mapped = g.mapped }

  pub first-less : d.a < k
  first-less = rw same ((shape S h.clear).first k is)

  inside : {x : ℕ} → x < k → x ≤ nodes S.table
  inside l = omega (arith, l, is.high)

  pub first-asks : Goes S o 0 0 s × (d.a ≤ nodes S.table)
  first-asks = (goes-less h, inside first-less)

  module _ (s1 : Low) (v1 : Visits S d.a s s1) where
    goes1 : Goes S o (gates_of S k) (asks_of S k) s1
    goes1 = goes-visit d.a h (inside first-less) v1

    pub cond-asks1 : d.kind ≡ ITE → (d.a < length o) × (get_or o d.a 0 < length s1.core.map)
    cond-asks1 = cond-asks S o (length s1.core.map) k (stands goes1) d same

    module _ (cond1 : ℕ) (c1 : cond1 ≡ pick (eqb d.kind ITE) (get_or s1.core.map (get_or o d.a 0) 0) 0) (b : ℕ) (eb : b ≡ pick (eqb d.kind ITE && eqb cond1 0) d.c d.b) where
      second_is : b ≡ second_of S s1.core.map k
      second_is = second-path S o (length s1.core.map) k (stands goes1) d same s1.core.map cond1 c1 b eb

      pub second-less : b < k
      second-less = rw second_is ((shape S h.clear).second s1.core.map k is)

      pub second-asks : Goes S o 0 0 s1 × (b ≤ nodes S.table)
      second-asks = (goes-less goes1, inside second-less)

      module _ (s2 : Low) (v2 : Visits S b s1 s2) where
        goes2 : Goes S o (gates_of S k) (asks_of S k) s2
        goes2 = goes-visit b goes1 (inside second-less) v2

        pub cond-asks2 : d.kind ≡ ITE → (d.a < length o) × (get_or o d.a 0 < length s2.core.map)
        cond-asks2 = cond-asks S o (length s2.core.map) k (stands goes2) d same

        module _ (cond2 : ℕ) (c2 : cond2 ≡ pick (eqb d.kind ITE) (get_or s2.core.map (get_or o d.a 0) 0) 0) (c : ℕ) (ec : c ≡ pick (eqb d.kind ITE && is_known cond2) 0 d.c) where
          third-is : c ≡ third_of S s2.core.map k
          third-is = third-path S o (length s2.core.map) k (stands goes2) d same s2.core.map cond2 c2 c ec

          pub third-less : c < k
          third-less = rw third-is ((shape S h.clear).third s2.core.map k is)

          pub third-asks : Goes S o 0 0 s2 × (c ≤ nodes S.table)
          third-asks = (goes-less goes2, inside third-less)

          module _ (s3 : Low) (v3 : Visits S c s2 s3) where
            goes3 : Goes S o (gates_of S k) (asks_of S k) s3
            goes3 = goes-visit c goes2 (inside third-less) v3

            pub own-asks : Owns S o k s3.core
            own-asks = record { stands = stands goes3; room = omega (arith, goes3.room); cap = omega (arith, goes3.cap); asks = omega (arith, goes3.asks) }

            pub entered : (r : Core) → r ≡ own_step S k s3.core → Enters S k s (record { core = r; seen = s3.seen })
            entered r e = λ f le.
                enter-done (recipe S) k (visit_to f (recipe S)) s s1 s2 s3 r (ap (λ (x : Node). x.a) same) (v1 f (omega (arith, first-less, le))) second_is (v2 f (omega (arith, second-less, le))) third-is
                (v3 f (omega (arith, third-less, le))) e
