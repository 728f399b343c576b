-- What the proof of the lowering from the bad nodes cites.
use mathlib.Core.Path.{◌≡◌, refl, ap, sym, ◌∙◌, subst}
use mathlib.Core.List.{List}
use Prim.Native.Nat.{ℕ, suc, ◌+◌, ◌≤◌, ◌<◌}
use native.Mathlib.Omega.{arith}
use lib.ListN.{length, replicate}
use borrow.Author.Tests.{eq-eqb, ne_eqb}
use Rattle.loops.specs.Loop.{iter}
use Rattle.loops.proofs.Loop.{pick_true, pick-false, by-pick}
use Rattle.table.specs.declared.Node.{Node}
use Rattle.table.specs.Kind.{BAD}
use Rattle.table.specs.Node.{nodes}
use Rattle.netlist.specs.Record.{gate, put, Room}
use Rattle.visits.specs.Flow.{Low, root_step, lower_to}
use Rattle.visits.specs.Claims.{Start, left}
use Rattle.visits.proofs.Roots.{start_left, start-fit}
use Rattle.division.specs.declared.lists.Lists.{Lists}
use Rattle.division.specs.Constraint.{Cons, cons_of, cons_in}
use Rattle.gates.specs.declared.list.GateList.{GateList}
use Rattle.gates.specs.Made.{MadeBit, net_of, made_of, added}
use Rattle.netlist.specs.Net.{Net}
use Rattle.nodes.specs.Source.{Source, node_of, gates_of, total_of}
use Rattle.nodes.specs.Recipe.{recipe}
use Rattle.lowering.specs.Lower.{start, UNREACHED, counted, made_low}
use Rattle.division.specs.declared.constraint.ConstraintList.{ConstraintList}
use Rattle.lowering.specs.Visit.{Goes, Begins, Visits, lists_of, low_of}
use Rattle.lowering.proofs.StartLaws.{starts, gates-sum}
use Rattle.lowering.proofs.VisitFacts.{goes-visited}
use Rattle.lowering.proofs.Caps.{gates-cap}

-- node k, bad or not
module _ (S : Source) (k : ℕ) (d : Node) (same : d ≡ node_of S k) (s : Low) where
  kind : (node_of S k).kind ≡ d.kind
  kind = ap (λ (x : Node). x.kind) (sym same)

  pub root-skip : (d.kind ≡ BAD → ⊥) → s ≡ root_step (recipe S) k s
  unfolding root_step
  root-skip h = sym (pick-false _ _ _ (ne_eqb (node_of S k).kind BAD (λ e. h (sym kind ∙ e))))

  pub root-visit : d.kind ≡ BAD → (t : Low) → Visits S k s t → t ≡ root_step (recipe S) k s
  unfolding root_step
  root-visit e t v = v (suc k) (omega arith) ∙ sym (pick_true _ _ _ (eq-eqb (node_of S k).kind BAD (kind ∙ e)))

-- any of them leaves as much room as before
pub goes-root : {S : Source} {o : List ℕ} {s : Low} (k : ℕ) (t : Low) → Goes S o 0 0 s → k ≤ nodes S.table → t ≡ root_step (recipe S) k s → Goes S o 0 0 t
unfolding root_step
goes-root {S} {o} {s} k t h le e =
    subst (λ (x : Low). Goes S o 0 0 x) (sym e) (by-pick (λ x. Goes S o 0 0 x) _ _ _ (λ _. goes-visited k h le refl) (λ _. h))

pub all-roots : (S : Source) (s t : Low) (i : ℕ) → i ≤ nodes S.table + 1 → (i < nodes S.table + 1 → ⊥) → t ≡ iter i (root_step (recipe S)) s → t ≡ lower_to (recipe S) s
unfolding lower_to
all-roots S s t i le ge e = let q : i ≡ nodes S.table + 1 = omega arith in rw q at e

-- the two constants
abbrev pub constants : List ℕ → Net
constants g = record { gates = put (put g 0 (gate 0 0 0 0)) 1 (gate 1 0 0 0); n = 2 }

pub two-constants : (g : List ℕ) (l1 l2 : GateList) (b1 b2 : ℕ) → made_of l1 b1 ≡ added (record { gates = g; n = 0 }) (gate 0 0 0 0) → made_of l2 b2 ≡ added (net_of l1) (gate 1 0 0 0)
    → net_of l2 ≡ constants g
unfolding added
two-constants g l1 l2 b1 b2 e f = ap (λ (m : MadeBit). m.net) f ∙ ap (λ (m : MadeBit). (added m.net (gate 1 0 0 0)).net) e

-- where it begins: the two lists with the two constants, the map and the marks filled
module _ (S : Source) (o g c m z : List ℕ) (h : Begins S o g c m z) where
  pub room-two : Room g 2 × (2 < 4294967296)
  room-two = (omega (arith, h.gates, gates-sum S), omega arith)

  module _ (l : Lists) (m1 z1 : List ℕ) (en : net_of l.gates ≡ constants g) (ec : cons_in l.cons ≡ cons_of c 0) (em : m1 ≡ replicate (length m) UNREACHED) (ez : z1 ≡ replicate (length z) 0) where
    pub begin-is : low_of l m1 z1 ≡ start S g c
    unfolding start
    begin-is =
        rw (em, ez, h.mapped, h.marked)
        (ap {B = Low} (λ (s : Net). from s (cons_in l.cons)) en ∙ ap {B = Low} (λ (k : Cons). from (constants g) k) ec)
      where
        from : Net → Cons → Low
        from s k = record { core = record { net = s; cons = k.list; nc = k.m; map = replicate (total_of S) UNREACHED }; seen = replicate (nodes S.table + 1) 0 }

    pub begin-goes : Goes S o 0 0 (low_of l m1 z1)
    begin-goes =
        let s : Start (recipe S) (start S g c) = starts S g c h.gates h.constraints in
        let f = start-fit s in
        let cap : (start S g c).core.net.n + 0 + left (gates_of S) 0 (start S g c).seen < 4294967296 =
        omega (arith, s.two, start_left s (gates_of S), gates-sum S, gates-cap S.table S.addrs S.word h.clear) in
        subst (λ (x : Low). Goes S o 0 0 x) (sym begin-is)
        (record { clear = h.clear; offsets = h.offsets; mapped = s.mapped; marked = s.nodes; room = f.room; cap = cap; asks = f.room_asks })

    pub from_start : (t : Low) → t ≡ lower_to (recipe S) (low_of l m1 z1) → t ≡ lower_to (recipe S) (start S g c)
    from_start t e = e ∙ ap (lower_to (recipe S)) begin-is

-- the lent buffers hold what the two lists say
pub buffers : (m z : List ℕ) (l : GateList) (k : ConstraintList) (t : Low) → low_of (lists_of l k) m z ≡ t → (g c : List ℕ) → g ≡ l.records.now → c ≡ k.pairs.now
    → made_low (counted l.n k.m) g c m z ≡ t
buffers m z l k t e g c p q = rw (p, q) e
