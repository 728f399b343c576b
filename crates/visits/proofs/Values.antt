-- Demand 2 over the whole lowering.
use mathlib.Core.Path.{◌≡◌, sym, ap, ◌∙◌, subst}
use mathlib.Core.List.{List}
use mathlib.Core.Bool.{Bool, true, false}
use Prim.Native.Nat.{ℕ, zero, suc, ◌+◌, ◌*◌, ◌<◌}
use native.Mathlib.Omega.{arith}
use native.Mathlib.Decide.{dec_lt}
use lib.Dec.{eqb}
use lib.ListN.{get_or}
use borrow.Author.Tests.{eq-eqb}
use Rattle.netlist.specs.Net.{Net, Assign, Says, Obeys}
use Rattle.netlist.specs.declared.record.Gate.{Gate}
use Rattle.netlist.specs.Record.{gate_at, Room}
use Rattle.loops.specs.Loop.{pick}
use Rattle.netlist.specs.Kind.{free}
use Rattle.gates.specs.Law.{Formed}
use Rattle.gates.proofs.FormedLaws.{one-assignment, solved, solved-obeys, solved-given}
use Rattle.visits.specs.Flow.{Core, Low, Recipe, owned, mark, lower_to}
use Rattle.visits.specs.Claims.{Same, Seen, Is, Meaning, Right, free_value, Frees, Considered, Met, Operands, Reached, Shape, OwnLaw, OwnRight, Fine, Ready, Start, Lowered}
use Rattle.visits.proofs.Marks.{contrary}
use Rattle.visits.proofs.Walk.{Kept, kept-own, Can, Invariant, Holds, Fit, fit-later}
use Rattle.visits.proofs.Roots.{Rooted, rooted, start-fit}
use Rattle.visits.proofs.Small.{WholeNet, NodeNet, operands-map, ready_of, net-own, net-invariant, start-net, seen-reached}

-- what obeys a longer net obeys the shorter
pub obeys-kept : {s t : Low} {e : Assign} → Kept s t → Obeys t.core.net e → Obeys s.core.net e
obeys-kept {s} {t} {e} l o =
    record {
      low = o.low;
      high = o.high;
      room = omega (arith, o.room, l.from, l.long);
      says = λ i h. subst (λ (g : Gate). Says g e (e i)) (l.gate i h) (o.says i (omega (arith, l.from)));
    }

module _ (M : Meaning) (e : Assign) {s t : Low} (l : Kept s t) where
  pub considered-kept : Considered M t.core.net e → Considered M s.core.net e
  considered-kept c =
      record {
        obeys = obeys-kept l c.obeys;
        inputs = λ g h. subst (λ (x : Gate). x.kind ≡ 2 → e g ≡ M.value x.x x.y) (l.gate g h) (c.inputs g (omega (arith, l.from)));
      }

  pub met-kept : Met t.core 0 e → Met s.core 0 e
  met-kept m i lo hi =
      let p : get_or t.core.cons (2 * i) 0 ≡ get_or s.core.cons (2 * i) 0 = l.cons_same (2 * i) (omega arith) in
      let q : get_or t.core.cons (2 * i + 1) 0 ≡ get_or s.core.cons (2 * i + 1) 0 = l.cons_same (2 * i + 1) (omega arith) in
      rw (← p, ← q) (m i lo (omega (arith, l.cons_from)))

  pub met-more : Met s.core 0 e → Met t.core s.core.nc e → Met t.core 0 e
  met-more old new i lo hi = go (dec_lt i s.core.nc)
    where
      go : Dec (i < s.core.nc) → e (get_or t.core.cons (2 * i) 0) ≡ eqb (get_or t.core.cons (2 * i + 1) 0) 1
      go (yes h) = rw (l.cons_same (2 * i) (omega arith), l.cons_same (2 * i + 1) (omega arith)) (old i lo h)
      go (no h) = new i (omega arith) hi

  pub frees-kept : Frees M t.core.net 0 e → Frees M s.core.net 0 e
  frees-kept f g lo hi =
      subst (λ (x : Gate). free x.kind ≡ true → e g ≡ free_value M x) (l.gate g hi) (f g lo (omega (arith, l.from)))

  pub frees-more : Frees M s.core.net 0 e → Frees M t.core.net s.core.net.n e → Frees M t.core.net 0 e
  frees-more old new g lo hi = go (dec_lt g s.core.net.n)
    where
      go : Dec (g < s.core.net.n) → free (gate_at t.core.net.gates g).kind ≡ true → e g ≡ free_value M (gate_at t.core.net.gates g)
      go (yes h) = subst (λ (x : Gate). free x.kind ≡ true → e g ≡ free_value M x) (sym (l.gate g h)) (old g lo h)
      go (no h) = new g (omega arith) hi

-- right free gates are right inputs
pub frees-inputs : {M : Meaning} {s : Net} {e : Assign} → Obeys s e → Frees M s 0 e → Considered M s e
unfolding free free_value pick
frees-inputs {M} {s} {e} o f = record { obeys = o; inputs = λ g h. at (gate_at s.gates g) (e g) (f g (omega arith) h) }
  where
    at : (x : Gate) (v : Bool) → (free x.kind ≡ true → v ≡ free_value M x) → x.kind ≡ 2 → v ≡ M.value x.x x.y
    at x v h k = rw (eq-eqb x.kind 2 k) at (h (rw (eq-eqb x.kind 2 k)))

-- of the whole: who meets the constraints has right free gates, and who has right free gates meets them
pub record WholeValues (M : Meaning) (s : Core) : Type 0 where
  pub full : (e : Assign) → Considered M s.net e → Met s 0 e → Frees M s.net 0 e
  pub meets : (e : Assign) → Considered M s.net e → Frees M s.net 0 e → Met s 0 e

-- of a node: under who meets the constraints, its bits are right
abbrev pub NodeValues : Recipe → Meaning → Core → ℕ → Type 0
NodeValues R M s k = (e : Assign) → Considered M s.net e → Met s 0 e → Right R M e s.map k

module _ {R : Recipe} {M : Meaning} (sh : Shape R) (law : OwnLaw R) (rights : OwnRight R M) where
  record Whole (s : Low) : Type 0 where
    pub net : WholeNet R s
    pub values : WholeValues M s.core

  record Node (s : Low) (k : ℕ) : Type 0 where
    pub net : NodeNet R s k
    pub values : NodeValues R M s.core k

  -- the node's own step
  module _ (k : ℕ) (s : Low) (c : Can R k s) (g : Whole s) (sn : Operands R s.core.map k (Seen s)) (o : Operands R s.core.map k (Node s)) where
    ready : Ready R k s.core
    ready = ready_of c g.net (operands-map (λ j p. p.net) o)

    kept : Kept s (owned R k s)
    kept = kept-own k s (law k s.core c.is c.mapped).frame

    operands-right : (e : Assign) → Considered M s.core.net e → Met s.core 0 e → Operands R s.core.map k (Right R M e s.core.map)
    operands-right e ce me = operands-map (λ j p. p.values e ce me) o

    fine : (e : Assign) → Considered M (owned R k s).core.net e → Met (owned R k s).core 0 e → Fine R M k s.core (R.own k s.core) e
    unfolding owned
    fine e ce me =
        (rights k s.core ready).sound e ce (operands-right e (considered-kept M e kept ce) (met-kept M e kept me)) (λ i lo hi. me i (omega arith) hi)

    values-own : Whole (owned R k s) × Node (owned R k s) k
    unfolding owned
    values-own =
        let nets : WholeNet R (owned R k s) × NodeNet R (owned R k s) k = net-own sh law k s c g.net sn (operands-map (λ j p. p.net) o) in
        (record { net = nets.0; values = record { full = full; meets = meets } }, record { net = nets.1; values = λ e ce me. (fine e ce me).right })
      where
        full : (e : Assign) → Considered M (owned R k s).core.net e → Met (owned R k s).core 0 e → Frees M (owned R k s).core.net 0 e
        full e ce me = frees-more M e kept (g.values.full e (considered-kept M e kept ce) (met-kept M e kept me)) (fine e ce me).frees

        meets : (e : Assign) → Considered M (owned R k s).core.net e → Frees M (owned R k s).core.net 0 e → Met (owned R k s).core 0 e
        meets e ce fe =
            let ces : Considered M s.core.net e = considered-kept M e kept ce in
            let ms : Met s.core 0 e = g.values.meets e ces (frees-kept M e kept fe) in
            met-more M e kept ms ((rights k s.core ready).complete e ce (operands-right e ces ms) (λ i lo hi. fe i (omega arith) hi))

  right-same : (e : Assign) (m t : List ℕ) (k : ℕ) → Same R m t k → Right R M e m k → Right R M e t k
  right-same e m t k h r j lt = ap e (h j lt) ∙ r j lt

  values-keep : (j : ℕ) (s t : Low) → Kept s t → Same R s.core.map t.core.map j → NodeValues R M s.core j → NodeValues R M t.core j
  values-keep j s t l h p e ce me = right-same e s.core.map t.core.map j h (p e (considered-kept M e l ce) (met-kept M e l me))

  values-invariant : Invariant R Whole Node
  unfolding mark
  values-invariant =
      record {
        keep = λ j s t is sj l st p. record { net = (net-invariant sh law).keep j s t is sj l st p.net; values = values-keep j s t l (st j is.high (omega arith) sj) p.values };
        marks = λ k s l g. record { net = (net-invariant sh law).marks k s l g.net; values = g.values };
        owns = values-own;
      }

  -- two constants, of which none is free
  start-free : {s : Low} → Start R s → (i : ℕ) → i < s.core.net.n → free (gate_at s.core.net.gates i).kind ≡ false
  unfolding free
  start-free h zero lt = rw h.formed.low
  start-free h (suc zero) lt = rw h.formed.high
  start-free h (suc (suc i)) lt = absurd (omega (arith, h.two))

  start-values : {s : Low} → Start R s → WholeValues M s.core
  start-values h =
      record { full = λ e ce me i lo hi fr. contrary fr (start-free h i hi); meets = λ e ce fe i lo hi. absurd (omega (arith, h.zero)) }

  -- the one assignment that has the right values at the free gates
  witness : (s : Net) → Formed s → Room s.gates s.n → (e : Assign) × Obeys s e × Frees M s 0 e
  witness s f room =
      let given : Assign = λ i. free_value M (gate_at s.gates i) in
      (solved s f room given, solved-obeys s f room given, λ i lo hi fr. solved-given s f room given i hi fr)

  pub lowered : (s : Low) → Start R s → Lowered R M (lower_to R s)
  lowered s start =
      let t : Low = lower_to R s in
      let g : Whole s = record { net = start-net sh law start; values = start-values start } in
      let r : Rooted sh law values-invariant s start g R.size t = rooted sh law values-invariant s start g in
      let h : Holds R Whole Node R.size t = r.holds in
      let fit : Fit R 0 0 t = fit-later (start-fit start) r.later in
      let formed : Formed t.core.net = h.all.net.formed in
      let found : (k : ℕ) → Reached R t.core.map k → Is R k × Seen t k = seen-reached sh law t r.bad (λ j ij sj. (h.each j ij ij.high sj).net.closed) in
      record {
        right = λ e ce me k q. (h.each k (found k q).0 (found k q).0.high (found k q).1).values e ce me;
        exists =
            let w : (e : Assign) × Obeys t.core.net e × Frees M t.core.net 0 e = witness t.core.net formed (omega (arith, fit.room)) in
            let ce : Considered M t.core.net w.0 = frees-inputs w.1 w.2 in
            (w.0, ce, h.all.values.meets w.0 ce w.2);
        one = λ e d ce me cd md.
            one-assignment t.core.net formed e d ce.obeys cd.obeys
            (λ j lt fr. h.all.values.full e ce me j (omega arith) lt fr ∙ sym (h.all.values.full d cd md j (omega arith) lt fr));
      }
