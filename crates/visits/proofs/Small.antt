-- Demand 3 over the whole lowering.
use mathlib.Core.Path.{◌≡◌, refl, sym, ap, ◌∙◌, subst}
use mathlib.Core.List.{List}
use mathlib.Core.Bool.{true, false}
use mathlib.Core.Logic.{◌⊎◌, inl, inr}
use Prim.Native.Nat.{ℕ, ◌+◌, ◌*◌, ◌≤◌, ◌<◌}
use native.Mathlib.Omega.{arith}
use lib.ListN.{length, get_or}
use Rattle.gates.specs.Law.{Formed}
use Rattle.visits.specs.Flow.{Low, Recipe, owned, mark, lower_to}
use Rattle.visits.specs.Claims.{Same, Seen, Is, Under, Asked, Operands, Shape, Step, OwnLaw, Ready, Start, Small, Reached, root, by_first, by-second, by-third, left, spent, sum_from}
use Rattle.visits.proofs.Marks.{spent-left, positive}
use Rattle.visits.proofs.Later.{Later}
use native.Mathlib.Decide.{ℕ_discrete, dec_lt}
use Rattle.visits.proofs.Walk.{Can, Invariant, Holds}
use Rattle.visits.proofs.Later.{frame_same}
use Rattle.visits.proofs.Roots.{Rooted, rooted, start_left}

-- nothing given is seen
abbrev pub NoGiven : Recipe → Low → Type 0
NoGiven R s = (k : ℕ) → Is R k → Seen s k → R.given k ≡ false

pub record WholeNet (R : Recipe) (s : Low) : Type 0 where
  pub formed : Formed s.core.net
  pub asked : (i : ℕ) → i < s.core.nc → Asked s.core i
  pub known : NoGiven R s → (s.core.net.n ≡ 2) × (s.core.nc ≡ 0)

pub record NodeNet (R : Recipe) (s : Low) (k : ℕ) : Type 0 where
  pub below : Under R s.core.net.n s.core.map k
  pub known : NoGiven R s → Under R 2 s.core.map k
  pub closed : Operands R s.core.map k (Seen s)

pub under_same : (R : Recipe) (m t : List ℕ) (k : ℕ) {b c : ℕ} → b ≤ c → Same R m t k → Under R b m k → Under R c t k
under_same R m t k le h u j lt = omega (arith, h j lt, u j lt)

pub operands-map : {R : Recipe} {m : List ℕ} {k : ℕ} {P Q : ℕ → Type 0} → ((j : ℕ) → P j → Q j) → Operands R m k P → Operands R m k Q
operands-map f o = record { first = λ h. f _ (o.first h); second = λ h. f _ (o.second h); third = λ h. f _ (o.third h) }

pub ready_of : {R : Recipe} {k : ℕ} {s : Low} → Can R k s → WholeNet R s → Operands R s.core.map k (NodeNet R s) → Ready R k s.core
ready_of c g o =
    record { is = c.is; mapped = c.mapped; room = c.room; room_asks = c.room_asks; formed = g.formed; below = operands-map (λ j p. p.below) o }

-- below the node j, what is seen keeps its bits
abbrev Lower : Recipe → ℕ → Low → Low → Type 0
Lower R j s t = (x : ℕ) → x < j → Seen s x → Same R s.core.map t.core.map x

module _ {R : Recipe} (sh : Shape R) (law : OwnLaw R) where
  -- an operand that is seen, or none, stays
  operand_same : (j x : ℕ) (s t : Low) → Lower R j s t → x < j → ((x ≡ 0 → ⊥) → Seen s x) → Same R s.core.map t.core.map x
  operand_same j x s t st le z = go (ℕ_discrete x 0)
    where
      go : Dec (x ≡ 0) → Same R s.core.map t.core.map x
      go (yes q) = λ i li. absurd (omega (arith, sh.none, subst (λ (y : ℕ). i < R.bits y) q li))
      go (no q) = st x le (z q)

  closed-keep : (j : ℕ) (s t : Low) → Is R j → Lower R j s t → ((x : ℕ) → Seen s x → Seen t x) → Operands R s.core.map j (Seen s) → Operands R t.core.map j (Seen t)
  closed-keep j s t is st grown o =
      let h : Same R s.core.map t.core.map (R.first j) = operand_same j (R.first j) s t st (sh.first j is) o.first in
      let b : R.second t.core.map j ≡ R.second s.core.map j = sh.second-same s.core.map t.core.map j is h in
      let c : R.third t.core.map j ≡ R.third s.core.map j = sh.third-same s.core.map t.core.map j is h in
      record {
        first = λ q. grown (R.first j) (o.first q);
        second = subst (λ (x : ℕ). (x ≡ 0 → ⊥) → Seen t x) (sym b) (λ q. grown (R.second s.core.map j) (o.second q));
        third = subst (λ (x : ℕ). (x ≡ 0 → ⊥) → Seen t x) (sym c) (λ q. grown (R.third s.core.map j) (o.third q));
      }

  pub net-own : (k : ℕ) (s : Low) → Can R k s → WholeNet R s → Operands R s.core.map k (Seen s) → Operands R s.core.map k (NodeNet R s)
      → WholeNet R (owned R k s) × NodeNet R (owned R k s) k
  unfolding owned
  net-own k s c g sn o =
      let r : Ready R k s.core = ready_of c g o in
      let st : Step R k s.core (R.own k s.core) = law k s.core c.is c.mapped in
      let stays : Lower R k s (owned R k s) = λ x lx sx. frame_same sh c.is.high st.frame x (omega (arith, c.is.high)) (omega arith) in
      let f : Formed (R.own k s.core).net × Under R (R.own k s.core).net.n (R.own k s.core).map k = st.formed r in
      let q : NoGiven R s → ((R.own k s.core).net.n ≡ s.core.net.n) × ((R.own k s.core).nc ≡ s.core.nc) × Under R 2 (R.own k s.core).map k =
      λ no. st.known r (no k c.is c.seen) (operands-map (λ j p. p.known no) o) in
      (record { formed = f.0; asked = λ i hi. asked-at st r i hi (dec_lt i s.core.nc); known = λ no. ((q no).0 ∙ (g.known no).0, (q no).1 ∙ (g.known no).1) }, record { below = f.1; known = λ no. (q no).2; closed = closed-keep k s (owned R k s) c.is stays (λ x h. h) sn })
    where
      asked-at : Step R k s.core (R.own k s.core) → Ready R k s.core → (i : ℕ) → i < (R.own k s.core).nc → Dec (i < s.core.nc) → Asked (R.own k s.core) i
      asked-at st r i hi (yes h) =
          let a : Asked s.core i = g.asked i h in
          let p : get_or (R.own k s.core).cons (2 * i) 0 ≡ get_or s.core.cons (2 * i) 0 = st.frame.cons_same (2 * i) (omega arith) in
          let q : get_or (R.own k s.core).cons (2 * i + 1) 0 ≡ get_or s.core.cons (2 * i + 1) 0 = st.frame.cons_same (2 * i + 1) (omega arith) in
          (omega (arith, a.0, p, st.frame.grows.from), omega (arith, a.1, q))
      asked-at st r i hi (no h) = st.asked r i (omega arith) hi

  pub net-invariant : Invariant R (WholeNet R) (NodeNet R)
  unfolding mark
  net-invariant =
      record {
        keep = λ j s t is sj l st p.
            let lower : Lower R j s t = λ x lx sx. st x (omega (arith, is.high)) (omega arith) sx in
            let h : Same R s.core.map t.core.map j = st j is.high (omega arith) sj in
            record { closed = closed-keep j s t is lower l.grown p.closed; below = under_same R s.core.map t.core.map j l.from h p.below; known = λ no. under_same R s.core.map t.core.map j (omega arith) h (p.known (λ k is z. no k is (l.grown k z))) };
        marks = λ k s l g. record { formed = g.formed; asked = g.asked; known = λ no. g.known (λ j is z. no j is (l.grown j z)) };
        owns = net-own;
      }

  pub start-net : {s : Low} → Start R s → WholeNet R s
  start-net h = record { formed = h.formed; asked = λ i hi. absurd (omega (arith, h.zero)); known = λ _. (h.two, h.zero) }

  -- what is closed under reading and has the bad nodes has all that are reached
  pub seen-reached : (t : Low) → ((k : ℕ) → Is R k → k < R.size → R.bad k ≡ true → Seen t k) → ((k : ℕ) → Is R k → Seen t k → Operands R t.core.map k (Seen t))
      → (k : ℕ) → Reached R t.core.map k → Is R k × Seen t k
  seen-reached t bads closed k (root is b) = (is, bads k is is.high b)
  seen-reached t bads closed k (by_first {k = p} r q nz) = go (seen-reached t bads closed p r)
    where
      go : Is R p × Seen t p → Is R k × Seen t k
      go z = (
        record { low = positive k nz; high = omega (arith, z.0.high, sh.first p z.0, q) },
        subst (λ (x : ℕ). Seen t x) (sym q) ((closed p z.0 z.1).first (λ e. nz (q ∙ e))),
      )
  seen-reached t bads closed k (by-second {k = p} r q nz) = go (seen-reached t bads closed p r)
    where
      go : Is R p × Seen t p → Is R k × Seen t k
      go z = (
        record { low = positive k nz; high = omega (arith, z.0.high, sh.second t.core.map p z.0, q) },
        subst (λ (x : ℕ). Seen t x) (sym q) ((closed p z.0 z.1).second (λ e. nz (q ∙ e))),
      )
  seen-reached t bads closed k (by-third {k = p} r q nz) = go (seen-reached t bads closed p r)
    where
      go : Is R p × Seen t p → Is R k × Seen t k
      go z = (
        record { low = positive k nz; high = omega (arith, z.0.high, sh.third t.core.map p z.0, q) },
        subst (λ (x : ℕ). Seen t x) (sym q) ((closed p z.0 z.1).third (λ e. nz (q ∙ e))),
      )

  -- what is seen has paid
  pub small : (s : Low) → Start R s → Small R s (lower_to R s)
  small s start =
      let t : Low = lower_to R s in
      let r : Rooted sh law net-invariant s start (start-net start) R.size t = rooted sh law net-invariant s start (start-net start) in
      let h : Holds R (WholeNet R) (NodeNet R) R.size t = r.holds in
      let len : length t.seen ≡ R.size = r.later.seen_long ∙ start.nodes in
      let sums : (c : ℕ → ℕ) → spent c 0 t.seen + left c 0 t.seen ≡ sum_from c 0 R.size = λ c. spent-left c 0 t.seen ∙ ap (sum_from c 0) len in
      record {
        formed = h.all.formed;
        asked = h.all.asked;
        gates = omega (arith, r.later.paid, sums R.gates, start_left start R.gates, start.two);
        asks = omega (arith, r.later.cons_paid, sums R.asks, start_left start R.asks, start.zero);
        below = λ k is q. (h.each k is is.high q).below;
        known = λ no. ((h.all.known no).0, (h.all.known no).1, λ k is q. (h.each k is is.high q).known no);
        bad = λ k is b. r.bad k is is.high b;
        closed = λ k is q. (h.each k is is.high q).closed;
        reached = λ k is. (r.reached t (λ x hx lx sx j lj. refl) k, λ q. (seen-reached t r.bad (λ j ij sj. (h.each j ij ij.high sj).closed) k q).1);
        gates_rest = r.later.gates_rest;
        cons_rest = r.later.cons_rest;
        unseen = λ k is un. r.later.same k is.high (unseen-mark r.later k un);
      }
    where
      unseen-mark : Later R R.size 0 0 s (lower_to R s) → (k : ℕ) → (Seen (lower_to R s) k → ⊥) → get_or (lower_to R s).seen k 0 ≡ get_or s.seen k 0
      unseen-mark l k un = go (l.marks k)
        where
          go : (get_or (lower_to R s).seen k 0 ≡ get_or s.seen k 0) ⊎ ((get_or (lower_to R s).seen k 0 ≡ 1) × (k ≤ R.size)) → get_or (lower_to R s).seen k 0 ≡ get_or s.seen k 0
          go (inl q) = q
          go (inr q) = absurd (un q.0)
