-- What a visit keeps, room or not: older gates, constraints, bits and marks; and that each node seen pays for its own gates.
use mathlib.Core.Path.{◌≡◌, refl, sym, ap, ◌∙◌}
use mathlib.Core.Logic.{◌⊎◌, inl, inr}
use Prim.Native.Nat.{ℕ, zero, suc, ◌+◌, ◌*◌, ◌≤◌, ◌<◌}
use native.Mathlib.Omega.{arith}
use native.Mathlib.Decide.{dec_lt, ℕ_discrete}
use lib.Dec.{eqb}
use lib.ListN.{length, get_or, set, length-set}
use lib.Seq.{get_or-set_same, get_or-set_other}
use Rattle.netlist.specs.Record.{gate_at, used}
use Rattle.loops.specs.Loop.{pick}
use Rattle.visits.specs.Flow.{Core, Low, Recipe, owned, enter, mark, visit_to}
use Rattle.visits.specs.Claims.{Same, Seen, Is, Shape, Frame, OwnLaw, left, bit_at}
use Rattle.visits.proofs.Marks.{pick-eq, positive, left-marked}

-- t comes of s, the nodes seen since are at most d, and the records added since but e (constraints: f) are paid for by them
pub record Later (R : Recipe) (d e f : ℕ) (s t : Low) : Type 0 where
  pub long : length t.core.net.gates ≡ length s.core.net.gates
  pub from : s.core.net.n ≤ t.core.net.n
  pub gate : (i : ℕ) → i < s.core.net.n → gate_at t.core.net.gates i ≡ gate_at s.core.net.gates i
  pub paid : t.core.net.n + left R.gates 0 t.seen ≤ s.core.net.n + e + left R.gates 0 s.seen
  pub cons_long : length t.core.cons ≡ length s.core.cons
  pub cons_from : s.core.nc ≤ t.core.nc
  pub cons_same : (i : ℕ) → i < 2 * s.core.nc → get_or t.core.cons i 0 ≡ get_or s.core.cons i 0
  pub cons_paid : t.core.nc + left R.asks 0 t.seen ≤ s.core.nc + f + left R.asks 0 s.seen
  pub gates_rest : (i : ℕ) → used t.core.net.n ≤ i → get_or t.core.net.gates i 0 ≡ get_or s.core.net.gates i 0
  pub cons_rest : (i : ℕ) → 2 * t.core.nc ≤ i → get_or t.core.cons i 0 ≡ get_or s.core.cons i 0
  pub map_long : length t.core.map ≡ length s.core.map
  pub seen_long : length t.seen ≡ length s.seen
  pub marks : (x : ℕ) → (get_or t.seen x 0 ≡ get_or s.seen x 0) ⊎ ((get_or t.seen x 0 ≡ 1) × (x ≤ d))
  pub same : (x : ℕ) → x < R.size → get_or t.seen x 0 ≡ get_or s.seen x 0 → Same R s.core.map t.core.map x

-- the lengths that a table asks for
pub record Sound (R : Recipe) (s : Low) : Type 0 where
  pub mapped : length s.core.map ≡ R.total
  pub nodes : length s.seen ≡ R.size

pub later_same : (R : Recipe) (d : ℕ) (s : Low) → Later R d 0 0 s s
later_same R d s =
    record {
      long = refl;
      from = omega arith;
      gate = λ i h. refl;
      paid = omega arith;
      cons_long = refl;
      cons_from = omega arith;
      cons_same = λ i h. refl;
      cons_paid = omega arith;
      gates_rest = λ i h. refl;
      cons_rest = λ i h. refl;
      map_long = refl;
      seen_long = refl;
      marks = λ x. inl refl;
      same = λ x h q j l. refl;
    }

-- a node seen stays seen
pub grows : {R : Recipe} {d e f : ℕ} {s t : Low} → Later R d e f s t → (x : ℕ) → Seen s x → Seen t x
grows {R} {d} {e} {f} {s} {t} l x h = go (l.marks x)
  where
    go : (get_or t.seen x 0 ≡ get_or s.seen x 0) ⊎ ((get_or t.seen x 0 ≡ 1) × (x ≤ d)) → Seen t x
    go (inl q) = q ∙ h
    go (inr q) = q.0

-- above d nothing new is seen
pub fresh : {R : Recipe} {d e f : ℕ} {s t : Low} → Later R d e f s t → (x : ℕ) → d < x → get_or t.seen x 0 ≡ get_or s.seen x 0
fresh {R} {d} {e} {f} {s} {t} l x h = go (l.marks x)
  where
    go : (get_or t.seen x 0 ≡ get_or s.seen x 0) ⊎ ((get_or t.seen x 0 ≡ 1) × (x ≤ d)) → get_or t.seen x 0 ≡ get_or s.seen x 0
    go (inl q) = q
    go (inr q) = absurd (omega (arith, q.1))

-- what is seen has been seen all along
pub seen_same : {R : Recipe} {d e f : ℕ} {s t : Low} → Later R d e f s t → (x : ℕ) → Seen s x → get_or t.seen x 0 ≡ get_or s.seen x 0
seen_same l x h = grows l x h ∙ sym h

pub sound-later : {R : Recipe} {d e f : ℕ} {s t : Low} → Sound R s → Later R d e f s t → Sound R t
sound-later a l = record { mapped = l.map_long ∙ a.mapped; nodes = l.seen_long ∙ a.nodes }

pub mark-sound : {R : Recipe} (k : ℕ) (s : Low) → Sound R s → Sound R (mark k s)
unfolding mark
mark-sound k s d = record { mapped = d.mapped; nodes = length-set s.seen k 1 ∙ d.nodes }

module _ {R : Recipe} {d : ℕ} {s t u : Low} (a : Later R d 0 0 s t) (b : Later R d 0 0 t u) where
  between : (x : ℕ) → get_or u.seen x 0 ≡ get_or s.seen x 0 → get_or t.seen x 0 ≡ get_or s.seen x 0
  between x q = go (a.marks x)
    where
      go : (get_or t.seen x 0 ≡ get_or s.seen x 0) ⊎ ((get_or t.seen x 0 ≡ 1) × (x ≤ d)) → get_or t.seen x 0 ≡ get_or s.seen x 0
      go (inl p) = p
      go (inr p) = p.0 ∙ (sym (grows b x p.0) ∙ q)

  both : (x : ℕ) → (get_or u.seen x 0 ≡ get_or s.seen x 0) ⊎ ((get_or u.seen x 0 ≡ 1) × (x ≤ d))
  both x = go (b.marks x) (a.marks x)
    where
      go : (get_or u.seen x 0 ≡ get_or t.seen x 0) ⊎ ((get_or u.seen x 0 ≡ 1) × (x ≤ d)) → (get_or t.seen x 0 ≡ get_or s.seen x 0) ⊎ ((get_or t.seen x 0 ≡ 1) × (x ≤ d))
          → (get_or u.seen x 0 ≡ get_or s.seen x 0) ⊎ ((get_or u.seen x 0 ≡ 1) × (x ≤ d))
      go (inr q) p = inr q
      go (inl q) (inl p) = inl (q ∙ p)
      go (inl q) (inr p) = inr (q ∙ p.0, p.1)

  pub later-then : Later R d 0 0 s u
  later-then =
      record {
        long = b.long ∙ a.long;
        from = omega arith;
        gate = λ i h. b.gate i (omega arith) ∙ a.gate i h;
        paid = omega arith;
        cons_long = b.cons_long ∙ a.cons_long;
        cons_from = omega arith;
        cons_same = λ i h. b.cons_same i (omega arith) ∙ a.cons_same i h;
        cons_paid = omega arith;
        gates_rest = λ i h. b.gates_rest i h ∙ a.gates_rest i (omega arith);
        cons_rest = λ i h. b.cons_rest i h ∙ a.cons_rest i (omega arith);
        map_long = b.map_long ∙ a.map_long;
        seen_long = b.seen_long ∙ a.seen_long;
        marks = both;
        same = λ x h q j l. b.same x h (q ∙ sym (between x q)) j l ∙ a.same x h (between x q) j l;
      }

pub later-most : {R : Recipe} {c d : ℕ} {s t : Low} → c ≤ d → Later R c 0 0 s t → Later R d 0 0 s t
later-most {R} {c} {d} {s} {t} le l =
    record {
      long = l.long;
      from = l.from;
      gate = l.gate;
      paid = l.paid;
      cons_long = l.cons_long;
      cons_from = l.cons_from;
      cons_same = l.cons_same;
      cons_paid = l.cons_paid;
      gates_rest = l.gates_rest;
      cons_rest = l.cons_rest;
      map_long = l.map_long;
      seen_long = l.seen_long;
      marks = λ x. go x (l.marks x);
      same = l.same;
    }
  where
    go : (x : ℕ) → (get_or t.seen x 0 ≡ get_or s.seen x 0) ⊎ ((get_or t.seen x 0 ≡ 1) × (x ≤ c)) → (get_or t.seen x 0 ≡ get_or s.seen x 0) ⊎ ((get_or t.seen x 0 ≡ 1) × (x ≤ d))
    go x (inl q) = inl q
    go x (inr q) = inr (q.0, omega (arith, q.1))

-- a node's own part is apart from the others'
pub frame_same : {R : Recipe} (sh : Shape R) {k : ℕ} {s t : Core} → k < R.size → Frame R k s t → (x : ℕ) → x < R.size → (x ≡ k → ⊥) → Same R s.map t.map x
frame_same {R} sh {k} {s} {t} hk fr x hx ne j lj = go (dec_lt x k)
  where
    go : Dec (x < k) → bit_at R t.map x j ≡ bit_at R s.map x j
    go (yes p) = fr.map_below (R.off x + j) (omega (arith, sh.apart x k p hk))
    go (no p) = fr.map_above (R.off x + j) (omega (arith, sh.apart k x (omega arith) hx))

module _ {R : Recipe} (sh : Shape R) (law : OwnLaw R) where
  -- a node not seen is marked, then its operands are visited, then its own gates are made
  module _ (k : ℕ) (s u : Low) (is : Is R k) (d : Sound R s) (un : Seen s k → ⊥) (l : Later R k 0 0 (mark k s) u) where
    mark-other : (x : ℕ) → (x ≡ k → ⊥) → get_or (mark k s).seen x 0 ≡ get_or s.seen x 0
    unfolding mark
    mark-other x ne = get_or-set_other s.seen k x 1 0 ne

    mark-there : get_or (mark k s).seen k 0 ≡ 1
    unfolding mark
    mark-there = get_or-set_same s.seen k 1 0 (omega (arith, d.nodes, is.high))

    there : get_or u.seen k 0 ≡ 1
    there = grows l k mark-there

    marks-at : (x : ℕ) → (get_or u.seen x 0 ≡ get_or s.seen x 0) ⊎ ((get_or u.seen x 0 ≡ 1) × (x ≤ k))
    marks-at x = go (ℕ_discrete x k) (l.marks x)
      where
        go : Dec (x ≡ k) → (get_or u.seen x 0 ≡ get_or (mark k s).seen x 0) ⊎ ((get_or u.seen x 0 ≡ 1) × (x ≤ k)) → (get_or u.seen x 0 ≡ get_or s.seen x 0) ⊎ ((get_or u.seen x 0 ≡ 1) × (x ≤ k))
        go (yes p) q = inr (ap (λ (y : ℕ). get_or u.seen y 0) p ∙ there, omega arith)
        go (no p) (inl q) = inl (q ∙ mark-other x p)
        go (no p) (inr q) = inr q

    not-it : (x : ℕ) → get_or u.seen x 0 ≡ get_or s.seen x 0 → x ≡ k → ⊥
    not-it x q p = un (sym (ap (λ (y : ℕ). get_or s.seen y 0) p) ∙ (sym q ∙ (ap (λ (y : ℕ). get_or u.seen y 0) p ∙ there)))

    pub later-own : Later R k 0 0 s (owned R k u)
    unfolding mark owned
    later-own =
        record {
          long = fr.grows.long ∙ l.long;
          from = omega (arith, fr.grows.from, l.from);
          gate = λ i h. fr.grows.same i (omega (arith, l.from)) ∙ l.gate i h;
          paid = omega (arith, l.paid, pg, fr.grows.upto);
          cons_long = fr.cons_long ∙ l.cons_long;
          cons_from = omega (arith, fr.cons_from, l.cons_from);
          cons_same = λ i h. fr.cons_same i (omega (arith, l.cons_from)) ∙ l.cons_same i h;
          cons_paid = omega (arith, l.cons_paid, pa, fr.cons_upto);
          gates_rest = λ i h. fr.grows.rest i h ∙ l.gates_rest i (omega (arith, fr.grows.from));
          cons_rest = λ i h. fr.cons_rest i h ∙ l.cons_rest i (omega (arith, fr.cons_from));
          map_long = fr.map_long ∙ l.map_long;
          seen_long = l.seen_long ∙ length-set s.seen k 1;
          marks = marks-at;
          same = λ x h e j lj. frame_same sh is.high fr x h (not-it x e) j lj ∙ l.same x h (e ∙ sym (mark-other x (not-it x e))) j lj;
        }
      where
        pg : left R.gates 0 (set s.seen k 1) + R.gates k ≡ left R.gates 0 s.seen
        pg = left-marked R.gates s.seen k (omega (arith, d.nodes, is.high)) un

        pa : left R.asks 0 (set s.seen k 1) + R.asks k ≡ left R.asks 0 s.seen
        pa = left-marked R.asks s.seen k (omega (arith, d.nodes, is.high)) un

        fr : Frame R k u.core (R.own k u.core)
        fr = (law k u.core is (l.map_long ∙ d.mapped)).frame

  abbrev pub Keeps : (ℕ → Low → Low) → Type 0
  Keeps go = (k : ℕ) (s : Low) → Sound R s → k < R.size → Later R k 0 0 s (go k s)

  -- the states between, after each operand
  pub record Steps (go : ℕ → Low → Low) (k : ℕ) (s s1 s2 s3 : Low) : Type 0 where
    pub l1 : Later R (R.first k) 0 0 s s1
    pub l2 : Later R (R.second s1.core.map k) 0 0 s1 s2
    pub l3 : Later R (R.third s2.core.map k) 0 0 s2 s3
    pub d1 : Sound R s1
    pub d2 : Sound R s2
    pub d3 : Sound R s3
    pub all : Later R k 0 0 s s3

  pub steps : (go : ℕ → Low → Low) → Keeps go → (k : ℕ) (s : Low) → Sound R s → Is R k
      → Steps go k s (go (R.first k) s) (go (R.second (go (R.first k) s).core.map k) (go (R.first k) s))
      (go (R.third (go (R.second (go (R.first k) s).core.map k) (go (R.first k) s)).core.map k) (go (R.second (go (R.first k) s).core.map k) (go (R.first k) s)))
  steps go keeps k s d is =
      let s1 : Low = go (R.first k) s in
      let a : R.first k < k = sh.first k is in
      let l1 : Later R (R.first k) 0 0 s s1 = keeps (R.first k) s d (omega (arith, is.high)) in
      let d1 : Sound R s1 = sound-later d l1 in
      let xb : ℕ = R.second s1.core.map k in
      let b : xb < k = sh.second s1.core.map k is in
      let s2 : Low = go xb s1 in
      let l2 : Later R xb 0 0 s1 s2 = keeps xb s1 d1 (omega (arith, is.high)) in
      let d2 : Sound R s2 = sound-later d1 l2 in
      let xc : ℕ = R.third s2.core.map k in
      let c : xc < k = sh.third s2.core.map k is in
      let s3 : Low = go xc s2 in
      let l3 : Later R xc 0 0 s2 s3 = keeps xc s2 d2 (omega (arith, is.high)) in
      record {
        l1 = l1;
        l2 = l2;
        l3 = l3;
        d1 = d1;
        d2 = d2;
        d3 = sound-later d2 l3;
        all = later-then (later-most (omega arith) l1) (later-then (later-most (omega arith) l2) (later-most (omega arith) l3));
      }

  enter-later : (go : ℕ → Low → Low) → Keeps go → (k : ℕ) (s : Low) → Sound R s → Is R k → (Seen s k → ⊥) → Later R k 0 0 s (enter go R k (mark k s))
  unfolding enter
  enter-later go keeps k s d is un = later-own k s _ is d un (steps go keeps k (mark k s) (mark-sound k s d) is).all

  pub visit-later : (f : ℕ) → Keeps (visit_to f R)
  unfolding visit_to
  visit-later zero k s d lt = later_same R k s
  visit-later (suc f) k s d lt = go (visit-later f)
    where
      go : Keeps (visit_to f R) → Later R k 0 0 s (pick (eqb k 0) s (pick (eqb (get_or s.seen k 0) 1) s (enter (visit_to f R) R k (mark k s))))
      go keeps =
          pick-eq (Later R k 0 0 s) k 0 (λ _. later_same R k s)
          (λ nz. pick-eq (Later R k 0 0 s) (get_or s.seen k 0) 1 (λ _. later_same R k s)
          (λ un. enter-later (visit_to f R) keeps k s d (record { low = positive k nz; high = lt }) un))
