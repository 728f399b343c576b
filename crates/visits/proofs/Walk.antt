-- One induction over the lowering for any claim that is made of a state as a whole and of each node that is finished.
use mathlib.Core.Path.{◌≡◌, refl, sym, ap, ◌∙◌, subst}
use Prim.Native.Nat.{ℕ, zero, suc, ◌+◌, ◌*◌, ◌≤◌, ◌<◌}
use native.Mathlib.Omega.{arith}
use native.Mathlib.Decide.{dec_lt, ℕ_discrete}
use lib.Dec.{eqb}
use lib.ListN.{length, get_or, set}
use lib.Seq.{get_or-set_same, get_or-set_other}
use Rattle.netlist.specs.Record.{gate_at, Room}
use Rattle.loops.specs.Loop.{pick}
use Rattle.visits.specs.Flow.{Low, Recipe, owned, enter, mark, visit_to}
use Rattle.visits.specs.Claims.{Same, Seen, Is, Shape, Frame, OwnLaw, Operands, Reached, by_first, by-second, by-third, left}
use Rattle.visits.proofs.Marks.{pick-eq, positive, left-marked}
use Rattle.visits.proofs.Later.{Later, Sound, mark-sound, later-then, later-most, grows, fresh, seen_same, frame_same, later-own, Keeps, Steps, steps, visit-later}

-- what was there is there
pub record Kept (s t : Low) : Type 0 where
  pub long : length t.core.net.gates ≡ length s.core.net.gates
  pub from : s.core.net.n ≤ t.core.net.n
  pub gate : (i : ℕ) → i < s.core.net.n → gate_at t.core.net.gates i ≡ gate_at s.core.net.gates i
  pub cons_from : s.core.nc ≤ t.core.nc
  pub cons_same : (i : ℕ) → i < 2 * s.core.nc → get_or t.core.cons i 0 ≡ get_or s.core.cons i 0
  pub grown : (x : ℕ) → Seen s x → Seen t x

kept-later : {R : Recipe} {d e f : ℕ} {s t : Low} → Later R d e f s t → Kept s t
kept-later l = record { long = l.long; from = l.from; gate = l.gate; cons_from = l.cons_from; cons_same = l.cons_same; grown = grows l }

pub kept-own : {R : Recipe} (k : ℕ) (s : Low) → Frame R k s.core (R.own k s.core) → Kept s (owned R k s)
unfolding owned
kept-own k s fr =
    record { long = fr.grows.long; from = fr.grows.from; gate = fr.grows.same; cons_from = fr.cons_from; cons_same = fr.cons_same; grown = λ x h. h }

mark-grown : (k : ℕ) (s : Low) → k < length s.seen → (x : ℕ) → Seen s x → Seen (mark k s) x
unfolding mark
mark-grown k s lt x h = go (ℕ_discrete x k)
  where
    go : Dec (x ≡ k) → get_or (set s.seen k 1) x 0 ≡ 1
    go (yes p) = ap (λ (y : ℕ). get_or (set s.seen k 1) y 0) p ∙ get_or-set_same s.seen k 1 0 lt
    go (no p) = get_or-set_other s.seen k x 1 0 p ∙ h

mark-seen : (k : ℕ) (s : Low) → k < length s.seen → Seen (mark k s) k
unfolding mark
mark-seen k s lt = get_or-set_same s.seen k 1 0 lt

mark-back : (k : ℕ) (s : Low) (x : ℕ) → (x ≡ k → ⊥) → Seen (mark k s) x → Seen s x
unfolding mark
mark-back k s x ne h = sym (get_or-set_other s.seen k x 1 0 ne) ∙ h

kept-mark : (k : ℕ) (s : Low) → k < length s.seen → Kept s (mark k s)
unfolding mark
kept-mark k s lt =
    record { long = refl; from = omega arith; gate = λ i h. refl; cons_from = omega arith; cons_same = λ i h. refl; grown = mark-grown k s lt }

-- room for e gates and f constraints, and for the nodes not seen
pub record Fit (R : Recipe) (e f : ℕ) (s : Low) : Type 0 where
  pub room : Room s.core.net.gates (s.core.net.n + e + left R.gates 0 s.seen)
  pub room_asks : 2 * (s.core.nc + f + left R.asks 0 s.seen) ≤ length s.core.cons

pub fit-later : {R : Recipe} {d e f : ℕ} {s t : Low} → Fit R e f s → Later R d 0 0 s t → Fit R e f t
fit-later h l = record { room = omega (arith, h.room, l.paid, l.long); room_asks = omega (arith, h.room_asks, l.cons_paid, l.cons_long) }

fit-mark : {R : Recipe} {e f : ℕ} {s : Low} (k : ℕ) → k < length s.seen → (Seen s k → ⊥) → Fit R e f s → Fit R (e + R.gates k) (f + R.asks k) (mark k s)
unfolding mark
fit-mark {R} {e} {f} {s} k lt un h =
    record {
      room = omega (arith, h.room, left-marked R.gates s.seen k lt un);
      room_asks = omega (arith, h.room_asks, left-marked R.asks s.seen k lt un);
    }

-- where a node makes its own gates
pub record Can (R : Recipe) (k : ℕ) (s : Low) : Type 0 where
  pub is : Is R k
  pub mapped : length s.core.map ≡ R.total
  pub room : Room s.core.net.gates (s.core.net.n + R.gates k)
  pub room_asks : 2 * (s.core.nc + R.asks k) ≤ length s.core.cons
  pub seen : Seen s k

-- up to the node j, what is seen keeps its bits
abbrev pub Stays : Recipe → ℕ → Low → Low → Type 0
Stays R j s t = (x : ℕ) → x < R.size → x ≤ j → Seen s x → Same R s.core.map t.core.map x

-- what is seen since is reached from k, under any map that keeps the bits of what is seen up to k
abbrev pub Reaches : Recipe → ℕ → Low → Low → Type 0
Reaches R k s t = (u : Low) → Stays R k t u → ((k ≡ 0 → ⊥) → Reached R u.core.map k) → (x : ℕ) → Seen t x → (Seen s x → ⊥) → Reached R u.core.map x

-- a claim G of the whole and P of each finished node, that the lowering keeps
pub record Invariant (R : Recipe) (G : Low → Type 0) (P : Low → ℕ → Type 0) : Type 0 where
  pub keep : (j : ℕ) (s t : Low) → Is R j → Seen s j → Kept s t → Stays R j s t → P s j → P t j
  pub marks : (k : ℕ) (s : Low) → Kept s (mark k s) → G s → G (mark k s)
  pub owns : (k : ℕ) (s : Low) → Can R k s → G s → Operands R s.core.map k (Seen s) → Operands R s.core.map k (P s)
      → G (owned R k s) × P (owned R k s) k

-- every node below b that is seen is finished
pub record Holds (R : Recipe) (G : Low → Type 0) (P : Low → ℕ → Type 0) (b : ℕ) (s : Low) : Type 0 where
  pub all : G s
  pub each : (j : ℕ) → Is R j → j < b → Seen s j → P s j

module _ {R : Recipe} (sh : Shape R) (law : OwnLaw R) {G : Low → Type 0} {P : Low → ℕ → Type 0} (inv : Invariant R G P) where
  pub record Visited (b k : ℕ) (s t : Low) : Type 0 where
    pub holds : Holds R G P b t
    pub seen : (k ≡ 0 → ⊥) → Seen t k
    pub reaches : Reaches R k s t

  -- what a visit of a node below f gives
  abbrev Good : ℕ → (ℕ → Low → Low) → Type 0
  Good f go = (b k e r : ℕ) (s : Low) → k < f → k < b → b ≤ R.size → Sound R s → Fit R e r s → Holds R G P b s → Visited b k s (go k s)

  mark-holds : (b k : ℕ) (s : Low) → k < b → k < length s.seen → Holds R G P b s → Holds R G P k (mark k s)
  unfolding mark
  mark-holds b k s lt in-it h =
      record {
        all = inv.marks k s (kept-mark k s in-it) h.all;
        each = λ j is le z.
            inv.keep j s (mark k s) is (mark-back k s j (omega arith) z) (kept-mark k s in-it) (λ x hx lx sx i l. refl) (h.each j is (omega arith) (mark-back k s j (omega arith) z));
      }

  -- the first operand's bits stay
  first-same : (k : ℕ) (s t : Low) {d : ℕ} → Is R k → Later R d 0 0 s t → ((R.first k ≡ 0 → ⊥) → Seen s (R.first k)) → Same R s.core.map t.core.map (R.first k)
  first-same k s t is l z = go (ℕ_discrete (R.first k) 0)
    where
      go : Dec (R.first k ≡ 0) → Same R s.core.map t.core.map (R.first k)
      go (yes q) = λ j lj. absurd (omega (arith, sh.none, subst (λ (x : ℕ). j < R.bits x) q lj))
      go (no q) = l.same (R.first k) (omega (arith, sh.first k is, is.high)) (seen_same l (R.first k) (z q))

  module _ (f : ℕ) (go : ℕ → Low → Low) (keeps : Keeps sh law go) (good : Good f go) (b k e r : ℕ) (s : Low) (lf : k ≤ f) (lb : k < b) (bs : b ≤ R.size)
      (is : Is R k) (d : Sound R s) (fit : Fit R e r s) (h : Holds R G P b s) (un : Seen s k → ⊥) where
    in-seen : k < length s.seen
    in-seen = omega (arith, d.nodes, is.high)

    -- what is seen since the node was marked is reached from it
    abbrev Fresh : Low → Type 0
    Fresh s3 = (u : Low) → ((x : ℕ) → x < k → Seen s3 x → Same R s3.core.map u.core.map x) → Reached R u.core.map k → (x : ℕ) → Seen s3 x → (Seen (mark k s) x → ⊥)
        → Reached R u.core.map x

    fresh-of : (s1 s2 s3 : Low) → Steps sh law go k (mark k s) s1 s2 s3 → ((R.first k ≡ 0 → ⊥) → Seen s1 (R.first k)) → Reaches R (R.first k) (mark k s) s1
        → Reaches R (R.second s1.core.map k) s1 s2 → Reaches R (R.third s2.core.map k) s2 s3 → Fresh s3
    fresh-of s1 s2 s3 st seen1 r1 r2 r3 u low rk x sx nx = by (ℕ_discrete (get_or s2.seen x 0) 1) (ℕ_discrete (get_or s1.seen x 0) 1)
      where
        to3 : (y : ℕ) → y < k → Seen s3 y → Same R s3.core.map u.core.map y
        to3 = low

        to2 : (y : ℕ) → y < k → Seen s2 y → Same R s2.core.map u.core.map y
        to2 y ly sy j lj = to3 y ly (grows st.l3 y sy) j lj ∙ st.l3.same y (omega (arith, is.high)) (seen_same st.l3 y sy) j lj

        to1 : (y : ℕ) → y < k → Seen s1 y → Same R s1.core.map u.core.map y
        to1 y ly sy j lj = to2 y ly (grows st.l2 y sy) j lj ∙ st.l2.same y (omega (arith, is.high)) (seen_same st.l2 y sy) j lj

        none_or : (v : Low) → ((y : ℕ) → y < k → Seen v y → Same R v.core.map u.core.map y) → ((R.first k ≡ 0 → ⊥) → Seen v (R.first k)) → Dec (R.first k ≡ 0)
            → Same R v.core.map u.core.map (R.first k)
        none_or v to sv (yes q) = λ j lj. absurd (omega (arith, sh.none, subst (λ (y : ℕ). j < R.bits y) q lj))
        none_or v to sv (no q) = to (R.first k) (sh.first k is) (sv q)

        third : R.third u.core.map k ≡ R.third s2.core.map k
        third = sh.third-same s2.core.map u.core.map k is (none_or s2 to2 (λ q. grows st.l2 (R.first k) (seen1 q)) (ℕ_discrete (R.first k) 0))

        second : R.second u.core.map k ≡ R.second s1.core.map k
        second = sh.second-same s1.core.map u.core.map k is (none_or s1 to1 seen1 (ℕ_discrete (R.first k) 0))

        by : Dec (Seen s2 x) → Dec (Seen s1 x) → Reached R u.core.map x
        by (no n2) d1 =
            r3 u (λ y hy ly sy. to3 y (omega (arith, sh.third s2.core.map k is)) sy) (λ nz. by-third rk (sym third) nz) x sx n2
        by (yes s2x) (no n1) =
            r2 u (λ y hy ly sy. to2 y (omega (arith, sh.second s1.core.map k is)) sy) (λ nz. by-second rk (sym second) nz) x s2x n1
        by (yes s2x) (yes s1x) = r1 u (λ y hy ly sy. to1 y (omega (arith, sh.first k is)) sy) (λ nz. by_first rk refl nz) x s1x nx

    -- after the visits of the operands
    operands-done : (s1 s2 s3 : Low) → s1 ≡ go (R.first k) (mark k s) → s2 ≡ go (R.second s1.core.map k) s1 → s3 ≡ go (R.third s2.core.map k) s2
        → Steps sh law go k (mark k s) s1 s2 s3 → Holds R G P k s3 × Operands R s3.core.map k (P s3) × Can R k s3 × Operands R s3.core.map k (Seen s3) × Fresh s3
    operands-done s1 s2 s3 e1 e2 e3 st =
        let f0 : Fit R (e + R.gates k) (r + R.asks k) (mark k s) = fit-mark k in-seen un fit in
        let f1 : Fit R (e + R.gates k) (r + R.asks k) s1 = fit-later f0 st.l1 in
        let f2 : Fit R (e + R.gates k) (r + R.asks k) s2 = fit-later f1 st.l2 in
        let f3 : Fit R (e + R.gates k) (r + R.asks k) s3 = fit-later f2 st.l3 in
        let xa : ℕ = R.first k in
        let xb : ℕ = R.second s1.core.map k in
        let xc : ℕ = R.third s2.core.map k in
        let la : xa < k = sh.first k is in
        let lb2 : xb < k = sh.second s1.core.map k is in
        let lc : xc < k = sh.third s2.core.map k is in
        let v1 : Visited k xa (mark k s) s1 =
        subst (λ (x : Low). Visited k xa (mark k s) x) (sym e1)
        (good k xa _ _ (mark k s) (omega arith) la (omega arith) (mark-sound k s d) f0 (mark-holds b k s lb in-seen h)) in
        let v2 : Visited k xb s1 s2 =
        subst (λ (x : Low). Visited k xb s1 x) (sym e2) (good k xb _ _ s1 (omega arith) lb2 (omega arith) st.d1 f1 v1.holds) in
        let v3 : Visited k xc s2 s3 =
        subst (λ (x : Low). Visited k xc s2 x) (sym e3) (good k xc _ _ s2 (omega arith) lc (omega arith) st.d2 f2 v2.holds) in
        let l13 : Later R k 0 0 s1 s3 = later-then (later-most (omega arith) st.l2) (later-most (omega arith) st.l3) in
        let sb : R.second s3.core.map k ≡ xb = sh.second-same s1.core.map s3.core.map k is (first-same k s1 s3 is l13 v1.seen) in
        let sc : R.third s3.core.map k ≡ xc = sh.third-same s2.core.map s3.core.map k is (first-same k s2 s3 is st.l3 (λ q. grows st.l2 xa (v1.seen q))) in
        let done : (x : ℕ) → x < k → ((x ≡ 0 → ⊥) → Seen s3 x) → (x ≡ 0 → ⊥) → P s3 x =
        λ x lx sx nz. v3.holds.each x (record { low = positive x nz; high = omega (arith, is.high) }) lx (sx nz) in (
          v3.holds,
          record {
            first = done xa la (λ q. grows l13 xa (v1.seen q));
            second = subst (λ (x : ℕ). (x ≡ 0 → ⊥) → P s3 x) (sym sb) (done xb lb2 (λ q. grows st.l3 xb (v2.seen q)));
            third = subst (λ (x : ℕ). (x ≡ 0 → ⊥) → P s3 x) (sym sc) (done xc lc v3.seen);
          },
          record {
            is = is;
            mapped = st.d3.mapped;
            room = omega (arith, f3.room);
            room_asks = omega (arith, f3.room_asks);
            seen = grows st.all k (mark-seen k s in-seen);
          },
          record {
            first = λ q. grows l13 xa (v1.seen q);
            second = subst (λ (x : ℕ). (x ≡ 0 → ⊥) → Seen s3 x) (sym sb) (λ q. grows st.l3 xb (v2.seen q));
            third = subst (λ (x : ℕ). (x ≡ 0 → ⊥) → Seen s3 x) (sym sc) v3.seen;
          },
          fresh-of s1 s2 s3 st v1.seen v1.reaches v2.reaches v3.reaches,
        )

    -- after the node's own gates
    own-done : (s3 : Low) → Later R k 0 0 (mark k s) s3 → Holds R G P k s3 × Operands R s3.core.map k (P s3) × Can R k s3 × Operands R s3.core.map k (Seen s3) × Fresh s3
        → Visited b k s (owned R k s3)
    unfolding owned
    own-done s3 l c =
        let gp : G (owned R k s3) × P (owned R k s3) k = inv.owns k s3 c.2 c.0.all c.3 c.1 in
        let fr : Frame R k s3.core (R.own k s3.core) = (law k s3.core is c.2.mapped).frame in
        let whole : Later R k 0 0 s (owned R k s3) = later-own sh law k s s3 is d un l in
        record { holds = record { all = gp.0; each = λ j ij lj sj. at gp fr whole j ij lj sj (ℕ_discrete j k) (dec_lt j k) }; seen = λ _. c.2.seen; reaches = λ u st rk x sx nx. from fr u st (rk (omega (arith, is.low))) x sx nx (ℕ_discrete x k) }
      where
        from : Frame R k s3.core (R.own k s3.core) → (u : Low) → Stays R k (owned R k s3) u → Reached R u.core.map k → (x : ℕ) → Seen s3 x → (Seen s x → ⊥) → Dec (x ≡ k) → Reached R u.core.map x
        from fr u st rk x sx nx (yes q) = subst (λ (y : ℕ). Reached R u.core.map y) (sym q) rk
        from fr u st rk x sx nx (no q) =
            c.4 u (λ y ly sy j lj. st y (omega (arith, is.high)) (omega arith) sy j lj ∙ frame_same sh is.high fr y (omega (arith, is.high)) (omega arith) j lj) rk x sx (λ z. nx (mark-back k s x q z))

        at : G (owned R k s3) × P (owned R k s3) k → Frame R k s3.core (R.own k s3.core) → Later R k 0 0 s (owned R k s3) → (j : ℕ) → Is R j → j < b → Seen s3 j
            → Dec (j ≡ k) → Dec (j < k) → P (owned R k s3) j
        at gp fr whole j ij lj sj (yes p) q = subst (λ (x : ℕ). P (owned R k s3) x) (sym p) gp.1
        at gp fr whole j ij lj sj (no p) (yes q) =
            inv.keep j s3 (owned R k s3) ij sj (kept-own k s3 fr) (λ x hx lx sx. frame_same sh is.high fr x hx (omega arith)) (c.0.each j ij q sj)
        at gp fr whole j ij lj sj (no p) (no q) =
            let m : get_or s3.seen j 0 ≡ get_or s.seen j 0 = fresh whole j (omega arith) in
            inv.keep j s (owned R k s3) ij (sym m ∙ sj) (kept-later whole) (λ x hx lx sx. whole.same x hx (seen_same whole x sx)) (h.each j ij lj (sym m ∙ sj))

    enter-holds : Visited b k s (enter go R k (mark k s))
    unfolding enter owned
    enter-holds =
        let s0 : Low = mark k s in
        let s1 : Low = go (R.first k) s0 in
        let s2 : Low = go (R.second s1.core.map k) s1 in
        let s3 : Low = go (R.third s2.core.map k) s2 in
        let st : Steps sh law go k s0 s1 s2 s3 = steps sh law go keeps k s0 (mark-sound k s d) is in
        own-done s3 st.all (operands-done s1 s2 s3 refl refl refl st)

  visit-nothing : (b k : ℕ) (s : Low) → Holds R G P b s → ((k ≡ 0 → ⊥) → Seen s k) → Visited b k s s
  visit-nothing b k s h z = record { holds = h; seen = z; reaches = λ u st rk x sx nx. absurd (nx sx) }

  pub visit-holds : (f : ℕ) → Good f (visit_to f R)
  unfolding visit_to
  visit-holds zero b k e r s lf lb bs d fit h = absurd (omega arith)
  visit-holds (suc f) b k e r s lf lb bs d fit h = go (visit-holds f)
    where
      go : Good f (visit_to f R) → Visited b k s (pick (eqb k 0) s (pick (eqb (get_or s.seen k 0) 1) s (enter (visit_to f R) R k (mark k s))))
      go good =
          pick-eq (Visited b k s) k 0 (λ q. visit-nothing b k s h (λ nz. absurd (nz q)))
          (λ nz. pick-eq (Visited b k s) (get_or s.seen k 0) 1 (λ q. visit-nothing b k s h (λ _. q))
          (λ un. enter-holds f (visit_to f R) (visit-later sh law f) good b k e r s (omega arith) lb bs (record { low = positive k nz; high = omega arith }) d fit h un))
