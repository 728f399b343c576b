-- The lowering from all bad nodes.
use mathlib.Core.Path.{◌≡◌, sym, ap, ◌∙◌, subst}
use mathlib.Core.Bool.{true, false}
use Prim.Native.Nat.{ℕ, suc, ◌+◌, ◌<◌}
use native.Mathlib.Omega.{arith}
use native.Mathlib.Decide.{ℕ_discrete}
use lib.ListN.{length, get_or}
use Rattle.loops.proofs.Loop.{iter-inv}
use Rattle.visits.specs.Flow.{Low, Recipe, visit_to, root_step, lower_to}
use Rattle.visits.specs.Claims.{Seen, Is, Shape, OwnLaw, Start, Reached, root, left, spent, sum_from}
use Rattle.visits.proofs.Marks.{pick-by, positive, contrary, spent-left, spent-none}
use Rattle.visits.proofs.Later.{Later, Sound, later_same, later-then, later-most, grows, seen_same, sound-later, visit-later}
use Rattle.visits.proofs.Walk.{Fit, fit-later, Stays, Invariant, Holds, Visited, visit-holds}

pub start_left : {R : Recipe} {s : Low} → Start R s → (c : ℕ → ℕ) → left c 0 s.seen ≡ sum_from c 0 R.size
start_left {R} {s} h c =
    let a : spent c 0 s.seen + left c 0 s.seen ≡ sum_from c 0 (length s.seen) = spent-left c 0 s.seen in
    let b : spent c 0 s.seen ≡ 0 = spent-none c 0 s.seen h.none in
    let d : sum_from c 0 (length s.seen) ≡ sum_from c 0 R.size = ap (sum_from c 0) h.nodes in
    omega arith

pub start-sound : {R : Recipe} {s : Low} → Start R s → Sound R s
start-sound h = record { mapped = h.mapped; nodes = h.nodes }

pub start-fit : {R : Recipe} {s : Low} → Start R s → Fit R 0 0 s
start-fit {R} {s} h =
    record { room = omega (arith, h.room, h.two, start_left h R.gates); room_asks = omega (arith, h.room_asks, h.zero, start_left h R.asks) }

module _ {R : Recipe} (sh : Shape R) (law : OwnLaw R) {G : Low → Type 0} {P : Low → ℕ → Type 0} (inv : Invariant R G P) (s : Low) (start : Start R s) (g : G s) where
  -- after the bad nodes below i
  pub record Rooted (i : ℕ) (t : Low) : Type 0 where
    pub later : Later R R.size 0 0 s t
    pub holds : Holds R G P R.size t
    pub bad : (k : ℕ) → Is R k → k < i → R.bad k ≡ true → Seen t k
    pub reached : (u : Low) → Stays R R.size t u → (x : ℕ) → Seen t x → Reached R u.core.map x

  rooted_none : Rooted 0 s
  rooted_none =
      record {
        later = later_same R R.size s;
        holds = record { all = g; each = λ j is lt z. absurd (omega (arith, z, start.none j)) };
        bad = λ k is lt. absurd (omega arith);
        reached = λ u st x sx. absurd (omega (arith, sx, start.none x));
      }

  rooted-visit : (i : ℕ) (t : Low) → i < R.size → R.bad i ≡ true → Rooted i t → Rooted (suc i) (visit_to (suc i) R i t)
  rooted-visit i t lt isbad r =
      let d : Sound R t = sound-later (start-sound start) r.later in
      let l : Later R i 0 0 t (visit_to (suc i) R i t) = visit-later sh law (suc i) i t d lt in
      let v : Visited sh law inv R.size i t (visit_to (suc i) R i t) =
      visit-holds sh law inv (suc i) R.size i 0 0 t (omega arith) lt (omega arith) d (fit-later (start-fit start) r.later) r.holds in
      record {
        later = later-then r.later (later-most (omega arith) l);
        holds = v.holds;
        bad = λ k is lk b. at l v k is lk b (ℕ_discrete k i);
        reached = λ u st x sx. old l v u st x sx (ℕ_discrete (get_or t.seen x 0) 1);
      }
    where
      old : Later R i 0 0 t (visit_to (suc i) R i t) → Visited sh law inv R.size i t (visit_to (suc i) R i t)
          → (u : Low) → Stays R R.size (visit_to (suc i) R i t) u → (x : ℕ) → Seen (visit_to (suc i) R i t) x → Dec (Seen t x) → Reached R u.core.map x
      old l v u st x sx (yes q) =
          r.reached u (λ y hy ly sy j lj. st y hy ly (grows l y sy) j lj ∙ l.same y hy (seen_same l y sy) j lj) x q
      old l v u st x sx (no q) =
          v.reaches u (λ y hy ly sy. st y hy (omega arith) sy) (λ nz. root (record { low = positive i nz; high = lt }) isbad) x sx q

      at : Later R i 0 0 t (visit_to (suc i) R i t) → Visited sh law inv R.size i t (visit_to (suc i) R i t)
          → (k : ℕ) → Is R k → k < suc i → R.bad k ≡ true → Dec (k ≡ i) → Seen (visit_to (suc i) R i t) k
      at l v k is lk b (yes q) = subst (λ (x : ℕ). Seen (visit_to (suc i) R i t) x) (sym q) (v.seen (omega (arith, is.low)))
      at l v k is lk b (no q) = grows l k (r.bad k is (omega arith) b)

  rooted-skip : (i : ℕ) (t : Low) → R.bad i ≡ false → Rooted i t → Rooted (suc i) t
  rooted-skip i t nb r = record { later = r.later; holds = r.holds; reached = r.reached; bad = λ k is lk b. at k is lk b (ℕ_discrete k i) }
    where
      at : (k : ℕ) → Is R k → k < suc i → R.bad k ≡ true → Dec (k ≡ i) → Seen t k
      at k is lk b (yes q) = contrary b (ap R.bad q ∙ nb)
      at k is lk b (no q) = r.bad k is (omega arith) b

  rooted-step : (i : ℕ) (t : Low) → i < R.size → Rooted i t → Rooted (suc i) (root_step R i t)
  unfolding root_step
  rooted-step i t lt r = pick-by (Rooted (suc i)) (R.bad i) (λ b. rooted-visit i t lt b r) (λ nb. rooted-skip i t nb r)

  pub rooted : Rooted R.size (lower_to R s)
  unfolding lower_to
  rooted = iter-inv Rooted (root_step R) s R.size rooted_none rooted-step
