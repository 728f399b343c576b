-- The laws of constraints.
use mathlib.Core.Path.{◌≡◌, refl, ◌∙◌}
use mathlib.Core.List.{List}
use mathlib.Core.Logic.{◌↔◌}
use Prim.Native.Nat.{ℕ, suc, ◌+◌, ◌*◌, ◌≤◌, ◌<◌}
use native.Mathlib.Omega.{arith}
use native.Mathlib.Decide.{dec_lt}
use lib.ListN.{length, get_or, set, length-set}
use lib.Seq.{get_or-set_same, get_or-set_other}
use Rattle.loops.specs.Loop.{bit}
use Rattle.loops.proofs.Loop.{iter-inv}
use Rattle.netlist.specs.Net.{Assign}
use Rattle.digits.specs.Digits.{Below}
use Rattle.division.specs.Constraint.{con_gate, con_value, put_con, con_used, Cons, cons_of, ConRoom, constrain, con_step, constrain_each, Holds, Within, More, ConLaw}

-- ---- one constraint more

module _ (l : List ℕ) (m g v : ℕ) where
  put_other : (i : ℕ) → (i ≡ 2 * m → ⊥) → (i ≡ 2 * m + 1 → ⊥) → get_or (put_con l m g v) i 0 ≡ get_or l i 0
  unfolding put_con
  put_other i h k = get_or-set_other (set l (2 * m) g) (2 * m + 1) i v 0 k ∙ get_or-set_other l (2 * m) i g 0 h

  put-long : length (put_con l m g v) ≡ length l
  unfolding put_con
  put-long = simp length-set

  put-gate : con_used (m + 1) ≤ length l → con_gate (put_con l m g v) m ≡ g
  unfolding put_con con_gate
  put-gate h = get_or-set_other (set l (2 * m) g) (2 * m + 1) (2 * m) v 0 (omega arith) ∙ get_or-set_same l (2 * m) g 0 (omega arith)

  put-value : con_used (m + 1) ≤ length l → con_value (put_con l m g v) m ≡ v
  unfolding put_con con_value
  put-value h = get_or-set_same (set l (2 * m) g) (2 * m + 1) v 0 (simp length-set (omega arith))

  put_same : (j : ℕ) → j < m → (con_gate (put_con l m g v) j ≡ con_gate l j) × (con_value (put_con l m g v) j ≡ con_value l j)
  unfolding con_gate con_value
  put_same j h = (put_other (2 * j) (λ q. omega arith) (λ q. omega arith), put_other (2 * j + 1) (λ q. omega arith) (λ q. omega arith))

pub more-refl : (s : Cons) → More s s 0
more-refl s = record { count = omega arith; long = refl; same = λ j h. (refl, refl); rest = λ i h. refl }

pub more-one : (s : Cons) (g v : ℕ) → More s (constrain s g v) 1
unfolding constrain
more-one s g v =
    record {
      count = refl;
      long = put-long s.list s.m g v;
      same = put_same s.list s.m g v;
      rest = λ i h. put_other s.list s.m g v i (λ q. omega arith) (λ q. omega arith);
    }

pub more-trans : (s t u : Cons) (j k : ℕ) → More s t j → More t u k → More s u (j + k)
more-trans s t u j k p q =
    record {
      count = omega (arith, p.count, q.count);
      long = q.long ∙ p.long;
      same = λ i h.
          let l : i < t.m = omega (arith, p.count) in
          ((q.same i l).0 ∙ (p.same i h).0, (q.same i l).1 ∙ (p.same i h).1);
      rest = λ i h. q.rest i h ∙ p.rest i (omega (arith, q.count));
    }

pub more-as : (s t : Cons) (j k : ℕ) → j ≡ k → More s t j → More s t k
more-as s t j k e p = rw e at p

pub room_back : (t u : Cons) (k : ℕ) → More t u k → ConRoom u → ConRoom t
room_back t u k q h = omega (arith, q.count, q.long)

-- ---- the constraints of two parts

-- those of the first part hold, and those of the second
pub holds-split : (s t u : Cons) (j k : ℕ) → More s t j → More t u k → (e : Assign)
    → Holds e u.list s.m u.m ↔ (Holds e t.list s.m t.m × Holds e u.list t.m u.m)
unfolding Holds
holds-split s t u j k p q e = (
  (λ h. ((λ i a b. rw ((q.same i b).0, (q.same i b).1) at (h i a (omega (arith, q.count)))), (λ i a b. h i (omega (arith, p.count)) b))),
  (λ h i a b. go h.0 h.1 i a b (dec_lt i t.m)),
)
  where
    go : Holds e t.list s.m t.m → Holds e u.list t.m u.m → (i : ℕ) → s.m ≤ i → i < u.m → Dec (i < t.m) → bit (e (con_gate u.list i)) ≡ con_value u.list i
    go x y i a b (yes l) = rw ((q.same i l).0, (q.same i l).1) (x i a l)
    go x y i a b (no l) = y i (omega arith) b

pub within-join : (s t u : Cons) (k n m : ℕ) → n ≤ m → More t u k → Within n t.list s.m t.m → Within m u.list t.m u.m → Within m u.list s.m u.m
unfolding Within
within-join s t u k n m le q x y i a b = go (dec_lt i t.m)
  where
    go : Dec (i < t.m) → (con_gate u.list i < m) × (con_value u.list i < 2)
    go (yes l) = rw ((q.same i l).0, (q.same i l).1) (omega (arith, (x i a l).0), (x i a l).1)
    go (no l) = y i (omega arith) b

pub holds-none : (e : Assign) (s : Cons) → Holds e s.list s.m s.m
unfolding Holds
holds-none e s j a b = absurd (omega arith)

pub within_none : (n : ℕ) (s : Cons) → Within n s.list s.m s.m
unfolding Within
within_none n s j a b = absurd (omega arith)

-- ---- laws, and how they are put together

pub one-law : (s : Cons) (g v : ℕ) → v < 2 → ConLaw (λ n. g < n) (λ e. bit (e g) ≡ v) s (constrain s g v) 1
unfolding Holds Within constrain
one-law s g v hv =
    record {
      more = more-one s g v;
      holds = λ room e. (
        (λ h. rw (put-gate s.list s.m g v (fits room), put-value s.list s.m g v (fits room)) at (h s.m (omega arith) (omega arith))),
        (λ h j a b. let q : j ≡ s.m = omega arith in rw (q, put-gate s.list s.m g v (fits room), put-value s.list s.m g v (fits room)) h),
      );
      within = λ room n i j a b. let q : j ≡ s.m = omega arith in rw (q, put-gate s.list s.m g v (fits room), put-value s.list s.m g v (fits room)) (i, hv);
    }
  where
    fits : ConRoom (cons_of (put_con s.list s.m g v) (s.m + 1)) → con_used (s.m + 1) ≤ length s.list
    fits h = omega (arith, put-long s.list s.m g v)

pub then-law : {In In' : ℕ → Type 0} {P Q : Assign → Type 0} {s t u : Cons} {j k : ℕ} → ConLaw In P s t j → ConLaw In' Q t u k
    → ConLaw (λ n. In n × In' n) (λ e. P e × Q e) s u (j + k)
then-law {s = s} {t = t} {u = u} {j = j} {k = k} a b =
    record {
      more = more-trans s t u j k a.more b.more;
      holds = λ room e.
          let x = a.holds (room_back t u k b.more room) e in
          let y = b.holds room e in
          let z = holds-split s t u j k a.more b.more e in
          ((λ h. (x.0 (z.0 h).0, y.0 (z.0 h).1)), (λ h. z.1 (x.1 h.0, y.1 h.1)));
      within = λ room n i. within-join s t u k n n (omega arith) b.more (a.within (room_back t u k b.more room) n i.0) (b.within room n i.1);
    }

-- a word's bits, whatever the value
pub each_more : (bits : List ℕ) (v : ℕ) (s : Cons) (k : ℕ) → More s (constrain_each bits v k s) k
unfolding con_step
each_more bits v s k =
    iter-inv (λ i x. More s x i) (con_step bits v) s k (more-refl s)
    (λ i x lt h. more-as s _ (i + 1) (suc i) (omega arith) (more-trans s x _ i 1 h (more-one x (get_or bits i 0) v)))

-- a word's bits, each with the value v
abbrev pub All : List ℕ → ℕ → ℕ → Assign → Type 0
All bits v k e = (j : ℕ) → j < k → bit (e (get_or bits j 0)) ≡ v

module _ (bits : List ℕ) (v : ℕ) (hv : v < 2) (s : Cons) where
  each_step_lem : (i : ℕ) (x : Cons) → ConLaw (λ n. Below n bits i) (All bits v i) s x i → ConLaw (λ n. Below n bits (suc i)) (All bits v (suc i)) s (con_step bits v i x) (suc i)
  unfolding con_step
  each_step_lem i x h =
      let a : ConLaw (λ n. Below n bits i × (get_or bits i 0 < n)) (λ e. All bits v i e × (bit (e (get_or bits i 0)) ≡ v)) s (constrain x (get_or bits i 0) v) (i + 1) =
      then-law h (one-law x (get_or bits i 0) v hv) in
      record {
        more = more-as s _ (i + 1) (suc i) (omega arith) a.more;
        holds = λ room e.
            let q = a.holds room e in
            ((λ z j l. low e (q.0 z) j l (dec_lt j i)), (λ z. q.1 ((λ j l. z j (omega arith)), z i (omega arith))));
        within = λ room n b. a.within room n ((λ j l. b j (omega arith)), b i (omega arith));
      }
    where
      low : (e : Assign) → All bits v i e × (bit (e (get_or bits i 0)) ≡ v) → (j : ℕ) → j < suc i → Dec (j < i) → bit (e (get_or bits j 0)) ≡ v
      low e q j l (yes y) = q.0 j y
      low e q j l (no y) = let r : j ≡ i = omega arith in rw r q.1

  pub each-law : (k : ℕ) → ConLaw (λ n. Below n bits k) (All bits v k) s (constrain_each bits v k s) k
  each-law k =
      iter-inv (λ i x. ConLaw (λ n. Below n bits i) (All bits v i) s x i) (con_step bits v) s k
      (record {
        more = more-refl s;
        holds = λ room e. ((λ h j l. absurd (omega arith)), (λ h. holds-none e s));
        within = λ room n b. within_none n s;
      })
      (λ i x lt h. each_step_lem i x h)
