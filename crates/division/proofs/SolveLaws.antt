-- What the equivalence gives: for every input one quotient and remainder meet the constraints, whatever the divisor.
use mathlib.Core.Path.{◌≡◌, refl, ap, sym, ◌∙◌}
use mathlib.Core.List.{List}
use mathlib.Core.Bool.{Bool, true, false, false≢true}
use Prim.Native.Nat.{ℕ, zero, suc, ◌+◌, ◌*◌, ◌-◌, ◌/◌, ◌%◌, ◌≤◌, ◌<◌}
use native.Mathlib.Omega.{arith}
use native.Mathlib.Decide.{dec_lt}
use native.Mathlib.Nat.{mod-lt, div-add-mod', div-le_self, mod-le}
use lib.Dec.{eqb, ltb}
use lib.ListN.{get_or}
use borrow.Author.Tests.{lt-ltb, le-ltb, eqb-false}
use Rattle.loops.specs.Loop.{pick}
use Rattle.loops.proofs.Loop.{by-pick, pick_true, pick-false}
use Rattle.netlist.specs.Record.{gate_at, Room}
use Rattle.netlist.specs.Kind.{free}
use Rattle.netlist.specs.Net.{Net, Assign, Obeys}
use Rattle.gates.specs.Law.{Grows, Formed}
use Rattle.gates.proofs.Laws.{keeps}
use Rattle.gates.proofs.FormedLaws.{one-assignment, solved, solved-obeys, solved-given}
use Rattle.digits.specs.Digits.{digit, number, Below}
use Rattle.digits.proofs.Numbers.{number_same, number_digits, number-digit, parts-one}
use Rattle.words.specs.Num.{num}
use Rattle.words.proofs.NumLaws.{num-lt}
use Rattle.division.specs.Constraint.{ConRoom, Holds}
use Rattle.division.specs.Rows.{Checked}
use Rattle.division.specs.Zero.{nonzero}
use Rattle.division.specs.Divide.{DividedLaw}

-- the shorter net of a formed one is formed
formed-back : (s t : Net) (k : ℕ) → Grows s t k → 2 ≤ s.n → Formed t → Formed s
formed-back s t k x h f =
    record {
      two = h;
      low = sym (x.same 0 (omega arith)) ∙ f.low;
      high = sym (x.same 1 (omega arith)) ∙ f.high;
      good = λ i lo hi. rw (x.same i hi) at (f.good i lo (omega (arith, x.from)));
    }

-- what obeys a net is extended to a longer one, with any values at the free gates that are new
module _ (s t : Net) (k : ℕ) (x : Grows s t k) (h : 2 ≤ s.n) (f : Formed t) (rm : Room t.gates t.n) (d v : Assign) (od : Obeys s d) where
  given : Assign
  given j = pick (ltb j s.n) (d j) (v j)

  old : (j : ℕ) → j < s.n → given j ≡ d j
  unfolding given
  old j l = pick_true (ltb j s.n) (d j) (v j) (lt-ltb j s.n l)

  new : (j : ℕ) → s.n ≤ j → given j ≡ v j
  unfolding given
  new j l = pick-false (ltb j s.n) (d j) (v j) (le-ltb j s.n l)

  pub extended : Assign
  extended = solved t f rm given

  pub extended-obeys : Obeys t extended
  unfolding extended
  extended-obeys = solved-obeys t f rm given

  pub extended-old : (j : ℕ) → j < s.n → extended j ≡ d j
  unfolding extended
  extended-old j l =
      one-assignment s (formed-back s t k x h f) (solved t f rm given) d (keeps s t k (solved t f rm given) x (solved-obeys t f rm given)) od
      (λ i lt r. solved-given t f rm given i (omega (arith, x.from)) (rw (x.same i lt) r) ∙ old i lt) j l

  pub extended-new : (j : ℕ) → s.n ≤ j → j < t.n → free (gate_at t.gates j).kind ≡ true → extended j ≡ v j
  unfolding extended
  extended-new j l lt r = solved-given t f rm given j lt r ∙ new j l

-- assignments that agree on a word's gates say the same number
pub num-agree : (e d : Assign) (bs : List ℕ) (n w : ℕ) → Below n bs w → ((j : ℕ) → j < n → e j ≡ d j) → num e bs w ≡ num d bs w
num-agree e d bs n w b h = number_same (λ i. e (get_or bs i 0)) (λ i. d (get_or bs i 0)) w (λ j l. h (get_or bs j 0) (b j l))

module _ (quotient : Bool) (w node : ℕ) (n d : List ℕ) (s t : Checked) (k : DividedLaw quotient w node n d s t) (two : 2 ≤ s.net.n) (f : Formed t.net)
    (rm : Room t.net.gates t.net.n) (crm : ConRoom t.cons) (bn : Below s.net.n n w) (bd : Below s.net.n d w) where
  -- the free gates that are new
  is_quot : (i : ℕ) → i < w → free (gate_at t.net.gates (k.from + 2 * i)).kind ≡ true
  unfolding free
  is_quot i l = rw (k.gates rm i l).0

  is_rem : (i : ℕ) → i < w → free (gate_at t.net.gates (k.from + 2 * i + 1)).kind ≡ true
  unfolding free
  is_rem i l = rw (k.gates rm i l).1

  -- an assignment that meets the constraints exists
  module _ (e₀ : Assign) (o₀ : Obeys s.net e₀) where
    N : ℕ
    N = num e₀ n w

    D : ℕ
    D = nonzero (num e₀ d w)

    pos : 0 < D
    unfolding D
    pos = by-pick (λ x. 0 < x) (eqb (num e₀ d w) 0) 1 (num e₀ d w) (λ h. omega arith) (λ h. not-zero (num e₀ d w) (eqb-false (num e₀ d w) 0 h))
      where
        not-zero : (x : ℕ) → (x ≡ 0 → ⊥) → 0 < x
        not-zero zero h = absurd (h refl)
        not-zero (suc x) h = omega arith

    v : Assign
    v j = pick (eqb ((j - k.from) % 2) 0) (eqb (digit (N / D) ((j - k.from) / 2)) 1) (eqb (digit (N % D) ((j - k.from) / 2)) 1)

    pub solution : Assign
    solution = extended s.net t.net _ k.grows two f rm e₀ v o₀

    pub solution-obeys : Obeys t.net solution
    unfolding solution
    solution-obeys = extended-obeys s.net t.net _ k.grows two f rm e₀ v o₀

    pub solution-old : (j : ℕ) → j < s.net.n → solution j ≡ e₀ j
    unfolding solution
    solution-old = extended-old s.net t.net _ k.grows two f rm e₀ v o₀

    at_new : (j : ℕ) → s.net.n ≤ j → j < t.net.n → free (gate_at t.net.gates j).kind ≡ true → solution j ≡ v j
    unfolding solution
    at_new = extended-new s.net t.net _ k.grows two f rm e₀ v o₀

    vq : (i : ℕ) → v (k.from + 2 * i) ≡ eqb (digit (N / D) i) 1
    unfolding v pick
    vq i =
        let a : (k.from + 2 * i - k.from) % 2 ≡ 0 = omega arith in
        let b : (k.from + 2 * i - k.from) / 2 ≡ i = omega arith in
        rw (a, b)

    vr : (i : ℕ) → v (k.from + 2 * i + 1) ≡ eqb (digit (N % D) i) 1
    unfolding v pick
    vr i =
        let a : (k.from + 2 * i + 1 - k.from) % 2 ≡ 1 = omega arith in
        let b : (k.from + 2 * i + 1 - k.from) / 2 ≡ i = omega arith in
        rw (a, b)

    quot : number (λ i. solution (k.from + 2 * i)) w ≡ N / D
    unfolding N
    quot =
        number_same (λ i. solution (k.from + 2 * i)) (λ i. eqb (digit (N / D) i) 1) w
        (λ i l. at_new (k.from + 2 * i) (omega (arith, k.low)) (omega (arith, k.high)) (is_quot i l) ∙ vq i)
        ∙ number_digits (N / D) w (omega (arith, num-lt e₀ n w, div-le_self N D))

    rem : number (λ i. solution (k.from + 2 * i + 1)) w ≡ N % D
    unfolding N
    rem =
        number_same (λ i. solution (k.from + 2 * i + 1)) (λ i. eqb (digit (N % D) i) 1) w
        (λ i l. at_new (k.from + 2 * i + 1) (omega (arith, k.low)) (omega (arith, k.high)) (is_rem i l) ∙ vr i)
        ∙ number_digits (N % D) w (omega (arith, num-lt e₀ n w, mod-le N D))

    pub solution-holds : Holds solution t.cons.list s.cons.m t.cons.m
    unfolding N D
    solution-holds =
        let nn : num solution n w ≡ N = num-agree solution e₀ n s.net.n w bn solution-old in
        let dd : nonzero (num solution d w) ≡ D = ap (λ (x : ℕ). nonzero x) (num-agree solution e₀ d s.net.n w bd solution-old) in
        (k.holds solution solution-obeys crm).1 (rw (quot, dd, rem, nn) (div-add-mod' N D), rw (dd, rem) (mod-lt N pos))

  -- two assignments that meet the constraints and agree on the net before agree on all of it: one quotient and remainder
  module _ (e e' : Assign) (o : Obeys t.net e) (o' : Obeys t.net e') (h : Holds e t.cons.list s.cons.m t.cons.m)
      (h' : Holds e' t.cons.list s.cons.m t.cons.m) (agree : (j : ℕ) → j < s.net.n → e j ≡ e' j) where
    nn : num e n w ≡ num e' n w
    nn = num-agree e e' n s.net.n w bn agree

    dd : num e d w ≡ num e' d w
    dd = num-agree e e' d s.net.n w bd agree

    a : (number (λ i. e (k.from + 2 * i)) w ≡ num e n w / nonzero (num e d w)) × (number (λ i. e (k.from + 2 * i + 1)) w ≡ num e n w % nonzero (num e d w)) × (0 < nonzero (num e d w))
    a = parts-one _ _ _ _ ((k.holds e o crm).0 h)

    b : (number (λ i. e' (k.from + 2 * i)) w ≡ num e n w / nonzero (num e d w)) × (number (λ i. e' (k.from + 2 * i + 1)) w ≡ num e n w % nonzero (num e d w)) × (0 < nonzero (num e d w))
    b = rw (nn, dd) (parts-one _ _ _ _ ((k.holds e' o' crm).0 h'))

    same-quot : (i : ℕ) → i < w → e (k.from + 2 * i) ≡ e' (k.from + 2 * i)
    same-quot i l = number-digit (λ j. e (k.from + 2 * j)) (λ j. e' (k.from + 2 * j)) w (a.0 ∙ sym b.0) i l

    same-rem : (i : ℕ) → i < w → e (k.from + 2 * i + 1) ≡ e' (k.from + 2 * i + 1)
    same-rem i l = number-digit (λ j. e (k.from + 2 * j + 1)) (λ j. e' (k.from + 2 * j + 1)) w (a.1 ∙ sym b.1) i l

    at-free : (j : ℕ) → j < t.net.n → free (gate_at t.net.gates j).kind ≡ true → e j ≡ e' j
    at-free j lt r = go (dec_lt j s.net.n) (dec_lt j k.from) (dec_lt j (k.from + 2 * w))
      where
        i : ℕ
        i = (j - k.from) / 2

        bound : free (gate_at t.net.gates j).kind ≡ false → e j ≡ e' j
        bound u = absurd (false≢true (sym u ∙ r))

        odd : k.from ≤ j → j < k.from + 2 * w → (m : ℕ) → (j - k.from) % 2 ≡ m → e j ≡ e' j
        odd lo hi zero q = let z : j ≡ k.from + 2 * i = omega arith in rw z (same-quot i (omega arith))
        odd lo hi (suc zero) q = let z : j ≡ k.from + 2 * i + 1 = omega arith in rw z (same-rem i (omega arith))
        odd lo hi (suc (suc m)) q = absurd (omega arith)

        go : Dec (j < s.net.n) → Dec (j < k.from) → Dec (j < k.from + 2 * w) → e j ≡ e' j
        go (yes l) p q = agree j l
        go (no l) (yes p) q = bound (k.before rm j (omega arith) p)
        go (no l) (no p) (yes q) = odd (omega arith) q ((j - k.from) % 2) refl
        go (no l) (no p) (no q) = bound (k.after rm j (omega arith) lt)

    pub one_solution : (j : ℕ) → j < t.net.n → e j ≡ e' j
    one_solution = one-assignment t.net f e e' o o' at-free
