-- The rows of quotient times divisor: their constraints hold where the product fits in w bits, and only there.
use mathlib.Core.Path.{◌≡◌, refl, ap, sym, ◌∙◌}
use mathlib.Core.List.{List}
use mathlib.Core.Logic.{◌↔◌}
use mathlib.Core.Bool.{Bool, true, false}
use Prim.Native.Nat.{ℕ, zero, suc, ◌+◌, ◌*◌, ◌-◌, ◌^◌, ◌≤◌, ◌<◌}
use native.Mathlib.Omega.{arith}
use native.Mathlib.Decide.{dec_lt}
use lib.ListN.{length, get_or, drop}
use lib.Seq.{get_or-take, get_or-drop}
use Rattle.loops.specs.Loop.{iter, bit}
use Rattle.loops.proofs.Loop.{iter-inv}
use Rattle.netlist.specs.Record.{Room}
use Rattle.netlist.specs.Net.{Net, Assign, Obeys}
use Rattle.gates.specs.Law.{Ext, Formed}
use Rattle.gates.proofs.Laws as gates
use Rattle.gates.proofs.Laws.{ext_refl, ext_trans, ext-weaken, keeps}
use Rattle.digits.specs.Digits.{Below}
use Rattle.words.specs.Num.{num, blank}
use Rattle.words.specs.Each.{Word}
use Rattle.words.specs.Add.{Chain, add_onto}
use Rattle.words.specs.Mul.{row_of, RowLaw, OntoLaw}
use Rattle.words.proofs.Sums.{sum-suc, sum-none}
use Rattle.words.proofs.NumLaws.{num-lt, num-suc, num-none, num-same, blank-long, blank-at}
use Rattle.words.proofs.EachLaws.{below_more}
use Rattle.words.proofs.MulStep.{num-zero, num-split, row-law, placed-law, row-arith}
use Rattle.division.specs.Constraint.{Cons, constrain_each, ConLaw}
use Rattle.division.specs.Rows.{Checked, places, row_step, rows_cost, rows_count, RowsLaw}
use Rattle.division.proofs.ConstraintLaws.{more-refl, more-trans, more-as, room_back, holds-split, within-join, holds-none, within_none, one-law, then-law, All, each-law}

-- what is lost above w bits is nothing exactly where the number fits
pub fits : (w p k x : ℕ) → p < 2 ^ w → p + 2 ^ w * k ≡ x → (x < 2 ^ w) ↔ (k ≡ 0)
fits w p zero x h q = ((λ l. refl), (λ l. omega arith))
fits w p (suc k) x h q = ((λ l. absurd (omega arith)), (λ l. absurd (omega arith)))

-- the bits of a word are all false exactly where its number is 0
pub zero_bits : (e : Assign) (bs : List ℕ) (w : ℕ) → All bs 0 w e ↔ (num e bs w ≡ 0)
zero_bits e bs w = ((λ h. num-zero e bs w (λ j l. off (e (get_or bs j 0)) (h j l))), (λ h. back w h))
  where
    off : (b : Bool) → bit b ≡ 0 → b ≡ false
    off true h = absurd (omega arith)
    off false h = refl

    back : (w : ℕ) → num e bs w ≡ 0 → All bs 0 w e
    back zero h j l = absurd (omega arith)
    back (suc w) h j l = go (num-suc e bs w) (λ q. back w q j) (e (get_or bs w 0)) refl (dec_lt j w)
      where
        go : num e bs (suc w) ≡ num e bs w + 2 ^ w * bit (e (get_or bs w 0)) → (num e bs w ≡ 0 → j < w → bit (e (get_or bs j 0)) ≡ 0) → (b : Bool) → e (get_or bs w 0) ≡ b → Dec (j < w)
            → bit (e (get_or bs j 0)) ≡ 0
        go s ih true q d = absurd (omega (arith, rw q at s, num-lt e bs w))
        go s ih false q (yes y) = ih (omega arith) y
        go s ih false q (no y) = let r : j ≡ w = omega arith in rw (r, q)

-- the places above, as a word
module _ (w i : ℕ) (bs : List ℕ) (h : i ≤ w) where
  place_at_lem : (j : ℕ) → j < i → get_or (places (w - i) w bs) j 0 ≡ get_or bs (w - i + j) 0
  place_at_lem j l = let q : j < w - (w - i) = omega arith in rw (get_or-take, get_or-drop)

  pub places-num : (e : Assign) → num e bs w ≡ num e bs (w - i) + 2 ^ (w - i) * num e (places (w - i) w bs) i
  places-num e =
      let m : w - i + i ≡ w = omega arith in
      let a : num e bs w ≡ num e bs (w - i) + 2 ^ (w - i) * num e (drop (w - i) bs) i = rw m at (num-split e bs (w - i) i) in
      let b : num e (places (w - i) w bs) i ≡ num e (drop (w - i) bs) i = num-same e (places (w - i) w bs) (drop (w - i) bs) i (λ j l. place_at_lem j l ∙ rw get_or-drop) in
      rw b a

  pub places-below : (n : ℕ) → Below n bs w → Below n (places (w - i) w bs) i
  places-below n b j l = rw (place_at_lem j l) (b (w - i + j) (omega arith))

-- the claims of one row more
row-claim : (w k c p q x y h : ℕ) → p < 2 ^ w → q < 2 ^ w → p + 2 ^ w * k ≡ x → q + 2 ^ w * (k + c + h) ≡ y
    → ((x < 2 ^ w) × (h ≡ 0) × (c ≡ 0)) ↔ (y < 2 ^ w)
row-claim w k c p q x y h lp lq ep eq = (
  (λ z. (fits w q (k + c + h) y lq eq).1 (omega (arith, (fits w p k x lp ep).0 z.0))),
  (λ z. let r : k + c + h ≡ 0 = (fits w q (k + c + h) y lq eq).0 z in ((fits w p k x lp ep).1 (omega arith), omega arith, omega arith)),
)

module _ (w : ℕ) (quot den : List ℕ) (s : Checked) (small : w ≤ 65) (wide : w ≤ length s.out) where
  row_step_lem : (i : ℕ) (x : Checked) → i < w → RowsLaw w quot den s i x → RowsLaw w quot den s (suc i) (row_step w quot den i x)
  unfolding row_step
  row_step_lem i x lt h =
      record {
        ext = ext-weaken s.net c.net (rows_cost w i + own) (rows_cost w (suc i)) (omega (arith, sum-suc (λ j. 4 * (w - j) + j) i))
            (ext_trans s.net x.net c.net (rows_cost w i) own h.ext from-x);
        more = more-as s.cons _ (rows_count i + (i + 1)) (rows_count (suc i)) (sym (sum-suc (λ j. j + 1) i)) (more-trans s.cons x.cons _ (rows_count i) (i + 1) h.more law.more);
        long = b.long ∙ h.long;
        value = λ e o. let v = old e o in (v.0 + bit (e c.carry) + H e * bit (e d), rw (num-suc e den i) (new e o v.0 v.1));
        holds = λ e o room.
            let v = old e o in
            let z = holds-split s.cons x.cons y (rows_count i) (i + 1) h.more law.more e in
            let p = h.holds e (before e o) (room_back x.cons y (i + 1) law.more room) in
            let q = law.holds room e in
            let t = drops e o in
            let r = row-claim w v.0 (bit (e c.carry)) (num e x.out w) (num e c.out w) _ _ (H e * bit (e d)) (num-lt e x.out w) (num-lt e c.out w) v.1 (new e o v.0 v.1) in
            rw (num-suc e den i) (
              (λ g. let a = z.0 g in r.0 (p.0 a.0, t.0 (q.0 a.1).0, (q.0 a.1).1)),
              (λ g. let a = r.1 g in z.1 (p.1 a.0, q.1 (t.1 a.1, a.2))),
            );
        formed = λ rm bq bd f. let q = for_c rm bq bd f in (q.0, q.2);
        within = λ rm room bq bd f.
            within-join s.cons x.cons y (i + 1) x.net.n c.net.n (omega (arith, from-x.grows.from)) law.more
            (h.within (gates.room_back x.net c.net own from-x.grows rm) (room_back x.cons y (i + 1) law.more room) bq bd f)
            (law.within room c.net.n (below_more u.net.n c.net.n u.out i b.ext.grows.from (for_u (gates.room_back u.net c.net (3 * m) b.ext.grows rm) bq bd f).1, (for_c rm bq bd f).1));
      }
    where
      d : ℕ
      d = get_or den i 0

      m : ℕ
      m = w - i

      -- the kept bits, and those that are lost
      r : Word
      r = row_of quot d m x.net

      a : RowLaw quot d m x.net r
      a = row-law quot d m x.net (omega arith)

      u : Word
      u = row_of (places m w quot) d i r.net

      l : RowLaw (places m w quot) d i r.net u
      l = row-law (places m w quot) d i r.net (omega arith)

      c : Chain
      c = add_onto i r.out m (record { net = u.net; carry = 0; out = x.out })

      b : OntoLaw w i m r.out (record { net = u.net; carry = 0; out = x.out }) c
      b = placed-law w i m r.out (record { net = u.net; carry = 0; out = x.out }) (omega arith) (omega (arith, h.long))

      y : Cons
      y = (row_step w quot den i x).cons

      law : ConLaw (λ n. Below n u.out i × (c.carry < n)) (λ e. All u.out 0 i e × (bit (e c.carry) ≡ 0)) x.cons y (i + 1)
      law = then-law (each-law u.out 0 (omega arith) x.cons i) (one-law (constrain_each u.out 0 i x.cons) c.carry 0 (omega arith))

      own : ℕ
      own = 4 * (w - i) + i

      from-x : Ext x.net c.net own
      from-x =
          ext-weaken x.net c.net (m + i + 3 * m) own (omega arith)
          (ext_trans x.net u.net c.net (m + i) (3 * m) (ext_trans x.net r.net u.net m i a.ext l.ext) b.ext)

      H : Assign → ℕ
      H e = num e (places m w quot) i

      obeys_u : (e : Assign) → Obeys c.net e → Obeys u.net e
      obeys_u e o = keeps u.net c.net (3 * m) e b.ext.grows o

      obeys_r : (e : Assign) → Obeys c.net e → Obeys r.net e
      obeys_r e o = keeps r.net u.net i e l.ext.grows (obeys_u e o)

      before : (e : Assign) → Obeys c.net e → Obeys x.net e
      before e o = keeps x.net c.net own e from-x.grows o

      old : (e : Assign) → Obeys c.net e → (k : ℕ) × (num e x.out w + 2 ^ w * k ≡ num e quot w * num e den i)
      old e o = h.value e (before e o)

      new : (e : Assign) → Obeys c.net e → (k : ℕ) → num e x.out w + 2 ^ w * k ≡ num e quot w * num e den i
          → num e c.out w + 2 ^ w * (k + bit (e c.carry) + H e * bit (e d)) ≡ num e quot w * (num e den i + 2 ^ i * bit (e d))
      new e o k q =
          let v : 2 ^ i * (num e r.out m + bit (e 0)) ≡ 2 ^ i * (num e quot m * bit (e d)) = ap (λ (z : ℕ). 2 ^ i * z) (omega (arith, a.value e (obeys_r e o), ap bit o.low)) in
          let z : num e c.out w + 2 ^ w * bit (e c.carry) ≡ num e x.out w + 2 ^ i * (num e quot m * bit (e d)) = b.value e o ∙ ap (λ (z : ℕ). num e x.out w + z) v in
          row-arith w i k (bit (e c.carry)) (num e x.out w) (num e c.out w) (num e quot w) (num e quot m) (H e) (num e den i) (bit (e d)) (omega arith) z (places-num w i quot (omega arith) e) q

      drops : (e : Assign) → Obeys c.net e → All u.out 0 i e ↔ (H e * bit (e d) ≡ 0)
      drops e o =
          let z = zero_bits e u.out i in
          let q : num e u.out i ≡ H e * bit (e d) = l.value e (obeys_u e o) in
          ((λ g. sym q ∙ z.0 g), (λ g. z.1 (q ∙ g)))

      for_x : Room u.net.gates u.net.n → Below s.net.n quot w → Below s.net.n den w → Formed s.net → Formed x.net × Below x.net.n x.out w
      for_x rm bq bd f = h.formed (gates.room_back x.net r.net m a.ext.grows (gates.room_back r.net u.net i l.ext.grows rm)) bq bd f

      for_r : Room u.net.gates u.net.n → Below s.net.n quot w → Below s.net.n den w → Formed s.net → Formed r.net × Below r.net.n r.out m
      for_r rm bq bd f =
          a.formed (gates.room_back r.net u.net i l.ext.grows rm) (λ j q. omega (arith, bq j (omega arith), h.ext.grows.from))
          (omega (arith, bd i lt, h.ext.grows.from)) (for_x rm bq bd f).0

      for_u : Room u.net.gates u.net.n → Below s.net.n quot w → Below s.net.n den w → Formed s.net → Formed u.net × Below u.net.n u.out i
      for_u rm bq bd f =
          l.formed rm (places-below w i quot (omega arith) r.net.n (λ j q. omega (arith, bq j q, h.ext.grows.from, a.ext.grows.from)))
          (omega (arith, bd i lt, h.ext.grows.from, a.ext.grows.from)) (for_r rm bq bd f).0

      for_c : Room c.net.gates c.net.n → Below s.net.n quot w → Below s.net.n den w → Formed s.net → Formed c.net × (c.carry < c.net.n) × Below c.net.n c.out w
      for_c rm bq bd f =
          let rm_u : Room u.net.gates u.net.n = gates.room_back u.net c.net (3 * m) b.ext.grows rm in
          let fu = for_u rm_u bq bd f in
          b.formed rm (below_more x.net.n u.net.n x.out w (omega (arith, a.ext.grows.from, l.ext.grows.from)) (for_x rm_u bq bd f).1)
          (below_more r.net.n u.net.n r.out m l.ext.grows.from (for_r rm_u bq bd f).1) (omega (arith, fu.0.two)) fu.0

module _ (w : ℕ) (quot den : List ℕ) (s : Net) (k : Cons) (small : w ≤ 65) where
  start : Checked
  start = record { net = s; cons = k; out = blank }

  none : RowsLaw w quot den start 0 start
  unfolding start
  none =
      record {
        ext = ext_refl s _;
        more = more-as k k 0 (rows_count 0) (sym (sum-none (λ j. j + 1))) (more-refl k);
        long = refl;
        value = λ e o. (0, rw (num-none e den) (omega (arith, num-zero e blank w (λ j l. ap e (blank-at j) ∙ o.low))));
        holds = λ e o room. rw (num-none e den) ((λ h. omega (arith, num-lt e quot w)), (λ h. holds-none e k));
        formed = λ rm bq bd f. (f, λ j l. omega (arith, blank-at j, f.two));
        within = λ rm room bq bd f. within_none s.n k;
      }

  pub rows-law : (i : ℕ) → i ≤ w → RowsLaw w quot den (record { net = s; cons = k; out = blank }) i (iter i (row_step w quot den) (record { net = s; cons = k; out = blank }))
  unfolding start
  rows-law i l = iter-inv (RowsLaw w quot den start) (row_step w quot den) start i none (λ j x lt h. row_step_lem w quot den start small (omega (arith, blank-long)) j x (omega arith) h)
