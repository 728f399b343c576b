-- The law of the check: all its constraints hold exactly if quot · d + rem ≡ n and rem < d.
use mathlib.Core.Path.{◌≡◌, refl, ap, sym, ◌∙◌}
use mathlib.Core.List.{List}
use mathlib.Core.Logic.{◌↔◌}
use mathlib.Core.Bool.{Bool, true, false, not}
use Prim.Native.Nat.{ℕ, zero, suc, ◌+◌, ◌*◌, ◌-◌, ◌^◌, ◌/◌, ◌≤◌, ◌<◌}
use native.Mathlib.Omega.{arith}
use native.Mathlib.Nat.{zero-add}
use lib.Dec.{ltb}
use lib.ListN.{get_or}
use borrow.Author.Tests.{ltb-true, lt-ltb}
use Rattle.loops.specs.Loop.{sum, bit}
use Rattle.netlist.specs.Record.{Room}
use Rattle.netlist.specs.Kind.{xor}
use Rattle.netlist.specs.Net.{Assign, Obeys}
use Rattle.gates.specs.Made.{MadeBit}
use Rattle.gates.specs.Law.{Ext, Formed}
use Rattle.gates.proofs.Laws as gates
use Rattle.gates.proofs.Laws.{ext_trans, ext-weaken, keeps}
use Rattle.gates.proofs.FoldLaws.{xnor-cost}
use Rattle.digits.specs.Digits.{Below}
use Rattle.digits.proofs.Numbers.{number_same, number-digit}
use Rattle.words.specs.declared.each.Bitwise.TheVariants.{Xnor}
use Rattle.words.specs.Num.{num, blank}
use Rattle.words.specs.Each.{bit_value, bit_cost, bit_below, Word, each_bit, each_cost, EachLaw}
use Rattle.words.specs.Add.{Chain, add_onto}
use Rattle.words.specs.Sub.{ult_words, UltLaw}
use Rattle.words.specs.Mul.{mul_cost, OntoLaw}
use Rattle.words.proofs.Sums.{sum-suc, sum-none, sum-most}
use Rattle.words.proofs.NumLaws.{num-lt, blank-long}
use Rattle.words.proofs.EachLaws.{each-law, below_more}
use Rattle.words.proofs.SubLaws.{ult-law}
use Rattle.words.proofs.MulStep.{placed-law}
use Rattle.words.proofs.MulStep as mul
use Rattle.division.specs.Constraint.{Cons, constrain, constrain_each, More, ConLaw}
use Rattle.division.specs.Rows.{Checked, div_rows, rows_cost, rows_count, RowsLaw}
use Rattle.division.specs.Check.{Book, sum_words, check_words, Divides, sum_cost, sum_count, check_cost, con_count, CheckLaw}
use Rattle.division.proofs.ConstraintLaws.{more-trans, more-as, room_back, holds-split, within-join, one-law, then-law, All}
use Rattle.division.proofs.ConstraintLaws as cons
use Rattle.division.proofs.RowLaws.{fits, rows-law}

-- the Xnors of two words are all true exactly where their numbers are the same
xnors-same : (e : Assign) (x a b : List ℕ) (w : ℕ) → ((j : ℕ) → j < w → e (get_or x j 0) ≡ not (xor (e (get_or a j 0)) (e (get_or b j 0)))) → All x 1 w e ↔ (num e a w ≡ num e b w)
xnors-same e x a b w v = (
  (λ h. number_same (λ j. e (get_or a j 0)) (λ j. e (get_or b j 0)) w (λ j l. same (e (get_or a j 0)) (e (get_or b j 0)) (ap bit (sym (v j l)) ∙ h j l))),
  (λ h j l. rw (v j l) (one (e (get_or a j 0)) (e (get_or b j 0)) (number-digit (λ j. e (get_or a j 0)) (λ j. e (get_or b j 0)) w h j l))),
)
  where
    same : (p q : Bool) → bit (not (xor p q)) ≡ 1 → p ≡ q
    same true true h = refl
    same true false h = absurd (omega arith)
    same false true h = absurd (omega arith)
    same false false h = refl

    one : (p q : Bool) → p ≡ q → bit (not (xor p q)) ≡ 1
    one true q h = rw (← h)
    one false q h = rw (← h)

-- all the claims, as one on numbers: x is the product's low bits, k what is lost above; y the sum with the remainder, c its carry
all-claims : (w k c x y q d r n : ℕ) → x < 2 ^ w → y < 2 ^ w → n < 2 ^ w → x + 2 ^ w * k ≡ q * d → y + 2 ^ w * c ≡ x + r
    → ((q * d < 2 ^ w) × (c ≡ 0) × (n ≡ y)) ↔ (q * d + r ≡ n)
all-claims w k c x y q d r n lx ly ln ex ey = (
  (λ h. let a : k ≡ 0 = (fits w x k (q * d) lx ex).0 h.0 in omega (arith, rw a at ex, rw h.1 at ey)),
  (λ h.
      let a : q * d < 2 ^ w = omega arith in
      let b : k ≡ 0 = (fits w x k (q * d) lx ex).0 a in
      let g : x ≡ q * d = omega (arith, rw b at ex) in
      let f : c ≡ 0 = (fits w y c (x + r) ly ey).0 (omega arith) in
      (a, f, omega (arith, rw f at ey))),
)

-- the costs
two-sum : (w : ℕ) → 2 * sum w (λ j. j) + w ≡ w * w
two-sum zero = rw (sum-none (λ j. j))
two-sum (suc w) = rw (sum-suc (λ j. j) w) (omega (arith, two-sum w))

half-sum : (w : ℕ) → sum w (λ j. j) ≡ w * (w - 1) / 2
half-sum zero = rw (sum-none (λ j. j))
half-sum (suc w) = let q : suc w - 1 ≡ w = omega arith in rw (q, sum-suc (λ j. j) w) (omega (arith, two-sum w))

gates-sum : (w m : ℕ) → rows_cost w m ≡ sum m (λ j. 4 * (w - j)) + sum m (λ j. j)
gates-sum w zero = rw (sum-none (λ j. 4 * (w - j) + j), sum-none (λ j. 4 * (w - j)), sum-none (λ j. j))
gates-sum w (suc m) = rw (sum-suc (λ j. 4 * (w - j) + j) m, sum-suc (λ j. 4 * (w - j)) m, sum-suc (λ j. j) m) (omega (arith, gates-sum w m))

cons-sum : (m : ℕ) → rows_count m ≡ sum m (λ j. j) + m
cons-sum zero = rw (sum-none (λ j. j + 1), sum-none (λ j. j))
cons-sum (suc m) = rw (sum-suc (λ j. j + 1) m, sum-suc (λ j. j) m) (omega (arith, cons-sum m))

pub cost-all : (w : ℕ) → rows_cost w w ≡ mul_cost w + w * (w - 1) / 2
cost-all w = let q : w - w ≡ 0 = omega arith in omega (arith, gates-sum w w, rw q at (mul.rows-cost w w (omega arith)), half-sum w)

pub count-all : (w : ℕ) → rows_count w ≡ w * (w - 1) / 2 + w
count-all w = omega (arith, cons-sum w, half-sum w)

pub xnors-cost : (a b : List ℕ) (w : ℕ) → each_cost Xnor a b w ≤ 2 * w
unfolding bit_cost
xnors-cost a b w = sum-most (λ i. bit_cost Xnor (get_or a i 0) (get_or b i 0)) 2 w (λ i l. (xnor-cost (get_or a i 0) (get_or b i 0)).1)

module _ (w : ℕ) (quot rem n d : List ℕ) (s : Book) (small : w ≤ 64) where
  p : Checked
  p = div_rows w quot d s.net s.cons

  rows : RowsLaw w quot d (record { net = s.net; cons = s.cons; out = blank }) w p
  unfolding p
  rows = rows-law w quot d s.net s.cons (omega arith) w (omega arith)

  c : Chain
  c = add_onto 0 rem w (record { net = p.net; carry = 0; out = p.out })

  a : OntoLaw w 0 w rem (record { net = p.net; carry = 0; out = p.out }) c
  unfolding c
  a = placed-law w 0 w rem (record { net = p.net; carry = 0; out = p.out }) (zero-add w) (omega (arith, rows.long, blank-long))

  -- what the sum has made
  pub sum-upto : (sum_words w quot rem d s).net.n ≤ s.net.n + sum_cost w
  unfolding sum_words p c
  sum-upto = omega (arith, rows.ext.grows.upto, a.ext.grows.upto, cost-all w)

  pub sum_more : More s.cons (sum_words w quot rem d s).cons (sum_count w)
  unfolding sum_words p c
  sum_more =
      more-as s.cons _ (rows_count w + 1) (sum_count w) (omega (arith, count-all w))
      (more-trans s.cons p.cons _ (rows_count w) 1 rows.more (cons.more-one p.cons c.carry 0))

  x : Word
  x = each_bit Xnor n c.out w (record { net = c.net; out = blank })

  xl : EachLaw Xnor n c.out (record { net = c.net; out = blank }) w x
  unfolding x
  xl = each-law Xnor n c.out (record { net = c.net; out = blank }) w (omega (arith, blank-long))

  xe : Ext c.net x.net (2 * w)
  xe = ext-weaken c.net x.net (each_cost Xnor n c.out w) (2 * w) (xnors-cost n c.out w) xl.ext

  u : MadeBit
  u = ult_words w rem d x.net

  ul : UltLaw w rem d x.net u
  unfolding u
  ul = ult-law w rem d x.net small

  y : Cons
  y = constrain (constrain_each x.out 1 w (constrain p.cons c.carry 0)) u.bit 1

  law : ConLaw (λ m. ((c.carry < m) × Below m x.out w) × (u.bit < m)) (λ e. ((bit (e c.carry) ≡ 0) × All x.out 1 w e) × (bit (e u.bit) ≡ 1)) p.cons y (1 + w + 1)
  unfolding y
  law =
      then-law (then-law (one-law p.cons c.carry 0 (omega arith)) (cons.each-law x.out 1 (omega arith) (constrain p.cons c.carry 0) w))
      (one-law (constrain_each x.out 1 w (constrain p.cons c.carry 0)) u.bit 1 (omega arith))

  from-c : Ext c.net u.net (2 * w + (4 * w + 1))
  from-c = ext_trans c.net x.net u.net (2 * w) (4 * w + 1) xe ul.ext

  from-p : Ext p.net u.net (3 * w + (2 * w + (4 * w + 1)))
  from-p = ext_trans p.net c.net u.net (3 * w) (2 * w + (4 * w + 1)) a.ext from-c

  from-s : Ext s.net u.net (check_cost w)
  from-s =
      ext-weaken s.net u.net (rows_cost w w + (3 * w + (2 * w + (4 * w + 1)))) (check_cost w) (omega (arith, cost-all w))
      (ext_trans s.net p.net u.net (rows_cost w w) (3 * w + (2 * w + (4 * w + 1))) rows.ext from-p)

  top : (l r : ℕ) (t : Bool) → t ≡ ltb l r → (bit t ≡ 1) ↔ (l < r)
  top l r true h = ((λ k. ltb-true l r (sym h)), (λ k. refl))
  top l r false h = ((λ k. absurd (omega arith)), (λ k. ap bit (h ∙ lt-ltb l r k)))

  -- the last constraints, as claims on numbers
  claim : (e : Assign) → Obeys u.net e
      → ((num e quot w * num e d w < 2 ^ w) × (((bit (e c.carry) ≡ 0) × All x.out 1 w e) × (bit (e u.bit) ≡ 1))) ↔ Divides w quot rem n d e
  unfolding bit_value
  claim e o =
      let ox : Obeys x.net e = keeps x.net u.net (4 * w + 1) e ul.ext.grows o in
      let oc : Obeys c.net e = keeps c.net u.net _ e from-c.grows o in
      let v : (k : ℕ) × (num e p.out w + 2 ^ w * k ≡ num e quot w * num e d w) = rows.value e (keeps p.net u.net _ e from-p.grows o) in
      let k : num e c.out w + 2 ^ w * bit (e c.carry) ≡ num e p.out w + num e rem w = omega (arith, a.value e oc, ap bit o.low) in
      let all : ((num e quot w * num e d w < 2 ^ w) × (bit (e c.carry) ≡ 0) × (num e n w ≡ num e c.out w)) ↔ (num e quot w * num e d w + num e rem w ≡ num e n w) =
      all-claims w v.0 (bit (e c.carry)) (num e p.out w) (num e c.out w) (num e quot w) (num e d w) (num e rem w) (num e n w) (num-lt e p.out w) (num-lt e c.out w) (num-lt e n w) v.1 k in
      let xs : All x.out 1 w e ↔ (num e n w ≡ num e c.out w) = xnors-same e x.out n c.out w (xl.value e ox) in
      let ult : (bit (e u.bit) ≡ 1) ↔ (num e rem w < num e d w) = top (num e rem w) (num e d w) (e u.bit) (ul.value e o) in (
        (λ h. (all.0 (h.0, h.1.0.0, xs.0 h.1.0.1), ult.0 h.1.1)),
        (λ h. let t = all.1 h.0 in (t.0, ((t.1, xs.1 t.2), ult.1 h.1))),
      )

  abbrev In : Type 0
  In = Below s.net.n quot w × Below s.net.n rem w × Below s.net.n n w × Below s.net.n d w

  for_c : Room c.net.gates c.net.n → In → Formed s.net → Formed c.net × (c.carry < c.net.n) × Below c.net.n c.out w
  for_c rm i f =
      let k : Formed p.net × Below p.net.n p.out w = rows.formed (gates.room_back p.net c.net (3 * w) a.ext.grows rm) i.0 i.3 f in
      a.formed rm k.1 (below_more s.net.n p.net.n rem w rows.ext.grows.from i.1) (omega (arith, k.0.two)) k.0

  for_x : Room x.net.gates x.net.n → In → Formed s.net → Formed x.net × Below x.net.n x.out w
  unfolding bit_below
  for_x rm i f =
      let k = for_c (gates.room_back c.net x.net (2 * w) xe.grows rm) i f in
      xl.formed rm (λ j l. (omega (arith, i.2 j l, rows.ext.grows.from, a.ext.grows.from), k.2 j l)) k.0

  for_u : Room u.net.gates u.net.n → In → Formed s.net → Formed u.net × (u.bit < u.net.n)
  for_u rm i f =
      let up : s.net.n ≤ x.net.n = omega (arith, rows.ext.grows.from, a.ext.grows.from, xe.grows.from) in
      ul.formed rm (below_more s.net.n x.net.n rem w up i.1, below_more s.net.n x.net.n d w up i.3)
      (for_x (gates.room_back x.net u.net (4 * w + 1) ul.ext.grows rm) i f).0

  pub check-law : CheckLaw w quot rem n d s (check_words w quot rem n d s)
  unfolding check_words sum_words p c x u y
  check-law =
      record {
        ext = from-s;
        more = more-as s.cons y (rows_count w + (1 + w + 1)) (con_count w) (omega (arith, count-all w)) (more-trans s.cons p.cons y (rows_count w) (1 + w + 1) rows.more law.more);
        holds = λ e o room.
            let z = holds-split s.cons p.cons y (rows_count w) (1 + w + 1) rows.more law.more e in
            let r = rows.holds e (keeps p.net u.net _ e from-p.grows o) (room_back p.cons y (1 + w + 1) law.more room) in
            let q = law.holds room e in
            let t = claim e o in
            ((λ h. let g = z.0 h in t.0 (r.0 g.0, q.0 g.1)), (λ h. let g = t.1 h in z.1 (r.1 g.0, q.1 g.1)));
        formed = λ rm bq br bn bd f. (for_u rm (bq, br, bn, bd) f).0;
        within = λ rm room bq br bn bd f.
            let i : In = (bq, br, bn, bd) in
            let rx : Room x.net.gates x.net.n = gates.room_back x.net u.net (4 * w + 1) ul.ext.grows rm in
            let rc : Room c.net.gates c.net.n = gates.room_back c.net u.net _ from-c.grows rm in
            within-join s.cons p.cons y (1 + w + 1) p.net.n u.net.n from-p.grows.from law.more
            (rows.within (gates.room_back p.net u.net _ from-p.grows rm) (room_back p.cons y (1 + w + 1) law.more room) bq bd f)
            (law.within room u.net.n ((omega (arith, (for_c rc i f).1, from-c.grows.from), below_more x.net.n u.net.n x.out w ul.ext.grows.from (for_x rx i f).1), (for_u rm i f).1));
      }
