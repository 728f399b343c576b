-- The law of the shifts, over the width and the direction. A stage moves by its power of two or by nothing, so after some stages the word has moved by the
-- number that their amount bits say; a remaining amount bit that is true means an amount of the width or more.
use mathlib.Core.Path.{◌≡◌, refl, ap, sym, ◌∙◌}
use mathlib.Core.List.{List}
use mathlib.Core.Bool.{Bool, true, false, not, ◌&&◌, ◌||◌}
use Prim.Native.Nat.{ℕ, zero, suc, ◌+◌, ◌*◌, ◌-◌, ◌^◌, ◌≤◌, ◌<◌}
use native.Mathlib.Omega.{arith}
use native.Mathlib.Decide.{dec_lt, ℕ_discrete}
use native.Mathlib.Nat.{zero-add}
use lib.Dec.{eqb, ltb}
use lib.ListN.{length, get_or, drop}
use lib.Seq.{get_or-take, get_or-drop}
use borrow.Author.Tests.{eq-eqb, ne_eqb, lt-ltb, le-ltb}
use Rattle.loops.specs.Loop.{iter, bit, pick}
use Rattle.loops.proofs.Loop.{iter-inv}
use Rattle.netlist.specs.Record.{Room}
use Rattle.netlist.specs.Net.{Assign, Obeys}
use Rattle.gates.specs.Made.{MadeBit}
use Rattle.gates.specs.Law.{Formed, BitLaw}
use Rattle.gates.proofs.Laws.{ext_refl, ext_trans, ext-weaken, keeps, room_back}
use Rattle.gates.proofs.FoldLaws.{or-law}
use Rattle.digits.specs.Digits.{number, Below, powers_below}
use Rattle.digits.proofs.Numbers.{pow_pos, number_same, powers-less, powers-enough}
use Rattle.words.specs.declared.each.Bitwise.TheVariants.{Or, Clear}
use Rattle.words.specs.declared.shift.Direction.{Direction}
use Rattle.words.specs.Num.{num}
use Rattle.words.specs.Each.{bitwise, bit_value, bit_cost, bit_below, Word, each_bit, each_cost, EachLaw, put_bits, Put}
use Rattle.words.specs.Join.{join_all}
use Rattle.words.specs.Shift.{stage, stages, remaining, shift_words, shift_cost, shifted, ShiftLaw}
use Rattle.words.proofs.NumLaws.{num-lt, num-suc, num-none, num-same}
use Rattle.words.proofs.EachLaws.{cost-each, each-law, below_more, put-law}
use Rattle.words.proofs.JoinLaws.{joined, joined-law}
use Rattle.words.proofs.MulStep.{num-zero, num-split}
use Rattle.words.proofs.StageLaws.{shift-add, shift_none, shift-out, MoveLaw, stage-law}

module _ (to : Direction) (w : ℕ) (amount : List ℕ) (small : w ≤ 64) where
  stages-none : (s : Word) → MoveLaw to w (λ b. Below b amount 0) (λ e. num e amount 0) (3 * w * 0) s s
  stages-none s =
      record {
        ext = ext_refl s.net (3 * w * 0);
        long = refl;
        rest = λ j l. refl;
        value = λ e o. rw (num-none e amount) (sym (shift_none to w (num e s.out w) (num-lt e s.out w)));
        formed = λ rm bs ba f. (f, bs);
        known = λ bs ba. (refl, bs);
      }

  stages-step : (s : Word) (j : ℕ) (x : Word) → j < powers_below w → w ≤ length s.out → MoveLaw to w (λ b. Below b amount j) (λ e. num e amount j) (3 * w * j) s x
      → MoveLaw to w (λ b. Below b amount (suc j)) (λ e. num e amount (suc j)) (3 * w * suc j) s (stage to w amount j x)
  stages-step s j x lt fits h =
      record {
        ext = ext-weaken s.net t.net (3 * w * j + 3 * w) (3 * w * suc j) (omega arith) (ext_trans s.net x.net t.net (3 * w * j) (3 * w) h.ext a.ext);
        long = a.long ∙ h.long;
        rest = λ i l. a.rest i l ∙ h.rest i l;
        value = λ e o.
            rw (num-suc e amount j, a.value e o, h.value e (keeps x.net t.net (3 * w) e a.ext.grows o))
            (shift-add to w (num e amount j) (2 ^ j * bit (e (get_or amount j 0))) (num e s.out w));
        formed = λ rm bs ba f.
            let q : Formed x.net × Below x.net.n x.out w = h.formed (room_back x.net t.net (3 * w) a.ext.grows rm) bs (λ i l. ba i (omega arith)) f in
            a.formed rm q.1 (omega (arith, ba j (omega arith), h.ext.grows.from)) q.0;
        known = λ bs ba.
            let q : (x.net ≡ s.net) × Below 2 x.out w = h.known bs (λ i l. ba i (omega arith)) in
            let r : (t.net ≡ x.net) × Below 2 t.out w = a.known q.1 (ba j (omega arith)) in
            (r.0 ∙ q.0, r.1);
      }
    where
      t : Word
      t = stage to w amount j x

      a : MoveLaw to w (λ b. get_or amount j 0 < b) (λ e. 2 ^ j * bit (e (get_or amount j 0))) (3 * w) x t
      a = stage-law to w amount small j x lt (omega (arith, h.long))

  stages-law : (s : Word) (i : ℕ) → i ≤ powers_below w → w ≤ length s.out
      → MoveLaw to w (λ b. Below b amount i) (λ e. num e amount i) (3 * w * i) s (iter i (stage to w amount) s)
  stages-law s i h fits =
      iter-inv (λ j (x : Word). MoveLaw to w (λ b. Below b amount j) (λ e. num e amount j) (3 * w * j) s x) (stage to w amount) s i (stages-none s)
      (λ j x lt q. stages-step s j x (omega arith) fits q)

  -- the first j stages, and room for one more
  pub stages-most : (s : Word) (i : ℕ) → i ≤ powers_below w → w ≤ length s.out → (iter i (stage to w amount) s).net.n ≤ s.net.n + 3 * w * i
  stages-most s i h fits = (stages-law s i h fits).ext.grows.upto

-- ---- the remaining amount bits, and the clearing

some_more : (x p : ℕ) → 0 < p → (b : Bool) → Dec (x ≡ 0) → (not (eqb x 0) || b) ≡ not (eqb (x + p * bit b) 0)
some_more x p pos true (yes q) = rw (eq-eqb x 0 q, ne_eqb (x + p * 1) 0 (omega arith))
some_more x p pos true (no q) = rw (ne_eqb x 0 q, ne_eqb (x + p * 1) 0 (omega arith))
some_more x p pos false (yes q) = rw (eq-eqb x 0 q, eq-eqb (x + p * 0) 0 (omega arith))
some_more x p pos false (no q) = rw (ne_eqb x 0 q, ne_eqb (x + p * 0) 0 (omega arith))

-- some bit is true exactly if they say more than zero
some-num : (v : ℕ → Bool) (k : ℕ) → joined ◌||◌ v k ≡ not (eqb (number v (suc k)) 0)
unfolding number joined
some-num v zero = some_more 0 1 (omega arith) (v 0) (ℕ_discrete 0 0)
some-num v (suc k) = rw (some-num v k) (some_more (number v (suc k)) (2 ^ suc k) (pow_pos (suc k)) (v (suc k)) (ℕ_discrete (number v (suc k)) 0))

num-clear : (e : Assign) (v : Bool) (out bits : List ℕ) (w : ℕ) → ((i : ℕ) → i < w → e (get_or out i 0) ≡ (not v && e (get_or bits i 0))) → num e out w ≡ pick v 0 (num e bits w)
unfolding pick
num-clear e true out bits w h = num-zero e out w h
num-clear e false out bits w h = number_same (λ i. e (get_or out i 0)) (λ i. e (get_or bits i 0)) w h

-- n is the amount: a of its stages, and r above them
cleared : (to : Direction) (w p n a r x : ℕ) → n ≡ a + p * r → w ≤ p → x < 2 ^ w → pick (not (eqb r 0)) 0 (shifted to w a x) ≡ pick (ltb n w) (shifted to w n x) 0
unfolding pick
cleared to w p n a zero x e h lt = let q : n ≡ a = omega arith in rw q (go (dec_lt a w))
  where
    go : Dec (a < w) → shifted to w a x ≡ pick (ltb a w) (shifted to w a x) 0
    go (yes l) = rw (lt-ltb a w l)
    go (no l) = rw (le-ltb a w (omega arith)) (shift-out to w a x (omega arith) lt)
cleared to w p n a (suc r) x e h lt = rw (ne_eqb (suc r) 0 (omega arith), le-ltb n w (omega arith))

pub clear-cost : (c : ℕ) (left right : List ℕ) (w : ℕ) → each_cost (Clear c) left right w ≤ 1 * w
unfolding bit_cost
clear-cost c left right w = cost-each (Clear c) 1 left right w (λ a b. omega arith)

module _ (to : Direction) (w : ℕ) (bits amount : List ℕ) (s : Word) (big : 1 ≤ w) (small : w ≤ 64) (fits : w ≤ length s.out) where
  k : ℕ
  k = powers_below w

  start : Word
  start = record { net = s.net; out = put_bits 0 bits w s.out }

  p : Put 0 bits s.out w (put_bits 0 bits w s.out)
  p = put-law 0 bits s.out w (omega arith)

  copied : (i : ℕ) → i < w → get_or (put_bits 0 bits w s.out) i 0 ≡ get_or bits i 0
  copied i l = rw (zero-add i) at (p.there i l)

  x : Word
  x = stages to w amount start

  m : MoveLaw to w (λ b. Below b amount k) (λ e. num e amount k) (3 * w * k) start x
  unfolding x k start
  m = stages-law to w amount small start k (omega arith) (omega (arith, p.long))

  over : MadeBit
  over = join_all Or (w - k) (remaining w amount) x.net

  more : 1 ≤ w - k
  unfolding k
  more = omega (arith, powers-less w big)

  o : BitLaw x.net (Below x.net.n (remaining w amount) (w - k)) (Below 2 (remaining w amount) (w - k)) (λ e. joined ◌||◌ (λ i. e (get_or (remaining w amount) i 0)) (w - k - 1))
      (w - k - 1) over
  unfolding over bitwise
  o = joined-law Or ◌||◌ or-law (remaining w amount) x.net (w - k) more

  -- what the word is cleared by
  cond : ℕ
  cond = over.bit

  t : Word
  t = each_bit (Clear cond) bits x.out w (record { net = over.net; out = x.out })

  c : EachLaw (Clear cond) bits x.out (record { net = over.net; out = x.out }) w t
  unfolding t start
  c = each-law (Clear cond) bits x.out (record { net = over.net; out = x.out }) w (omega (arith, m.long, p.long))

  remaining-at : (i : ℕ) → i < w - k → get_or (remaining w amount) i 0 ≡ get_or amount (k + i) 0
  unfolding k
  remaining-at i l = get_or-take (w - k) (drop k amount) i 0 l ∙ get_or-drop k amount i 0

  remaining-below : (b : ℕ) → Below b amount w → Below b (remaining w amount) (w - k)
  remaining-below b h i l = rw (remaining-at i l) (h (k + i) (omega arith))

  -- the amount in two parts
  amount-num : (e : Assign) → num e amount w ≡ num e amount k + 2 ^ k * num e (remaining w amount) (w - k)
  amount-num e =
      let q : k + (w - k) ≡ w = omega (arith, more) in
      let r : num e (remaining w amount) (w - k) ≡ num e (drop k amount) (w - k) =
      num-same e (remaining w amount) (drop k amount) (w - k) (λ i l. remaining-at i l ∙ sym (get_or-drop k amount i 0)) in
      rw r (rw q at (num-split e amount k (w - k)))

  start-num : (e : Assign) → num e start.out w ≡ num e bits w
  unfolding start
  start-num e = num-same e (put_bits 0 bits w s.out) bits w copied

  cond_value : (e : Assign) → Obeys over.net e → e cond ≡ not (eqb (num e (remaining w amount) (w - k)) 0)
  unfolding cond
  cond_value e ob =
      let q : suc (w - k - 1) ≡ w - k = omega (arith, more) in
      o.value e ob ∙ rw q at (some-num (λ i. e (get_or (remaining w amount) i 0)) (w - k - 1))

  enough : w ≤ 2 ^ k
  unfolding k
  enough = powers-enough w big

  -- three a bit and stage, the Ors, one a bit
  total : 3 * w * k + (w - k - 1) + each_cost (Clear cond) bits x.out w ≤ shift_cost w
  unfolding k
  total = omega (arith, clear-cost cond bits x.out w, more)

  law : ShiftLaw to w bits amount s t
  unfolding start cond bit_value bit_below
  law =
      record {
        ext = ext-weaken s.net t.net (3 * w * k + (w - k - 1) + each_cost (Clear cond) bits x.out w) (shift_cost w) total
            (ext_trans s.net over.net t.net (3 * w * k + (w - k - 1)) (each_cost (Clear cond) bits x.out w)
            (ext_trans s.net x.net over.net (3 * w * k) (w - k - 1) m.ext o.ext) c.ext);
        long = c.long ∙ (m.long ∙ p.long);
        rest = λ j l. c.rest j l ∙ (m.rest j l ∙ p.above j (omega arith));
        value = λ e ob.
            let ob₁ : Obeys over.net e = keeps over.net t.net _ e c.ext.grows ob in
            let v : num e x.out w ≡ shifted to w (num e amount k) (num e bits w) =
            m.value e (keeps x.net over.net (w - k - 1) e o.ext.grows ob₁) ∙ ap (λ (y : ℕ). shifted to w (num e amount k) y) (start-num e) in
            num-clear e (e cond) t.out x.out w (c.value e ob)
            ∙ rw (cond_value e ob₁, v)
            (cleared to w (2 ^ k) (num e amount w) (num e amount k) (num e (remaining w amount) (w - k)) (num e bits w) (amount-num e) enough (num-lt e bits w));
        formed = λ rm bb ba f.
            let rm₁ : Room over.net.gates over.net.n = room_back over.net t.net _ c.ext.grows rm in
            let q : Formed x.net × Below x.net.n x.out w =
            m.formed (room_back x.net over.net (w - k - 1) o.ext.grows rm₁) (λ i l. rw (copied i l) (bb i l)) (λ i l. ba i (omega (arith, more))) f in
            let u : Formed over.net × (over.bit < over.net.n) =
            o.formed rm₁ (below_more s.net.n x.net.n (remaining w amount) (w - k) m.ext.grows.from (remaining-below s.net.n ba)) q.0 in
            c.formed rm (λ i l. (u.1, omega (arith, q.1 i l, o.ext.grows.from))) u.0;
        known = λ bb ba.
            let q : (x.net ≡ s.net) × Below 2 x.out w = m.known (λ i l. rw (copied i l) (bb i l)) (λ i l. ba i (omega (arith, more))) in
            let u : (over.net ≡ x.net) × (over.bit < 2) = o.known (remaining-below 2 ba) in
            (c.known (λ i l. (u.1, q.1 i l)) ∙ (u.0 ∙ q.0), λ i l. c.known_at i l (u.1, q.1 i l));
      }

  pub shift-law : ShiftLaw to w bits amount s (shift_words to w bits amount s)
  unfolding shift_words t cond over x k start
  shift-law = law
