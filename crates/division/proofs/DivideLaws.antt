-- The laws of a division by gates, and of every division.
use mathlib.Core.Path.{◌≡◌, refl, ap, sym, ◌∙◌}
use mathlib.Core.List.{List}
use mathlib.Core.Logic.{inl, inr}
use mathlib.Core.Bool.{Bool, true, false, ◌&&◌, false≢true}
use Prim.Native.Nat.{ℕ, ◌+◌, ◌*◌, ◌-◌, ◌≤◌, ◌<◌}
use native.Mathlib.Omega.{arith}
use native.Mathlib.Decide.{ℕ_discrete}
use native.Mathlib.Nat.{zero-add}
use lib.Dec.{eqb}
use lib.ListN.{length, get_or}
use borrow.Author.Tests.{eqb-true, ne_eqb}
use Rattle.loops.specs.Loop.{pick}
use Rattle.loops.proofs.Loop.{by-pick, pick_true, pick-false, both}
use Rattle.netlist.specs.Record.{Room}
use Rattle.netlist.specs.Net.{Assign, Obeys}
use Rattle.gates.specs.Made.{MadeBit}
use Rattle.gates.specs.Law.{Grows, Ext, Formed, BitLaw}
use Rattle.gates.proofs.Laws.{grows-refl, grows-trans, grows-weaken, room_back, keeps, bound-trans, ext_trans}
use Rattle.digits.specs.Digits.{Below, all_known, number, Parts}
use Rattle.digits.proofs.Numbers.{number_same, parts-one}
use Rattle.digits.proofs.Words.{all_true, below_all}
use Rattle.values.specs.Value.{div_word, rem_word}
use Rattle.words.specs.declared.each.Bitwise.TheVariants.{Choose}
use Rattle.words.specs.Num.{num, blank}
use Rattle.words.specs.Each.{bit_value, bit_below, Word, EachLaw, put_bits}
use Rattle.words.specs.Mul.{mul_cost}
use Rattle.words.proofs.NumLaws.{num-same, num-choose, blank-long}
use Rattle.words.proofs.EachLaws.{below_more, each-law, choose-cost, put-law}
use Rattle.division.specs.Constraint.{Cons}
use Rattle.division.specs.Rows.{Checked}
use Rattle.division.specs.Check.{Book, check_words, check_cost, con_count, CheckLaw}
use Rattle.division.specs.Pair.{Pair, pair_words, PairLaw}
use Rattle.division.specs.Known.{answer_of, known_word, KnownLaw}
use Rattle.division.specs.Zero.{nonzero, zero_bit, raised, zero_word, chosen, RaisedLaw}
use Rattle.division.specs.Divide.{Divided, div_words, free_word, by_zero, divide_words, div_cost, divide_cost, DivLaw, PlainLaw, DividedLaw, DivideLaw}
use Rattle.division.proofs.ConstraintLaws.{more-refl, within-join, within_none}
use Rattle.division.proofs.CheckLaws.{check-law}
use Rattle.division.proofs.PairLaws.{pair-law}
use Rattle.division.proofs.KnownLaws.{known-law}
use Rattle.division.proofs.ZeroLaws.{zero-law, zero_one, raised-law, zero-num, zero-below}

module _ (w node : ℕ) (n d : List ℕ) (s : Book) (small : w ≤ 64) where
  f : Pair
  f = pair_words w node (record { net = s.net; quot = blank; rem = blank })

  k : PairLaw node (record { net = s.net; quot = blank; rem = blank }) w f
  unfolding f
  k = pair-law node (record { net = s.net; quot = blank; rem = blank }) w (omega (arith, blank-long)) (omega (arith, blank-long))

  b : Book
  b = record { net = f.net; cons = s.cons }

  t : Book
  t = check_words w f.quot f.rem n d b

  c : CheckLaw w f.quot f.rem n d b t
  unfolding t
  c = check-law w f.quot f.rem n d b small

  pub div-law : DivLaw w node n d s (div_words w node n d s)
  unfolding div_words f b t
  div-law =
      record {
        grows = grows-weaken s.net t.net (2 * w + check_cost w) (div_cost w) (omega arith) (grows-trans s.net f.net t.net (2 * w) (check_cost w) k.grows c.ext.grows);
        more = c.more;
        holds = c.holds;
        formed = λ rm bn bd g. c.formed rm quot_in rem_in (up n bn) (up d bd) (k.formed (back rm) g);
        within = λ rm room bn bd g. c.within rm room quot_in rem_in (up n bn) (up d bd) (k.formed (back rm) g);
        room = omega (arith, k.count, c.ext.grows.from);
        quots = k.quots;
        rems = k.rems;
        gates = λ rm i l.
            let g = k.gates (back rm) i l in
            (c.ext.grows.same (s.net.n + 2 * i) (omega (arith, k.count)) ∙ g.0, c.ext.grows.same (s.net.n + 2 * i + 1) (omega (arith, k.count)) ∙ g.1);
        bound = λ rm i lo hi. c.ext.bound rm i (omega (arith, k.count)) hi;
      }
    where
      back : Room t.net.gates t.net.n → Room f.net.gates f.net.n
      back rm = room_back f.net t.net (check_cost w) c.ext.grows rm

      up : (bs : List ℕ) → Below s.net.n bs w → Below f.net.n bs w
      up bs h = below_more s.net.n f.net.n bs w k.grows.from h

      quot_in : Below f.net.n f.quot w
      quot_in j l = omega (arith, k.quots j l, k.count)

      rem_in : Below f.net.n f.rem w
      rem_in j l = omega (arith, k.rems j l, k.count)

-- the answer that z chooses, where the words are the quotient and the remainder by a divisor that is not zero
answer-one : (quotient : Bool) (w q r n d : ℕ) → Dec (d ≡ 0) → Parts q r n (nonzero d) → pick (eqb d 0) (answer_of quotient w n 0) (pick quotient q r) ≡ answer_of quotient w n d
unfolding pick div_word rem_word
answer-one quotient w q r n d (yes z) h = rw z
answer-one true w q r n d (no z) h = let p : Parts q r n d = rw (ne_eqb d 0 z) at h in rw (ne_eqb d 0 z) (parts-one q r n d p).0
answer-one false w q r n d (no z) h = let p : Parts q r n d = rw (ne_eqb d 0 z) at h in rw (ne_eqb d 0 z) (parts-one q r n d p).1

-- over a divisor that is not known to be zero
module _ (quotient : Bool) (w node : ℕ) (n d : List ℕ) (st : Checked) (big : 1 ≤ w) (small : w ≤ 64) (fits : w ≤ length st.out) where
  z : MadeBit
  z = zero_bit w d st.net

  zl : BitLaw st.net (Below st.net.n d w) (Below 2 d w) (λ e. eqb (num e d w) 0) (2 * w - 1) z
  unfolding z
  zl = zero-law w d st.net big (omega arith)

  r : Word
  r = raised w d z.bit z.net

  rl : RaisedLaw w d z.bit z.net r
  unfolding r
  rl = raised-law w d z.bit z.net big (omega arith)

  s : Book
  s = record { net = r.net; cons = st.cons }

  v : Divided
  v = div_words w node n r.out s

  vl : DivLaw w node n r.out s v
  unfolding v
  vl = div-law w node n r.out s small

  x : Word
  x = chosen quotient w z.bit n v.quot v.rem (record { net = v.book.net; out = st.out })

  xl : EachLaw (Choose z.bit) (zero_word quotient n) (pick quotient v.quot v.rem) (record { net = v.book.net; out = st.out }) w x
  unfolding x
  xl = each-law (Choose z.bit) (zero_word quotient n) (pick quotient v.quot v.rem) (record { net = v.book.net; out = st.out }) w fits

  -- what was made before the first Quotient gate, and from there on
  to-r : Ext st.net r.net (2 * w - 1 + 1)
  to-r = ext_trans st.net z.net r.net (2 * w - 1) 1 zl.ext rl.ext

  from-r : Grows r.net x.net (div_cost w + 3 * w)
  unfolding s
  from-r =
      grows-trans r.net v.book.net x.net (div_cost w) (3 * w) vl.grows
      (grows-weaken v.book.net x.net _ (3 * w) (choose-cost z.bit (zero_word quotient n) (pick quotient v.quot v.rem) w) xl.ext.grows)

  back : Room x.net.gates x.net.n → Room v.book.net.gates v.book.net.n
  back rm = room_back v.book.net x.net _ xl.ext.grows rm

  -- the words of Quotient and Remainder gates
  quot-num : (e : Assign) → num e v.quot w ≡ number (λ i. e (r.net.n + 2 * i)) w
  unfolding s
  quot-num e = number_same (λ i. e (get_or v.quot i 0)) (λ i. e (r.net.n + 2 * i)) w (λ i l. ap e (vl.quots i l))

  rem-num : (e : Assign) → num e v.rem w ≡ number (λ i. e (r.net.n + 2 * i + 1)) w
  unfolding s
  rem-num e = number_same (λ i. e (get_or v.rem i 0)) (λ i. e (r.net.n + 2 * i + 1)) w (λ i l. ap e (vl.rems i l))

  asked-num : (e : Assign) → num e (pick quotient v.quot v.rem) w ≡ pick quotient (number (λ i. e (r.net.n + 2 * i)) w) (number (λ i. e (r.net.n + 2 * i + 1)) w)
  asked-num e =
      by-pick (λ (p : List ℕ). num e p w ≡ pick quotient (number (λ i. e (r.net.n + 2 * i)) w) (number (λ i. e (r.net.n + 2 * i + 1)) w)) quotient v.quot v.rem
      (λ h. quot-num e ∙ sym (pick_true quotient _ _ h)) (λ h. rem-num e ∙ sym (pick-false quotient _ _ h))

  asked-below : (b : ℕ) → r.net.n + 2 * w ≤ b → Below b (pick quotient v.quot v.rem) w
  unfolding s
  asked-below b h =
      by-pick (λ (p : List ℕ). Below b p w) quotient v.quot v.rem (λ q i l. omega (arith, vl.quots i l)) (λ q i l. omega (arith, vl.rems i l))

  -- z and the raised divisor are right
  module _ (e : Assign) (o : Obeys x.net e) where
    at-v : Obeys v.book.net e
    at-v = keeps v.book.net x.net _ e xl.ext.grows o

    at-r : Obeys r.net e
    at-r = keeps r.net x.net _ e from-r o

    right : e z.bit ≡ eqb (num e d w) 0
    right = zl.value e (keeps z.net r.net 1 e rl.ext.grows at-r)

    den-num : num e r.out w ≡ nonzero (num e d w)
    den-num = rl.value e at-r right

  -- in the net
  module _ (rm : Room x.net.gates x.net.n) (bn : Below st.net.n n w) (bd : Below st.net.n d w) (f : Formed st.net) where
    room-r : Room r.net.gates r.net.n
    room-r = room_back r.net x.net _ from-r rm

    for-z : Formed z.net × (z.bit < z.net.n)
    for-z = zl.formed (room_back z.net r.net 1 rl.ext.grows room-r) bd f

    for-r : Formed r.net × Below r.net.n r.out w
    for-r = rl.formed room-r (below_more st.net.n z.net.n d w zl.ext.grows.from bd) for-z.1 for-z.0

    num-in : Below r.net.n n w
    num-in = below_more st.net.n r.net.n n w to-r.grows.from bn

    for-v : Formed v.book.net
    unfolding s
    for-v = vl.formed (back rm) num-in for-r.1 for-r.0

    for-x : Formed x.net × Below x.net.n x.out w
    unfolding s bit_below
    for-x =
        let b : Below v.book.net.n (zero_word quotient n) w =
        zero-below quotient w n v.book.net.n (omega arith) for-v.two (below_more r.net.n v.book.net.n n w vl.grows.from num-in) in
        xl.formed rm
        (λ i l. (omega (arith, for-z.1, rl.ext.grows.from, vl.grows.from), b i l, asked-below v.book.net.n vl.room i l)) for-v

  free_law : (Below 2 n w → Below 2 d w → ⊥) → DividedLaw quotient w node n d st (record { net = x.net; cons = v.book.cons; out = x.out })
  unfolding s bit_value
  free_law unknown =
      record {
        from = r.net.n;
        low = to-r.grows.from;
        high = omega (arith, vl.room, xl.ext.grows.from);
        unknown = unknown;
        grows = grows-weaken st.net x.net (2 * w - 1 + 1 + (div_cost w + 3 * w)) (divide_cost w) (omega arith)
            (grows-trans st.net r.net x.net (2 * w - 1 + 1) (div_cost w + 3 * w) to-r.grows from-r);
        more = vl.more;
        formed = for-x;
        within = λ rm crm bn bd f.
            within-join st.cons v.book.cons v.book.cons 0 v.book.net.n x.net.n xl.ext.grows.from (more-refl v.book.cons)
            (vl.within (back rm) crm (num-in rm bn bd f) (for-r rm bn bd f).1 (for-r rm bn bd f).0) (within_none x.net.n v.book.cons);
        gates = λ rm i l.
            let g = vl.gates (back rm) i l in
            (xl.ext.grows.same (r.net.n + 2 * i) (omega (arith, vl.room)) ∙ g.0, xl.ext.grows.same (r.net.n + 2 * i + 1) (omega (arith, vl.room)) ∙ g.1);
        before = λ rm i lo hi. rw (from-r.same i hi) (to-r.bound (room_back r.net x.net _ from-r rm) i lo hi);
        after = bound-trans (record { gates = r.net.gates; n = r.net.n + 2 * w }) v.book.net x.net _ vl.bound xl.ext.grows xl.ext.bound;
        holds = λ e o crm. rw (quot-num e, rem-num e, den-num e o) at (vl.holds e (at-v e o) crm);
        value = λ e o h.
            num-choose e (eqb (num e d w) 0) x.out (zero_word quotient n) (pick quotient v.quot v.rem) w (λ i l. rw (right e o) at (xl.value e o i l))
            ∙ (ap (λ (a : ℕ). pick (eqb (num e d w) 0) a (num e (pick quotient v.quot v.rem) w)) (zero-num quotient w n e (omega arith) o.high)
            ∙ (ap (λ (a : ℕ). pick (eqb (num e d w) 0) (answer_of quotient w (num e n w) 0) a) (asked-num e)
            ∙ answer-one quotient w (number (λ i. e (r.net.n + 2 * i)) w) (number (λ i. e (r.net.n + 2 * i + 1)) w) (num e n w) (num e d w) (ℕ_discrete (num e d w) 0) h));
      }

  -- by a divisor that is known to be zero
  plain-law : z.bit ≡ 1 → PlainLaw quotient w n d st (record { net = z.net; cons = st.cons; out = put_bits 0 (zero_word quotient n) w st.out })
  unfolding z
  plain-law one =
      record {
        grows = grows-weaken st.net z.net (2 * w - 1) (divide_cost w) (omega arith) zl.ext.grows;
        same = λ two. zero_one d st.net w big (omega arith) two one;
        cons = refl;
        below = λ b two h j l. rw (there j l) (zero-below quotient w n b (omega arith) two h j l);
        value = λ e o.
            let zero : num e d w ≡ 0 = eqb-true (num e d w) 0 (sym (zl.value e o) ∙ (ap e one ∙ o.high)) in
            num-same e (put_bits 0 (zero_word quotient n) w st.out) (zero_word quotient n) w there
            ∙ (zero-num quotient w n e (omega arith) o.high ∙ ap (λ (a : ℕ). answer_of quotient w (num e n w) a) (sym zero));
      }
    where
      there : (j : ℕ) → j < w → get_or (put_bits 0 (zero_word quotient n) w st.out) j 0 ≡ get_or (zero_word quotient n) j 0
      there j l = rw (zero-add j) at ((put-law 0 (zero_word quotient n) st.out w (omega arith)).there j l)

  -- of known operands
  numbers-law : Below 2 n w → Below 2 d w → PlainLaw quotient w n d st (record { net = st.net; cons = st.cons; out = known_word quotient w n d st.out })
  numbers-law kn kd =
      let k : KnownLaw quotient w n d st.out (known_word quotient w n d st.out) = known-law quotient w n d st.out fits in
      record {
        grows = grows-refl st.net (divide_cost w);
        same = λ two. refl;
        cons = refl;
        below = λ b two h. below_more 2 b (known_word quotient w n d st.out) w two k.known;
        value = λ e o. k.value st.net e o kn kd;
      }

  pub divide-law : DivideLaw quotient w node n d st (divide_words quotient w node n d st)
  unfolding divide_words by_zero free_word x v s r z
  divide-law =
      by-pick P (all_known w n && all_known w d) _ _ (λ h. let b = both (all_known w n) (all_known w d) h in inl (numbers-law (all_true n w b.0) (all_true d w b.1)))
      (λ h. by-pick P (eqb z.bit 1) _ _ (λ one. inl (plain-law (eqb-true z.bit 1 one)))
      (λ other. inr (free_law (λ kn kd. absurd (false≢true (sym h ∙ rw (below_all n w kn, below_all d w kd)))))))
    where
      P : Checked → Type 0
      P t = DivideLaw quotient w node n d st t

-- how much a division makes at most, by gates or not
pub divide-most : (quotient : Bool) (w node : ℕ) (n d : List ℕ) (st : Checked) → 1 ≤ w → w ≤ 64 → w ≤ length st.out
    → ((divide_words quotient w node n d st).net.n ≤ st.net.n + divide_cost w) × ((divide_words quotient w node n d st).cons.m ≤ st.cons.m + con_count w)
divide-most quotient w node n d st big small fits = go (divide-law quotient w node n d st big small fits)
  where
    go : {t : Checked} → DivideLaw quotient w node n d st t → (t.net.n ≤ st.net.n + divide_cost w) × (t.cons.m ≤ st.cons.m + con_count w)
    go (inl k) = (k.grows.upto, omega (arith, ap (λ (c : Cons). c.m) k.cons))
    go (inr k) = (k.grows.upto, omega (arith, k.more.count))

-- the numbers of document 01, a division's with request 04's 5w more
ceilings : (divide_cost 4 ≡ 111) × (con_count 4 ≡ 16) × (divide_cost 64 ≡ 11361) × (mul_cost 4 ≡ 40)
ceilings = (refl, refl, refl, refl)
