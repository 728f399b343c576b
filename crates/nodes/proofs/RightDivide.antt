-- The law of values of divu and rem.
use mathlib.Core.Path.{◌≡◌, refl, ap, ap₂, sym, ◌∙◌}
use mathlib.Core.List.{List}
use mathlib.Core.Logic.{◌⊎◌, inl, inr, ◌↔◌}
use mathlib.Core.Bool.{Bool, true, false, false≢true, ◌&&◌, ◌||◌}
use Prim.Native.Nat.{ℕ, ◌+◌, ◌-◌, ◌*◌, ◌/◌, ◌≤◌, ◌<◌}
use native.Mathlib.Omega.{arith}
use native.Mathlib.Decide.{dec_lt}
use lib.Dec.{eqb}
use lib.ListN.{get_or}
use borrow.Author.Tests.{eqb-true, eqb-false}
use Rattle.loops.specs.Loop.{bit}
use Rattle.loops.proofs.Loop.{by-pick, pick_true, pick-false, either}
use Rattle.table.specs.declared.Node.{Node}
use Rattle.table.specs.Kind.{INPUT, STATE, ITE, DIVU, REM, uses_a, uses_b, divides}
use Rattle.table.specs.Node.{width_of, given}
use Rattle.table.proofs.Whole.{Even}
use Rattle.values.specs.Value.{div_word, rem_word}
use Rattle.values.proofs.ByKind.{at-divu, at-rem}
use Rattle.netlist.specs.Record.{gate_at, Room}
use Rattle.netlist.specs.Kind.{free}
use Rattle.netlist.specs.Net.{Net, Assign}
use Rattle.digits.specs.Digits.{number, Parts}
use Rattle.digits.proofs.Numbers.{number_same, bit-eqb}
use Rattle.words.specs.Num.{num, blank}
use Rattle.words.specs.Each.{put_bits, Put}
use Rattle.words.proofs.NumLaws.{num-right}
use Rattle.words.proofs.EachLaws.{put-law}
use Rattle.division.specs.Constraint.{Cons, cons_of, con_gate, con_value, Holds, Within}
use Rattle.division.specs.Rows.{Checked}
use Rattle.division.specs.Known.{answer_of}
use Rattle.division.specs.Zero.{nonzero}
use Rattle.division.specs.Divide.{divide_words, PlainLaw, DividedLaw, DivideLaw}
use Rattle.visits.specs.Flow.{Core}
use Rattle.visits.specs.Claims.{Is, Right, Considered, Met, Ready, StepRight}
use Rattle.visits.specs.Divide.{Division}
use Rattle.visits.proofs.Marks.{positive}
use Rattle.visits.proofs.Plain.{plain-right}
use Rattle.visits.proofs.Divide.{divide-right}
use Rattle.visits.proofs.Digits.{division}
use Rattle.nodes.specs.Source.{Source, node_of, words_of, wide_of, bits_of, off_of, word_at}
use Rattle.nodes.specs.Own.{divide_own}
use Rattle.nodes.specs.Recipe.{recipe}
use Rattle.nodes.specs.Meaning.{slot_from, slot_of, is_one, value_of, dividend, divisor, meaning}
use Rattle.nodes.proofs.Places.{word_wide, word-words, off-inside}
use Rattle.nodes.proofs.ShareLaws.{same-wide}
use Rattle.nodes.proofs.DivisionLaws.{bits, law, con-room, within}
use Rattle.nodes.proofs.Meaning.{Evaluated, right-says, value-at}
use Rattle.nodes.proofs.RightWords.{Operable}
use Rattle.nodes.proofs.RightOperands.{bit-one, slot-word, sound, a-is, b-is, a-right, b-right}

-- a kind that divides has two operands, and is no ite
by_kind : (P : ℕ → Type 0) (k : ℕ) → P DIVU → P REM → divides k ≡ true → P k
by_kind P k p q =
    either (eqb k DIVU) (eqb k REM) (P k) (λ e. rw (eqb-true k DIVU e) p) (λ e. rw (eqb-true k REM e) q)

-- a number is even or odd
half : (n w : ℕ) → n < 2 * w → (j : ℕ) × (j < w) × ((n ≡ 2 * j) ⊎ (n ≡ 2 * j + 1))
half n w h = (n / 2, omega arith, go (dec_lt (2 * (n / 2)) n))
  where
    go : Dec (2 * (n / 2) < n) → (n ≡ 2 * (n / 2)) ⊎ (n ≡ 2 * (n / 2) + 1)
    go (yes q) = inr (omega arith)
    go (no q) = inl (omega arith)

-- constraints that hold are met, and the other way where they are truth values
holds-met : (e : Assign) (l : List ℕ) (a b : ℕ) → Holds e l a b → (i : ℕ) → a ≤ i → i < b → e (get_or l (2 * i) 0) ≡ eqb (get_or l (2 * i + 1) 0) 1
unfolding Holds con_gate con_value
holds-met e l a b h i lo hi = sym (bit-one (e (get_or l (2 * i) 0))) ∙ ap (λ z. eqb z 1) (h i lo hi)

met_holds : (e : Assign) (l : List ℕ) (n a b : ℕ) → Within n l a b → ((i : ℕ) → a ≤ i → i < b → e (get_or l (2 * i) 0) ≡ eqb (get_or l (2 * i + 1) 0) 1) → Holds e l a b
unfolding Holds Within con_gate con_value
met_holds e l n a b w h i lo hi = ap bit (h i lo hi) ∙ bit-eqb (get_or l (2 * i + 1) 0) (w i lo hi).1

module _ {S : Source} {x : List ℕ} (v : Evaluated S x) {k : ℕ} (h : divides (node_of S k).kind ≡ true)
    (z : Even (node_of S k).width (width_of S.table (node_of S k).a) (width_of S.table (node_of S k).b)) (s : Core) (ready : Ready (recipe S) k s) where
  abbrev d : Node
  d = node_of S k

  abbrev w : ℕ
  w = wide_of S k

  abbrev A : List ℕ
  A = word_at S s.map d.a 0

  abbrev B : List ℕ
  B = word_at S s.map d.b 0

  abbrev quotient : Bool
  quotient = eqb d.kind DIVU

  is : Is (recipe S) k
  is = ready.is

  ua : 1 ≤ d.a
  ua = (sound v is).operands.a-used (by_kind (λ n. uses_a n ≡ true) d.kind refl refl h)

  ub : uses_b d.kind ≡ true
  ub = by_kind (λ n. uses_b n ≡ true) d.kind refl refl h

  ni : d.kind ≡ ITE → ⊥
  ni = by_kind (λ n. n ≡ ITE → ⊥) d.kind (λ q. omega arith) (λ q. omega arith) h

  no-given : given d ≡ false
  no-given = by_kind (λ n. (eqb n INPUT || (eqb n STATE && eqb d.a 0)) ≡ false) d.kind refl refl h

  wa : wide_of S d.a ≡ w
  wa = same-wide S d.a k z.left

  wb : wide_of S d.b ≡ w
  wb = same-wide S d.b k z.right

  words-one : words_of S k ≡ 1
  words-one = word-words S k z.word

  wide : bits_of S k ≡ w
  wide = bits S v.clear k is s ready.mapped h z

  -- the operands' bits say the dividend and the divisor
  a-says : (e : Assign) → Operable S x k s.map e s.map → num e A w ≡ dividend S x k
  a-says e o = ap (λ n. num e A n) (sym wa) ∙ right-says v (a-is v is ua) {i = 0} (omega (arith, word-words S d.a (omega (arith, z.word, z.left)))) e s.map (a-right v is s.map s.map e o ua)

  b-says : (e : Assign) → Operable S x k s.map e s.map → num e B w ≡ slot_of S x d.b 0
  b-says e o = ap (λ n. num e B n) (sym wb) ∙ right-says v (b-is v is ub) {i = 0} (omega (arith, word-words S d.b (omega (arith, z.word, z.right)))) e s.map (b-right v is s.map s.map e o ni ub)

  -- the node's value
  divu-value : d.kind ≡ DIVU → slot_of S x k 0 ≡ div_word d.width (dividend S x k) (slot_of S x d.b 0)
  divu-value e =
      v.made k 0 is (omega (arith, words-one)) no-given
      ∙ (at-divu S.addrs d (width_of S.table d.a) x (slot_from S d.a) (slot_from S d.b) (slot_from S d.c) _ 0 e
      ∙ sym (ap₂ (div_word d.width) (slot-word S x d.a) (slot-word S x d.b)))

  rem_value : d.kind ≡ REM → slot_of S x k 0 ≡ rem_word (dividend S x k) (slot_of S x d.b 0)
  rem_value e =
      v.made k 0 is (omega (arith, words-one)) no-given
      ∙ (at-rem S.addrs d (width_of S.table d.a) x (slot_from S d.a) (slot_from S d.b) (slot_from S d.c) _ 0 e
      ∙ sym (ap₂ rem_word (slot-word S x d.a) (slot-word S x d.b)))

  slot_is : slot_of S x k 0 ≡ answer_of quotient w (dividend S x k) (slot_of S x d.b 0)
  slot_is =
      rw (word_wide S k z.word)
      (either (eqb d.kind DIVU) (eqb d.kind REM) _
      (λ e. divu-value (eqb-true d.kind DIVU e) ∙ sym (pick_true _ _ _ e))
      (λ e. rem_value (eqb-true d.kind REM e) ∙ sym (pick-false _ _ _ (ap (λ n. eqb n DIVU) (eqb-true d.kind REM e))))
      h)

  value-bit : (j : ℕ) → j < w → value_of S x k j ≡ is_one (slot_of S x k 0) j
  value-bit j l = let q : 0 * w + j ≡ j = omega arith in ap (value_of S x k) (sym q) ∙ value-at S x k 0 j l

  -- what a division means
  means : Division (meaning S x) k w (dividend S x k) (divisor S x k)
  means =
      division (meaning S x) k w (dividend S x k) (divisor S x k)
      (rw wa at (v.range d.a 0 (a-is v is ua) (omega (arith, word-words S d.a (omega (arith, z.word, z.left))))))
      (by-pick (λ n. 1 ≤ n) (eqb (slot_of S x d.b 0) 0) 1 (slot_of S x d.b 0) (λ _. omega arith) (λ q. positive (slot_of S x d.b 0) (eqb-false (slot_of S x d.b 0) 0 q)))
      (λ j l. refl) (λ j l. refl)

  abbrev start : Checked
  start = record { net = s.net; cons = cons_of s.cons s.nc; out = blank }

  module _ (c : Checked) where
    -- the word that is made stands in its place
    abbrev t : Core
    t = record { net = c.net; cons = c.cons.list; nc = c.cons.m; map = put_bits (off_of S k) c.out w s.map }

    -- a word that is the answer is right there
    answer-right : (e : Assign) → Operable S x k s.map e s.map → num e c.out w ≡ answer_of quotient w (num e A w) (num e B w) → Right (recipe S) (meaning S x) e t.map k
    answer-right e o q j l =
        let lt : j < w = omega (arith, wide) in
        let p : Put (off_of S k) c.out s.map w t.map = put-law (off_of S k) c.out s.map w (omega (arith, off-inside S k is.low is.high, ready.mapped, wide)) in
        let says : num e c.out w ≡ slot_of S x k 0 = q ∙ (ap₂ (λ a b. answer_of quotient w a b) (a-says e o) (b-says e o) ∙ sym slot_is) in
        ap e (p.there j lt) ∙ (num-right e c.out w (slot_of S x k 0) (v.range k 0 is (omega (arith, words-one))) says j lt ∙ sym (value-bit j lt))

    plain-case : PlainLaw quotient w A B start c → StepRight (recipe S) (meaning S x) k s t
    plain-case L =
        plain-right
        (record {
          asks = ap (λ (y : Cons). y.m) L.cons;
          only = λ room g lo hi fr. absurd (let q : c.net.n ≡ s.net.n = ap (λ (y : Net). y.n) (L.same ready.formed.two) in omega arith);
          right = λ e ce o. answer-right e o (L.value e ce.obeys);
        })

    module _ (L : DividedLaw quotient w k A B start c) where
      -- digit j of the quotient and of the remainder
      abbrev quo : ℕ → ℕ
      quo j = L.from + 2 * j

      abbrev rem : ℕ → ℕ
      rem j = L.from + 2 * j + 1

      -- what the constraints say is a quotient and a remainder of the values
      parts : (e : Assign) → Operable S x k s.map e s.map
          → Parts (number (λ j. e (quo j)) w) (number (λ j. e (rem j)) w) (num e A w) (nonzero (num e B w))
          ↔ Parts (number (λ j. e (quo j)) w) (number (λ j. e (rem j)) w) (dividend S x k) (divisor S x k)
      parts e o = rw (a-says e o, b-says e o) (λ y. y, λ y. y)

      met : (e : Assign) → Considered (meaning S x) c.net e → Operable S x k s.map e s.map
          → Met t s.nc e ↔ Parts (number (λ j. e (quo j)) w) (number (λ j. e (rem j)) w) (dividend S x k) (divisor S x k)
      met e ce o =
          let y = L.holds e ce.obeys (con-room S v.clear k is s ready.mapped h z c L ready) in (
            λ m. (parts e o).0
                (y.0 (met_holds e c.cons.list c.net.n s.nc c.cons.m (within S v.clear k is s ready.mapped h z c L ready ce.obeys.room) m)),
            λ q. holds-met e c.cons.list s.nc c.cons.m (y.1 ((parts e o).1 q)),
          )

      only : Room c.net.gates c.net.n → (g : ℕ) → s.net.n ≤ g → g < c.net.n → free (gate_at c.net.gates g).kind ≡ true
          → (j : ℕ) × (j < w) × ((g ≡ quo j) ⊎ (g ≡ rem j))
      only room g lo hi fr = go (dec_lt g L.from) (dec_lt g (L.from + 2 * w))
        where
          side : (j : ℕ) → L.from ≤ g → (g - L.from ≡ 2 * j) ⊎ (g - L.from ≡ 2 * j + 1) → (g ≡ quo j) ⊎ (g ≡ rem j)
          side j le (inl p) = inl (omega arith)
          side j le (inr p) = inr (omega arith)

          go : Dec (g < L.from) → Dec (g < L.from + 2 * w) → (j : ℕ) × (j < w) × ((g ≡ quo j) ⊎ (g ≡ rem j))
          go (yes p) q = absurd (false≢true (sym (L.before room g lo p) ∙ fr))
          go (no p) (no q) = absurd (false≢true (sym (L.after room g (omega arith) hi) ∙ fr))
          go (no p) (yes q) =
              let y = half (g - L.from) w (omega arith) in
              (y.0, y.1, side y.0 (omega arith) y.2)

      divided-case : StepRight (recipe S) (meaning S x) k s t
      divided-case =
          divide-right quo rem means
          (record {
            quo_at = λ room j l. (omega (arith, L.low), omega (arith, L.high), (L.gates room j l).0);
            rem_at = λ room j l. (omega (arith, L.low), omega (arith, L.high), (L.gates room j l).1);
            only = only;
            met = met;
            right = λ e ce o quos rems.
                let q : number (λ j. e (quo j)) w ≡ number ((meaning S x).quotient k) w = number_same (λ j. e (quo j)) ((meaning S x).quotient k) w quos in
                let r : number (λ j. e (rem j)) w ≡ number ((meaning S x).remainder k) w = number_same (λ j. e (rem j)) ((meaning S x).remainder k) w rems in
                answer-right e o (L.value e ce.obeys ((parts e o).1 (rw (q, r) means)));
          })

    by-law : DivideLaw quotient w k A B start c → StepRight (recipe S) (meaning S x) k s t
    by-law (inl L) = plain-case L
    by-law (inr L) = divided-case L

  pub division-right : StepRight (recipe S) (meaning S x) k s (divide_own S k s)
  unfolding divide_own
  division-right = by-law (divide_words quotient w k A B start) (law S v.clear k is s ready.mapped h z)
