-- The law of values of the kinds that share an operand's bits: an initialised state, a bad, an ext, a sext, and an ite with a known condition.
use mathlib.Core.Path.{◌≡◌, ap, ap₂, sym, ◌∙◌}
use mathlib.Core.List.{List}
use mathlib.Core.Bool.{Bool, true, false}
use Prim.Native.Nat.{ℕ, suc, ◌+◌, ◌-◌, ◌*◌, ◌%◌, ◌^◌, ◌≤◌, ◌<◌}
use native.Mathlib.Omega.{arith}
use native.Mathlib.Nat.{pow-suc, mod-eq_of_lt}
use lib.Dec.{ltb}
use lib.ListN.{get_or}
use lib.Pow.{pow_mono}
use borrow.Author.Tests.{eq-eqb, ne_eqb, lt-ltb, le-ltb}
use Rattle.loops.specs.Loop.{bit, pick}
use Rattle.loops.proofs.Loop.{pick_true, pick-false}
use Rattle.table.specs.declared.Node.{Node}
use Rattle.table.specs.Kind.{STATE, BAD, EXT, SEXT, uses_a}
use Rattle.table.specs.Node.{width_of, given}
use Rattle.table.proofs.Whole.{Extended}
use Rattle.values.specs.Value.{sext_word}
use Rattle.values.proofs.ByKind.{at-state, at-bad, at-ext, at-sext}
use Rattle.netlist.specs.Net.{Assign}
use Rattle.gates.proofs.Laws.{grows-refl}
use Rattle.words.specs.Num.{num}
use Rattle.words.specs.Extend.{extended}
use Rattle.words.proofs.NumLaws.{num-lt, num-suc}
use Rattle.words.proofs.ExtendLaws.{extend-law}
use Rattle.visits.specs.Flow.{Core}
use Rattle.visits.specs.Claims.{Is, Right, Considered}
use Rattle.nodes.specs.Source.{Source, node_of, words_of, wide_of, word_at}
use Rattle.nodes.specs.Own.{share_word, above_of}
use Rattle.nodes.specs.Recipe.{recipe}
use Rattle.nodes.specs.Meaning.{slot_from, slot_of, meaning}
use Rattle.nodes.proofs.Places.{word_wide, word-words}
use Rattle.nodes.proofs.ShareLaws.{same-wide, same-words}
use Rattle.nodes.proofs.MeaningPlaces.{wide-range}
use Rattle.nodes.proofs.Meaning.{Evaluated, right-says, says-right}
use Rattle.nodes.proofs.RightWords.{Operable, OwnWord}
use Rattle.nodes.proofs.RightOperands.{slot-word, sound, a-is, a-right, word-says}

-- a signed extension, over the word's lower bits and its top bit
sext-sum : (v w x low : ℕ) (c : Bool) → 1 ≤ v → v ≤ w → low < 2 ^ (v - 1) → x ≡ low + 2 ^ (v - 1) * bit c → sext_word v w x + 2 ^ v * bit c ≡ x + 2 ^ w * bit c
unfolding sext_word pick
sext-sum v w x low c some le lt e = go c e
  where
    twice : 2 ^ v ≡ 2 ^ (v - 1) * 2
    twice = let q : v ≡ suc (v - 1) = omega arith in ap (λ (n : ℕ). 2 ^ n) q ∙ pow-suc 2 (v - 1)

    more : 2 ^ v ≤ 2 ^ w
    more = pow_mono le

    go : (c : Bool) → x ≡ low + 2 ^ (v - 1) * bit c → pick (ltb x (2 ^ (v - 1))) x ((x + (2 ^ w - 2 ^ v)) % 2 ^ w) + 2 ^ v * bit c ≡ x + 2 ^ w * bit c
    go true q =
        let m : (x + (2 ^ w - 2 ^ v)) % 2 ^ w ≡ x + (2 ^ w - 2 ^ v) = mod-eq_of_lt (omega (arith, twice, more)) in
        rw (le-ltb x (2 ^ (v - 1)) (omega arith), m) (omega (arith, more))
    go false q = rw (lt-ltb x (2 ^ (v - 1)) (omega arith)) (omega arith)

-- a word's lower bits and its top bit
num-top : (e : Assign) (bs : List ℕ) (v : ℕ) → 1 ≤ v → num e bs v ≡ num e bs (v - 1) + 2 ^ (v - 1) * bit (e (get_or bs (v - 1) 0))
num-top e bs v some = let q : v ≡ suc (v - 1) = omega arith in ap (λ (n : ℕ). num e bs n) q ∙ num-suc e bs (v - 1)

module _ {S : Source} {x : List ℕ} (v : Evaluated S x) {k : ℕ} (is : Is (recipe S) k) (m : List ℕ) (i : ℕ) (t : Core) (lt : i < words_of S k) where
  -- word i of the node y is shared, and above it stands the bit a: enough that this is word i's value
  share-made : (a y : ℕ) → Is (recipe S) y → i < words_of S y → wide_of S y ≤ wide_of S k
      → ((e : Assign) → Considered (meaning S x) t.net e → Operable S x k m e m → Operable S x k m e t.map
      → Right (recipe S) (meaning S x) e t.map y × (slot_of S x k i + 2 ^ wide_of S y * bit (e a) ≡ slot_of S x y i + 2 ^ wide_of S k * bit (e a)))
      → OwnWord S x k m i t (share_word S a y i t)
  unfolding share_word
  share-made a y iy ly wy says =
      record {
        cost = 0;
        grows = grows-refl t.net 0;
        only = λ room g lo hi fr. absurd (omega arith);
        right = λ e ce before o.
            let h = says e ce before o in
            let q = (extend-law a (wide_of S y) (word_at S t.map y i) (omega (arith, (wide-range S v.clear y).1))).value e (wide_of S k) wy (omega (arith, (wide-range S v.clear k).1)) in
            says-right v is {i = i} lt e (extended a (wide_of S y) (word_at S t.map y i)) (omega (arith, q, right-says v iy {i = i} ly e t.map h.0, h.1));
      }

  -- above it stands known false: enough that it is word i's value
  pub same-made : (a : ℕ) → a ≡ 0 → (y : ℕ) → Is (recipe S) y → i < words_of S y → wide_of S y ≤ wide_of S k
      → ((e : Assign) → Considered (meaning S x) t.net e → Operable S x k m e m → Operable S x k m e t.map → Right (recipe S) (meaning S x) e t.map y × (slot_of S x k i ≡ slot_of S x y i))
      → OwnWord S x k m i t (share_word S a y i t)
  same-made a z y iy ly wy says =
      share-made a y iy ly wy
      (λ e ce before o.
      let h = says e ce before o in
      let f : e a ≡ false = ap e z ∙ ce.obeys.low in
      (h.0, rw f (omega (arith, h.1))))

  abbrev d : Node
  d = node_of S k

  abbrev oa : ℕ
  oa = slot_from S d.a

  abbrev ob : ℕ
  ob = slot_from S d.b

  abbrev oc : ℕ
  oc = slot_from S d.c

  -- in every kind but a sext known false stands above
  none_above : (d.kind ≡ SEXT → ⊥) → above_of S m k ≡ 0
  unfolding above_of
  none_above ne = pick-false _ _ _ (ne_eqb d.kind SEXT ne)

  pub state-made : d.kind ≡ STATE → given d ≡ false → 1 ≤ d.a → width_of S.table d.a ≡ d.width → OwnWord S x k m i t (share_word S (above_of S m k) d.a i t)
  state-made e g u same =
      same-made (above_of S m k) (none_above (λ z. omega arith)) d.a (a-is v is u) (rw (same-words S d.a k same) lt) (omega (arith, same-wide S d.a k same))
      (λ a ce before o. (a-right v is m t.map a o u, v.made k i is lt g ∙ at-state S.addrs d (width_of S.table d.a) x oa ob oc _ i e))

  -- a word of a word
  module _ (u : uses_a d.kind ≡ true) (h : 1 ≤ d.width) (ha : 1 ≤ width_of S.table d.a) (le : width_of S.table d.a ≤ d.width) where
    ua : 1 ≤ d.a
    ua = (sound v is).operands.a-used u

    first : slot_of S x d.a i ≡ get_or x oa 0
    first = let z : i ≡ 0 = omega (arith, word-words S k h) in ap (λ n. slot_of S x d.a n) z ∙ slot-word S x d.a

    one : i < words_of S d.a
    one = omega (arith, word-words S d.a ha, word-words S k h)

    wider : wide_of S d.a ≤ wide_of S k
    wider = omega (arith, word_wide S k h, word_wide S d.a ha)

    one-made : (d.kind ≡ SEXT → ⊥) → slot_of S x k i ≡ get_or x oa 0 → OwnWord S x k m i t (share_word S (above_of S m k) d.a i t)
    one-made ne at =
        same-made (above_of S m k) (none_above ne) d.a (a-is v is ua) one wider
        (λ a ce before o. (a-right v is m t.map a o ua, at ∙ sym first))

    -- the bit above says the operand's top digit
    top-says : d.kind ≡ SEXT → (e : Assign) → Operable S x k m e m → get_or x oa 0 ≡ num e (word_at S m d.a 0) (wide_of S d.a - 1) + 2 ^ (wide_of S d.a - 1) * bit (e (above_of S m k))
    unfolding above_of
    top-says z e before =
        rw (pick_true _ (get_or (word_at S m d.a 0) (wide_of S d.a - 1) 0) 0 (eq-eqb d.kind SEXT z))
        (sym (word-says v is (a-is v is ua) ha e m (a-right v is m m e before ua)) ∙ num-top e (word_at S m d.a 0) (wide_of S d.a) (omega (arith, word_wide S d.a ha)))

    signed-made : d.kind ≡ SEXT → slot_of S x k i ≡ sext_word (wide_of S d.a) (wide_of S k) (get_or x oa 0) → OwnWord S x k m i t (share_word S (above_of S m k) d.a i t)
    signed-made z at =
        share-made (above_of S m k) d.a (a-is v is ua) one wider
        (λ e ce before o. (
          a-right v is m t.map e o ua,
          rw (at, first)
              (sext-sum (wide_of S d.a) (wide_of S k) (get_or x oa 0) (num e (word_at S m d.a 0) (wide_of S d.a - 1)) (e (above_of S m k)) (omega (arith, word_wide S d.a ha)) wider
              (num-lt e (word_at S m d.a 0) (wide_of S d.a - 1)) (top-says z e before)),
        ))

  pub bad-made : d.kind ≡ BAD → d.width ≡ 1 → width_of S.table d.a ≡ 1 → OwnWord S x k m i t (share_word S (above_of S m k) d.a i t)
  bad-made e h ha =
      one-made (ap uses_a e) (omega arith) (omega arith) (omega arith) (λ z. omega arith)
      (v.made k i is lt (rw e) ∙ at-bad S.addrs d (width_of S.table d.a) x oa ob oc _ i e)

  -- the two extensions
  module _ (z : Extended d.width (width_of S.table d.a)) where
    word : 1 ≤ d.width
    word = omega (arith, z.word, z.wide)

    pub ext-made : d.kind ≡ EXT → OwnWord S x k m i t (share_word S (above_of S m k) d.a i t)
    ext-made e =
        one-made (ap uses_a e) word z.word z.wide (λ q. omega arith)
        (v.made k i is lt (rw e) ∙ at-ext S.addrs d (width_of S.table d.a) x oa ob oc _ i e)

    pub sext-made : d.kind ≡ SEXT → OwnWord S x k m i t (share_word S (above_of S m k) d.a i t)
    sext-made e =
        signed-made (ap uses_a e) word z.word z.wide e
        (v.made k i is lt (rw e)
        ∙ (at-sext S.addrs d (width_of S.table d.a) x oa ob oc _ i e
        ∙ ap₂ (λ (p q : ℕ). sext_word p q (get_or x oa 0)) (sym (word_wide S d.a z.word)) (sym (word_wide S k word))))
