-- The law of values of an ite: a known condition shares the chosen side, an unknown one chooses bit by bit.
use mathlib.Core.Path.{◌≡◌, refl, ap, ap₂, sym, ◌∙◌}
use mathlib.Core.List.{List}
use mathlib.Core.Bool.{Bool, true, false}
use Prim.Native.Nat.{ℕ, zero, suc, ◌+◌, ◌≤◌, ◌<◌}
use native.Mathlib.Omega.{arith}
use lib.Dec.{eqb}
use lib.ListN.{get_or}
use borrow.Author.Tests.{ne_eqb}
use Rattle.loops.specs.Loop.{pick, bit}
use Rattle.table.specs.declared.Node.{Node}
use Rattle.table.specs.Kind.{ITE, uses_a, uses_b, uses_c}
use Rattle.table.specs.Node.{width_of}
use Rattle.values.specs.Value.{ite_value}
use Rattle.values.proofs.ByKind.{at-ite}
use Rattle.netlist.specs.Bit.{is_known}
use Rattle.netlist.specs.Net.{Assign}
use Rattle.netlist.proofs.BitLaws.{known-less, unknown-least}
use Rattle.words.specs.declared.each.Bitwise.TheVariants as op
use Rattle.words.specs.Num.{num}
use Rattle.words.specs.Each.{bit_value, each_bit, each_cost, EachLaw}
use Rattle.words.proofs.NumLaws.{num-choose, blank-long}
use Rattle.words.proofs.EachLaws.{each-law}
use Rattle.visits.specs.Flow.{Core}
use Rattle.visits.specs.Claims.{Is, Right, Considered}
use Rattle.nodes.specs.Source.{Source, node_of, words_of, wide_of, word_at, condition_of, second_of, third_of}
use Rattle.nodes.specs.Own.{fresh, share_word, choose_word}
use Rattle.nodes.specs.Recipe.{recipe}
use Rattle.nodes.specs.Meaning.{slot_from, slot_of, meaning}
use Rattle.nodes.proofs.Places.{word_wide}
use Rattle.nodes.proofs.ShareLaws.{same-wide, same-words}
use Rattle.nodes.proofs.MeaningPlaces.{wide-range}
use Rattle.nodes.proofs.Meaning.{Evaluated, right-says}
use Rattle.nodes.proofs.RightWords.{Operable, OwnWord}
use Rattle.words.proofs.OpLaws.{num-one}
use Rattle.nodes.proofs.RightOperands.{bit-one, sound, a-is, b-is, c-is, a-right, word-says, word_made}
use Rattle.nodes.proofs.RightShare.{same-made}

-- the chosen slot, by the condition's value
ite-true : (x : List ℕ) (a b c j : ℕ) → eqb (get_or x a 0) 1 ≡ true → ite_value x a b c j ≡ get_or x (b + j) 0
unfolding ite_value pick
ite-true x a b c j e = rw e

ite-false : (x : List ℕ) (a b c j : ℕ) → eqb (get_or x a 0) 1 ≡ false → ite_value x a b c j ≡ get_or x (c + j) 0
unfolding ite_value pick
ite-false x a b c j e = rw e

ite-pick : (x : List ℕ) (a b c j : ℕ) (z : Bool) → eqb (get_or x a 0) 1 ≡ z → ite_value x a b c j ≡ pick z (get_or x (b + j) 0) (get_or x (c + j) 0)
unfolding ite_value
ite-pick x a b c j z e = rw e

module _ {S : Source} {x : List ℕ} (v : Evaluated S x) {k : ℕ} (is : Is (recipe S) k) (e : (node_of S k).kind ≡ ITE) (one : width_of S.table (node_of S k).a ≡ 1)
    (left : width_of S.table (node_of S k).b ≡ (node_of S k).width) (right : width_of S.table (node_of S k).c ≡ (node_of S k).width) where
  abbrev d : Node
  d = node_of S k

  abbrev oa : ℕ
  oa = slot_from S d.a

  abbrev ob : ℕ
  ob = slot_from S d.b

  abbrev oc : ℕ
  oc = slot_from S d.c

  -- the condition's bit says its value
  condition-says : (m n : List ℕ) (h : Assign) → Operable S x k m h n → eqb (get_or x oa 0) 1 ≡ h (condition_of S n k)
  condition-says m n h o =
      let u : 1 ≤ d.a = (sound v is).operands.a-used (ap uses_a e) in
      let p : num h (word_at S n d.a 0) (wide_of S d.a) ≡ get_or x oa 0 = word-says v is (a-is v is u) (omega arith) h n (a-right v is m n h o u) in
      let w : wide_of S d.a ≡ 1 = word_wide S d.a (omega arith) ∙ one in
      let q : bit (h (condition_of S n k)) ≡ get_or x oa 0 = sym (num-one h (word_at S n d.a 0)) ∙ (ap (λ z. num h (word_at S n d.a 0) z) (sym w) ∙ p) in
      ap (λ z. eqb z 1) (sym q) ∙ bit-one (h (condition_of S n k))

  -- the side that is visited: by a condition known false, by one that is not
  second-false : (m : List ℕ) → condition_of S m k ≡ 0 → second_of S m k ≡ d.c
  unfolding second_of pick
  second-false m z = rw (e, z)

  second-else : (m : List ℕ) → eqb (condition_of S m k) 0 ≡ false → second_of S m k ≡ d.b
  unfolding second_of pick
  second-else m z = rw (e, z)

  third-else : (m : List ℕ) → is_known (condition_of S m k) ≡ false → third_of S m k ≡ d.c
  unfolding third_of pick
  third-else m z = rw (e, z)

  module _ (m : List ℕ) (i : ℕ) (t : Core) (lt : i < words_of S k) where
    side-made : (y : ℕ) → Is (recipe S) y → width_of S.table y ≡ d.width → second_of S m k ≡ y
        → ((h : Assign) → Considered (meaning S x) t.net h → Operable S x k m h m → ite_value x oa ob oc i ≡ slot_of S x y i) → OwnWord S x k m i t (share_word S 0 (second_of S m k) i t)
    side-made y iy same q says =
        rw q
        (same-made v is m i t lt 0 refl y iy (rw (same-words S y k same) lt) (omega (arith, same-wide S y k same))
        (λ h ce before o.
        let r : Right (recipe S) (meaning S x) h t.map (second_of S m k) = o.second (λ z. omega (arith, iy.low)) in
        (rw q at r, v.made k i is lt (rw e) ∙ (at-ite S.addrs d (width_of S.table d.a) x oa ob oc _ i e ∙ says h ce before))))

    by_condition : (c : ℕ) → condition_of S m k ≡ c → c < 2 → OwnWord S x k m i t (share_word S 0 (second_of S m k) i t)
    by_condition zero q l =
        side-made d.c (c-is v is (ap uses_c e)) right (second-false m q)
        (λ h ce before. ite-false x oa ob oc i (condition-says m m h before ∙ (ap h q ∙ ce.obeys.low)))
    by_condition (suc zero) q l =
        side-made d.b (b-is v is (ap uses_b e)) left (second-else m (rw q))
        (λ h ce before. ite-true x oa ob oc i (condition-says m m h before ∙ (ap h q ∙ ce.obeys.high)))
    by_condition (suc (suc c)) q l = absurd (omega arith)

    pub known-made : is_known (condition_of S m k) ≡ true → OwnWord S x k m i t (share_word S 0 (second_of S m k) i t)
    known-made z = by_condition (condition_of S m k) refl (known-less (condition_of S m k) z)

    abbrev c : ℕ
    c = condition_of S t.map k

    abbrev B : List ℕ
    B = word_at S t.map d.b i

    abbrev C : List ℕ
    C = word_at S t.map d.c i

    pub choose-made : is_known (condition_of S m k) ≡ false → OwnWord S x k m i t (choose_word S k i t)
    unfolding choose_word bit_value
    choose-made z =
        let L : EachLaw (op.Choose c) B C (fresh t.net) (wide_of S k) (each_bit (op.Choose c) B C (wide_of S k) (fresh t.net)) =
        each-law (op.Choose c) B C (fresh t.net) (wide_of S k) (omega (arith, blank-long, (wide-range S v.clear k).1)) in
        let q : second_of S m k ≡ d.b = second-else m (ne_eqb (condition_of S m k) 0 (λ y. omega (arith, unknown-least (condition_of S m k) z))) in
        let r : third_of S m k ≡ d.c = third-else m z in
        let ib : Is (recipe S) d.b = b-is v is (ap uses_b e) in
        let ic : Is (recipe S) d.c = c-is v is (ap uses_c e) in
        word_made v is (each_cost (op.Choose c) B C (wide_of S k)) lt (rw e) L.ext
        (λ h ce o.
        let rb : Right (recipe S) (meaning S x) h t.map (second_of S m k) = o.second (λ y. omega (arith, ib.low)) in
        let rc : Right (recipe S) (meaning S x) h t.map (third_of S m k) = o.third (λ y. omega (arith, ic.low)) in
        let nb : num h B (wide_of S k) ≡ slot_of S x d.b i =
        ap (λ n. num h B n) (sym (same-wide S d.b k left)) ∙ right-says v ib {i = i} (rw (same-words S d.b k left) lt) h t.map (rw q at rb) in
        let nc : num h C (wide_of S k) ≡ slot_of S x d.c i =
        ap (λ n. num h C n) (sym (same-wide S d.c k right)) ∙ right-says v ic {i = i} (rw (same-words S d.c k right) lt) h t.map (rw r at rc) in
        num-choose h (h c) (each_bit (op.Choose c) B C (wide_of S k) (fresh t.net)).out B C (wide_of S k) (L.value h ce.obeys)
        ∙ (ap₂ (λ (a b : ℕ). pick (h c) a b) nb nc
        ∙ (sym (ite-pick x oa ob oc i (h c) (condition-says m t.map h o))
        ∙ sym (at-ite S.addrs d (width_of S.table d.a) x oa ob oc _ i e))))
