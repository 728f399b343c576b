-- The law of values of the kinds that make one word of one or two, or of none: the plain operations, and const.
use mathlib.Core.Path.{◌≡◌, ap, sym, ◌∙◌}
use mathlib.Core.List.{List}
use mathlib.Core.Bool.{true}
use Prim.Native.Nat.{ℕ, ◌^◌, ◌≤◌, ◌<◌}
use native.Mathlib.Omega.{arith}
use lib.ListN.{get_or}
use borrow.Author.Tests.{eqb-false}
use Rattle.loops.specs.Loop.{pick}
use Rattle.table.specs.declared.Node.{Node}
use Rattle.table.specs.Kind.{CONST, ITE, uses_a, uses_b}
use Rattle.table.specs.Op.{op_kind}
use Rattle.table.specs.Node.{width_of}
use Rattle.table.proofs.Ops.{op-a, op-b}
use Rattle.table.proofs.Whole.{OpSort}
use Rattle.values.proofs.ByKind.{at-const, at_op}
use Rattle.netlist.specs.Net.{Assign}
use Rattle.gates.proofs.Laws.{ext_refl}
use Rattle.digits.specs.Digits.{put_digits}
use Rattle.digits.specs.Op.{Op, op_two, op_wide, op_gates}
use Rattle.digits.proofs.Numbers.{digit_lt}
use Rattle.digits.proofs.Ops.{op_same, op-even, op-wide, op-some}
use Rattle.digits.proofs.Words as digits
use Rattle.words.specs.Num.{num, blank}
use Rattle.words.specs.Each.{Word}
use Rattle.words.specs.Op.{op_word, OpLaw}
use Rattle.words.proofs.NumLaws.{num-digits, blank-long}
use Rattle.words.proofs.OpLaws.{op-law}
use Rattle.visits.specs.Flow.{Core}
use Rattle.visits.specs.Claims.{Is}
use Rattle.nodes.specs.Source.{Source, node_of, words_of, wide_of, word_at}
use Rattle.nodes.specs.Own.{plain_word, word_own}
use Rattle.nodes.specs.Recipe.{recipe}
use Rattle.nodes.specs.Meaning.{slot_from}
use Rattle.nodes.proofs.OpKinds.{op-plain, plain-is}
use Rattle.nodes.proofs.Places.{word_wide}
use Rattle.nodes.proofs.MeaningPlaces.{wide-range}
use Rattle.nodes.proofs.Meaning.{Evaluated}
use Rattle.nodes.proofs.RightWords.{OwnWord, Operable}
use Rattle.nodes.proofs.RightOperands.{sound, a-is, b-is, a-right, b-right, word-says, word_made}

module _ {S : Source} {x : List ℕ} (v : Evaluated S x) {k : ℕ} (is : Is (recipe S) k) (m : List ℕ) (i : ℕ) (t : Core) (lt : i < words_of S k) where
  abbrev d : Node
  d = node_of S k

  abbrev A : List ℕ
  A = word_at S t.map d.a 0

  abbrev B : List ℕ
  B = word_at S t.map d.b 0

  abbrev w : ℕ
  w = wide_of S d.a

  abbrev oa : ℕ
  oa = slot_from S d.a

  abbrev ob : ℕ
  ob = slot_from S d.b

  abbrev oc : ℕ
  oc = slot_from S d.c

  abbrev Made : Word → Type 0
  Made y = OwnWord S x k m i t y

  pub const-made : d.kind ≡ CONST → 1 ≤ d.width → d.imm < 2 ^ d.width → Made (word_own S k i t)
  unfolding word_own plain_word pick
  const-made e h g =
      rw e
      (word_made v is 0 lt (rw e) (ext_refl t.net 0)
      (λ a ce o.
      let p = digits.put-law d.imm d.width blank (omega (arith, blank-long, (sound v is).narrow)) in
      rw (word_wide S k h) (num-digits t.net a (put_digits d.imm d.width blank) d.width d.imm ce.obeys g p.there (digit_lt d.imm))
      ∙ sym (at-const S.addrs d (width_of S.table d.a) x oa ob oc _ i e)))

  module _ (o : Op) (e : d.kind ≡ op_kind o) (z : OpSort o d.width (width_of S.table d.a) (width_of S.table d.b)) where
    wide-a : w ≡ width_of S.table d.a
    wide-a = word_wide S d.a z.word

    wide-k : wide_of S k ≡ op_wide o w
    wide-k = word_wide S k (omega (arith, z.wide, op-some o _ z.word)) ∙ (z.wide ∙ ap (op_wide o) (sym wide-a))

    -- the operands' bits say their values
    first : (a : Assign) → Operable S x k m a t.map → num a A w ≡ get_or x oa 0
    first a r =
        let u : 1 ≤ d.a = (sound v is).operands.a-used (ap uses_a e ∙ op-a o) in
        word-says v is (a-is v is u) z.word a t.map (a-right v is m t.map a r u)

    second : (a : Assign) → Operable S x k m a t.map → op_two o ≡ true → num a B w ≡ get_or x ob 0
    second a r u =
        let b : uses_b d.kind ≡ true = ap uses_b e ∙ (op-b o ∙ u) in
        let q : wide_of S d.b ≡ w = word_wide S d.b (omega (arith, z.word, z.same u)) ∙ (z.same u ∙ sym wide-a) in
        ap (λ n. num a B n) (sym q)
        ∙ (word-says v is (b-is v is b) (omega (arith, z.word, z.same u)) a t.map (b-right v is m t.map a r (eqb-false d.kind ITE (op-plain o d e).chooses) b))

    pub op-made : Made (word_own S k i t)
    unfolding word_own
    op-made =
        let L : OpLaw o w A B t.net (op_word o w A B t.net) = op-law w A B t.net (wide-range S v.clear d.a).0 (wide-range S v.clear d.a).1 o in
        rw (plain-is d w A B t.net o e)
        (word_made v is (op_gates o w) lt (op-plain o d e).given L.ext
        (λ a ce r.
        rw wide-k (L.value a ce.obeys
        ∙ (op_same o w (first a r) (second a r)
        ∙ sym (at_op S.addrs d (width_of S.table d.a) x oa ob oc _ i o e ∙ op-wide d.width w (get_or x oa 0) (get_or x ob 0) o (λ h. op-even o z.wide h ∙ sym wide-a))))))
