-- The step of a node, kind by kind: from the laws of its words, with its operands' bits taken out of the map.
use Rattle.std.specs.Prelude.{Ok}
use mathlib.Core.Path.{◌≡◌, refl, ap, sym, ◌∙◌}
use mathlib.Core.List.{List}
use mathlib.Core.Bool.{true, not, ◌&&◌}
use Prim.Native.Nat.{ℕ, ◌+◌, ◌*◌, ◌≤◌, ◌<◌}
use native.Mathlib.Omega.{arith}
use lib.Dec.{eqb, leb}
use lib.ListN.{length}
use borrow.Author.Tests.{eqb-true, eqb-false, le-leb, leb-true}
use Rattle.loops.specs.Loop.{pick}
use Rattle.loops.proofs.Loop.{by-pick, both, either}
use Rattle.table.specs.Kind.{CONST, NOT, AND, EQ, ITE, SEXT, uses_a, uses_b, uses_c}
use Rattle.table.specs.Op.{op_kind}
use Rattle.table.specs.Node.{width_of}
use Rattle.table.specs.Sheet.{table_fault}
use Rattle.table.proofs.Whole.{Sound, OpSort, within, fine}
use Rattle.table.proofs.Ops.{op-a, op-b}
use Rattle.table.proofs.ceiling.ByKind.{top-op}
use Rattle.digits.specs.Op.{Op, op_two, op_wide, op_gates}
use Rattle.digits.proofs.Ops.{op-some}
use Rattle.digits.specs.Digits.{Below}
use Rattle.netlist.specs.Net.{Net}
use Rattle.gates.proofs.Laws.{grows-weaken}
use Rattle.words.specs.Each.{Word}
use Rattle.words.proofs.OpLaws.{op-law}
use Rattle.visits.specs.Flow.{Core}
use Rattle.visits.specs.Claims.{Is, Under, Step}
use Rattle.nodes.specs.Source.{Source, node_of, words_of, wide_of, off_of, total_of, gates_of, word_at}
use Rattle.nodes.specs.Own.{each_word, plain_word, word_own}
use Rattle.nodes.specs.Recipe.{recipe}
use Rattle.nodes.proofs.OpKinds.{op-plain, plain-is}
use Rattle.nodes.proofs.Places.{Till, bits-words, off-inside, word-words, word_wide, sound-of, gates-of, word_below}
use Rattle.nodes.proofs.ShapeLaws.{second-else, third-else}
use Rattle.nodes.proofs.WordLaws.{WordMade, WordOwes, Reads, made-owes, each_step_lem}
use Rattle.nodes.proofs.KindLaws.{Both, Nothing, const-made, word_made}

-- a word's width and its gates said otherwise
pub made_as : {s : Net} {In : ℕ → Type 0} {y : Word} {v w c d : ℕ} → v ≡ w → c ≤ d → WordMade s In v c y → WordMade s In w d y
made_as {s} {In} {y} {v} {w} {c} {d} e le h =
    record {
      grows = grows-weaken s y.net c d le h.grows;
      formed = λ rm i f. rw (← e) (h.formed rm i f);
      known = λ i. rw (← e) (h.known i);
    }

-- no word is wider than 64
pub wide-small : (S : Source) → table_fault S.table S.addrs S.word ≡ Ok tt → (x : ℕ) → wide_of S x ≤ 64
unfolding wide_of
wide-small S clear x =
    by-pick (λ v. v ≤ 64) (eqb (width_of S.table x) 0) S.word (width_of S.table x)
    (λ _. (within S.table S.addrs S.word clear).4)
    (λ _. (fine S.table S.addrs S.word clear).narrow x)

-- the operands' bits, where the node reads below b
module _ (S : Source) (k : ℕ) (s : Core) (b : ℕ) (o : Reads S k s b) where
  pub reads-a : 1 ≤ (node_of S k).a → Under (recipe S) b s.map (node_of S k).a
  reads-a some = o.first (λ q. omega arith)

  pub reads-b : ((node_of S k).kind ≡ ITE → ⊥) → 1 ≤ (node_of S k).b → Under (recipe S) b s.map (node_of S k).b
  reads-b ne some = let e = second-else S s.map k ne in rw e at (o.second (λ q. omega arith))

  pub reads-c : ((node_of S k).kind ≡ ITE → ⊥) → 1 ≤ (node_of S k).c → Under (recipe S) b s.map (node_of S k).c
  reads-c ne some = let e = third-else S s.map k ne in rw e at (o.third (λ q. omega arith))

pub two-one : (k : ℕ) → uses_b k ≡ true → uses_a k ≡ true
two-one k h =
    either (eqb k AND) (leb EQ k && not (eqb k SEXT)) (uses_a k ≡ true)
    (λ e. le-leb NOT k (omega (arith, eqb-true k AND e)))
    (λ e. le-leb NOT k (omega (arith, leb-true EQ k (both (leb EQ k) (not (eqb k SEXT)) e).0)))
    h

module _ (S : Source) (clear : table_fault S.table S.addrs S.word ≡ Ok tt) (k : ℕ) (is : Is (recipe S) k) (s : Core)
    (mapped : length s.map ≡ total_of S) where
  pub node : Sound S.table S.word k
  node = sound-of S clear k is

  abbrev A : ℕ
  A = (node_of S k).a

  abbrev B : ℕ
  B = (node_of S k).b

  abbrev C : ℕ
  C = (node_of S k).c

  pub fits : off_of S k + words_of S k * wide_of S k ≤ length s.map
  fits = omega (arith, off-inside S k is.low is.high, bits-words S k is.low)

  -- from the law of each word
  pub by-words : (c : ℕ) (f : ℕ → Core → Word) → words_of S k * c ≤ gates_of S k
      → ((i : ℕ) (x : Core) → i < words_of S k → Till (off_of S k) s.map x.map → WordOwes S k s x c (f i x)) → Step (recipe S) k s (each_word S k f s)
  by-words c f top each = each_step_lem S k c s f fits each (bits-words S k is.low) top

  -- a node that makes one word
  pub one_word : 1 ≤ (node_of S k).width → ((i : ℕ) (x : Core) → Till (off_of S k) s.map x.map → WordOwes S k s x (gates_of S k) (word_own S k i x))
      → Step (recipe S) k s (each_word S k (word_own S k) s)
  one_word word each =
      by-words (gates_of S k) (word_own S k) (let e : words_of S k * gates_of S k ≡ 1 * gates_of S k = ap (λ (n : ℕ). n * gates_of S k) (word-words S k word) in omega arith)
      (λ i x _ till. each i x till)

  -- an operand that is a word
  operand : (x b : ℕ) (m : List ℕ) → 1 ≤ x → x < k → 1 ≤ width_of S.table x → Till (off_of S k) s.map m → Under (recipe S) b s.map x → Below b (word_at S m x 0) (wide_of S x)
  operand x b m some less word till u = word_below S x k b s.map m some less till u 0 (omega (arith, word-words S x word))

  pub word-a : (b : ℕ) (m : List ℕ) → uses_a (node_of S k).kind ≡ true → 1 ≤ width_of S.table A → Till (off_of S k) s.map m → Reads S k s b → Below b (word_at S m A 0) (wide_of S A)
  word-a b m u word till o = operand A b m (node.operands.a-used u) node.operands.a word till (reads-a S k s b o (node.operands.a-used u))

  pub word-b : (b : ℕ) (m : List ℕ) → uses_b (node_of S k).kind ≡ true → ((node_of S k).kind ≡ ITE → ⊥) → 1 ≤ width_of S.table B → Till (off_of S k) s.map m → Reads S k s b
      → Below b (word_at S m B 0) (wide_of S B)
  word-b b m u ne word till o = operand B b m (node.operands.b-used u) node.operands.b word till (reads-b S k s b o ne (node.operands.b-used u))

  pub word-c : (b : ℕ) (m : List ℕ) → uses_c (node_of S k).kind ≡ true → ((node_of S k).kind ≡ ITE → ⊥) → 1 ≤ width_of S.table C → Till (off_of S k) s.map m → Reads S k s b
      → Below b (word_at S m C 0) (wide_of S C)
  word-c b m u ne word till o = operand C b m (node.operands.c-used u) node.operands.c word till (reads-c S k s b o ne (node.operands.c-used u))

  -- two words of one width
  pub both_words : (b : ℕ) (m : List ℕ) → uses_b (node_of S k).kind ≡ true → ((node_of S k).kind ≡ ITE → ⊥) → 1 ≤ width_of S.table A → width_of S.table B ≡ width_of S.table A
      → Till (off_of S k) s.map m → Reads S k s b → Both (word_at S m A 0) (word_at S m B 0) (wide_of S A) b
  both_words b m u ne word same till o =
      let e : wide_of S B ≡ wide_of S A = word_wide S B (omega arith) ∙ same ∙ sym (word_wide S A word) in
      (word-a b m (two-one (node_of S k).kind u) word till o, λ i l. word-b b m u ne (omega arith) till o i (omega arith))

  module _ (i : ℕ) (x : Core) (till : Till (off_of S k) s.map x.map) where
    abbrev Owes : Type 0
    Owes = WordOwes S k s x (gates_of S k) (word_own S k i x)

    pub const_word : (node_of S k).kind ≡ CONST → 1 ≤ (node_of S k).width → Owes
    unfolding word_own plain_word pick
    const_word e word =
        rw e
        (made-owes {s = s} {In = Nothing}
        (made_as (sym (word_wide S k word)) (omega arith) (const-made x.net (node_of S k).imm (node_of S k).width (omega (arith, node.narrow)))) (λ b o. refl))

    abbrev X : List ℕ
    X = word_at S x.map A 0

    abbrev Y : List ℕ
    Y = word_at S x.map B 0

    abbrev Wide : ℕ
    Wide = wide_of S A

    -- a plain operation
    module _ (o : Op) (e : (node_of S k).kind ≡ op_kind o) (z : OpSort o (node_of S k).width (width_of S.table A) (width_of S.table B)) where
      wide-here : Wide ≡ width_of S.table A
      wide-here = word_wide S A z.word

      second : (b : ℕ) → Reads S k s b → op_two o ≡ true → Below b Y Wide
      second b r u =
          let w : wide_of S B ≡ Wide = word_wide S B (omega (arith, z.word, z.same u)) ∙ z.same u ∙ sym wide-here in
          λ i l. word-b b x.map (ap uses_b e ∙ (op-b o ∙ u)) (eqb-false (node_of S k).kind ITE (op-plain o (node_of S k) e).chooses) (omega (arith, z.word, z.same u)) till r i (omega arith)

      pub op-word : Owes
      unfolding word_own
      op-word =
          let g : gates_of S k ≡ op_gates o Wide = gates-of S k is.low ∙ (top-op _ _ (node_of S k) _ o e ∙ ap (op_gates o) (sym wide-here)) in
          let w : op_wide o Wide ≡ wide_of S k = ap (op_wide o) wide-here ∙ (sym z.wide ∙ sym (word_wide S k (omega (arith, z.wide, op-some o _ z.word)))) in
          rw (plain-is (node_of S k) Wide X Y x.net o e)
          (made-owes {s = s} {In = λ b. Below b X Wide × (op_two o ≡ true → Below b Y Wide)}
          (made_as w (omega arith) (word_made (op-law Wide X Y x.net (omega (arith, wide-here, z.word)) (wide-small S clear A) o)))
          (λ b r. (word-a b x.map (ap uses_a e ∙ op-a o) z.word till r, second b r)))
