-- The law of a node's own step, by the line of the sorts under which the node stands.
use Rattle.std.specs.Prelude.{Ok}
use mathlib.Core.Path.{◌≡◌, refl, sym, ◌∙◌}
use mathlib.Core.Logic.{◌⊎◌, inl, inr}
use mathlib.Core.Bool.{true}
use Prim.Native.Nat.{ℕ, ◌≤◌, ◌<◌}
use native.Mathlib.Omega.{arith}
use lib.Dec.{eqb}
use lib.ListN.{length}
use borrow.Author.Tests.{eqb-true, eqb-false}
use Rattle.loops.specs.Loop.{pick}
use Rattle.loops.proofs.Loop.{by-pick}
use Rattle.table.specs.Kind.{STATE, SEXT, uses_a}
use Rattle.table.specs.Op.{op_kind}
use Rattle.digits.specs.Op.{Op}
use Rattle.digits.proofs.Ops.{op-some}
use Rattle.table.specs.Node.{node_at, width_of, a_of, b_of, c_of}
use Rattle.table.specs.Sheet.{table_fault}
use Rattle.table.proofs.Whole.{Sound, Rule, OpSort, Extended, is-const, is-input, is_state, is-op, is-bad, is-ext, is-ite, is-divu, is-rem, is_read, is-write, is-sext}
use Rattle.visits.specs.Flow.{Core}
use Rattle.visits.specs.Claims.{Is, Step, OwnLaw}
use Rattle.visits.proofs.Marks.{positive}
use Rattle.nodes.specs.Source.{Source, node_of, words_of, total_of}
use Rattle.nodes.specs.Own.{each_word, share_word, above_of, own_step}
use Rattle.nodes.specs.Recipe.{recipe}
use Rattle.nodes.proofs.OpKinds.{op-plain}
use Rattle.nodes.proofs.OwnKinds.{by_word}
use Rattle.nodes.proofs.Places.{word-words, word_wide, sound-of}
use Rattle.nodes.proofs.WordLaws.{Reads}
use Rattle.nodes.proofs.StepLaws.{reads-a, word-a, one_word, const_word, op-word}
use Rattle.nodes.proofs.ShareLaws.{same-words, input-step, share-step, ite-step}
use Rattle.nodes.proofs.MemoryLaws.{ReadsOwed, WritesOwed, read-step, write_step_lem}
use Rattle.nodes.proofs.DivisionLaws.{divide-step}

module _ (S : Source) (clear : table_fault S.table S.addrs S.word ≡ Ok tt) (reads : ReadsOwed S) (writes : WritesOwed S) where
  module _ (k : ℕ) (is : Is (recipe S) k) (s : Core) (mapped : length s.map ≡ total_of S) where
    node : Sound S.table S.word k
    node = sound-of S clear k is

    -- a sext's operand is a word, and its top bit is among those that the node reads
    over : ((node_of S k).kind ≡ SEXT → 1 ≤ width_of S.table (node_of S k).a) → (b : ℕ) → Reads S k s b → 2 ≤ b → above_of S s.map k < b
    unfolding above_of
    over word b o two =
        by-pick (λ (n : ℕ). n < b) (eqb (node_of S k).kind SEXT) _ _
        (λ z.
        let e : (node_of S k).kind ≡ SEXT = eqb-true (node_of S k).kind SEXT z in
        word-a S clear k is s mapped b s.map (rw e) (word e) (λ i h. refl) o _ (omega (arith, word e, word_wide S (node_of S k).a (word e))))
        (λ _. omega arith)

    -- the first operand's bits are shared
    share-first : 1 ≤ (node_of S k).a → words_of S k ≡ words_of S (node_of S k).a → ((node_of S k).kind ≡ SEXT → 1 ≤ width_of S.table (node_of S k).a)
        → Step (recipe S) k s (each_word S k (share_word S (above_of S s.map k) (node_of S k).a) s)
    share-first some words word =
        share-step S clear k is s mapped (above_of S s.map k) (node_of S k).a some node.operands.a words (λ b o. reads-a S k s b o some) (over word)

    -- an initial node has the state's sort
    initial : (node_of S k).kind ≡ STATE → ((node_of S k).a ≡ 0 → ⊥) → ((node_of S k).a ≡ 0) ⊎ (width_of S.table (node_of S k).a ≡ (node_of S k).width)
        → Step (recipe S) k s (each_word S k (share_word S (above_of S s.map k) (node_of S k).a) s)
    initial e ne (inl z) = absurd (ne z)
    initial e ne (inr v) = share-first (positive (node_of S k).a ne) (same-words S k (node_of S k).a (sym v)) (λ z. absurd (omega arith))

    -- an extension's operand is a word
    extension : uses_a (node_of S k).kind ≡ true → Extended (node_of S k).width (width_of S.table (node_of S k).a)
        → Step (recipe S) k s (each_word S k (share_word S (above_of S s.map k) (node_of S k).a) s)
    extension u v =
        share-first (node.operands.a-used u) (word-words S k (omega (arith, v.word, v.wide)) ∙ sym (word-words S (node_of S k).a v.word)) (λ _. v.word)

    -- a plain operation
    operation : (o : Op) → (node_of S k).kind ≡ op_kind o → OpSort o (node_of S k).width (width_of S.table (node_of S k).a) (width_of S.table (node_of S k).b) → Step (recipe S) k s (own_step S k s)
    operation o e v =
        rw (by_word S k s (op-plain o (node_of S k) e))
        (one_word S clear k is s mapped (omega (arith, v.wide, op-some o _ v.word)) (λ i x t. op-word S clear k is s mapped i x t o e v))

    made : Rule S.word (node_at S.table k) (width_of S.table (a_of S.table k)) (width_of S.table (b_of S.table k)) (width_of S.table (c_of S.table k))
        → Step (recipe S) k s (own_step S k s)
    unfolding own_step pick
    made (is-const e v i) = rw e (one_word S clear k is s mapped v (λ i x t. const_word S clear k is s mapped i x t e v))
    made (is-input e) = rw e (input-step S clear k is s mapped (rw e))
    made (is_state e v) =
        rw e
        (by-pick (Step (recipe S) k s) (eqb (node_of S k).a 0) _ _ (λ z. input-step S clear k is s mapped (rw (e, z))) (λ z. initial e (eqb-false (node_of S k).a 0 z) v))
    made (is-op o e v) = operation o e v
    made (is-bad e v va) = rw e (share-first (node.operands.a-used (rw e)) (same-words S k (node_of S k).a (v ∙ sym va)) (λ z. omega arith))
    made (is-ext e v) = rw e (extension (rw e) v)
    made (is-ite e va vb vc) = rw e (ite-step S clear k is s mapped e va vb vc)
    made (is-sext e v) = rw e (extension (rw e) v)
    made (is-divu e v) = rw e (divide-step S clear k is s mapped (rw e) v)
    made (is-rem e v) = rw e (divide-step S clear k is s mapped (rw e) v)
    made (is_read e v va vb) = rw e (read-step S clear k is s mapped reads e v va vb)
    made (is-write e v va vb vc) = rw e (write_step_lem S clear k is s mapped writes e v va vb vc)

  pub own-law : OwnLaw (recipe S)
  own-law k s is mapped = made k is s mapped (sound-of S clear k is).sort
