-- The law of values of every node's own step (demand 2): under a considered assignment at which the operands' bits are right, the new constraints
-- are met exactly if the new free gates have their right values; and then the node's bits are right.
use mathlib.Core.Path.{◌≡◌, refl, ap}
use mathlib.Core.List.{List}
use mathlib.Core.Logic.{◌⊎◌, inl, inr}
use mathlib.Core.Bool.{Bool, true, false}
use Prim.Native.Nat.{ℕ, ◌<◌}
use native.Mathlib.Omega.{arith}
use Rattle.loops.proofs.Loop.{by-pick}
use Rattle.table.specs.Kind.{STATE, ITE, divides}
use Rattle.table.specs.Node.{width_of, given}
use Rattle.table.proofs.Whole.{Rule, is-const, is-input, is_state, is-op, is-bad, is-ext, is-ite, is-divu, is-rem, is_read, is-write, is-sext}
use Rattle.values.proofs.Seen.{initial}
use Rattle.netlist.specs.Bit.{is_known}
use Rattle.words.specs.Each.{Word}
use Rattle.visits.specs.Flow.{Core}
use Rattle.visits.specs.Claims.{Ready, StepRight, OwnRight}
use Rattle.nodes.specs.Source.{Source, node_of, words_of, condition_of, second_of}
use Rattle.nodes.specs.Own.{each_word, input_word, share_word, above_of, choose_word, read_word, word_own, ite_own, own_step}
use Rattle.nodes.specs.Recipe.{recipe}
use Rattle.nodes.specs.Meaning.{meaning}
use Rattle.nodes.proofs.MemoryLaws.{ReadsOwed, WritesOwed}
use Rattle.nodes.proofs.Places.{sound-of}
use Rattle.nodes.proofs.OpKinds.{op-plain}
use Rattle.nodes.proofs.OwnKinds.{by-input, by-share, by-ite, by-divide, by_read, by-write, by_word}
use Rattle.nodes.proofs.Meaning.{Evaluated}
use Rattle.nodes.proofs.RightWords.{OwnWord, words_right}
use Rattle.nodes.proofs.RightPlain.{const-made, op-made}
use Rattle.nodes.proofs.RightInput.{input-made}
use Rattle.nodes.proofs.RightShare.{state-made, bad-made, ext-made, sext-made}
use Rattle.nodes.proofs.RightChoice.{known-made, choose-made}
use Rattle.nodes.proofs.RightRead.{read_made}
use Rattle.nodes.proofs.RightWrite.{write-right}
use Rattle.nodes.proofs.RightDivide.{division-right}

module _ {S : Source} {x : List ℕ} (v : Evaluated S x) (reads : ReadsOwed S) (writes : WritesOwed S) (k : ℕ) (s : Core) (ready : Ready (recipe S) k s) where
  abbrev Good : Core → Type 0
  Good t = StepRight (recipe S) (meaning S x) k s t

  -- word by word
  each : (f : ℕ → Core → Word) → own_step S k s ≡ each_word S k f s
      → ((i : ℕ) (t : Core) → i < words_of S k → OwnWord S x k s.map i t (f i t)) → Good (own_step S k s)
  each f q h = rw q (words_right S x k s f v.clear ready h)

  given-right : given (node_of S k) ≡ true → Good (own_step S k s)
  given-right g = each (input_word S k) (by-input S k s g) (λ i t lt. input-made S x k s.map i t v.clear)

  state-right : (node_of S k).kind ≡ STATE → ((node_of S k).a ≡ 0) ⊎ (width_of S.table (node_of S k).a ≡ (node_of S k).width) → (b : Bool) → given (node_of S k) ≡ b → Good (own_step S k s)
  state-right e z true g = given-right g
  state-right e (inl z) false g = absurd (omega (arith, initial (node_of S k) e g))
  state-right e (inr z) false g =
      each (share_word S (above_of S s.map k) (node_of S k).a) (by-share S k s g (rw e)) (λ i t lt. state-made v ready.is s.map i t lt e g (initial (node_of S k) e g) z)

  ite_right : (node_of S k).kind ≡ ITE → width_of S.table (node_of S k).a ≡ 1 → width_of S.table (node_of S k).b ≡ (node_of S k).width → width_of S.table (node_of S k).c ≡ (node_of S k).width → Good (own_step S k s)
  unfolding ite_own
  ite_right e p q r =
      rw (by-ite S k s e)
      (by-pick Good (is_known (condition_of S s.map k)) _ _
      (λ h. words_right S x k s (share_word S 0 (second_of S s.map k)) v.clear ready (λ i t lt. known-made v ready.is e p q r s.map i t lt h))
      (λ h. words_right S x k s (choose_word S k) v.clear ready (λ i t lt. choose-made v ready.is e p q r s.map i t lt h)))

  by-rule : Rule S.word (node_of S k) (width_of S.table (node_of S k).a) (width_of S.table (node_of S k).b) (width_of S.table (node_of S k).c) → Good (own_step S k s)
  by-rule (is-const e h g) = each (word_own S k) (by_word S k s (record { given = rw e; shares = rw e; chooses = rw e; divides = rw e; reads = rw e; writes = rw e })) (λ i t lt. const-made v ready.is s.map i t lt e h g)
  by-rule (is-input e) = given-right (rw e)
  by-rule (is_state e z) = state-right e z (given (node_of S k)) refl
  by-rule (is-op o e z) = each (word_own S k) (by_word S k s (op-plain o (node_of S k) e)) (λ i t lt. op-made v ready.is s.map i t lt o e z)
  by-rule (is-bad e h z) = each (share_word S (above_of S s.map k) (node_of S k).a) (by-share S k s (rw e) (rw e)) (λ i t lt. bad-made v ready.is s.map i t lt e h z)
  by-rule (is-ext e z) = each (share_word S (above_of S s.map k) (node_of S k).a) (by-share S k s (rw e) (rw e)) (λ i t lt. ext-made v ready.is s.map i t lt z e)
  by-rule (is-ite e p q r) = ite_right e p q r
  by-rule (is-sext e z) = each (share_word S (above_of S s.map k) (node_of S k).a) (by-share S k s (rw e) (rw e)) (λ i t lt. sext-made v ready.is s.map i t lt z e)
  by-rule (is-divu e z) = rw (by-divide S k s (ap divides e)) (division-right v (ap divides e) z s ready)
  by-rule (is-rem e z) = rw (by-divide S k s (ap divides e)) (division-right v (ap divides e) z s ready)
  by-rule (is_read e h p q) = each (read_word S k) (by_read S k s e) (λ i t lt. read_made v ready.is reads e h p q s.map i t lt)
  by-rule (is-write e h p q r) = rw (by-write S k s e) (write-right v writes e h p q r s ready)

-- demand 2 of every own step, from the laws of the words that are read and written
pub own-right : {S : Source} {x : List ℕ} → Evaluated S x → ReadsOwed S → WritesOwed S → OwnRight (recipe S) (meaning S x)
own-right {S} v reads writes k s ready = by-rule v reads writes k s ready (sound-of S v.clear k ready.is).sort
