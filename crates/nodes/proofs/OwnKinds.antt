-- The own step by its kind: which of its cases a node comes to.
use mathlib.Core.Path.{◌≡◌, ◌∙◌}
use mathlib.Core.Bool.{true, false}
use Prim.Native.Nat.{ℕ}
use lib.Dec.{eqb}
use borrow.Author.Tests.{eqb-true}
use Rattle.loops.specs.Loop.{pick}
use Rattle.loops.proofs.Loop.{pick_true, pick-false, either}
use Rattle.table.specs.declared.Node.{Node}
use Rattle.table.specs.Kind.{ITE, DIVU, REM, READ, WRITE, divides}
use Rattle.table.specs.Node.{given}
use Rattle.visits.specs.Flow.{Core}
use Rattle.nodes.specs.Source.{Source, node_of}
use Rattle.nodes.specs.Own.{shares, each_word, input_word, share_word, above_of, read_word, word_own, ite_own, divide_own, write_own, own_step}
use Rattle.nodes.specs.Asked.{Plain}

module _ (S : Source) (k : ℕ) (s : Core) where
  abbrev d : Node
  d = node_of S k

  pub by-input : given d ≡ true → own_step S k s ≡ each_word S k (input_word S k) s
  unfolding own_step
  by-input g = pick_true _ _ _ g

  pub by-share : given d ≡ false → shares d ≡ true → own_step S k s ≡ each_word S k (share_word S (above_of S s.map k) d.a) s
  unfolding own_step
  by-share g h = pick-false _ _ _ g ∙ pick_true _ _ _ h

  pub by-ite : d.kind ≡ ITE → own_step S k s ≡ ite_own S k s
  unfolding own_step pick
  by-ite e = rw e

  pub by-divide : divides d.kind ≡ true → own_step S k s ≡ divide_own S k s
  unfolding own_step pick
  by-divide h = either (eqb d.kind DIVU) (eqb d.kind REM) _ (λ e. rw (eqb-true d.kind DIVU e)) (λ e. rw (eqb-true d.kind REM e)) h

  pub by_read : d.kind ≡ READ → own_step S k s ≡ each_word S k (read_word S k) s
  unfolding own_step pick
  by_read e = rw e

  pub by-write : d.kind ≡ WRITE → own_step S k s ≡ write_own S k s
  unfolding own_step pick
  by-write e = rw e

  -- none of the above
  pub by_word : Plain d → own_step S k s ≡ each_word S k (word_own S k) s
  unfolding own_step
  by_word p =
      pick-false _ _ _ p.given
      ∙ (pick-false _ _ _ p.shares ∙ (pick-false _ _ _ p.chooses ∙ (pick-false _ _ _ p.divides ∙ (pick-false _ _ _ p.reads ∙ pick-false _ _ _ p.writes))))
