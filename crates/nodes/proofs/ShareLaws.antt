-- The steps of the kinds that take words or memories: inputs, shared bits, and choices.
use Rattle.std.specs.Prelude.{Ok}
use mathlib.Core.Path.{◌≡◌, refl, ap, sym, ◌∙◌}
use mathlib.Core.List.{List}
use mathlib.Core.Bool.{Bool, true, false, ◌&&◌, false≢true}
use Prim.Native.Nat.{ℕ, ◌*◌, ◌≤◌, ◌<◌}
use native.Mathlib.Omega.{arith}
use lib.Dec.{eqb}
use lib.ListN.{length, get_or}
use borrow.Author.Tests.{ne_eqb}
use Rattle.loops.specs.Loop.{pick}
use Rattle.loops.proofs.Loop.{by-pick, pick-false}
use Rattle.table.specs.Kind.{ITE}
use Rattle.table.specs.Node.{width_of, given}
use Rattle.table.specs.Ceiling.{ite_gates}
use Rattle.table.specs.Sheet.{table_fault}
use Rattle.table.proofs.ceiling.ByKind.{top-given, top-ite}
use Rattle.netlist.specs.Bit.{is_known}
use Rattle.netlist.proofs.BitLaws.{unknown-least}
use Rattle.visits.specs.Flow.{Core}
use Rattle.visits.specs.Claims.{Is, Under, Step}
use Rattle.digits.specs.Digits.{Below}
use Rattle.nodes.specs.Source.{Source, listed, node_of, words_of, wide_of, bits_of, off_of, total_of, gates_of, condition_of, second_of, third_of, word_at}
use Rattle.nodes.specs.Own.{each_word, input_word, share_word, choose_word, ite_own}
use Rattle.nodes.specs.Recipe.{recipe}
use Rattle.nodes.proofs.Places.{Till, bits-words, bits-size, word_wide, gates-of, word_below}
use Rattle.nodes.proofs.WordLaws.{WordOwes, Reads, made-owes}
use Rattle.nodes.proofs.KindLaws.{InputsMade, inputs-made, share-made, choose-made}
use Rattle.nodes.proofs.StepLaws.{wide-small, node, by-words, word-a}

-- nodes of one width have as many words, as wide
module _ (S : Source) (x y : ℕ) (same : width_of S.table x ≡ width_of S.table y) where
  pub same-words : words_of S x ≡ words_of S y
  unfolding words_of
  same-words = rw same

  pub same-wide : wide_of S x ≡ wide_of S y
  unfolding wide_of
  same-wide = rw same

-- an ite by an unknown condition reads both sides
module _ (S : Source) (m : List ℕ) (k : ℕ) (unknown : is_known (condition_of S m k) ≡ false) where
  second-both : second_of S m k ≡ (node_of S k).b
  unfolding second_of
  second-both = go (eqb (node_of S k).kind ITE)
    where
      go : (b : Bool) → pick (b && eqb (condition_of S m k) 0) (node_of S k).c (node_of S k).b ≡ (node_of S k).b
      go true = pick-false _ _ _ (ne_eqb (condition_of S m k) 0 (λ q. omega (arith, unknown-least (condition_of S m k) unknown)))
      go false = pick-false _ _ _ refl

  third-both : third_of S m k ≡ (node_of S k).c
  unfolding third_of
  third-both = go (eqb (node_of S k).kind ITE)
    where
      go : (b : Bool) → pick (b && is_known (condition_of S m k)) 0 (node_of S k).c ≡ (node_of S k).c
      go true = pick-false _ _ _ unknown
      go false = pick-false _ _ _ refl

module _ (S : Source) (clear : table_fault S.table S.addrs S.word ≡ Ok tt) (k : ℕ) (is : Is (recipe S) k) (s : Core)
    (mapped : length s.map ≡ total_of S) where
  -- an input or an uninitialised state
  input-word : given (node_of S k) ≡ true → (i : ℕ) (x : Core) → WordOwes S k s x (wide_of S k) (input_word S k i x)
  unfolding input_word
  input-word g i x =
      let h : InputsMade x.net (wide_of S k) (input_word S k i x) = inputs-made x.net k (i * wide_of S k) (wide_of S k) (omega (arith, wide-small S clear k)) in
      record {
        grows = h.grows;
        formed = λ r up rm f. h.formed rm f;
        known = λ ng o. absurd (false≢true (sym ng ∙ g));
      }

  pub input-step : given (node_of S k) ≡ true → Step (recipe S) k s (each_word S k (input_word S k) s)
  input-step g =
      by-words S clear k is s mapped (wide_of S k) (input_word S k)
      (omega (arith, bits-words S k is.low, bits-size S k is.low, gates-of S k is.low, top-given (listed S) S.word (node_of S k) (width_of S.table (node_of S k).a) g))
      (λ i x _ _. input-word g i x)

  -- the bits of another node are shared, and above them stands the bit a
  module _ (a y : ℕ) (some : 1 ≤ y) (less : y < k) (words : words_of S k ≡ words_of S y) (reads : (b : ℕ) → Reads S k s b → Under (recipe S) b s.map y)
      (over : (b : ℕ) → Reads S k s b → 2 ≤ b → a < b) where
    pub share-word : (i : ℕ) (x : Core) → i < words_of S k → Till (off_of S k) s.map x.map → WordOwes S k s x 0 (share_word S a y i x)
    unfolding share_word
    share-word i x lt till =
        made-owes {s = s} {In = λ b. (2 ≤ b → a < b) × Below b (word_at S x.map y i) (wide_of S y)}
        (share-made x.net a (word_at S x.map y i) (wide_of S y) (wide_of S k) (omega (arith, wide-small S clear y)) (omega (arith, wide-small S clear k)))
        (λ b o. (over b o, word_below S y k b s.map x.map some less till (reads b o) i (omega arith)))

    pub share-step : Step (recipe S) k s (each_word S k (share_word S a y) s)
    share-step = by-words S clear k is s mapped 0 (share_word S a y) (omega arith) share-word

  -- a choice: its sides have the node's width
  module _ (ite : (node_of S k).kind ≡ ITE) (va : width_of S.table (node_of S k).a ≡ 1) (vb : width_of S.table (node_of S k).b ≡ width_of S.table k)
      (vc : width_of S.table (node_of S k).c ≡ width_of S.table k) where
    some-b : 1 ≤ (node_of S k).b
    some-b = (node S clear k is s mapped).operands.b-used (rw ite)

    some-c : 1 ≤ (node_of S k).c
    some-c = (node S clear k is s mapped).operands.c-used (rw ite)

    less-b : (node_of S k).b < k
    less-b = (node S clear k is s mapped).operands.b

    less-c : (node_of S k).c < k
    less-c = (node S clear k is s mapped).operands.c

    chosen : (1 ≤ second_of S s.map k) × (second_of S s.map k < k) × (width_of S.table k ≡ width_of S.table (second_of S s.map k))
    unfolding second_of
    chosen = by-pick (λ y. (1 ≤ y) × (y < k) × (width_of S.table k ≡ width_of S.table y)) _ _ _ (λ _. (some-c, less-c, sym vc)) (λ _. (some-b, less-b, sym vb))

    known_step : Step (recipe S) k s (each_word S k (share_word S 0 (second_of S s.map k)) s)
    known_step =
        share-step 0 (second_of S s.map k) chosen.0 chosen.1 (same-words S k (second_of S s.map k) chosen.2) (λ b o. o.second (λ q. omega (arith, chosen.0)))
        (λ b o two. omega arith)

    module _ (unknown : is_known (condition_of S s.map k) ≡ false) where
      choose_word_lem : (i : ℕ) (x : Core) → i < words_of S k → Till (off_of S k) s.map x.map → WordOwes S k s x (3 * wide_of S k) (choose_word S k i x)
      unfolding choose_word
      choose_word_lem i x lt till =
          made-owes {s = s} {In = λ b. (j : ℕ) → j < wide_of S k → (cond < b) × (get_or (word_at S x.map (node_of S k).b i) j 0 < b) × (get_or (word_at S x.map (node_of S k).c i) j 0 < b)}
          (choose-made x.net cond (word_at S x.map (node_of S k).b i) (word_at S x.map (node_of S k).c i) (wide_of S k) (omega (arith, wide-small S clear k)))
          (λ b o j l. (
            word-a S clear k is s mapped b x.map (rw ite) (omega arith) till o 0 (omega (arith, word_wide S (node_of S k).a (omega arith))),
            word_below S (node_of S k).b k b s.map x.map some-b less-b till (under-b b o) i (omega (arith, same-words S (node_of S k).b k vb)) j (omega (arith, same-wide S (node_of S k).b k vb)),
            word_below S (node_of S k).c k b s.map x.map some-c less-c till (under-c b o) i (omega (arith, same-words S (node_of S k).c k vc)) j (omega (arith, same-wide S (node_of S k).c k vc)),
          ))
        where
          cond : ℕ
          cond = condition_of S x.map k

          under-b : (b : ℕ) → Reads S k s b → Under (recipe S) b s.map (node_of S k).b
          under-b b o = let e = second-both S s.map k unknown in rw e at (o.second (λ q. omega (arith, some-b)))

          under-c : (b : ℕ) → Reads S k s b → Under (recipe S) b s.map (node_of S k).c
          under-c b o = let e = third-both S s.map k unknown in rw e at (o.third (λ q. omega (arith, some-c)))

      choose-gates : gates_of S k ≡ 3 * bits_of S k
      unfolding ite_gates
      choose-gates = gates-of S k is.low ∙ top-ite (listed S) S.word (node_of S k) (width_of S.table (node_of S k).a) ite ∙ ap (λ (n : ℕ). 3 * n) (sym (bits-size S k is.low))

      choose-step : Step (recipe S) k s (each_word S k (choose_word S k) s)
      choose-step = by-words S clear k is s mapped (3 * wide_of S k) (choose_word S k) (omega (arith, choose-gates, bits-words S k is.low)) choose_word_lem

    pub ite-step : Step (recipe S) k s (ite_own S k s)
    unfolding ite_own
    ite-step = by-pick (Step (recipe S) k s) (is_known (condition_of S s.map k)) _ _ (λ _. known_step) choose-step
