-- A table's values and its nodes' bits: a word's bits say its slot exactly if each is the value's digit.
use Rattle.std.specs.Prelude.{Ok}
use mathlib.Core.Path.{◌≡◌, refl, ap, ap₂, sym, ◌∙◌}
use mathlib.Core.List.{List}
use mathlib.Core.Bool.{false}
use Prim.Native.Nat.{ℕ, ◌+◌, ◌-◌, ◌*◌, ◌/◌, ◌%◌, ◌^◌, ◌<◌}
use native.Mathlib.Omega.{arith}
use native.Mathlib.Nat.{mul-add-div_right, mul-add-mod_self_right, div-eq_of_lt, mod-eq_of_lt}
use lib.ListN.{get_or}
use Rattle.table.specs.Node.{nodes, width_of, given}
use Rattle.table.specs.Size.{node_size}
use Rattle.values.specs.Value.{slot_value}
use Rattle.values.specs.Eval.{slots, slot_width, eval_words}
use Rattle.values.specs.Frame.{Valued, InRange}
use Rattle.values.proofs.Kept.{finished}
use Rattle.values.proofs.Local.{done-right}
use Rattle.values.proofs.Range.{in-range}
use Rattle.netlist.specs.Net.{Assign}
use Rattle.words.specs.Num.{num}
use Rattle.words.proofs.NumLaws.{right-num, num-right}
use Rattle.visits.specs.Claims.{Is, Right}
use Rattle.nodes.specs.Source.{Source, node_of, words_of, wide_of, word_at}
use Rattle.nodes.specs.Recipe.{recipe}
use Rattle.nodes.specs.Meaning.{slot_from, slot_of, is_one, value_of, meaning}
use Rattle.nodes.proofs.Places.{bits-words}
use Rattle.nodes.proofs.MeaningPlaces.{Sheeted, word-bit, place_in}

-- slot j of node k, worked out from the slots of its operands
abbrev pub worked_out : Source → List ℕ → ℕ → ℕ → ℕ
worked_out S x k j =
    slot_value S.addrs (node_of S k) (width_of S.table (node_of S k).a) x (slot_from S (node_of S k).a) (slot_from S (node_of S k).b) (slot_from S (node_of S k).c) j

-- x has the values of a table without fault
pub record Evaluated (S : Source) (x : List ℕ) : Type 0 where
  pub clear : Sheeted S
  pub made : (k i : ℕ) → Is (recipe S) k → i < words_of S k → given (node_of S k) ≡ false → slot_of S x k i ≡ worked_out S x k i
  pub range : (k i : ℕ) → Is (recipe S) k → i < words_of S k → slot_of S x k i < 2 ^ wide_of S k

slots-words : (S : Source) (i : ℕ) → slots S.table S.addrs i ≡ words_of S (i + 1)
unfolding node_size words_of
slots-words S i = refl

width-wide : (S : Source) (k : ℕ) → slot_width S.word (node_of S k) ≡ wide_of S k
unfolding slot_width wide_of
width-wide S k = refl

pub evaluated : (S : Source) (v x : List ℕ) → Sheeted S → Valued S.table S.addrs v x → InRange S.table S.addrs S.word x → Evaluated S x
evaluated S v x clear valued range =
    record {
      clear = clear;
      made = λ k i h l g.
          let q : k - 1 + 1 ≡ k = omega (arith, h.low) in
          made (k - 1) k q i (omega (arith, h.low, h.high)) l g;
      range = λ k i h l.
          let q : k - 1 + 1 ≡ k = omega (arith, h.low) in
          ranged (k - 1) k q i (omega (arith, h.low, h.high)) l;
    }
  where
    made : (n k : ℕ) → n + 1 ≡ k → (i : ℕ) → n < nodes S.table → i < words_of S k → given (node_of S k) ≡ false → slot_of S x k i ≡ worked_out S x k i
    made n k q i h l g = rw q at (valued.made n i h (rw (slots-words S n, q) l) (rw q g))

    ranged : (n k : ℕ) → n + 1 ≡ k → (i : ℕ) → n < nodes S.table → i < words_of S k → slot_of S x k i < 2 ^ wide_of S k
    ranged n k q i h l = rw (q, width-wide S k) at (range n i h (rw (slots-words S n, q) l))

-- what the word evaluator answers with Done
pub done-evaluated : (S : Source) (v : List ℕ) → (eval_words S.table S.addrs S.word v).answer ≡ Ok tt → Evaluated S (eval_words S.table S.addrs S.word v).values
done-evaluated S v e =
    evaluated S v (eval_words S.table S.addrs S.word v).values (finished S.table S.addrs S.word v e).clear
    (done-right S.table S.addrs S.word v e)
    (in-range S.table S.addrs S.word v e)

-- digit j of word i
pub value-at : (S : Source) (x : List ℕ) (k i j : ℕ) → j < wide_of S k → value_of S x k (i * wide_of S k + j) ≡ is_one (slot_of S x k i) j
unfolding value_of
value-at S x k i j h =
    let a : (i * wide_of S k + j) / wide_of S k ≡ i + j / wide_of S k = mul-add-div_right (omega arith) i j in
    let z : j / wide_of S k ≡ 0 = div-eq_of_lt h in
    let b : (i * wide_of S k + j) / wide_of S k ≡ i = omega arith in
    let c : (i * wide_of S k + j) % wide_of S k ≡ j = mul-add-mod_self_right i (wide_of S k) j ∙ mod-eq_of_lt h in
    ap₂ (λ (p q : ℕ). is_one (slot_of S x k p) q) b c

module _ {S : Source} {x : List ℕ} (v : Evaluated S x) {k : ℕ} (is : Is (recipe S) k) {i : ℕ} (lt : i < words_of S k) (e : Assign) where
  -- right bits of a word say its slot
  pub right-says : (m : List ℕ) → Right (recipe S) (meaning S x) e m k → num e (word_at S m k i) (wide_of S k) ≡ slot_of S x k i
  right-says m r =
      right-num e (word_at S m k i) (wide_of S k) (slot_of S x k i) (v.range k i is lt)
      (λ j h. ap e (word-bit S m k i j h) ∙ (r (i * wide_of S k + j) (rw (bits-words S k is.low) (place_in (wide_of S k) (words_of S k) i j lt h)) ∙ value-at S x k i j h))

  -- and bits that say a word's slot are right
  pub says-right : (out : List ℕ) → num e out (wide_of S k) ≡ slot_of S x k i → (j : ℕ) → j < wide_of S k → e (get_or out j 0) ≡ value_of S x k (i * wide_of S k + j)
  says-right out h j l = num-right e out (wide_of S k) (slot_of S x k i) (v.range k i is lt) h j l ∙ sym (value-at S x k i j l)
