-- What a node reads of its operands: their right bits say their slots.
use mathlib.Core.Path.{◌≡◌, refl, ap, sym, ◌∙◌}
use mathlib.Core.List.{List}
use mathlib.Core.Bool.{Bool, true, false}
use Prim.Native.Nat.{ℕ, ◌+◌, ◌≤◌, ◌<◌}
use native.Mathlib.Omega.{arith}
use lib.Dec.{eqb}
use lib.ListN.{get_or}
use Rattle.loops.specs.Loop.{bit}
use Rattle.table.specs.Kind.{ITE, uses_b, uses_c}
use Rattle.table.specs.Node.{width_of, given}
use Rattle.table.proofs.Whole.{Sound}
use Rattle.netlist.specs.Net.{Assign}
use Rattle.gates.specs.Law.{Ext}
use Rattle.words.specs.Num.{num}
use Rattle.words.specs.Each.{Word}
use Rattle.visits.specs.Flow.{Core}
use Rattle.visits.specs.Claims.{Is, Right, Considered}
use Rattle.nodes.specs.Source.{Source, node_of, words_of, wide_of, word_at, second_of, third_of}
use Rattle.nodes.specs.Recipe.{recipe}
use Rattle.nodes.specs.Meaning.{slot_from, slot_of, meaning}
use Rattle.nodes.proofs.ShapeLaws.{second-else, third-else}
use Rattle.nodes.proofs.Places.{word-words, sound-of}
use Rattle.nodes.proofs.Meaning.{Evaluated, worked_out, right-says, says-right}
use Rattle.nodes.proofs.RightWords.{Operable, OwnWord, inputs-bound}

-- a truth value as a number
pub bit-one : (b : Bool) → eqb (bit b) 1 ≡ b
bit-one true = refl
bit-one false = refl

-- a word's one slot
pub slot-word : (S : Source) (x : List ℕ) (k : ℕ) → slot_of S x k 0 ≡ get_or x (slot_from S k) 0
slot-word S x k = let q : slot_from S k + 0 ≡ slot_from S k = omega arith in ap (λ p. get_or x p 0) q

module _ {S : Source} {x : List ℕ} (v : Evaluated S x) {k : ℕ} (is : Is (recipe S) k) where
  pub sound : Sound S.table S.word k
  sound = sound-of S v.clear k is

  -- its operands are nodes
  pub a-is : 1 ≤ (node_of S k).a → Is (recipe S) (node_of S k).a
  a-is u = record { low = u; high = omega (arith, sound.operands.a, is.high) }

  pub b-is : uses_b (node_of S k).kind ≡ true → Is (recipe S) (node_of S k).b
  b-is u = record { low = sound.operands.b-used u; high = omega (arith, sound.operands.b, is.high) }

  pub c-is : uses_c (node_of S k).kind ≡ true → Is (recipe S) (node_of S k).c
  c-is u = record { low = sound.operands.c-used u; high = omega (arith, sound.operands.c, is.high) }

  module _ (m n : List ℕ) (e : Assign) (o : Operable S x k m e n) where
    -- and their bits are right
    pub a-right : 1 ≤ (node_of S k).a → Right (recipe S) (meaning S x) e n (node_of S k).a
    a-right u = o.first (λ z. omega arith)

    pub b-right : ((node_of S k).kind ≡ ITE → ⊥) → uses_b (node_of S k).kind ≡ true → Right (recipe S) (meaning S x) e n (node_of S k).b
    b-right ni u = let q : second_of S m k ≡ (node_of S k).b = second-else S m k ni in rw q at (o.second (λ z. omega (arith, (b-is u).low)))

    pub c-right : ((node_of S k).kind ≡ ITE → ⊥) → uses_c (node_of S k).kind ≡ true → Right (recipe S) (meaning S x) e n (node_of S k).c
    c-right ni u = let q : third_of S m k ≡ (node_of S k).c = third-else S m k ni in rw q at (o.third (λ z. omega (arith, (c-is u).low)))

  -- the bits of an operand that is a word say its value
  pub word-says : {y : ℕ} → Is (recipe S) y → 1 ≤ width_of S.table y → (e : Assign) (n : List ℕ) → Right (recipe S) (meaning S x) e n y
      → num e (word_at S n y 0) (wide_of S y) ≡ get_or x (slot_from S y) 0
  word-says {y} iy h e n r = right-says v iy {i = 0} (omega (arith, word-words S y h)) e n r ∙ slot-word S x y

  -- from a word's law to its bits: it is enough that they say what the node's kind makes of its operands' values
  pub word_made : {m : List ℕ} {i : ℕ} {t : Core} {y : Word} (c : ℕ) → i < words_of S k → given (node_of S k) ≡ false → Ext t.net y.net c
      → ((e : Assign) → Considered (meaning S x) y.net e → Operable S x k m e t.map → num e y.out (wide_of S k) ≡ worked_out S x k i) → OwnWord S x k m i t y
  word_made {m} {i} {t} {y} c lt g ext says =
      record {
        cost = c;
        grows = ext.grows;
        only = inputs-bound t.net y.net c ext;
        right = λ e ce before o. says-right v is {i = i} lt e y.out (says e ce o ∙ sym (v.made k i is lt g));
      }
