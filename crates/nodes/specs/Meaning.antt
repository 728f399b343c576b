-- What a table means under one choice of the given words: the word values that the word evaluator leaves, as digits.
use Rattle.std.specs.Prelude.{List, Bool, ℕ, ◌+◌, ◌/◌, ◌%◌, eqb, get_or}
use Rattle.values.specs.Eval.{offset}
use Rattle.digits.specs.Digits.{digit}
use Rattle.division.specs.Zero.{nonzero}
use Rattle.visits.specs.Claims.{Meaning}
use Rattle.nodes.specs.Source.{Source, node_of, wide_of}

-- where node k's words begin among the evaluator's slots, and word i of node k there
abbrev pub slot_from : Source → ℕ → ℕ
slot_from S k = offset S.table S.addrs k

abbrev pub slot_of : Source → List ℕ → ℕ → ℕ → ℕ
slot_of S x k i = get_or x (slot_from S k + i) 0

-- digit j of a number
abbrev pub is_one : ℕ → ℕ → Bool
is_one a j = eqb (digit a j) 1

-- lowest bit first, the words of a memory in address-list order
unfoldable pub value_of : Source → List ℕ → ℕ → ℕ → Bool
value_of S x k j = is_one (slot_of S x k (j / wide_of S k)) (j % wide_of S k)

-- the dividend of a division k, and what it is divided by: the divisor, or 1 where that is zero
abbrev pub dividend : Source → List ℕ → ℕ → ℕ
dividend S x k = slot_of S x (node_of S k).a 0

abbrev pub divisor : Source → List ℕ → ℕ → ℕ
divisor S x k = nonzero (slot_of S x (node_of S k).b 0)

-- where the divisor is not zero, the right quotient and remainder of a division are the values of divu and of rem; where it is, z chooses others
abbrev pub meaning : Source → List ℕ → Meaning
meaning S x =
    record {
      value = value_of S x;
      quotient = λ k. is_one (dividend S x k / divisor S x k);
      remainder = λ k. is_one (dividend S x k % divisor S x k);
    }
