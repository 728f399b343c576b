-- The places that nodes take, in the bit map and in the word evaluator's values, and where each node's begin.
use Rattle.std.specs.Prelude.{◌≡◌, List, ℕ, ◌+◌, ◌-◌, ◌*◌, ◌≤◌, eqb, get_or, set, length}
use Rattle.loops.specs.Loop.{pick, iter, sum}
use Rattle.table.specs.declared.Unit.{Unit}
use Rattle.table.specs.declared.Unit.TheVariants.{Bit, Slot}
use Rattle.table.specs.Node.{width_of, nodes}

-- a memory has n words of W bits; a word one slot, a memory n
abbrev pub size_of : Unit → ℕ → ℕ → ℕ → ℕ
size_of Bit n w v = pick (eqb v 0) (n * w) v
size_of Slot n w v = pick (eqb v 0) n 1

-- of node i + 1
unfoldable pub node_size : Unit → List ℕ → ℕ → ℕ → ℕ → ℕ
node_size u t n w i = size_of u n w (width_of t (i + 1))

-- a node's places begin after those of all lower nodes
unfoldable pub offset_of : Unit → List ℕ → ℕ → ℕ → ℕ → ℕ
offset_of u t n w i = sum (i - 1) (node_size u t n w)

unfoldable pub size_sum : Unit → List ℕ → ℕ → ℕ → ℕ
size_sum u t n w = sum (nodes t) (node_size u t n w)

-- the offset of each node, at its number, into a list; of node 0, which is none, 0; the last is where the places end
unfoldable pub offset_step : Unit → List ℕ → ℕ → ℕ → ℕ → List ℕ → List ℕ
offset_step u t n w i o = set o (i + 1) (offset_of u t n w (i + 1))

unfoldable pub offsets_into : Unit → List ℕ → ℕ → ℕ → List ℕ → List ℕ
offsets_into u t n w o = iter (nodes t + 1) (offset_step u t n w) (set o 0 0)

-- o holds them
pub record Offsets (u : Unit) (t : List ℕ) (n w : ℕ) (o : List ℕ) : Type 0 where
  pub at : (i : ℕ) → i ≤ nodes t + 1 → get_or o i 0 ≡ offset_of u t n w i
  pub long : nodes t + 2 ≤ length o
