-- The node table: six numbers a node, nodes from 1.
use Rattle.std.specs.Prelude.{List, Bool, ◌&&◌, ◌||◌, ℕ, ◌+◌, ◌-◌, ◌*◌, ◌/◌, ◌≤◌, ◌<◌, eqb, get_or, length}
use Rattle.loops.specs.Loop.{pick}
use Rattle.table.specs.declared.Node.{Node}
use Rattle.table.specs.Kind.{INPUT, STATE}

-- field k of node i; node 0 is none, and has zeros
unfoldable pub field_at : List ℕ → ℕ → ℕ → ℕ
field_at t i k = pick (eqb i 0) 0 (get_or t (6 * (i - 1) + k) 0)

abbrev pub kind_of : List ℕ → ℕ → ℕ
kind_of t i = field_at t i 0

abbrev pub width_of : List ℕ → ℕ → ℕ
width_of t i = field_at t i 1

abbrev pub a_of : List ℕ → ℕ → ℕ
a_of t i = field_at t i 2

abbrev pub b_of : List ℕ → ℕ → ℕ
b_of t i = field_at t i 3

abbrev pub c_of : List ℕ → ℕ → ℕ
c_of t i = field_at t i 4

abbrev pub imm_of : List ℕ → ℕ → ℕ
imm_of t i = field_at t i 5

abbrev pub node_at : List ℕ → ℕ → Node
node_at t i = record { kind = kind_of t i; width = width_of t i; a = a_of t i; b = b_of t i; c = c_of t i; imm = imm_of t i }

abbrev pub nodes : List ℕ → ℕ
nodes t = length t / 6

-- inputs and uninitialised states are given from outside
abbrev pub given : Node → Bool
given d = eqb d.kind INPUT || (eqb d.kind STATE && eqb d.a 0)

-- no width is above 64
abbrev pub Narrow : List ℕ → Type 0
Narrow t = (j : ℕ) → width_of t j ≤ 64

-- what a table without fault has, apart from its sorts
pub record Fine (t l : List ℕ) : Type 0 where
  pub narrow : Narrow t
  pub few : nodes t ≤ 512
  pub short : length l ≤ 64
  pub before : (i : ℕ) → i < nodes t → (a_of t (i + 1) ≤ i) × (b_of t (i + 1) ≤ i) × (c_of t (i + 1) ≤ i)
