-- What the lowering answers, and the counts that cross beside it.
use Rattle.std.specs.Prelude.{List, ℕ, length}
use Rattle.loops.specs.Loop.{pick}
use Rattle.table.specs.declared.Sums.{Sums}
use Rattle.table.specs.Sheet.{table_fault, is_clear}
use Rattle.table.specs.Ceiling.{sums_of}
use Rattle.nodes.specs.Source.{source}
use Rattle.lowering.specs.Lower.{Answer, counts_of, lower_all}

-- gates made and constraints recorded, 0 beside a refusal
abbrev pub gates_made : Answer → ℕ
gates_made a = (counts_of a).gates

abbrev pub constraints_held : Answer → ℕ
constraints_held a = (counts_of a).constraints

-- the answer for a table, listed addresses, a word width and the three lent buffers
abbrev pub lower_answer : List ℕ → List ℕ → ℕ → List ℕ → List ℕ → List ℕ → Answer
lower_answer t l w g c m = (lower_all (source t l w) g c m).answer

-- the sums of a table's ceilings, nothing where the table is refused
unfoldable pub room_for : List ℕ → List ℕ → ℕ → Sums
room_for t l w = pick (is_clear (table_fault t l w)) (sums_of t (length l) w) (record { gates = 0; map = 0; constraints = 0 })
