-- The layout of a gate list: four numbers a record. Nothing outside this file, proofs/Record.antt and src/record.rt knows it.
use Rattle.std.specs.Prelude.{List, Bool, ℕ, ◌+◌, ◌*◌, ◌/◌, ◌%◌, ◌≤◌, eqb, set, get_or, length}
use Rattle.netlist.specs.declared.record.Gate.{Gate}

abbrev pub gate : ℕ → ℕ → ℕ → ℕ → Gate
gate k x y z = record { kind = k; x = x; y = y; z = z }

-- record i is read, and written
unfoldable pub gate_at : List ℕ → ℕ → Gate
gate_at l i = gate (get_or l (4 * i) 0) (get_or l (4 * i + 1) 0) (get_or l (4 * i + 2) 0) (get_or l (4 * i + 3) 0)

unfoldable pub put : List ℕ → ℕ → Gate → List ℕ
put l i g = set (set (set (set l (4 * i) g.kind) (4 * i + 1) g.x) (4 * i + 2) g.y) (4 * i + 3) g.z

-- n records are so many numbers, and a buffer has room for them
abbrev pub used : ℕ → ℕ
used n = 4 * n

abbrev pub Room : List ℕ → ℕ → Type 0
Room l n = used n ≤ length l

-- the whole records of a list, and whether there is no rest
abbrev pub records : List ℕ → ℕ
records l = length l / 4

abbrev pub whole_records : List ℕ → Bool
whole_records l = eqb (length l % 4) 0
