-- What document 01's program prints of a lowered table: `gate` lines, `bits` lines, `constraint` lines, `done`; or one `refused` line.
use Rattle.std.specs.Prelude.{◌≡◌, List, [], ◌∷◌, ◌++◌, ℕ, zero, suc, ◌+◌, ◌-◌, ◌*◌, ◌/◌, ◌≤◌, ◌<◌, eqb, length, get_or, take, drop}
use Rattle.loops.specs.Loop.{pick}
use Rattle.netlist.specs.Record.{used, records}
use Rattle.text.specs.Over.{over}
use Rattle.text.specs.Line.{line}

-- numbers of a constraint; those of a gate record are netlist's to say
abbrev pub constraint_size : ℕ
constraint_size = 2

-- gate
unfoldable pub gate_name : List ℕ
gate_name = 103 ∷ 97 ∷ 116 ∷ 101 ∷ []

-- bits
unfoldable pub bits_name : List ℕ
bits_name = 98 ∷ 105 ∷ 116 ∷ 115 ∷ []

-- constraint
unfoldable pub constraint_name : List ℕ
constraint_name = 99 ∷ 111 ∷ 110 ∷ 115 ∷ 116 ∷ 114 ∷ 97 ∷ 105 ∷ 110 ∷ 116 ∷ []

-- done
unfoldable pub done_name : List ℕ
done_name = 100 ∷ 111 ∷ 110 ∷ 101 ∷ []

-- refused
unfoldable pub refused_name : List ℕ
refused_name = 114 ∷ 101 ∷ 102 ∷ 117 ∷ 115 ∷ 101 ∷ 100 ∷ []

-- places o up to e
abbrev pub part : ℕ → ℕ → List ℕ → List ℕ
part o e l = take (e - o) (drop o l)

-- gate i: its number, its record
unfoldable pub gate_line : List ℕ → ℕ → List ℕ
gate_line gates i = line gate_name (i ∷ part (used i) (used (i + 1)) gates)

-- "One `bits` line a reached node, lowest bit first": node i, where it is marked; its bits stand in the map from offsets[i] up to offsets[i + 1]
unfoldable pub bits_line : List ℕ → List ℕ → List ℕ → ℕ → List ℕ
bits_line map offsets marks i =
    pick (eqb (get_or marks i 0) 0) []
    (line bits_name (i ∷ part (get_or offsets i 0) (get_or offsets (i + 1) 0) map))

-- "nodes are numbered from 1": after k nodes comes node k + 1
unfoldable pub next_bits : List ℕ → List ℕ → List ℕ → ℕ → List ℕ
next_bits map offsets marks k = bits_line map offsets marks (k + 1)

-- constraint i: gate and value
unfoldable pub constraint_line : List ℕ → ℕ → List ℕ
constraint_line constraints i = line constraint_name (part (constraint_size * i) (constraint_size * i + constraint_size) constraints)

-- gates, constraints
unfoldable pub done_line : ℕ → ℕ → List ℕ
done_line gates constraints = line done_name (gates ∷ constraints ∷ [])

-- number, node
unfoldable pub refused_line : ℕ → ℕ → List ℕ
refused_line number node = line refused_name (number ∷ node ∷ [])

-- f 0, then f 1, up to f (n - 1)
unfoldable pub each : ℕ → (ℕ → List ℕ) → List ℕ
each zero f = []
each (suc n) f = each n f ++ f n

abbrev pub gate_count : List ℕ → ℕ
gate_count gates = records gates

-- marks stand at the nodes' numbers; 0 is no node
abbrev pub node_count : List ℕ → ℕ
node_count marks = length marks - 1

abbrev pub constraint_count : List ℕ → ℕ
constraint_count constraints = length constraints / constraint_size

-- all that is printed of a table that was lowered
unfoldable pub output : List ℕ → List ℕ → List ℕ → List ℕ → List ℕ → List ℕ
output gates map offsets marks constraints =
    each (gate_count gates) (gate_line gates)
    ++ each (node_count marks) (next_bits map offsets marks)
    ++ each (constraint_count constraints) (constraint_line constraints)
    ++ done_line (gate_count gates) (constraint_count constraints)

-- an offset at each number below n and at n, going up within the map
pub record Offsets (offsets map : List ℕ) (n : ℕ) : Type 0 where
  pub all : n < length offsets
  pub up : (i : ℕ) → i < n → (get_or offsets i 0 ≤ get_or offsets (i + 1) 0) × (get_or offsets (i + 1) 0 ≤ length map)

-- bytes that are always enough: a tab and a number are at most 11 where the number is below 2^32, 21 where it is below 2^64
unfoldable pub output_room : ℕ → ℕ → ℕ → ℕ → ℕ
output_room gates nodes places constraints =
    gates * (26 + 11 * used 1) + (nodes * 26 + 11 * places) + constraints * (11 + 11 * constraint_size) + 47

unfoldable pub refused_room : ℕ
refused_room = 50

-- the bytes stand at the beginning of the buffer, which is else as before, and the answer is how many they are
abbrev pub Written : List ℕ → List ℕ → List ℕ → ℕ → Type 0
Written before bytes after count = (count ≡ length bytes) × (after ≡ over bytes before)
