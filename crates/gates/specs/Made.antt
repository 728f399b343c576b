-- What an operation on bits makes of a net.
use Rattle.std.specs.Prelude.{ℕ, ◌≡◌, ◌+◌, ◌<◌, length}
use Rattle.netlist.specs.declared.record.Gate.{Gate}
use Rattle.netlist.specs.Record.{gate, put, Room}
use Rattle.netlist.specs.Net.{Net}
use Rattle.gates.specs.declared.list.GateList.{GateList}
use Rattle.gates.specs.declared.adder.Sum.{Sum}

-- a bit, and the net that has its gate
pub record MadeBit : Type 0 where
  pub net : Net
  pub bit : ℕ

-- a sum bit, a carry, and the net that has both
pub record MadeSum : Type 0 where
  pub net : Net
  pub sum : ℕ
  pub carry : ℕ

-- no gate is made
abbrev pub kept : Net → ℕ → MadeBit
kept s b = record { net = s; bit = b }

-- one gate more, and its bit
unfoldable pub added : Net → Gate → MadeBit
added s g = record { net = record { gates = put s.gates s.n g; n = s.n + 1 }; bit = s.n }

-- the kinds that are made, each over its operands; an unused field is 0
abbrev pub gate_not : ℕ → Gate
gate_not a = gate 3 a 0 0

abbrev pub gate_and : ℕ → ℕ → Gate
gate_and a b = gate 4 a b 0

abbrev pub gate_or : ℕ → ℕ → Gate
gate_or a b = gate 6 a b 0

abbrev pub gate_matriarch1 : ℕ → ℕ → Gate
gate_matriarch1 c r = gate 7 c r 0

abbrev pub gate_carry_half : ℕ → ℕ → Gate
gate_carry_half a b = gate 8 a b 0

abbrev pub gate_result_half : ℕ → ℕ → Gate
gate_result_half a b = gate 9 a b 0

abbrev pub gate_carry_full : ℕ → ℕ → ℕ → Gate
gate_carry_full a b c = gate 10 a b c

abbrev pub gate_result_full : ℕ → ℕ → ℕ → Gate
gate_result_full a b c = gate 11 a b c

-- the free gates, of a node's bit
abbrev pub gate_input_bit : ℕ → ℕ → Gate
gate_input_bit node bit = gate 2 node bit 0

abbrev pub gate_quotient : ℕ → ℕ → Gate
gate_quotient node bit = gate 12 node bit 0

abbrev pub gate_remainder : ℕ → ℕ → Gate
gate_remainder node bit = gate 13 node bit 0

-- what the code has, as these definitions have it
abbrev pub net_of : GateList → Net
net_of l = record { gates = l.records.now; n = l.n }

abbrev pub made_of : GateList → ℕ → MadeBit
made_of l b = record { net = net_of l; bit = b }

abbrev pub sum_of : GateList → Sum → MadeSum
sum_of l s = record { net = net_of l; sum = s.sum; carry = s.carry }

-- k more records fit the buffer, and their numbers a u32
abbrev pub Fits : GateList → ℕ → Type 0
Fits l k = Room l.records.now (l.n + k) × (l.n + k < 4294967296)

-- the list is made in the same lent buffer, which keeps its length
abbrev pub SameList : GateList → GateList → Type 0
SameList old new = (new.records.ghost_name ≡ old.records.ghost_name) × (length new.records.now ≡ length old.records.now)
