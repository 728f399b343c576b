-- The free gates, given from outside: one InputBit, Quotient or Remainder of a node's bit.
use Rattle.std.specs.Prelude.{◌≡◌, ◌+◌}
use Rattle.netlist.specs.declared.record.Gate.{Gate}
use Rattle.netlist.specs.Record.{gate_at, Room}
use Rattle.netlist.specs.Net.{Net}
use Rattle.gates.specs.Made.{MadeBit}
use Rattle.gates.specs.Law.{Grows, Formed}

-- what is right of one free gate more, g
pub record GivenLaw (s : Net) (g : Gate) (m : MadeBit) : Type 0 where
  pub grows : Grows s m.net 1
  pub count : m.net.n ≡ s.n + 1
  pub bit : m.bit ≡ s.n
  pub there : Room m.net.gates m.net.n → gate_at m.net.gates s.n ≡ g
  pub formed : Room m.net.gates m.net.n → Formed s → Formed m.net
