-- What a gate list says of an assignment of truth values to all gates.
use Rattle.std.specs.Prelude.{◌≡◌, List, Bool, true, false, ℕ, ◌<◌}
use Rattle.netlist.specs.declared.record.Gate.{Gate}
use Rattle.netlist.specs.Record.{gate_at, Room}
use Rattle.netlist.specs.Kind.{free, value_of}

-- a net: the buffer, and how many of its records are in use
pub record Net : Type 0 where
  pub gates : List ℕ
  pub n : ℕ

-- a value for every gate
abbrev pub Assign : Type 0
Assign = ℕ → Bool

-- a gate that is not free has its kind's value at its operands
unfoldable pub Says : Gate → Assign → Bool → Type 0
Says g e v = free g.kind ≡ false → v ≡ value_of g.kind (e g.x) (e g.y) (e g.z)

-- the assignment obeys the net, whose records are within the buffer
pub record Obeys (s : Net) (e : Assign) : Type 0 where
  pub low : e 0 ≡ false
  pub high : e 1 ≡ true
  pub room : Room s.gates s.n
  pub says : (i : ℕ) → i < s.n → Says (gate_at s.gates i) e (e i)
