-- What every operation on a net owes: the net only grows, each gate means what it should, each new record is formed.
use Rattle.std.specs.Prelude.{◌≡◌, Bool, true, false, ℕ, ◌+◌, ◌*◌, ◌≤◌, ◌<◌, get_or, length}
use Rattle.loops.specs.Loop.{bit}
use Rattle.netlist.specs.declared.record.Gate.{Gate}
use Rattle.netlist.specs.Record.{gate, gate_at, used, Room}
use Rattle.netlist.specs.Kind.{free, uses_y, uses_z}
use Rattle.netlist.specs.Net.{Net, Assign, Obeys}
use Rattle.netlist.specs.Check.{later_good}
use Rattle.gates.specs.Made.{MadeBit, MadeSum}

-- t is s with at most k gates more: what was there stays, the buffer's length stays, and beyond the gates in use it is untouched
pub record Grows (s t : Net) (k : ℕ) : Type 0 where
  pub from : s.n ≤ t.n
  pub upto : t.n ≤ s.n + k
  pub long : length t.gates ≡ length s.gates
  pub same : (i : ℕ) → i < s.n → gate_at t.gates i ≡ gate_at s.gates i
  pub rest : (i : ℕ) → used t.n ≤ i → get_or t.gates i 0 ≡ get_or s.gates i 0

-- the gates of t that s has not are bound to their operands: none is free
abbrev pub Bound : Net → Net → Type 0
Bound s t = Room t.gates t.n → (i : ℕ) → s.n ≤ i → i < t.n → free (gate_at t.gates i).kind ≡ false

pub record Ext (s t : Net) (k : ℕ) : Type 0 where
  pub grows : Grows s t k
  pub bound : Bound s t

-- record i passes the gate list's check, and none of its operands is a constant
pub record Good (i : ℕ) (g : Gate) : Type 0 where
  pub sound : later_good i g ≡ true
  pub high : free g.kind ≡ false → (2 ≤ g.x) × (uses_y g.kind ≡ true → 2 ≤ g.y) × (uses_z g.kind ≡ true → 2 ≤ g.z)

-- the two constants, and then good records only
pub record Formed (s : Net) : Type 0 where
  pub two : 2 ≤ s.n
  pub low : gate_at s.gates 0 ≡ gate 0 0 0 0
  pub high : gate_at s.gates 1 ≡ gate 1 0 0 0
  pub good : (i : ℕ) → 2 ≤ i → i < s.n → Good i (gate_at s.gates i)

-- what is right of an operation on bits that makes m from s: with at most k gates, the value v; In is that its operands are in the net,
-- and Kn that they are known
pub record BitLaw (s : Net) (In Kn : Type 0) (v : Assign → Bool) (k : ℕ) (m : MadeBit) : Type 0 where
  pub ext : Ext s m.net k
  pub value : (e : Assign) → Obeys m.net e → e m.bit ≡ v e
  pub formed : Room m.net.gates m.net.n → In → Formed s → Formed m.net × (m.bit < m.net.n)
  pub known : Kn → (m.net ≡ s) × (m.bit < 2)

-- the same of an operation that makes a sum and a carry
pub record SumLaw (s : Net) (In Kn : Type 0) (total : Assign → ℕ) (k : ℕ) (m : MadeSum) : Type 0 where
  pub ext : Ext s m.net k
  pub value : (e : Assign) → Obeys m.net e → bit (e m.sum) + 2 * bit (e m.carry) ≡ total e
  pub formed : Room m.net.gates m.net.n → In → Formed s → Formed m.net × (m.sum < m.net.n) × (m.carry < m.net.n)
  pub known : Kn → (m.net ≡ s) × (m.sum < 2) × (m.carry < 2)

-- operands in the net, and known ones
abbrev pub In2 : Net → ℕ → ℕ → Type 0
In2 s a b = (a < s.n) × (b < s.n)

abbrev pub Kn2 : ℕ → ℕ → Type 0
Kn2 a b = (a < 2) × (b < 2)

abbrev pub In3 : Net → ℕ → ℕ → ℕ → Type 0
In3 s a b c = (a < s.n) × (b < s.n) × (c < s.n)

abbrev pub Kn3 : ℕ → ℕ → ℕ → Type 0
Kn3 a b c = (a < 2) × (b < 2) × (c < 2)

-- the sum of three bits
abbrev pub total3 : ℕ → ℕ → ℕ → Assign → ℕ
total3 a b c e = bit (e a) + bit (e b) + bit (e c)
