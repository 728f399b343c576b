-- What the visits ask for, and what they answer.
use Rattle.std.specs.Prelude.{◌≡◌, List, ℕ, ◌+◌, ◌≤◌, ◌<◌, length, Ok}
use Rattle.table.specs.declared.Unit.TheVariants.{Bit}
use Rattle.table.specs.Node.{nodes}
use Rattle.table.specs.Sheet.{table_fault}
use Rattle.table.specs.Size.{Offsets}
use Rattle.netlist.specs.Record.{Room, records}
use Rattle.gates.specs.declared.list.GateList.{GateList}
use Rattle.division.specs.declared.constraint.ConstraintList.{ConstraintList}
use Rattle.division.specs.declared.lists.Lists.{Lists}
use Rattle.division.specs.Constraint.{con_used}
use Rattle.visits.specs.Flow.{Low, enter, visit_to}
use Rattle.visits.specs.Claims.{left}
use Rattle.nodes.specs.Source.{Source, listed, total_of, gates_of, asks_of}
use Rattle.nodes.specs.Recipe.{recipe}
use Rattle.nodes.specs.Asked.{core_of}
use Rattle.lowering.specs.Lower.{sums, con_records}

-- the two lists as one
abbrev pub lists_of : GateList → ConstraintList → Lists
lists_of l k = record { gates = l; cons = k }

-- the state that the two lists, the map and the marks say
abbrev pub low_of : Lists → List ℕ → List ℕ → Low
low_of l m z = record { core = core_of l m; seen = z }

-- a table without fault, over a state with room for e gates, for f constraints, and for the ceilings of all nodes not seen
pub record Goes (S : Source) (o : List ℕ) (e f : ℕ) (s : Low) : Type 0 where
  pub clear : table_fault S.table S.addrs S.word ≡ Ok tt
  pub offsets : Offsets Bit S.table (listed S) S.word o
  pub mapped : length s.core.map ≡ total_of S
  pub marked : length s.seen ≡ nodes S.table + 1
  pub room : Room s.core.net.gates (s.core.net.n + e + left (gates_of S) 0 s.seen)
  pub cap : s.core.net.n + e + left (gates_of S) 0 s.seen < 4294967296
  pub asks : con_used (s.core.nc + f + left (asks_of S) 0 s.seen) ≤ length s.core.cons

-- where a lowering begins: room for the sums, a place in the map for each bit and a mark for each node
pub record Begins (S : Source) (o g c m z : List ℕ) : Type 0 where
  pub clear : table_fault S.table S.addrs S.word ≡ Ok tt
  pub offsets : Offsets Bit S.table (listed S) S.word o
  pub gates : (sums S).gates ≤ records g
  pub constraints : (sums S).constraints ≤ con_records c
  pub mapped : length m ≡ total_of S
  pub marked : length z ≡ nodes S.table + 1

-- t comes of s by a visit of node k, and by entering node k, with any fuel that is enough
abbrev pub Visits : Source → ℕ → Low → Low → Type 0
Visits S k s t = (f : ℕ) → k < f → t ≡ visit_to f (recipe S) k s

abbrev pub Enters : Source → ℕ → Low → Low → Type 0
Enters S k s t = (f : ℕ) → k ≤ f → t ≡ enter (visit_to f (recipe S)) (recipe S) k s
