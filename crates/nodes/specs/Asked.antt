-- What the functions that make a node's own step ask for, and what they answer for a part of the state.
use Rattle.std.specs.Prelude.{◌≡◌, List, false, ℕ, ◌+◌, ◌≤◌, ◌<◌, eqb, length, Ok}
use Rattle.loops.specs.Loop.{pick}
use Rattle.table.specs.declared.Node.{Node}
use Rattle.table.specs.Kind.{NOT, ITE, READ, WRITE, divides}
use Rattle.table.specs.Node.{given}
use Rattle.table.specs.declared.Unit.TheVariants.{Bit}
use Rattle.table.specs.Sheet.{table_fault}
use Rattle.table.specs.Size.{Offsets}
use Rattle.netlist.specs.Net.{Net}
use Rattle.netlist.specs.Record.{Room}
use Rattle.gates.specs.declared.list.GateList.{GateList}
use Rattle.gates.specs.Made.{net_of, Fits}
use Rattle.division.specs.declared.lists.Lists.{Lists}
use Rattle.division.specs.Constraint.{con_used}
use Rattle.visits.specs.Flow.{Core}
use Rattle.visits.specs.Claims.{Is}
use Rattle.nodes.specs.declared.place.Place.{Place}
use Rattle.nodes.specs.Source.{Source, listed, words_of, wide_of, off_of, total_of, gates_of, asks_of}
use Rattle.nodes.specs.Own.{shares}
use Rattle.nodes.specs.Recipe.{recipe}

-- node k of a table without fault, its offsets worked out, over a map of `long` places
pub record Stands (S : Source) (o : List ℕ) (long k : ℕ) : Type 0 where
  pub clear : table_fault S.table S.addrs S.word ≡ Ok tt
  pub is : Is (recipe S) k
  pub offsets : Offsets Bit S.table (listed S) S.word o
  pub mapped : long ≡ total_of S

-- and room for its gates
pub record Makes (S : Source) (o : List ℕ) (l : GateList) (long k : ℕ) : Type 0 where
  pub stands : Stands S o long k
  pub room : Fits l (gates_of S k)

-- where the bits of node x stand
abbrev pub place_of : Source → ℕ → Place
place_of S x = record { off = off_of S x; words = words_of S x; wide = wide_of S x }

abbrev pub core_at : Net → List ℕ → ℕ → List ℕ → Core
core_at s c nc m = record { net = s; cons = c; nc = nc; map = m }

-- a step of the whole state that turns this net and map into those, and leaves the rest
abbrev pub Turned : (Core → Core) → Net → List ℕ → Net → List ℕ → Type 0
Turned f s m s' m' = (c : List ℕ) (nc : ℕ) → core_at s' c nc m' ≡ f (core_at s c nc m)

-- the same of a step that makes no gate
abbrev pub Mapped : (Core → Core) → List ℕ → List ℕ → Type 0
Mapped f m m' = (s : Net) → Turned f s m s m'

-- the state that the two lists and the map say
abbrev pub core_of : Lists → List ℕ → Core
core_of l m = core_at (net_of l.gates) l.cons.pairs.now l.cons.m m

-- node k of a table without fault, over that state, with room for its gates and its constraints
pub record Owns (S : Source) (o : List ℕ) (k : ℕ) (s : Core) : Type 0 where
  pub stands : Stands S o (length s.map) k
  pub room : Room s.net.gates (s.net.n + gates_of S k)
  pub cap : s.net.n + gates_of S k < 4294967296
  pub asks : con_used (s.nc + asks_of S k) ≤ length s.cons

-- a node that is neither given nor shared, a choice, a division, a read or a write
pub record Plain (d : Node) : Type 0 where
  pub given : given d ≡ false
  pub shares : shares d ≡ false
  pub chooses : eqb d.kind ITE ≡ false
  pub divides : divides d.kind ≡ false
  pub reads : eqb d.kind READ ≡ false
  pub writes : eqb d.kind WRITE ≡ false

-- the second operand; a not has but one, which then stands for both
abbrev pub right_of : Node → ℕ
right_of d = pick (eqb d.kind NOT) d.a d.b
