-- What inner functions are lent.
use Rattle.std.specs.Prelude.{◌≡◌, List, ℕ, ◌+◌, ◌*◌, ◌≤◌, length, Ok}
use Rattle.table.specs.Sheet.{table_fault}
use Rattle.netlist.specs.Record.{used}
use Rattle.nodes.specs.Source.{Source, total_of}
use Rattle.text.specs.Read.{addr_size, node_size}
use Rattle.text.specs.Write.{constraint_size}
use Rattle.stitch.specs.Printed.{GATES, PLACES, CONSTRAINTS, ADDRS, NODES}

-- addresses and nodes of a text
pub record TextRoom (a b : List ℕ) : Type 0 where
  pub addrs : length a ≡ addr_size * ADDRS
  pub nodes : length b ≡ node_size * NODES

-- a table that was lowered: the gates and constraints of it, the whole map and the marks, which stand at the nodes' numbers, with 0
pub record Done (S : Source) (g c m z : List ℕ) : Type 0 where
  pub clear : table_fault S.table S.addrs S.word ≡ Ok tt
  pub gates : length g ≤ used GATES
  pub constraints : length c ≤ constraint_size * CONSTRAINTS
  pub map : length m ≡ PLACES
  pub mapped : total_of S ≤ length m
  pub marks : length z ≡ NODES + 1
