-- Edges of the sheet.
use mathlib.Core.Path.{◌≡◌, refl}
use mathlib.Core.List.{List, [], ◌∷◌}
use Rattle.std.specs.Prelude.{Ok, Err}
use mathlib.Core.Bool.{true, false}
use Prim.Native.Nat.{ℕ, zero, suc}
use Rattle.loops.specs.Loop.{pick, first}
use Rattle.table.specs.declared.Fault.TheVariants.{Size, Address, Kind, NotLowered, Operand, Sort}
use Rattle.table.specs.Node.{field_at}
use Rattle.table.specs.Sheet.{size_good, is_at, address_bad, addresses_bad, operands_good, sort_good, sorts_good, fault_of, node_fault, node_bad, nodes_fault, table_fault, asks_at, asks}

-- width above 64 is 6, a missing operand of that node comes first; a const of width 0 is 6; kind 25 is 3, kind 19 is 4 whatever else is wrong; no nodes pass;
-- 1 comes before 2, and a fault of a lower node before one of a higher
pub edges : (table_fault (2 ∷ 65 ∷ 0 ∷ 0 ∷ 0 ∷ 0 ∷ []) [] 1 ≡ Err (Sort 1))
    × (table_fault (4 ∷ 65 ∷ 0 ∷ 0 ∷ 0 ∷ 0 ∷ []) [] 1 ≡ Err (Operand 1))
    × (table_fault (1 ∷ 0 ∷ 0 ∷ 0 ∷ 0 ∷ 0 ∷ []) [] 1 ≡ Err (Sort 1))
    × (table_fault (25 ∷ 99 ∷ 9 ∷ 0 ∷ 0 ∷ 0 ∷ []) [] 1 ≡ Err (Kind 1))
    × (table_fault (19 ∷ 99 ∷ 9 ∷ 0 ∷ 0 ∷ 0 ∷ []) [] 1 ≡ Err (NotLowered 1))
    × (table_fault (2 ∷ 65 ∷ 0 ∷ 0 ∷ 0 ∷ 0 ∷ 25 ∷ 1 ∷ 0 ∷ 0 ∷ 0 ∷ 0 ∷ []) [] 1 ≡ Err (Sort 1))
    × (table_fault [] [] 1 ≡ Ok tt)
    × (table_fault [] (1 ∷ 1 ∷ []) 1 ≡ Err Address)
    × (table_fault [] (2 ∷ []) 1 ≡ Err Address)
    × (table_fault (1 ∷ []) (2 ∷ []) 1 ≡ Err Size)
    × (table_fault [] [] 65 ≡ Err Size)
unfolding pick first field_at size_good is_at address_bad addresses_bad operands_good sort_good sorts_good fault_of node_fault node_bad nodes_fault table_fault
edges = (refl, refl, refl, refl, refl, refl, refl, refl, refl, refl, refl)

-- an ext narrower than its operand is 6; a sext by no bits, of width 1 over width 1, is none
pub extensions : (table_fault (2 ∷ 2 ∷ 0 ∷ 0 ∷ 0 ∷ 0 ∷ 7 ∷ 1 ∷ 1 ∷ 0 ∷ 0 ∷ 0 ∷ []) [] 1 ≡ Err (Sort 2))
    × (table_fault (2 ∷ 1 ∷ 0 ∷ 0 ∷ 0 ∷ 0 ∷ 24 ∷ 1 ∷ 1 ∷ 0 ∷ 0 ∷ 0 ∷ []) [] 1 ≡ Ok tt)
unfolding pick first field_at size_good is_at address_bad addresses_bad operands_good sort_good sorts_good fault_of node_fault node_bad nodes_fault table_fault
extensions = (refl, refl)

pub inputs : ℕ → List ℕ
inputs zero = []
inputs (suc n) = 2 ∷ 1 ∷ 0 ∷ 0 ∷ 0 ∷ 0 ∷ inputs n

-- 512 nodes are no fault, 513 give 1
pub many : (size_good (inputs 512) [] 1 ≡ true) × (table_fault (inputs 513) [] 1 ≡ Err Size)
unfolding inputs pick size_good table_fault
many = (refl, refl)

-- no nodes ask nothing, nor does an input, nor a bad node that is cut off by one number; the whole bad node asks, wherever it stands
pub asking : (asks [] ≡ false)
    × (asks (2 ∷ 1 ∷ 0 ∷ 0 ∷ 0 ∷ 0 ∷ []) ≡ false)
    × (asks (2 ∷ 1 ∷ 0 ∷ 0 ∷ 0 ∷ 0 ∷ 5 ∷ 1 ∷ 1 ∷ 0 ∷ 0 ∷ []) ≡ false)
    × (asks (2 ∷ 1 ∷ 0 ∷ 0 ∷ 0 ∷ 0 ∷ 5 ∷ 1 ∷ 1 ∷ 0 ∷ 0 ∷ 0 ∷ []) ≡ true)
    × (asks (2 ∷ 1 ∷ 0 ∷ 0 ∷ 0 ∷ 0 ∷ 5 ∷ 1 ∷ 1 ∷ 0 ∷ 0 ∷ 0 ∷ 2 ∷ 1 ∷ 0 ∷ 0 ∷ 0 ∷ 0 ∷ []) ≡ true)
unfolding pick first field_at asks_at asks
asking = (refl, refl, refl, refl, refl)
