-- All bits of a word joined to one, from the lowest up: their And, or their Or.
use Rattle.std.specs.Prelude.{List, ℕ, ◌+◌, ◌-◌, ◌≤◌, get_or}
use Rattle.loops.specs.Loop.{iter}
use Rattle.netlist.specs.Net.{Net}
use Rattle.gates.specs.Made.{MadeBit, kept}
use Rattle.words.specs.declared.each.Bitwise.{Bitwise}
use Rattle.words.specs.Each.{bitwise, bit_cost}

-- one gate for each bit more is enough
abbrev pub Joins : Bitwise → Type 0
Joins op = (a b : ℕ) → bit_cost op a b ≤ 1

unfoldable pub join_step : Bitwise → List ℕ → ℕ → MadeBit → MadeBit
join_step op bits i m = bitwise op m.net m.bit (get_or bits (i + 1) 0)

abbrev pub join_all : Bitwise → ℕ → List ℕ → Net → MadeBit
join_all op w bits s = iter (w - 1) (join_step op bits) (kept s (get_or bits 0 0))
