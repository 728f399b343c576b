-- What the own step of a division with unknown operands owes, from which the law of values follows.
use Rattle.std.specs.Prelude.{◌≡◌, true, ◌⊎◌, ◌↔◌, ℕ, ◌≤◌, ◌<◌}
use Rattle.netlist.specs.Net.{Assign}
use Rattle.netlist.specs.Record.{gate, gate_at, Room}
use Rattle.netlist.specs.Kind.{free}
use Rattle.digits.specs.Digits.{number, Parts}
use Rattle.visits.specs.Flow.{Core, Recipe}
use Rattle.visits.specs.Claims.{Meaning, Right, Considered, Met, Operands}

-- a by d, of w digits, is what the division k means
abbrev pub Division : Meaning → ℕ → ℕ → ℕ → ℕ → Type 0
Division M k w a d = Parts (number (M.quotient k) w) (number (M.remainder k) w) a d

-- the step: digit j of the quotient is the gate `quo j` and of the remainder the gate `rem j`; there are no other new free gates; the new
-- constraints are met exactly by a quotient and a remainder; and where both are right, so are the node's bits
pub record Divide (R : Recipe) (M : Meaning) (k w a d : ℕ) (s t : Core) (quo rem : ℕ → ℕ) : Type 0 where
  pub quo_at : Room t.net.gates t.net.n → (j : ℕ) → j < w → (s.net.n ≤ quo j) × (quo j < t.net.n) × (gate_at t.net.gates (quo j) ≡ gate 12 k j 0)
  pub rem_at : Room t.net.gates t.net.n → (j : ℕ) → j < w → (s.net.n ≤ rem j) × (rem j < t.net.n) × (gate_at t.net.gates (rem j) ≡ gate 13 k j 0)
  pub only : Room t.net.gates t.net.n → (g : ℕ) → s.net.n ≤ g → g < t.net.n → free (gate_at t.net.gates g).kind ≡ true
      → (j : ℕ) × (j < w) × ((g ≡ quo j) ⊎ (g ≡ rem j))
  pub met : (e : Assign) → Considered M t.net e → Operands R s.map k (Right R M e s.map) → Met t s.nc e ↔ Parts (number (λ j. e (quo j)) w) (number (λ j. e (rem j)) w) a d
  pub right : (e : Assign) → Considered M t.net e → Operands R s.map k (Right R M e s.map) → ((j : ℕ) → j < w → e (quo j) ≡ M.quotient k j) → ((j : ℕ) → j < w → e (rem j) ≡ M.remainder k j) → Right R M e t.map k
