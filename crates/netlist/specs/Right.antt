-- What is right of the gate evaluator's values.
use Rattle.std.specs.Prelude.{◌≡◌, List, true, false, ℕ, ◌≤◌, ◌<◌, get_or, length}
use Rattle.netlist.specs.Record.{gate_at}
use Rattle.netlist.specs.Kind.{free}
use Rattle.netlist.specs.Eval.{gate_value}

-- x is what the first n gates make of what was given in v: each gate that is not free has its kind's value over the others, the free ones and
-- what lies beyond are as given
pub record Evaluated (l : List ℕ) (n : ℕ) (v x : List ℕ) : Type 0 where
  pub long : length x ≡ length v
  pub obeys : (i : ℕ) → i < n → free (gate_at l i).kind ≡ false → get_or x i 0 ≡ gate_value (gate_at l i) x
  pub kept : (i : ℕ) → free (gate_at l i).kind ≡ true → get_or x i 0 ≡ get_or v i 0
  pub beyond : (i : ℕ) → n ≤ i → get_or x i 0 ≡ get_or v i 0
