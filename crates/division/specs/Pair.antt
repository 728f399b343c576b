-- Quotient and Remainder gates, alternating from bit 0.
use Rattle.std.specs.Prelude.{◌≡◌, List, ℕ, ◌+◌, ◌*◌, ◌<◌, get_or, set, length}
use Rattle.loops.specs.Loop.{iter}
use Rattle.netlist.specs.Record.{gate_at, Room}
use Rattle.netlist.specs.Net.{Net}
use Rattle.gates.specs.declared.list.GateList.{GateList}
use Rattle.gates.specs.Made.{MadeBit, net_of, added, gate_quotient, gate_remainder}
use Rattle.gates.specs.Law.{Grows, Formed}

pub record Pair : Type 0 where
  pub net : Net
  pub quot : List ℕ
  pub rem : List ℕ

abbrev pub pair_of : GateList → List ℕ → List ℕ → Pair
pair_of l q r = record { net = net_of l; quot = q; rem = r }

unfoldable pub pair_step : ℕ → ℕ → Pair → Pair
pair_step node i st =
    let q : MadeBit = added st.net (gate_quotient node i) in
    let r : MadeBit = added q.net (gate_remainder node i) in
    record { net = r.net; quot = set st.quot i q.bit; rem = set st.rem i r.bit }

abbrev pub pair_words : ℕ → ℕ → Pair → Pair
pair_words w node st = iter w (pair_step node) st

-- what is right of them
pub record PairLaw (node : ℕ) (s : Pair) (w : ℕ) (t : Pair) : Type 0 where
  pub grows : Grows s.net t.net (2 * w)
  pub count : t.net.n ≡ s.net.n + 2 * w
  pub long_quot : length t.quot ≡ length s.quot
  pub long_rem : length t.rem ≡ length s.rem
  pub quots : (i : ℕ) → i < w → get_or t.quot i 0 ≡ s.net.n + 2 * i
  pub rems : (i : ℕ) → i < w → get_or t.rem i 0 ≡ s.net.n + 2 * i + 1
  pub gates : Room t.net.gates t.net.n → (i : ℕ) → i < w
      → (gate_at t.net.gates (s.net.n + 2 * i) ≡ gate_quotient node i) × (gate_at t.net.gates (s.net.n + 2 * i + 1) ≡ gate_remainder node i)
  pub formed : Room t.net.gates t.net.n → Formed s.net → Formed t.net
