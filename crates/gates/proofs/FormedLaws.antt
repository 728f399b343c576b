-- A formed net passes the gate list's check, and has, for what is given at its free gates, exactly one assignment that obeys it: what the gate
-- evaluator works out.
use mathlib.Core.Path.{◌≡◌}
use mathlib.Core.Bool.{true, false}
use Prim.Native.Nat.{ℕ, zero, suc, ◌<◌}
use native.Mathlib.Omega.{arith}
use native.Mathlib.Decide.{dec_lt}
use borrow.Author.Tests.{lt-ltb, le-ltb}
use Rattle.loops.specs.Loop.{pick}
use Rattle.netlist.specs.Record.{gate_at, Room}
use Rattle.netlist.specs.Kind.{free}
use Rattle.netlist.specs.Net.{Net, Assign, Obeys}
use Rattle.netlist.specs.Check.{const_good, faulty}
use Rattle.netlist.proofs.EvalLaws as eval
use Rattle.gates.specs.Law.{Formed}

module _ (s : Net) (f : Formed s) where
  low-good : (j : ℕ) → j < 2 → const_good j (gate_at s.gates j) ≡ true
  unfolding const_good
  low-good zero h = rw f.low
  low-good (suc zero) h = rw f.high
  low-good (suc (suc j)) h = absurd (omega arith)

  pub formed-sound : (j : ℕ) → j < s.n → faulty s.gates j ≡ false
  unfolding faulty pick
  formed-sound j h = go (dec_lt j 2)
    where
      go : Dec (j < 2) → faulty s.gates j ≡ false
      go (yes l) = rw (lt-ltb j 2 l, low-good j l)
      go (no l) = rw (le-ltb j 2 (omega arith), (f.good j (omega arith) h).sound)

  -- two assignments that obey the net and agree at its free gates agree at all
  pub one-assignment : (e d : Assign) → Obeys s e → Obeys s d → ((j : ℕ) → j < s.n → free (gate_at s.gates j).kind ≡ true → e j ≡ d j)
      → (i : ℕ) → i < s.n → e i ≡ d i
  one-assignment e d oe od h = eval.one-assignment s formed-sound e d oe od h

  -- and for each choice there is one
  module _ (room : Room s.gates s.n) (given : Assign) where
    pub solved : Assign
    solved = eval.solved s formed-sound f.two room given

    pub solved-obeys : Obeys s solved
    unfolding solved
    solved-obeys = eval.solved-obeys s formed-sound f.two room given

    pub solved-given : (j : ℕ) → j < s.n → free (gate_at s.gates j).kind ≡ true → solved j ≡ given j
    unfolding solved
    solved-given = eval.solved-given s formed-sound f.two room given
