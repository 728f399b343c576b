-- How many gates an operation makes at most: rules for the room that a next call asks for.
use mathlib.Core.Path.{◌≡◌, refl}
use Rattle.std.specs.Prelude.{None}
use Prim.Native.Nat.{ℕ, ◌+◌, ◌≤◌}
use native.Mathlib.Omega.{arith}
use Rattle.netlist.specs.declared.record.Gate.{Gate}
use Rattle.netlist.specs.Net.{Net}
use Rattle.netlist.specs.Bit.{known_of}
use Rattle.netlist.proofs.BitLaws.{told-unknown}
use Rattle.gates.specs.Made.{added}
use Rattle.gates.specs.Fold.{not_bit, not_cost, xnor_cost}
use Rattle.gates.specs.Choice.{true_side, false_side}
use Rattle.gates.proofs.Laws.{grows-added}
use Rattle.gates.proofs.FoldLaws.{not-one, not-cost, not-unknown, xnor-cost, xnor-unknown}
use Rattle.gates.proofs.AdderLaws.{adder-cost, cost-left, cost-right}
use Rattle.gates.proofs.ChoiceLaws.{true-grows, false-grows, clear-side}

pub most-added : (s : Net) (d : Gate) → (added s d).net.n ≤ s.n + 1
most-added s d = (grows-added s d).upto

pub most-not : (s : Net) (a : ℕ) → (not_bit s a).net.n ≤ s.n + 1
most-not s a = (not-one s a).ext.grows.upto

pub most-true : (s : Net) (c t : ℕ) → (true_side s c t).net.n ≤ s.n + 1
most-true s c t = (true-grows s c t).upto

pub most-false : (s : Net) (c f : ℕ) → (false_side s c f).net.n ≤ s.n + 1
most-false s c f = (false-grows s c f).upto

pub not-none : (a : ℕ) → known_of a ≡ None → not_cost a ≡ 1
not-none a h = not-unknown a (told-unknown _ a refl h)

pub xnor-none : (a b : ℕ) → known_of a ≡ None → known_of b ≡ None → xnor_cost a b ≡ 2
xnor-none a b h k = xnor-unknown a b (told-unknown _ a refl h) (told-unknown _ b refl k)

-- what `grind` has to know at each call of an operation, beside std's rules
pub ruleset steps = (clear-side, most-added, most-not, most-true, most-false, not-cost, not-none, xnor-cost, xnor-none, adder-cost, cost-left, cost-right)
