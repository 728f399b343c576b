-- The law of a free gate, InputBit, Quotient or Remainder.
use mathlib.Core.Path.{◌≡◌, refl}
use mathlib.Core.Bool.{true}
use Prim.Native.Nat.{ℕ}
use native.Mathlib.Omega.{arith}
use Rattle.netlist.specs.Record.{gate}
use Rattle.netlist.specs.Kind.{free}
use Rattle.netlist.specs.Net.{Net}
use Rattle.netlist.specs.Check.{later_good}
use Rattle.gates.specs.Made.{added}
use Rattle.gates.specs.Law.{Good}
use Rattle.gates.specs.Given.{GivenLaw}
use Rattle.gates.proofs.Laws.{grows-added, there-added, formed-added}

good-free : (i k node b : ℕ) → free k ≡ true → Good i (gate k node b 0)
unfolding later_good
good-free i k node b f = record { sound = rw f; high = λ h. absurd (let z : ◌≡◌ {A = ℕ} 0 1 = cc in omega arith) }

pub given-law : (s : Net) (k node b : ℕ) → free k ≡ true → GivenLaw s (gate k node b 0) (added s (gate k node b 0))
unfolding added
given-law s k node b f =
    record {
      grows = grows-added s (gate k node b 0);
      count = refl;
      bit = refl;
      there = there-added s (gate k node b 0);
      formed = λ room fm. formed-added s (gate k node b 0) room (good-free s.n k node b f) fm;
    }
