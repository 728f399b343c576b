-- The law of values of a step that records no constraint and makes no free gate but InputBits: all kinds but the divisions, and a division of
-- known words.
use mathlib.Core.Path.{◌≡◌, sym, ◌∙◌}
use Prim.Native.Nat.{ℕ}
use native.Mathlib.Omega.{arith}
use borrow.Author.Tests.{eq-eqb}
use Rattle.netlist.specs.declared.record.Gate.{Gate}
use Rattle.netlist.specs.Record.{gate_at}
use Rattle.loops.specs.Loop.{pick}
use Rattle.visits.specs.Flow.{Core, Recipe}
use Rattle.visits.specs.Claims.{Meaning, free_value, Plain, StepRight}

pub input-value : (M : Meaning) (g : Gate) → g.kind ≡ 2 → free_value M g ≡ M.value g.x g.y
unfolding free_value pick
input-value M g h = rw (eq-eqb g.kind 2 h)

pub plain-right : {R : Recipe} {M : Meaning} {k : ℕ} {s t : Core} → Plain R M k s t → StepRight R M k s t
plain-right {R} {M} {k} {s} {t} p =
    record {
      sound = λ e ce o me.
          record {
            frees = λ g lo hi fr.
                let two : (gate_at t.net.gates g).kind ≡ 2 = p.only ce.obeys.room g lo hi fr in
                ce.inputs g hi two ∙ sym (input-value M (gate_at t.net.gates g) two);
            right = p.right e ce o;
          };
      complete = λ e ce o fe i lo hi. absurd (omega (arith, p.asks));
    }
