-- From the law of a word to the law of a step.
use mathlib.Core.Path.{refl}
use mathlib.Core.List.{List}
use Prim.Native.Nat.{ℕ, ◌+◌, ◌≤◌}
use native.Mathlib.Omega.{arith}
use lib.ListN.{length}
use Rattle.netlist.specs.Net.{Net}
use Rattle.netlist.specs.Record.{Room}
use Rattle.gates.specs.Law.{Grows}
use Rattle.digits.specs.Digits.{Below}
use Rattle.words.specs.Each.{put_bits, Put}
use Rattle.words.proofs.EachLaws.{put-law}
use Rattle.visits.specs.Flow.{Core, Recipe}
use Rattle.visits.specs.Claims.{Under, Ready, Step}
use Rattle.visits.specs.Stored.{stored, WordLaw}

-- after a step with room there is room for what was made
pub room_after : {R : Recipe} {k : ℕ} {s : Core} {net : Net} → Ready R k s → Grows s.net net (R.gates k) → Room net.gates net.n
room_after r x = omega (arith, r.room, x.upto, x.long)

module _ (R : Recipe) (k : ℕ) (s : Core) (net : Net) (out : List ℕ) (fits : R.off k + R.bits k ≤ length s.map) where
  here : Put (R.off k) out s.map (R.bits k) (put_bits (R.off k) out (R.bits k) s.map)
  here = put-law (R.off k) out s.map (R.bits k) fits

  under : (b : ℕ) → Below b out (R.bits k) → Under R b (put_bits (R.off k) out (R.bits k) s.map) k
  under b h j lt = omega (arith, h j lt, here.there j lt)

  pub word-step : WordLaw R k s net out → Step R k s (stored (R.off k) (R.bits k) s net out)
  unfolding stored
  word-step law =
      record {
        frame =
            record {
              grows = law.grows;
              cons_long = refl;
              cons_from = omega arith;
              cons_upto = omega arith;
              cons_same = λ i h. refl;
              cons_rest = λ i h. refl;
              map_long = here.long;
              map_below = here.below;
              map_above = here.above;
            };
        formed = λ r. ((law.formed r).0, under net.n (law.formed r).1);
        asked = λ r i lo hi. absurd (omega arith);
        known = λ r g o. ((law.known r g o).0, refl, under 2 (law.known r g o).1);
      }
