-- What a kind owes that makes one word, stored in the node's part of the map, and records no constraint.
use Rattle.std.specs.Prelude.{◌≡◌, List, false, ℕ}
use Rattle.netlist.specs.Net.{Net}
use Rattle.gates.specs.Law.{Formed, Grows}
use Rattle.digits.specs.Digits.{Below}
use Rattle.words.specs.Each.{put_bits}
use Rattle.visits.specs.Flow.{Core, Recipe}
use Rattle.visits.specs.Claims.{Under, Operands, Ready}

-- the word `out` of w bits, made with the net grown to `net`, in the map at a place (it takes no recipe: a recipe's own step is made of it)
unfoldable pub stored : ℕ → ℕ → Core → Net → List ℕ → Core
stored place w s net out = record { net = net; cons = s.cons; nc = s.nc; map = put_bits place out w s.map }

pub record WordLaw (R : Recipe) (k : ℕ) (s : Core) (net : Net) (out : List ℕ) : Type 0 where
  pub grows : Grows s.net net (R.gates k)
  pub formed : Ready R k s → Formed net × Below net.n out (R.bits k)
  pub known : Ready R k s → R.given k ≡ false → Operands R s.map k (Under R 2 s.map) → (net.n ≡ s.net.n) × Below 2 out (R.bits k)
