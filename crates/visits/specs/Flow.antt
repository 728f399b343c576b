-- The lowering of a table, whatever its kinds do: visits by fuel, with constraints.
use Rattle.std.specs.Prelude.{List, Bool, ℕ, zero, suc, eqb, get_or, set}
use Rattle.netlist.specs.Net.{Net}
use Rattle.loops.specs.Loop.{pick, iter}

-- gates, constraints (two numbers each, nc of them), and the bit map
pub record Core : Type 0 where
  pub net : Net
  pub cons : List ℕ
  pub nc : ℕ
  pub map : List ℕ

pub record Low : Type 0 where
  pub core : Core
  pub seen : List ℕ

-- what the lowering takes of a table: nodes are 1 .. size - 1, `total` places in the map, each node's number of bits and first place, its
-- ceilings, its operands (0 is none; the second and the third may depend on the first one's bits), its own step, and two tests: an input or
-- an uninitialised state, a bad node
pub record Recipe : Type 0 where
  pub size : ℕ
  pub total : ℕ
  pub bits : ℕ → ℕ
  pub off : ℕ → ℕ
  pub gates : ℕ → ℕ
  pub asks : ℕ → ℕ
  pub first : ℕ → ℕ
  pub second : List ℕ → ℕ → ℕ
  pub third : List ℕ → ℕ → ℕ
  pub own : ℕ → Core → Core
  pub given : ℕ → Bool
  pub bad : ℕ → Bool

unfoldable pub owned : Recipe → ℕ → Low → Low
owned R k s = record { core = R.own k s.core; seen = s.seen }

-- the node k, with the visits done by go
unfoldable pub enter : (ℕ → Low → Low) → Recipe → ℕ → Low → Low
enter go R k s =
    let s1 : Low = go (R.first k) s in
    let s2 : Low = go (R.second s1.core.map k) s1 in
    let s3 : Low = go (R.third s2.core.map k) s2 in
    owned R k s3

unfoldable pub mark : ℕ → Low → Low
mark k s = record { core = s.core; seen = set s.seen k 1 }

-- f is more than the node's number
unfoldable pub visit_to : ℕ → Recipe → ℕ → Low → Low
visit_to zero R k s = s
visit_to (suc f) R k s =
    pick (eqb k 0) s (pick (eqb (get_or s.seen k 0) 1) s (enter (visit_to f R) R k (mark k s)))

-- all bad nodes, in table order
unfoldable pub root_step : Recipe → ℕ → Low → Low
root_step R i s = pick (R.bad i) (visit_to (suc i) R i s) s

unfoldable pub lower_to : Recipe → Low → Low
lower_to R s = iter R.size (root_step R) s
