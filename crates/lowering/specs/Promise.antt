-- What the entry point promises: its answer and the lent buffers, and with them the demands 2 and 3.
use Rattle.std.specs.Prelude.{◌≡◌, List, [], ℕ, ◌+◌, ◌≤◌, length, take, Ok}
use Rattle.table.specs.Sheet.{table_fault}
use Rattle.values.specs.Eval.{eval_words}
use Rattle.visits.specs.Flow.{Core, Low}
use Rattle.visits.specs.Claims.{Is, Lowered, Small}
use Rattle.nodes.specs.Source.{Source, total_of, gates_of}
use Rattle.nodes.specs.Own.{own_step}
use Rattle.nodes.specs.Recipe.{recipe}
use Rattle.lowering.specs.Lower.{Answer, counted, run, start, lower_all, Accepted, number}
use Rattle.nodes.specs.Meaning.{meaning}

-- what the buffers say of a lowering that is done: n gates, k constraints, the bit map; z marks nodes
abbrev pub said : Source → List ℕ → List ℕ → List ℕ → ℕ → ℕ → List ℕ → Low
said S g c m n k z =
    record { core = record { net = record { gates = g; n = n }; cons = c; nc = k; map = take (total_of S) m }; seen = z }

-- demand 2: for all given slots that the word evaluator takes exactly one assignment meets the constraints, and under it all reached bits are right
abbrev pub Right : Source → Low → Type 0
Right S t =
    (v : List ℕ) → (eval_words S.table S.addrs S.word v).answer ≡ Ok tt
    → Lowered (recipe S) (meaning S (eval_words S.table S.addrs S.word v).values) t

-- demand 3: what is made is small, with the reached nodes marked; an accepted table that asks something, with room, is not refused; and each node adds
-- at most its ceiling of gates
pub record Bounded (S : Source) (g c m : List ℕ) (a : Answer) (g' c' m' : List ℕ) : Type 0 where
  pub made : (n k : ℕ) → a ≡ Ok (counted n k) → (z : List ℕ) × Small (recipe S) (start S g c) (said S g' c' m' n k z)
  pub done : Accepted S g c m → number a ≡ 0
  pub each : table_fault S.table S.addrs S.word ≡ Ok tt → (j : ℕ) (s : Core) → Is (recipe S) j → length s.map ≡ total_of S → (own_step S j s).net.n ≤ s.net.n + gates_of S j

pub record Promise (S : Source) (g c m : List ℕ) (a : Answer) (g' c' m' : List ℕ) : Type 0 where
  pub answer : run a g' c' m' ≡ lower_all S g c m
  pub right : (n k : ℕ) → a ≡ Ok (counted n k) → Right S (said S g' c' m' n k [])
  pub small : Bounded S g c m a g' c' m'
