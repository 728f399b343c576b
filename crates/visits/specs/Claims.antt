-- What is claimed of a lowering, and what each kind's own step owes.
use Rattle.std.specs.Prelude.{◌≡◌, List, [], ◌∷◌, Bool, true, false, ◌↔◌, ℕ, zero, suc, ◌+◌, ◌*◌, ◌≤◌, ◌<◌, eqb, get_or, length}
use Rattle.netlist.specs.Net.{Net, Assign, Obeys}
use Rattle.netlist.specs.declared.record.Gate.{Gate}
use Rattle.netlist.specs.Record.{gate_at, Room, used}
use Rattle.loops.specs.Loop.{pick}
use Rattle.netlist.specs.Kind.{free}
use Rattle.gates.specs.Law.{Formed, Grows}
use Rattle.visits.specs.Flow.{Core, Low, Recipe}

-- bit j of the node k
abbrev pub bit_at : Recipe → List ℕ → ℕ → ℕ → ℕ
bit_at R m k j = get_or m (R.off k + j) 0

-- the bits of the node k are below b: b is the number of gates, or 2 where they are known
abbrev pub Under : Recipe → ℕ → List ℕ → ℕ → Type 0
Under R b m k = (j : ℕ) → j < R.bits k → bit_at R m k j < b

-- the maps m and t have the same bits of the node k
abbrev pub Same : Recipe → List ℕ → List ℕ → ℕ → Type 0
Same R m t k = (j : ℕ) → j < R.bits k → bit_at R t k j ≡ bit_at R m k j

abbrev pub Seen : Low → ℕ → Type 0
Seen s k = get_or s.seen k 0 ≡ 1

pub record Is (R : Recipe) (k : ℕ) : Type 0 where
  pub low : 1 ≤ k
  pub high : k < R.size

-- what the table means under one choice of the given words: digit j of the value of the node k (of a memory, of its words one after the
-- other), and digit j of the quotient and of the remainder of the division k
pub record Meaning : Type 0 where
  pub value : ℕ → ℕ → Bool
  pub quotient : ℕ → ℕ → Bool
  pub remainder : ℕ → ℕ → Bool

-- the bits of the node k say its value
abbrev pub Right : Recipe → Meaning → Assign → List ℕ → ℕ → Type 0
Right R M e m k = (j : ℕ) → j < R.bits k → e (bit_at R m k j) ≡ M.value k j

-- the right value of a free gate: InputBit (node, bit), Quotient (node, bit), Remainder (node, bit)
unfoldable pub free_value : Meaning → Gate → Bool
free_value M g =
    pick (eqb g.kind 2) (M.value g.x g.y) (pick (eqb g.kind 12) (M.quotient g.x g.y) (M.remainder g.x g.y))

-- from the gate lo on, every free gate has its right value
abbrev pub Frees : Meaning → Net → ℕ → Assign → Type 0
Frees M s lo e = (g : ℕ) → lo ≤ g → g < s.n → free (gate_at s.gates g).kind ≡ true → e g ≡ free_value M (gate_at s.gates g)

-- an assignment that obeys the net and has the given words at the InputBits
pub record Considered (M : Meaning) (s : Net) (e : Assign) : Type 0 where
  pub obeys : Obeys s e
  pub inputs : (g : ℕ) → g < s.n → (gate_at s.gates g).kind ≡ 2 → e g ≡ M.value (gate_at s.gates g).x (gate_at s.gates g).y

-- e meets the constraints from the number lo on
abbrev pub Met : Core → ℕ → Assign → Type 0
Met s lo e = (i : ℕ) → lo ≤ i → i < s.nc → e (get_or s.cons (2 * i) 0) ≡ eqb (get_or s.cons (2 * i + 1) 0) 1

-- the constraint i is of a gate of the list, and a truth value
abbrev pub Asked : Core → ℕ → Type 0
Asked s i = (get_or s.cons (2 * i) 0 < s.net.n) × (get_or s.cons (2 * i + 1) 0 < 2)

-- P of each operand that the node k reads under the map m
pub record Operands (R : Recipe) (m : List ℕ) (k : ℕ) (P : ℕ → Type 0) : Type 0 where
  pub first : (R.first k ≡ 0 → ⊥) → P (R.first k)
  pub second : (R.second m k ≡ 0 → ⊥) → P (R.second m k)
  pub third : (R.third m k ≡ 0 → ⊥) → P (R.third m k)

-- a node is reached from the bad nodes by the operands that are read under the map m
pub data Reached (R : Recipe) (m : List ℕ) : ℕ → Type 0 where
  root : {k : ℕ} → Is R k → R.bad k ≡ true → Reached R m k
  by_first : {k x : ℕ} → Reached R m k → x ≡ R.first k → (x ≡ 0 → ⊥) → Reached R m x
  by-second : {k x : ℕ} → Reached R m k → x ≡ R.second m k → (x ≡ 0 → ⊥) → Reached R m x
  by-third : {k x : ℕ} → Reached R m k → x ≡ R.third m k → (x ≡ 0 → ⊥) → Reached R m x

-- ---- what is asked of the table

pub record Shape (R : Recipe) : Type 0 where
  pub none : R.bits 0 ≡ 0
  pub first : (k : ℕ) → Is R k → R.first k < k
  pub second : (m : List ℕ) (k : ℕ) → Is R k → R.second m k < k
  pub third : (m : List ℕ) (k : ℕ) → Is R k → R.third m k < k
  pub second-same : (m t : List ℕ) (k : ℕ) → Is R k → Same R m t (R.first k) → R.second t k ≡ R.second m k
  pub third-same : (m t : List ℕ) (k : ℕ) → Is R k → Same R m t (R.first k) → R.third t k ≡ R.third m k
  pub inside : (k : ℕ) → Is R k → R.off k + R.bits k ≤ R.total
  pub apart : (x y : ℕ) → x < y → y < R.size → R.off x + R.bits x ≤ R.off y

-- ---- what the own step of the node k owes, from s to t

-- at any state, with room or without
pub record Frame (R : Recipe) (k : ℕ) (s t : Core) : Type 0 where
  pub grows : Grows s.net t.net (R.gates k)
  pub cons_long : length t.cons ≡ length s.cons
  pub cons_from : s.nc ≤ t.nc
  pub cons_upto : t.nc ≤ s.nc + R.asks k
  pub cons_same : (i : ℕ) → i < 2 * s.nc → get_or t.cons i 0 ≡ get_or s.cons i 0
  pub cons_rest : (i : ℕ) → 2 * t.nc ≤ i → get_or t.cons i 0 ≡ get_or s.cons i 0
  pub map_long : length t.map ≡ length s.map
  pub map_below : (i : ℕ) → i < R.off k → get_or t.map i 0 ≡ get_or s.map i 0
  pub map_above : (i : ℕ) → R.off k + R.bits k ≤ i → get_or t.map i 0 ≡ get_or s.map i 0

-- where a step is made: room for its ceilings, a formed net, and its operands' bits are in it
pub record Ready (R : Recipe) (k : ℕ) (s : Core) : Type 0 where
  pub is : Is R k
  pub mapped : length s.map ≡ R.total
  pub room : Room s.net.gates (s.net.n + R.gates k)
  pub room_asks : 2 * (s.nc + R.asks k) ≤ length s.cons
  pub formed : Formed s.net
  pub below : Operands R s.map k (Under R s.net.n s.map)

-- the laws that do not speak of values (demand 3): `frame` at any state
pub record Step (R : Recipe) (k : ℕ) (s t : Core) : Type 0 where
  pub frame : Frame R k s t
  pub formed : Ready R k s → Formed t.net × Under R t.net.n t.map k
  pub known : Ready R k s → R.given k ≡ false → Operands R s.map k (Under R 2 s.map) → (t.net.n ≡ s.net.n) × (t.nc ≡ s.nc) × Under R 2 t.map k
  pub asked : Ready R k s → (i : ℕ) → s.nc ≤ i → i < t.nc → Asked t i

abbrev pub OwnLaw : Recipe → Type 0
OwnLaw R = (k : ℕ) (s : Core) → Is R k → length s.map ≡ R.total → Step R k s (R.own k s)

-- what a step makes true of an assignment that meets its constraints
pub record Fine (R : Recipe) (M : Meaning) (k : ℕ) (s t : Core) (e : Assign) : Type 0 where
  pub frees : Frees M t.net s.net.n e
  pub right : Right R M e t.map k

-- the law of values (demand 2): under a considered assignment at which the operands' bits are right, the new constraints are met exactly if the
-- new free gates have their right values; and then the node's bits are right
pub record StepRight (R : Recipe) (M : Meaning) (k : ℕ) (s t : Core) : Type 0 where
  pub sound : (e : Assign) → Considered M t.net e → Operands R s.map k (Right R M e s.map) → Met t s.nc e → Fine R M k s t e
  pub complete : (e : Assign) → Considered M t.net e → Operands R s.map k (Right R M e s.map) → Frees M t.net s.net.n e → Met t s.nc e

-- what is enough of a step that records no constraint and makes no free gate but InputBits
pub record Plain (R : Recipe) (M : Meaning) (k : ℕ) (s t : Core) : Type 0 where
  pub asks : t.nc ≡ s.nc
  pub only : Room t.net.gates t.net.n → (g : ℕ) → s.net.n ≤ g → g < t.net.n → free (gate_at t.net.gates g).kind ≡ true → (gate_at t.net.gates g).kind ≡ 2
  pub right : (e : Assign) → Considered M t.net e → Operands R s.map k (Right R M e s.map) → Right R M e t.map k

abbrev pub OwnRight : Recipe → Meaning → Type 0
OwnRight R M = (k : ℕ) (s : Core) → Ready R k s → StepRight R M k s (R.own k s)

-- ---- sums of ceilings

-- the ceilings c of the nodes from i on that are not seen, that are seen, and of the next n nodes
unfoldable pub left : (ℕ → ℕ) → ℕ → List ℕ → ℕ
left c i [] = 0
left c i (x ∷ xs) = pick (eqb x 1) 0 (c i) + left c (suc i) xs

unfoldable pub spent : (ℕ → ℕ) → ℕ → List ℕ → ℕ
spent c i [] = 0
spent c i (x ∷ xs) = pick (eqb x 1) (c i) 0 + spent c (suc i) xs

unfoldable pub sum_from : (ℕ → ℕ) → ℕ → ℕ → ℕ
sum_from c i zero = 0
sum_from c i (suc n) = c i + sum_from c (suc i) n

-- ---- the whole

-- where a lowering begins: two constants, no constraint, nothing seen, room for the sums
pub record Start (R : Recipe) (s : Low) : Type 0 where
  pub mapped : length s.core.map ≡ R.total
  pub nodes : length s.seen ≡ R.size
  pub none : (k : ℕ) → get_or s.seen k 0 ≡ 0
  pub two : s.core.net.n ≡ 2
  pub formed : Formed s.core.net
  pub zero : s.core.nc ≡ 0
  pub room : Room s.core.net.gates (2 + sum_from R.gates 0 R.size)
  pub room_asks : 2 * sum_from R.asks 0 R.size ≤ length s.core.cons

-- demand 2 under one choice of the given words, of a lowering that ended in t: exactly one assignment meets the constraints, and under it all
-- reached bits are right
pub record Lowered (R : Recipe) (M : Meaning) (t : Low) : Type 0 where
  pub right : (e : Assign) → Considered M t.core.net e → Met t.core 0 e → (k : ℕ) → Reached R t.core.map k → Right R M e t.core.map k
  pub exists : (e : Assign) × Considered M t.core.net e × Met t.core 0 e
  pub one : (e d : Assign) → Considered M t.core.net e → Met t.core 0 e → Considered M t.core.net d → Met t.core 0 d → (g : ℕ) → g < t.core.net.n → e g ≡ d g

-- demand 3 of a lowering from s to t
pub record Small (R : Recipe) (s t : Low) : Type 0 where
  pub formed : Formed t.core.net
  pub gates : t.core.net.n ≤ 2 + spent R.gates 0 t.seen
  pub asks : t.core.nc ≤ spent R.asks 0 t.seen
  pub asked : (i : ℕ) → i < t.core.nc → Asked t.core i
  pub below : (k : ℕ) → Is R k → Seen t k → Under R t.core.net.n t.core.map k
  pub known : ((k : ℕ) → Is R k → Seen t k → R.given k ≡ false) → (t.core.net.n ≡ 2) × (t.core.nc ≡ 0) × ((k : ℕ) → Is R k → Seen t k → Under R 2 t.core.map k)
  pub bad : (k : ℕ) → Is R k → R.bad k ≡ true → Seen t k
  pub closed : (k : ℕ) → Is R k → Seen t k → Operands R t.core.map k (Seen t)
  pub reached : (k : ℕ) → Is R k → Seen t k ↔ Reached R t.core.map k
  pub gates_rest : (i : ℕ) → used t.core.net.n ≤ i → get_or t.core.net.gates i 0 ≡ get_or s.core.net.gates i 0
  pub cons_rest : (i : ℕ) → 2 * t.core.nc ≤ i → get_or t.core.cons i 0 ≡ get_or s.core.cons i 0
  pub unseen : (k : ℕ) → Is R k → (Seen t k → ⊥) → Same R s.core.map t.core.map k
