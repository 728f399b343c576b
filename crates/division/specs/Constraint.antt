-- The list of constraints, gate and value, two numbers each. The layout is known to this file, proofs/ConstraintLaws.antt and src/constraint.rt.
use Rattle.std.specs.Prelude.{◌≡◌, List, ◌↔◌, ℕ, ◌+◌, ◌*◌, ◌≤◌, ◌<◌, set, get_or, length}
use Rattle.division.specs.declared.constraint.ConstraintList.{ConstraintList}
use Rattle.loops.specs.Loop.{iter, bit}
use Rattle.netlist.specs.Net.{Assign}

-- the gate and the value of constraint j
unfoldable pub con_gate : List ℕ → ℕ → ℕ
con_gate l j = get_or l (2 * j) 0

unfoldable pub con_value : List ℕ → ℕ → ℕ
con_value l j = get_or l (2 * j + 1) 0

unfoldable pub put_con : List ℕ → ℕ → ℕ → ℕ → List ℕ
put_con l m g v = set (set l (2 * m) g) (2 * m + 1) v

-- m constraints are so many numbers
abbrev pub con_used : ℕ → ℕ
con_used m = 2 * m

-- the buffer, and how many of its constraints are in use
pub record Cons : Type 0 where
  pub list : List ℕ
  pub m : ℕ

abbrev pub cons_of : List ℕ → ℕ → Cons
cons_of l m = record { list = l; m = m }

-- what the code has, as these definitions have it
abbrev pub cons_in : ConstraintList → Cons
cons_in l = cons_of l.pairs.now l.m

-- k more constraints fit the buffer
abbrev pub ConFits : ConstraintList → ℕ → Type 0
ConFits l k = con_used (l.m + k) ≤ length l.pairs.now

-- the list is made in the same lent buffer, which keeps its length
abbrev pub SameCons : ConstraintList → ConstraintList → Type 0
SameCons old new = (new.pairs.ghost_name ≡ old.pairs.ghost_name) × (length new.pairs.now ≡ length old.pairs.now)

abbrev pub ConRoom : Cons → Type 0
ConRoom c = con_used c.m ≤ length c.list

-- one more: gate g has the value v, 0 or 1
unfoldable pub constrain : Cons → ℕ → ℕ → Cons
constrain c g v = cons_of (put_con c.list c.m g v) (c.m + 1)

-- each of the first k bits of a word has the value v
unfoldable pub con_step : List ℕ → ℕ → ℕ → Cons → Cons
con_step bits v j c = constrain c (get_or bits j 0) v

abbrev pub constrain_each : List ℕ → ℕ → ℕ → Cons → Cons
constrain_each bits v k c = iter k (con_step bits v) c

-- the constraints from number a up to b hold
unfoldable pub Holds : Assign → List ℕ → ℕ → ℕ → Type 0
Holds e l a b = (j : ℕ) → a ≤ j → j < b → bit (e (con_gate l j)) ≡ con_value l j

-- their gates are below n, their values 0 or 1
unfoldable pub Within : ℕ → List ℕ → ℕ → ℕ → Type 0
Within n l a b = (j : ℕ) → a ≤ j → j < b → (con_gate l j < n) × (con_value l j < 2)

-- t has exactly k constraints more than s: what was there stays, the buffer's length stays, and beyond those in use it is untouched
pub record More (s t : Cons) (k : ℕ) : Type 0 where
  pub count : t.m ≡ s.m + k
  pub long : length t.list ≡ length s.list
  pub same : (j : ℕ) → j < s.m → (con_gate t.list j ≡ con_gate s.list j) × (con_value t.list j ≡ con_value s.list j)
  pub rest : (i : ℕ) → con_used t.m ≤ i → get_or t.list i 0 ≡ get_or s.list i 0

-- what is right of k constraints more: they hold where the claim does, and only there; In n is that their gates are below n
pub record ConLaw (In : ℕ → Type 0) (claim : Assign → Type 0) (s t : Cons) (k : ℕ) : Type 0 where
  pub more : More s t k
  pub holds : ConRoom t → (e : Assign) → Holds e t.list s.m t.m ↔ claim e
  pub within : ConRoom t → (n : ℕ) → In n → Within n t.list s.m t.m
