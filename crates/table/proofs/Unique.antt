-- No freedom: any two answers that a contract permits for one input are equal, and with them the number and the node of a refusal.
use mathlib.Core.Path.{◌≡◌, ap, sym, ◌∙◌}
use mathlib.Core.List.{List}
use Rattle.std.specs.Prelude.{Result, ⊤}
use mathlib.Core.Bool.{Bool}
use Prim.Native.Nat.{ℕ}
use lib.ListN.{length}
use Rattle.table.specs.declared.Fault.{Fault}
use Rattle.table.specs.declared.Sums.{Sums}
use Rattle.table.specs.declared.Unit.{Unit}
use Rattle.table.specs.Sheet.{number, node, table_fault, asks}
use Rattle.table.specs.Size.{size_sum, offsets_into}
use Rattle.table.specs.Ceiling.{sums_of}

module _ (t l : List ℕ) (w : ℕ) where
  -- check_table
  pub one-fault : (r s : Result ⊤ Fault) → r ≡ table_fault t l w → s ≡ table_fault t l w → (r ≡ s) × (number r ≡ number s) × (node r ≡ node s)
  one-fault r s p q = let e : r ≡ s = p ∙ sym q in (e, ap number e, ap node e)

  -- sums
  pub one-sums : (r s : Sums) → r ≡ sums_of t (length l) w → s ≡ sums_of t (length l) w → r ≡ s
  one-sums r s p q = p ∙ sym q

-- offsets: the answer and each lent place
pub one-offsets : (u : Unit) (t : List ℕ) (n w : ℕ) (o x y : List ℕ) (r s : ℕ) → (r ≡ size_sum u t n w) × (x ≡ offsets_into u t n w o)
    → (s ≡ size_sum u t n w) × (y ≡ offsets_into u t n w o) → (r ≡ s) × (x ≡ y)
one-offsets u t n w o x y r s p q = (p.0 ∙ sym q.0, p.1 ∙ sym q.1)

-- asks
pub one-asking : (t : List ℕ) (r s : Bool) → r ≡ asks t → s ≡ asks t → r ≡ s
one-asking t r s p q = p ∙ sym q
