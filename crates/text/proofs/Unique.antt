-- The contracts leave no freedom: two answers that are permitted for one input are equal, with all that was lent.
use mathlib.Core.Path.{◌≡◌, sym, ◌∙◌}
use mathlib.Core.List.{List}
use Prim.Native.Nat.{ℕ}
use Rattle.std.specs.Prelude.{Option}
use Rattle.text.specs.declared.read.Table.{Table}
use Rattle.text.specs.Read.{read_text}
use Rattle.text.specs.Read.Stored.{stored}
use Rattle.text.specs.Write.{Written}

-- `read_text`: the answer, the addresses and the nodes
pub read-unique : (x a b : List ℕ) (r r' : Option Table) (c c' d d' : List ℕ) → stored r c d ≡ read_text x a b → stored r' c' d' ≡ read_text x a b → (r ≡ r') × (c ≡ c') × (d ≡ d')
read-unique x a b r r' c c' d d' p q = let e : stored r c d ≡ stored r' c' d' = p ∙ sym q in (cc, cc, cc)

-- `write` and `write_refused`: the count and the buffer, whatever the bytes are
pub written-unique : (before bytes c c' : List ℕ) (n n' : ℕ) → Written before bytes c n → Written before bytes c' n' → (n ≡ n') × (c ≡ c')
written-unique before bytes c c' n n' p q = (p.0 ∙ sym q.0, p.1 ∙ sym q.1)
