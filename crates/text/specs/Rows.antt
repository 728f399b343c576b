-- A text cut at newlines and tabs.
use Rattle.std.specs.Prelude.{List, [], ◌∷◌, ℕ, eqb}
use Rattle.loops.specs.Loop.{pick}

-- a byte before the first of the parts
unfoldable pub onto : ℕ → List (List ℕ) → List (List ℕ)
onto c [] = (c ∷ []) ∷ []
onto c (l ∷ ls) = (c ∷ l) ∷ ls

-- lines are ended by newlines; the last one's may be missing
unfoldable pub lines : List ℕ → List (List ℕ)
lines [] = []
lines (c ∷ cs) = pick (eqb c 10) ([] ∷ lines cs) (onto c (lines cs))

-- fields are parted by tabs
unfoldable pub fields : List ℕ → List (List ℕ)
fields [] = [] ∷ []
fields (c ∷ cs) = pick (eqb c 9) ([] ∷ fields cs) (onto c (fields cs))

unfoldable pub each_fields : List (List ℕ) → List (List (List ℕ))
each_fields [] = []
each_fields (l ∷ ls) = fields l ∷ each_fields ls

-- the fields of each line
unfoldable pub rows : List ℕ → List (List (List ℕ))
rows x = each_fields (lines x)
