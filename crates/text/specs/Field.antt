-- The field that a text begins with, and what follows it: what the code does. proofs/Pairs.antt and Nodes.antt have that the lines so found
-- are the rows of specs/Plain.antt.
use Rattle.std.specs.Prelude.{List, [], ◌∷◌, Bool, ◌||◌, ℕ, suc, Option, Some, None, eqb, take, drop, option_map, option_and_then}
use Rattle.loops.specs.Loop.{pick}
use Rattle.text.specs.Number.{number}
use Rattle.text.specs.Name.{same, kind}

-- a tab or a newline
unfoldable pub parts : ℕ → Bool
parts c = eqb c 9 || eqb c 10

-- bytes before the first that parts
unfoldable pub span : List ℕ → ℕ
span [] = 0
span (c ∷ cs) = pick (parts c) 0 (suc (span cs))

-- the field f, where a tab is at the head of what is behind it, and what follows the tab
unfoldable pub if_tab : List ℕ → List ℕ → Option (List ℕ × List ℕ)
if_tab f [] = None
if_tab f (c ∷ cs) = pick (eqb c 9) (Some (f, cs)) None

-- the field f, where none is, and the lines after it
unfoldable pub if_end : List ℕ → List ℕ → Option (List ℕ × List ℕ)
if_end f [] = Some (f, [])
if_end f (c ∷ cs) = pick (eqb c 9) None (Some (f, cs))

-- a field that a tab follows; a line's last field
unfoldable pub inner : List ℕ → Option (List ℕ × List ℕ)
inner s = if_tab (take (span s) s) (drop (span s) s)

unfoldable pub last : List ℕ → Option (List ℕ × List ℕ)
last s = if_end (take (span s) s) (drop (span s) s)

-- the name of a line, which is to be this one
unfoldable pub name_field : List ℕ → List ℕ → Option (List ℕ)
name_field name s = option_and_then (λ (p : List ℕ × List ℕ). pick (same p.0 name) (Some p.1) None) (inner s)

-- a field's value, and what follows the field
abbrev pub valued : (List ℕ → Option ℕ) → Option (List ℕ × List ℕ) → Option (ℕ × List ℕ)
valued of o = option_and_then (λ (p : List ℕ × List ℕ). option_map (λ (v : ℕ). (v, p.1)) (of p.0)) o

unfoldable pub number_field : List ℕ → Option (ℕ × List ℕ)
number_field s = valued number (inner s)

unfoldable pub kind_field : List ℕ → Option (ℕ × List ℕ)
kind_field s = valued kind (inner s)

unfoldable pub last_number : List ℕ → Option (ℕ × List ℕ)
last_number s = valued number (last s)

-- a line of a name and a number
unfoldable pub pair_line : List ℕ → List ℕ → Option (ℕ × List ℕ)
pair_line name s = option_and_then last_number (name_field name s)
