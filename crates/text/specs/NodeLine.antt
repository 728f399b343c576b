-- A node's line, field by field: its record, and the lines after it.
use Rattle.std.specs.Prelude.{List, [], ◌∷◌, ℕ, Option, None, eqb, option_and_then, option_map}
use Rattle.loops.specs.Loop.{pick}
use Rattle.text.specs.declared.line.Node.{Node}
use Rattle.text.specs.Name.{node_name}
use Rattle.text.specs.Field.{name_field, number_field, kind_field, last_number}

abbrev pub Rest : Type 0
Rest = ℕ × List ℕ

-- its record: kind, width, a, b, c, imm
abbrev pub numbers_of : Node → List ℕ
numbers_of n = n.kind ∷ n.width ∷ n.a ∷ n.b ∷ n.c ∷ n.imm ∷ []

-- the fields after the number
unfoldable pub node_fields : List ℕ → Option (List ℕ × List ℕ)
node_fields s =
    option_and_then (λ (kind : Rest).
    option_and_then (λ (width : Rest).
    option_and_then (λ (a : Rest).
    option_and_then (λ (b : Rest).
    option_and_then (λ (c : Rest).
    option_map (λ (imm : Rest). (kind.0 ∷ width.0 ∷ a.0 ∷ b.0 ∷ c.0 ∷ imm.0 ∷ [], imm.1)) (last_number c.1))
    (number_field b.1)) (number_field a.1)) (number_field width.1)) (number_field kind.1)) (kind_field s)

unfoldable pub node_line : ℕ → List ℕ → Option (List ℕ × List ℕ)
node_line i s =
    option_and_then (λ (r : List ℕ).
    option_and_then (λ (n : Rest). pick (eqb n.0 i) (node_fields n.1) None)
    (number_field r)) (name_field node_name s)
