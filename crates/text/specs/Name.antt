-- The names of lines and of kinds.
use Rattle.std.specs.Prelude.{List, [], ◌∷◌, Bool, ℕ, ◌+◌, Option, option_map, get_or}
use Rattle.std.specs.Str.{bytes_eq}
use Rattle.loops.specs.Loop.{first, found}

-- the same bytes
unfoldable pub same : List ℕ → List ℕ → Bool
same s t = bytes_eq s t

-- word
unfoldable pub word_name : List ℕ
word_name = 119 ∷ 111 ∷ 114 ∷ 100 ∷ []

-- addr
unfoldable pub addr_name : List ℕ
addr_name = 97 ∷ 100 ∷ 100 ∷ 114 ∷ []

-- node
unfoldable pub node_name : List ℕ
node_name = 110 ∷ 111 ∷ 100 ∷ 101 ∷ []

-- "kinds by the names above": 1 const, 2 input, 3 state, 4 not, 5 bad, 6 and, 7 ext, 8 eq, 9 add, 10 ite, 11 sub, 12 ult, 13 mul, 14 divu,
-- 15 rem, 16 read, 17 write, 18 or, 19 div, 20 sll, 21 srl, 22 next, 23 comment, 24 sext
unfoldable pub kind_names : List (List ℕ)
kind_names =
    (99 ∷ 111 ∷ 110 ∷ 115 ∷ 116 ∷ [])
    ∷ (105 ∷ 110 ∷ 112 ∷ 117 ∷ 116 ∷ [])
    ∷ (115 ∷ 116 ∷ 97 ∷ 116 ∷ 101 ∷ [])
    ∷ (110 ∷ 111 ∷ 116 ∷ [])
    ∷ (98 ∷ 97 ∷ 100 ∷ [])
    ∷ (97 ∷ 110 ∷ 100 ∷ [])
    ∷ (101 ∷ 120 ∷ 116 ∷ [])
    ∷ (101 ∷ 113 ∷ [])
    ∷ (97 ∷ 100 ∷ 100 ∷ [])
    ∷ (105 ∷ 116 ∷ 101 ∷ [])
    ∷ (115 ∷ 117 ∷ 98 ∷ [])
    ∷ (117 ∷ 108 ∷ 116 ∷ [])
    ∷ (109 ∷ 117 ∷ 108 ∷ [])
    ∷ (100 ∷ 105 ∷ 118 ∷ 117 ∷ [])
    ∷ (114 ∷ 101 ∷ 109 ∷ [])
    ∷ (114 ∷ 101 ∷ 97 ∷ 100 ∷ [])
    ∷ (119 ∷ 114 ∷ 105 ∷ 116 ∷ 101 ∷ [])
    ∷ (111 ∷ 114 ∷ [])
    ∷ (100 ∷ 105 ∷ 118 ∷ [])
    ∷ (115 ∷ 108 ∷ 108 ∷ [])
    ∷ (115 ∷ 114 ∷ 108 ∷ [])
    ∷ (110 ∷ 101 ∷ 120 ∷ 116 ∷ [])
    ∷ (99 ∷ 111 ∷ 109 ∷ 109 ∷ 101 ∷ 110 ∷ 116 ∷ [])
    ∷ (115 ∷ 101 ∷ 120 ∷ 116 ∷ [])
    ∷ []

abbrev pub kind_count : ℕ
kind_count = 24

unfoldable pub is_named : List ℕ → ℕ → Bool
is_named s i = same (get_or kind_names i []) s

-- how many kinds stand before the one of this name; their number where there is none
unfoldable pub place_of : List ℕ → ℕ
place_of s = first kind_count (is_named s)

-- the number of the kind of this name
unfoldable pub kind : List ℕ → Option ℕ
kind s = option_map (λ (i : ℕ). i + 1) (found kind_count (is_named s))
