-- A line as bytes: its name, each number after a tab, a newline.
use Rattle.std.specs.Prelude.{List, [], ◌∷◌, ◌++◌, ℕ}
use Rattle.text.specs.Number.{decimal}

-- each number after a tab
unfoldable pub numbers : List ℕ → List ℕ
numbers [] = []
numbers (n ∷ ns) = (9 ∷ decimal n) ++ numbers ns

-- the numbers of a line, and its newline
unfoldable pub rest : List ℕ → List ℕ
rest ns = numbers ns ++ (10 ∷ [])

unfoldable pub line : List ℕ → List ℕ → List ℕ
line name ns = name ++ rest ns
