-- A lent buffer after a list was put at its beginning: else it is as before.
use Rattle.std.specs.Prelude.{List, ◌++◌, ℕ, length, drop}

abbrev pub over : List ℕ → List ℕ → List ℕ
over l before = l ++ drop (length l) before
