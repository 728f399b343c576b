-- The number that a word's bits say under an assignment.
use Rattle.std.specs.Prelude.{List, ℕ, get_or, replicate}
use Rattle.netlist.specs.Net.{Assign}
use Rattle.digits.specs.Digits.{number}

abbrev pub num : Assign → List ℕ → ℕ → ℕ
num e bs w = number (λ i. e (get_or bs i 0)) w

-- an array of scratch that holds one bit at every place; before it is written that is known false
unfoldable pub filled : ℕ → List ℕ
filled b = replicate 65 b

abbrev pub blank : List ℕ
blank = filled 0
