-- Eq: all Xnors, then Ands from the lowest up.
use Rattle.std.specs.Prelude.{List, ℕ, ◌+◌, ◌-◌, eqb}
use Rattle.netlist.specs.Net.{Net}
use Rattle.gates.specs.Made.{MadeBit}
use Rattle.gates.specs.Law.{BitLaw}
use Rattle.digits.specs.Digits.{Below}
use Rattle.words.specs.declared.each.Bitwise.TheVariants.{And, Xnor}
use Rattle.words.specs.Num.{num, blank}
use Rattle.words.specs.Each.{Word, each_bit, each_cost}
use Rattle.words.specs.Join.{join_all}

unfoldable pub eq_words : ℕ → List ℕ → List ℕ → Net → MadeBit
eq_words w left right s =
    let x : Word = each_bit Xnor left right w (record { net = s; out = blank }) in
    join_all And w x.out x.net

abbrev pub eq_cost : List ℕ → List ℕ → ℕ → ℕ
eq_cost left right w = each_cost Xnor left right w + (w - 1)

-- what is right of it
abbrev pub EqLaw : ℕ → List ℕ → List ℕ → Net → MadeBit → Type 0
EqLaw w left right s m =
    BitLaw s (Below s.n left w × Below s.n right w) (Below 2 left w × Below 2 right w) (λ e. eqb (num e left w) (num e right w)) (eq_cost left right w) m
