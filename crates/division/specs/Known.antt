-- Wholly known operands are divided as numbers; divu by 0 is all ones, rem by 0 is the dividend.
use Rattle.std.specs.Prelude.{◌≡◌, List, Bool, ℕ, ◌≤◌, get_or, length}
use Rattle.loops.specs.Loop.{pick}
use Rattle.values.specs.Value.{div_word, rem_word}
use Rattle.netlist.specs.Net.{Net, Assign, Obeys}
use Rattle.digits.specs.Digits.{Below, known_number, put_digits}
use Rattle.words.specs.Num.{num}

-- of two numbers of w bits: divu, or rem
abbrev pub answer_of : Bool → ℕ → ℕ → ℕ → ℕ
answer_of quotient w n d = pick quotient (div_word w n d) (rem_word n d)

abbrev pub known_word : Bool → ℕ → List ℕ → List ℕ → List ℕ → List ℕ
known_word quotient w n d out = put_digits (answer_of quotient w (known_number w n) (known_number w d)) w out

-- what is right of it
pub record KnownLaw (quotient : Bool) (w : ℕ) (n d out t : List ℕ) : Type 0 where
  pub long : length t ≡ length out
  pub rest : (j : ℕ) → w ≤ j → get_or t j 0 ≡ get_or out j 0
  pub known : Below 2 t w
  pub value : (s : Net) (e : Assign) → Obeys s e → Below 2 n w → Below 2 d w → num e t w ≡ answer_of quotient w (num e n w) (num e d w)
