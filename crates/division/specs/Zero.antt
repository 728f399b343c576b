-- A divisor that may be zero: z is its equality with zero. The division is made over the divisor with its lowest bit Ored with z, and z chooses the
-- answer: all ones or the dividend where the divisor is zero, else the quotient or the remainder.
use Rattle.std.specs.Prelude.{◌≡◌, List, Bool, ℕ, ◌<◌, eqb, get_or}
use Rattle.loops.specs.Loop.{pick}
use Rattle.netlist.specs.Record.{Room}
use Rattle.netlist.specs.Net.{Net, Assign, Obeys}
use Rattle.gates.specs.Made.{MadeBit}
use Rattle.gates.specs.Fold.{or_bit}
use Rattle.gates.specs.Law.{Ext, Formed}
use Rattle.digits.specs.Digits.{Below}
use Rattle.words.specs.declared.each.Bitwise.TheVariants.{Choose}
use Rattle.words.specs.Num.{num, filled, blank}
use Rattle.words.specs.Each.{Word, each_bit, placed, put_bits}
use Rattle.words.specs.Eq.{eq_words}

-- the number that is divided by: 1 in the place of 0
abbrev pub nonzero : ℕ → ℕ
nonzero d = pick (eqb d 0) 1 d

-- z
unfoldable pub zero_bit : ℕ → List ℕ → Net → MadeBit
zero_bit w d s = eq_words w d blank s

-- the divisor with its lowest bit Ored with z
unfoldable pub raised : ℕ → List ℕ → ℕ → Net → Word
raised w d z s = placed (or_bit s (get_or d 0 0) z) 0 (put_bits 0 d w blank)

-- what a division by zero answers: all ones, or the dividend
abbrev pub zero_word : Bool → List ℕ → List ℕ
zero_word quotient n = pick quotient (filled 1) n

-- the choice by z between that and the word that is asked for, the quotient or the remainder
abbrev pub chosen : Bool → ℕ → ℕ → List ℕ → List ℕ → List ℕ → Word → Word
chosen quotient w z n quot rem st = each_bit (Choose z) (zero_word quotient n) (pick quotient quot rem) w st

-- what is right of the divisor with its lowest bit Ored with z, where z is right: its number is never zero
pub record RaisedLaw (w : ℕ) (d : List ℕ) (z : ℕ) (s : Net) (t : Word) : Type 0 where
  pub ext : Ext s t.net 1
  pub value : (e : Assign) → Obeys t.net e → e z ≡ eqb (num e d w) 0 → num e t.out w ≡ nonzero (num e d w)
  pub formed : Room t.net.gates t.net.n → Below s.n d w → z < s.n → Formed s → Formed t.net × Below t.net.n t.out w
