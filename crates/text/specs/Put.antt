-- Bytes put into a lent buffer.
use Rattle.std.specs.Prelude.{List, [], ◌∷◌, ◌≡◌, ℕ, ◌+◌, ◌<◌, ltb, length, set}
use Rattle.loops.specs.Loop.{pick}
use Rattle.text.specs.Number.{digits}

-- a buffer, and the place of its next byte. A byte for which there is no room is left out
pub data Text : Type 0 where
  text : List ℕ → ℕ → Text

unfoldable pub push : Text → ℕ → Text
push (text l i) b = pick (ltb i (length l)) (text (set l i b) (i + 1)) (text l i)

unfoldable pub put : Text → List ℕ → Text
put t [] = t
put t (b ∷ bs) = put (push t b) bs

-- the digits of n were put, whatever number above n is taken
abbrev pub PutDigits : Text → ℕ → Text → Type 0
PutDigits t n u = (f : ℕ) → n < f → u ≡ put t (digits f n)
