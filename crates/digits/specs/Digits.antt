-- Binary digits, lowest first, and the number that a word's bits say.
use Rattle.std.specs.Prelude.{◌≡◌, List, Bool, not, Option, Some, None, ℕ, zero, suc, ◌+◌, ◌*◌, ◌/◌, ◌%◌, ◌^◌, ◌<◌, eqb, leb, get_or, set}
use Rattle.loops.specs.Loop.{pick, iter, first, bit}
use Rattle.netlist.specs.Bit.{is_known}

-- digit i of a number
unfoldable pub digit : ℕ → ℕ → ℕ
digit a i = a / 2 ^ i % 2

-- how many powers of two are below w: 2^0, 2^1 and so on
unfoldable pub powers_below : ℕ → ℕ
powers_below w = first w (λ j. leb w (2 ^ j))

-- the number that w truth values say
unfoldable pub number : (ℕ → Bool) → ℕ → ℕ
number v zero = 0
number v (suc i) = number v i + 2 ^ i * bit (v i)

-- q and r are the quotient and the remainder of n by d
abbrev pub Parts : ℕ → ℕ → ℕ → ℕ → Type 0
Parts q r n d = (q * d + r ≡ n) × (r < d)

-- the first w digits of a, as known bits, into a list
unfoldable pub digit_step : ℕ → ℕ → List ℕ → List ℕ
digit_step a i out = set out i (digit a i)

abbrev pub put_digits : ℕ → ℕ → List ℕ → List ℕ
put_digits a w out = iter w (digit_step a) out

-- the first w bits of a list are below b: b is the number of gates, or 2 where they are known
abbrev pub Below : ℕ → List ℕ → ℕ → Type 0
Below b bs w = (i : ℕ) → i < w → get_or bs i 0 < b

-- a word is wholly known
unfoldable pub unknown_at : List ℕ → ℕ → Bool
unknown_at bs i = not (is_known (get_or bs i 0))

unfoldable pub all_known : ℕ → List ℕ → Bool
all_known w bs = leb w (first w (unknown_at bs))

-- and then says a number
abbrev pub known_bits : List ℕ → ℕ → Bool
known_bits bs i = eqb (get_or bs i 0) 1

abbrev pub known_number : ℕ → List ℕ → ℕ
known_number w bs = number (known_bits bs) w

-- the number that a word says, if it is wholly known
unfoldable pub known : ℕ → List ℕ → Option ℕ
known w bs = pick (all_known w bs) (Some (known_number w bs)) None
