-- Numbers as document 01's program writes and reads them: "decimal below 2^64, without sign or leading zero".
use Rattle.std.specs.Prelude.{List, [], ◌∷◌, ◌++◌, Bool, true, false, ◌&&◌, ◌||◌, ℕ, zero, suc, ◌+◌, ◌-◌, ◌*◌, ◌/◌, ◌%◌, ◌^◌, Option, Some, None, eqb, ltb, leb, length, get_or}
use Rattle.loops.specs.Loop.{pick}

-- the digits of n, highest first; f is any number above n
unfoldable pub digits : ℕ → ℕ → List ℕ
digits zero n = []
digits (suc f) n = pick (ltb n 10) ((48 + n) ∷ []) (digits f (n / 10) ++ ((48 + n % 10) ∷ []))

unfoldable pub decimal : ℕ → List ℕ
decimal n = digits (suc n) n

-- one digit more, where it is one and the number stays below 2^64
unfoldable pub add_digit : ℕ → ℕ → Option ℕ
add_digit v c = pick (leb 48 c && leb c 57 && ltb (10 * v + (c - 48)) (2 ^ 64)) (Some (10 * v + (c - 48))) None

unfoldable pub digit : Option ℕ → ℕ → Option ℕ
digit None c = None
digit (Some v) c = add_digit v c

unfoldable pub number_from : Option ℕ → List ℕ → Option ℕ
number_from n [] = n
number_from n (c ∷ cs) = number_from (digit n c) cs

-- not empty, no leading zero
unfoldable pub number : List ℕ → Option ℕ
number s = pick (eqb (length s) 0 || (eqb (get_or s 0 0) 48 && ltb 1 (length s))) None (number_from (Some 0) s)

abbrev pub valid : Option ℕ → Bool
valid None = false
valid (Some v) = true

abbrev pub value : Option ℕ → ℕ
value None = 0
value (Some v) = v
