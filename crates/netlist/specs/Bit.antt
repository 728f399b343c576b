-- What is known of a bit: a bit that is one of the gates 0 and 1 is known.
use Rattle.std.specs.Prelude.{Bool, true, false, ℕ, eqb, ltb, Option, Some, None}
use Rattle.loops.specs.Loop.{pick}

unfoldable pub is_known : ℕ → Bool
is_known b = ltb b 2

-- the value that is known of it, if any
unfoldable pub known_of : ℕ → Option Bool
known_of b = pick (eqb b 0) (Some false) (pick (eqb b 1) (Some true) None)

-- a case for each: known false, known true, not known
unfoldable pub by_known {ℓ} : {A : Type ℓ} → Option Bool → A → A → A → A
by_known (Some false) a b c = a
by_known (Some true) a b c = b
by_known None a b c = c
