-- The refusal sheet: what stands there of an answer, a number or a place; 0 where nothing is refused.
use Rattle.std.specs.Prelude.{ℕ, Result, Ok, Err}

abbrev pub told : {T R : Type 0} → (R → ℕ) → Result T R → ℕ
told f (Ok x) = 0
told f (Err r) = f r
