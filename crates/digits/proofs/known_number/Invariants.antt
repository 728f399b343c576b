use mathlib.Core.Path.{◌≡◌}
use Rattle.digits.specs.Digits.{number, known_bits}
use Rattle.digits.proofs.known_number.Given as goal

abbrev pub invariant-loop-i : goal.invariant-loop-i
invariant-loop-i l = l.x ≡ number (known_bits l.bits) l.i
