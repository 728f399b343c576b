use Rattle.std.proofs.Common.{◌≡◌, Some, take}
use Rattle.text.specs.Number.{number_from}
use Rattle.text.proofs.number.digits_of.Given as goal

abbrev pub invariant-loop-c : goal.invariant-loop-c
invariant-loop-c l = Some l.n ≡ number_from (Some 0) (take l.c-index l.s)
