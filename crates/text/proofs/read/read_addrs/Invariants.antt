use mathlib.Core.Path.{◌≡◌}
use Rattle.text.specs.Rows.{rows}
use Rattle.text.proofs.Readings.{Addrs}
use Rattle.text.proofs.read.read_addrs.Given as goal

abbrev pub invariant-loop-n : goal.invariant-loop-n
invariant-loop-n l = Addrs l.addrs l.n (rows l.rest) ≡ Addrs l.initial.addrs 0 (rows l.text)
