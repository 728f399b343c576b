use mathlib.Core.Path.{◌≡◌}
use lib.ListN.{length}
use Rattle.words.specs.Each.{put_bits}
use Rattle.words.proofs.each.put_bits.Given as goal

abbrev pub invariant-loop-i : goal.invariant-loop-i
invariant-loop-i l = (l.map ≡ put_bits l.from l.bits l.i l.initial.map) × (length l.map ≡ length l.initial.map)
