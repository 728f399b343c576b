use mathlib.Core.Path.{◌≡◌}
use lib.ListN.{take}
use Rattle.text.specs.Put.{put}
use Rattle.text.specs.Writer.{so_far}
use Rattle.text.specs.Line.{numbers}
use Rattle.text.proofs.put.Writer.numbers.Given as goal

abbrev pub invariant-loop-n : goal.invariant-loop-n
invariant-loop-n l = record { same : l.self.out.ghost_name ≡ l.initial.self.out.ghost_name; after : so_far l.self ≡ put (so_far l.initial.self) (numbers (take l.n-index l.ns)) }
