use mathlib.Core.Path.{◌≡◌}
use lib.ListN.{take}
use Rattle.text.specs.Put.{put}
use Rattle.text.specs.Writer.{so_far}
use Rattle.text.proofs.put.Writer.bytes.Given as goal

abbrev pub invariant-loop-b : goal.invariant-loop-b
invariant-loop-b l = record { same : l.self.out.ghost_name ≡ l.initial.self.out.ghost_name; after : so_far l.self ≡ put (so_far l.initial.self) (take l.b-index l.bytes) }
