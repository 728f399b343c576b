use mathlib.Core.Path.{◌≡◌}
use Rattle.text.specs.Put.{put}
use Rattle.text.specs.Writer.{so_far}
use Rattle.text.specs.Write.{each, constraint_line}
use Rattle.text.proofs.write.constraint_lines.Given as goal

abbrev pub invariant-loop-i : goal.invariant-loop-i
invariant-loop-i l = record { same : l.lines.out.ghost_name ≡ l.initial.lines.out.ghost_name; after : so_far l.lines ≡ put (so_far l.initial.lines) (each l.i (constraint_line l.constraints)) }
