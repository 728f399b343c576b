use mathlib.Core.Path.{◌≡◌}
use Prim.Native.Nat.{◌≤◌, ◌-◌}
use lib.ListN.{length}
use Rattle.text.specs.Put.{put}
use Rattle.text.specs.Writer.{so_far}
use Rattle.text.specs.Write.{each, next_bits}
use Rattle.text.proofs.write.bits_lines.Given as goal

abbrev pub invariant-loop-i : goal.invariant-loop-i
invariant-loop-i l =
    record {
      within : l.i - 1 ≤ length l.marks - 1;
      same : l.lines.out.ghost_name ≡ l.initial.lines.out.ghost_name;
      after : so_far l.lines ≡ put (so_far l.initial.lines) (each (l.i - 1) (next_bits l.map l.offsets l.marks));
    }
