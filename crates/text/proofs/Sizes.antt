-- The bytes that the program reads and writes at most, by document 01's limits: 64 addresses, 512 nodes, 4,096 gates, 16,384 map places,
-- 8,192 constraints.
use mathlib.Core.Path.{◌≡◌}
use mathlib.Core.List.{List}
use Prim.Native.Nat.{ℕ, ◌≤◌, ◌<◌}
use native.Mathlib.Omega.{arith}
use lib.ListN.{length}
use Rattle.std.specs.Prelude.{None}
use Rattle.text.specs.Plain.{plain_text}
use Rattle.text.specs.Read.{answer_of}
use Rattle.text.specs.Write.{output_room}
use Rattle.text.proofs.Lengths.{too_long}

-- read.rt's LONGEST
pub longest-text : (x : List ℕ) → 72858 < length x → answer_of (plain_text 64 512 x) ≡ None
longest-text x h = too_long 64 512 x (omega arith) h

-- write.rt's ROOM
pub room : (gates nodes places constraints : ℕ) → gates ≤ 4096 → nodes ≤ 512 → places ≤ 16384 → constraints ≤ 8192 → output_room gates nodes places constraints ≤ 750639
unfolding output_room
room gates nodes places constraints a b c d = omega arith
