-- A field of a node beyond the table.
use mathlib.Core.Path.{◌≡◌, sym}
use mathlib.Core.List.{List}
use Prim.Native.Nat.{ℕ, ◌+◌, ◌-◌, ◌*◌, ◌≤◌}
use lib.ListN.{length, get_or, get_or-eq_default}
use borrow.Author.Tests.{ne_eqb}
use Rattle.loops.specs.Loop.{pick}
use Rattle.table.specs.Node.{field_at}

pub field_out : (t : List ℕ) (i k : ℕ) → (i ≡ 0 → ⊥) → length t ≤ 6 * (i - 1) + k → 0 ≡ field_at t i k
unfolding field_at pick
field_out t i k n l = rw (ne_eqb i 0 n) (let e : get_or t (6 * (i - 1) + k) 0 ≡ 0 = get_or-eq_default t 0 l in sym e)
