-- No freedom: any two answers that the contract of `answer` permits for one text are equal.
use mathlib.Core.Path.{◌≡◌, ap, sym, ◌∙◌}
use mathlib.Core.List.{List}
use Prim.Native.Nat.{ℕ}
use lib.ListN.{length, take, drop}
use lib.Seq.{take_at}
use Rattle.text.specs.Write.{Written}
use Rattle.text.proofs.Unique.{written-unique}
use Rattle.stitch.specs.Printed.{printed}

-- the count, and each place of the lent buffer
pub one_answer : (x before c c' : List ℕ) (n n' : ℕ) → Written before (printed x) c n → Written before (printed x) c' n' → (n ≡ n') × (c ≡ c')
one_answer x before = written-unique before (printed x)

-- the bytes to write are the ones that the definition says, whatever the buffer held before
pub all-bytes : (x before c : List ℕ) (n : ℕ) → Written before (printed x) c n → take n c ≡ printed x
all-bytes x before c n w = ap (take n) w.1 ∙ take_at (printed x) (drop (length (printed x)) before) n (sym w.0)
