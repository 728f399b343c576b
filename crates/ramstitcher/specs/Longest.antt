-- How much of its input the program has to read.
use Rattle.std.specs.Prelude.{ℕ}

-- no acceptable text has more bytes: `text`'s LONGEST
abbrev pub LONGEST : ℕ
LONGEST = 72858
