-- A word over copies of one bit: known false stands above the bits of an ext, the top bit above those of a sext.
use Rattle.std.specs.Prelude.{◌≡◌, List, ℕ, ◌+◌, ◌*◌, ◌^◌, ◌≤◌, ◌<◌, get_or, length}
use Rattle.loops.specs.Loop.{bit}
use Rattle.netlist.specs.Net.{Assign}
use Rattle.digits.specs.Digits.{Below}
use Rattle.words.specs.Num.{num, filled}
use Rattle.words.specs.Each.{put_bits}

abbrev pub extended : ℕ → ℕ → List ℕ → List ℕ
extended b v bits = put_bits 0 bits v (filled b)

-- what is right of it: the bits, and from v on the bit b
pub record ExtendLaw (b v : ℕ) (bits out : List ℕ) : Type 0 where
  pub long : length out ≡ 65
  pub there : (j : ℕ) → j < v → get_or out j 0 ≡ get_or bits j 0
  pub above : (j : ℕ) → v ≤ j → j < 65 → get_or out j 0 ≡ b
  pub value : (e : Assign) (w : ℕ) → v ≤ w → w ≤ 65 → num e out w + 2 ^ v * bit (e b) ≡ num e bits v + 2 ^ w * bit (e b)
  pub under : (n w : ℕ) → w ≤ 65 → b < n → Below n bits v → Below n out w
