-- A shift: one choice stage for each amount bit j with 2^j below the width, lowest first; then the remaining amount bits are Ored from the lowest up, and
-- the word is cleared by a choice against known false. All is stated over the width and the direction: sll is Left, srl is Right.
use Rattle.std.specs.Prelude.{◌≡◌, List, ℕ, ◌+◌, ◌*◌, ◌-◌, ◌/◌, ◌%◌, ◌^◌, ◌≤◌, ltb, get_or, length, take, drop}
use Rattle.loops.specs.Loop.{pick, iter}
use Rattle.netlist.specs.Record.{Room}
use Rattle.netlist.specs.Net.{Assign, Obeys}
use Rattle.gates.specs.Made.{MadeBit}
use Rattle.gates.specs.Law.{Ext, Formed}
use Rattle.digits.specs.Digits.{Below, powers_below}
use Rattle.words.specs.declared.each.Bitwise.TheVariants.{Or, Choose, Clear}
use Rattle.words.specs.declared.shift.Direction.{Direction}
use Rattle.words.specs.declared.shift.Direction.TheVariants.{Left, Right}
use Rattle.words.specs.Num.{num, blank}
use Rattle.words.specs.Each.{Word, each_bit, put_bits}
use Rattle.words.specs.Join.{join_all}

-- the w bits of a word moved by k places; what is pushed out is lost, and what was there before stays where nothing comes
unfoldable pub moved : Direction → ℕ → ℕ → List ℕ → List ℕ → List ℕ
moved Left w k bits out = put_bits k bits (w - k) out
moved Right w k bits out = put_bits 0 (take (w - k) (drop k bits)) (w - k) out

-- stage j: the word moved by 2^j, over known false bits, or the word, by amount bit j
unfoldable pub stage : Direction → ℕ → List ℕ → ℕ → Word → Word
stage to w amount j st = each_bit (Choose (get_or amount j 0)) (moved to w (2 ^ j) st.out blank) st.out w st

abbrev pub stages : Direction → ℕ → List ℕ → Word → Word
stages to w amount st = iter (powers_below w) (stage to w amount) st

-- the remaining amount bits
abbrev pub remaining : ℕ → List ℕ → List ℕ
remaining w amount = take (w - powers_below w) (drop (powers_below w) amount)

unfoldable pub shift_words : Direction → ℕ → List ℕ → List ℕ → Word → Word
shift_words to w bits amount st =
    let x : Word = stages to w amount (record { net = st.net; out = put_bits 0 bits w st.out }) in
    let over : MadeBit = join_all Or (w - powers_below w) (remaining w amount) x.net in
    each_bit (Clear over.bit) bits x.out w (record { net = over.net; out = x.out })

-- three a bit and stage, an Or for each remaining amount bit but one, and one a bit for the clearing
abbrev pub shift_cost : ℕ → ℕ
shift_cost w = 3 * w * powers_below w + 2 * w - powers_below w - 1

-- a number of w digits, moved by k places
unfoldable pub shifted : Direction → ℕ → ℕ → ℕ → ℕ
shifted Left w k x = x * 2 ^ k % 2 ^ w
shifted Right w k x = x / 2 ^ k

-- what is right of a shift
pub record ShiftLaw (to : Direction) (w : ℕ) (bits amount : List ℕ) (s t : Word) : Type 0 where
  pub ext : Ext s.net t.net (shift_cost w)
  pub long : length t.out ≡ length s.out
  pub rest : (j : ℕ) → w ≤ j → get_or t.out j 0 ≡ get_or s.out j 0
  pub value : (e : Assign) → Obeys t.net e → num e t.out w ≡ pick (ltb (num e amount w) w) (shifted to w (num e amount w) (num e bits w)) 0
  pub formed : Room t.net.gates t.net.n → Below s.net.n bits w → Below s.net.n amount w → Formed s.net → Formed t.net × Below t.net.n t.out w
  pub known : Below 2 bits w → Below 2 amount w → (t.net ≡ s.net) × Below 2 t.out w
