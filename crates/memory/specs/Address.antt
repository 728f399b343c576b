-- A memory has n words of w bits, in address-list order, lowest bit first.
use Rattle.std.specs.Prelude.{◌≡◌, List, ℕ, ◌*◌, ◌-◌, ◌^◌, ◌≤◌, ◌<◌, eqb, get_or, take, drop}
use Rattle.loops.specs.Loop.{first}
use Rattle.table.specs.Sheet.{is_at}
use Rattle.netlist.specs.Net.{Net, Assign}
use Rattle.gates.specs.Made.{MadeBit}
use Rattle.gates.specs.Law.{BitLaw}
use Rattle.digits.specs.Digits.{put_digits, Below}
use Rattle.words.specs.Num.{num, blank}
use Rattle.words.specs.Eq.{eq_words}

-- word i of a memory
abbrev pub part : ℕ → ℕ → List ℕ → List ℕ
part i w mem = take w (drop (i * w) mem)

-- the place of an address in the list; n where it is not listed
abbrev pub listed_at : ℕ → List ℕ → ℕ → ℕ
listed_at n addrs a = first n (is_at addrs a)

-- Eq of a listed address, a, with the address
unfoldable pub at_listed : ℕ → ℕ → List ℕ → Net → MadeBit
at_listed w a adr s = eq_words w (put_digits a w blank) adr s

-- the listed addresses: below 2 ^ w, and none repeated (refusal 2)
pub record Listed (n w : ℕ) (addrs : List ℕ) : Type 0 where
  pub small : (i : ℕ) → i < n → get_or addrs i 0 < 2 ^ w
  pub distinct : (i j : ℕ) → i < n → j < n → get_or addrs i 0 ≡ get_or addrs j 0 → i ≡ j

-- what is right of the Eq
abbrev pub AtLaw : ℕ → ℕ → List ℕ → Net → MadeBit → Type 0
AtLaw w a adr s m = BitLaw s ((2 ≤ s.n) × Below s.n adr w) (Below 2 adr w) (λ e. eqb a (num e adr w)) (2 * w - 1) m

-- the number of word i of a memory
abbrev pub word_num : Assign → List ℕ → ℕ → ℕ → ℕ
word_num e mem i w = num e (drop (i * w) mem) w
