-- Read: a wholly known address takes the listed word. Otherwise, per listed address: Eq with the address, the Ands of word bit and equality, the Ors onto the result, at first known false.
use Rattle.std.specs.Prelude.{◌≡◌, List, ℕ, ◌*◌, ◌-◌, ◌≤◌, ◌<◌, ltb, length, get_or}
use Rattle.loops.specs.Loop.{pick, iter}
use Rattle.netlist.specs.Record.{Room}
use Rattle.netlist.specs.Net.{Assign, Obeys}
use Rattle.gates.specs.Made.{MadeBit}
use Rattle.gates.specs.Law.{Ext, Formed}
use Rattle.digits.specs.Digits.{Below, all_known, known_number}
use Rattle.words.specs.declared.each.Bitwise.TheVariants.{Or, AndWith}
use Rattle.words.specs.Num.{num, blank}
use Rattle.words.specs.Each.{Word, each_bit, put_bits}
use Rattle.memory.specs.Address.{part, listed_at, at_listed, word_num}

-- the result at first: known false
abbrev pub cleared : ℕ → List ℕ → List ℕ
cleared w out = put_bits 0 blank w out

-- a known address, a: the listed word; where a is not listed, known false
unfoldable pub read_known : ℕ → ℕ → List ℕ → List ℕ → ℕ → List ℕ → List ℕ
read_known n w addrs mem a out =
    let i : ℕ = listed_at n addrs a in
    pick (ltb i n) (put_bits 0 (part i w mem) w out) (cleared w out)

-- one listed address, a, whose word is given
unfoldable pub read_one : ℕ → ℕ → List ℕ → List ℕ → Word → Word
read_one w a word adr st =
    let eq : MadeBit = at_listed w a adr st.net in
    let ands : Word = each_bit (AndWith eq.bit) word word w (record { net = eq.net; out = blank }) in
    each_bit Or st.out ands.out w (record { net = ands.net; out = st.out })

unfoldable pub read_step : ℕ → List ℕ → List ℕ → List ℕ → ℕ → Word → Word
read_step w addrs mem adr i st = read_one w (get_or addrs i 0) (part i w mem) adr st

unfoldable pub read_words : ℕ → ℕ → List ℕ → List ℕ → List ℕ → Word → Word
read_words n w addrs mem adr st =
    pick (all_known w adr)
    (record { net = st.net; out = read_known n w addrs mem (known_number w adr) st.out })
    (iter n (read_step w addrs mem adr) (record { net = st.net; out = cleared w st.out }))

-- what is right of it: the word at the address, or 0 where that is not listed
pub record ReadLaw (n w : ℕ) (addrs mem adr : List ℕ) (s t : Word) : Type 0 where
  pub ext : Ext s.net t.net (n * (4 * w - 1))
  pub long : length t.out ≡ length s.out
  pub rest : (j : ℕ) → w ≤ j → get_or t.out j 0 ≡ get_or s.out j 0
  pub hit : (e : Assign) → Obeys t.net e → (i : ℕ) → i < n → get_or addrs i 0 ≡ num e adr w → num e t.out w ≡ word_num e mem i w
  pub miss : (e : Assign) → Obeys t.net e → ((i : ℕ) → i < n → get_or addrs i 0 ≡ num e adr w → ⊥) → num e t.out w ≡ 0
  pub formed : Room t.net.gates t.net.n → Below s.net.n mem (n * w) → Below s.net.n adr w → Formed s.net → Formed t.net × Below t.net.n t.out w
  pub known : Below 2 adr w → (t.net ≡ s.net) × (Below 2 mem (n * w) → Below 2 t.out w)
