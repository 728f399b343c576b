-- Write: a wholly known address replaces the listed word. Otherwise, per listed address: Eq with the address, then value or old bit is chosen by the equality; a known equality picks without gates.
use Rattle.std.specs.Prelude.{◌≡◌, List, ℕ, ◌*◌, ◌-◌, ◌≤◌, ◌<◌, eqb, ltb, length, get_or}
use Rattle.loops.specs.Loop.{pick, iter}
use Rattle.netlist.specs.Record.{Room}
use Rattle.netlist.specs.Net.{Assign, Obeys}
use Rattle.gates.specs.Made.{MadeBit}
use Rattle.gates.specs.Law.{Ext, Formed}
use Rattle.digits.specs.Digits.{Below, all_known, known_number}
use Rattle.words.specs.declared.each.Bitwise.TheVariants.{Choose}
use Rattle.words.specs.Num.{num, blank}
use Rattle.words.specs.Each.{Word, each_bit, put_bits}
use Rattle.memory.specs.Address.{part, listed_at, at_listed, word_num}

-- a known address, a; where it is not listed, nothing changes
unfoldable pub write_known : ℕ → ℕ → List ℕ → ℕ → List ℕ → List ℕ → List ℕ
write_known n w addrs a val mem =
    let i : ℕ = listed_at n addrs a in
    pick (ltb i n) (put_bits (i * w) val w mem) mem

-- one listed address, a, whose word is given: it becomes the value, or stays
unfoldable pub write_one : ℕ → ℕ → List ℕ → List ℕ → Word → Word
write_one w a adr val st =
    let eq : MadeBit = at_listed w a adr st.net in
    each_bit (Choose eq.bit) val st.out w (record { net = eq.net; out = st.out })

-- the listed address of word i; the memory is `out`
unfoldable pub write_step : ℕ → List ℕ → List ℕ → List ℕ → ℕ → Word → Word
write_step w addrs adr val i st =
    let eq : MadeBit = at_listed w (get_or addrs i 0) adr st.net in
    let word : Word = each_bit (Choose eq.bit) val (part i w st.out) w (record { net = eq.net; out = blank }) in
    record { net = word.net; out = put_bits (i * w) word.out w st.out }

unfoldable pub write_words : ℕ → ℕ → List ℕ → List ℕ → List ℕ → Word → Word
write_words n w addrs adr val st =
    pick (all_known w adr)
    (record { net = st.net; out = write_known n w addrs (known_number w adr) val st.out })
    (iter n (write_step w addrs adr val) st)

-- what is right of it: each word is the value where its address is the one written, and the old word elsewhere
pub record WriteLaw (n w : ℕ) (addrs adr val : List ℕ) (s t : Word) : Type 0 where
  pub ext : Ext s.net t.net (n * (5 * w - 1))
  pub long : length t.out ≡ length s.out
  pub rest : (p : ℕ) → n * w ≤ p → get_or t.out p 0 ≡ get_or s.out p 0
  pub value : (e : Assign) → Obeys t.net e → (i : ℕ) → i < n → word_num e t.out i w ≡ pick (eqb (get_or addrs i 0) (num e adr w)) (num e val w) (word_num e s.out i w)
  pub formed : Room t.net.gates t.net.n → Below s.net.n s.out (n * w) → Below s.net.n adr w → Below s.net.n val w → Formed s.net
      → Formed t.net × Below t.net.n t.out (n * w)
  pub known : Below 2 adr w → (t.net ≡ s.net) × (Below 2 s.out (n * w) → Below 2 val w → Below 2 t.out (n * w))
