-- The adder chain: a word added onto a sum, from a place on; lowest bit first, the top carry is made too.
use Rattle.std.specs.Prelude.{◌≡◌, List, ℕ, ◌+◌, ◌*◌, ◌^◌, ◌≤◌, ◌<◌, get_or, set, length}
use Rattle.loops.specs.Loop.{iter, sum, bit}
use Rattle.netlist.specs.Record.{Room}
use Rattle.netlist.specs.Net.{Net, Assign, Obeys}
use Rattle.gates.specs.declared.list.GateList.{GateList}
use Rattle.gates.specs.Made.{MadeSum, net_of}
use Rattle.gates.specs.Adder.{adder_bit, adder_cost}
use Rattle.gates.specs.Law.{Ext, Formed}
use Rattle.digits.specs.Digits.{Below}
use Rattle.words.specs.Num.{num}
use Rattle.words.specs.Each.{put_bits}

pub record Chain : Type 0 where
  pub net : Net
  pub carry : ℕ
  pub out : List ℕ

abbrev pub chain_of : GateList → ℕ → List ℕ → Chain
chain_of l c out = record { net = net_of l; carry = c; out = out }

-- bit j of the right word added to the sum's bit at from + j
unfoldable pub add_step : ℕ → List ℕ → ℕ → Chain → Chain
add_step from right j st =
    let m : MadeSum = adder_bit st.net (get_or st.out (from + j) 0) (get_or right j 0) st.carry in
    record { net = m.net; carry = m.carry; out = set st.out (from + j) m.sum }

abbrev pub add_onto : ℕ → List ℕ → ℕ → Chain → Chain
add_onto from right w st = iter w (add_step from right) st

abbrev pub chain_cost : ℕ → List ℕ → List ℕ → ℕ → ℕ
chain_cost from out right w = sum w (λ j. adder_cost (get_or out (from + j) 0) (get_or right j 0))

abbrev pub add_cost : List ℕ → List ℕ → ℕ → ℕ
add_cost left right w = sum w (λ j. adder_cost (get_or left j 0) (get_or right j 0))

-- two words: the left one is the sum that the right one is added onto
abbrev pub add_words : ℕ → List ℕ → List ℕ → Chain → Chain
add_words w left right st = add_onto 0 right w (record { net = st.net; carry = st.carry; out = put_bits 0 left w st.out })

-- what is right of a chain of w adders
pub record ChainLaw (from : ℕ) (right : List ℕ) (s : Chain) (w : ℕ) (t : Chain) : Type 0 where
  pub ext : Ext s.net t.net (chain_cost from s.out right w)
  pub long : length t.out ≡ length s.out
  pub below : (k : ℕ) → k < from → get_or t.out k 0 ≡ get_or s.out k 0
  pub above : (k : ℕ) → from + w ≤ k → get_or t.out k 0 ≡ get_or s.out k 0
  pub value : (e : Assign) → Obeys t.net e
      → num e t.out (from + w) + 2 ^ (from + w) * bit (e t.carry) ≡ num e s.out (from + w) + 2 ^ from * (num e right w + bit (e s.carry))
  pub formed : Room t.net.gates t.net.n → Below s.net.n s.out (from + w) → Below s.net.n right w → s.carry < s.net.n → Formed s.net
      → Formed t.net × (t.carry < t.net.n) × Below t.net.n t.out (from + w)
  pub known : Below 2 s.out (from + w) → Below 2 right w → s.carry < 2 → (t.net ≡ s.net) × (t.carry < 2) × Below 2 t.out (from + w)
