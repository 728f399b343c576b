-- Mul: for each digit i of the right operand, the row of left bits 0 to width−1−i And digit, placed i up, then one adder chain onto the sum,
-- which starts known false.
use Rattle.std.specs.Prelude.{◌≡◌, List, ℕ, ◌+◌, ◌*◌, ◌-◌, ◌^◌, ◌%◌, ◌≤◌, ◌<◌, get_or, length}
use Rattle.loops.specs.Loop.{iter, bit}
use Rattle.netlist.specs.Record.{Room}
use Rattle.netlist.specs.Net.{Net, Assign, Obeys}
use Rattle.gates.specs.Law.{Ext, Formed}
use Rattle.digits.specs.Digits.{Below, put_digits}
use Rattle.words.specs.declared.each.Bitwise.TheVariants.{AndWith}
use Rattle.words.specs.Num.{num, blank}
use Rattle.words.specs.Each.{Word, each_bit}
use Rattle.words.specs.Add.{Chain, add_onto}

-- the row of a digit: the first k left bits, each And the digit
abbrev pub row_of : List ℕ → ℕ → ℕ → Net → Word
row_of left digit k s = each_bit (AndWith digit) left left k (record { net = s; out = blank })

-- placed i up, added onto the sum
unfoldable pub mul_step : ℕ → List ℕ → List ℕ → ℕ → Word → Word
mul_step w left right i st =
    let r : Word = row_of left (get_or right i 0) (w - i) st.net in
    let c : Chain = add_onto i r.out (w - i) (record { net = r.net; carry = 0; out = st.out }) in
    record { net = c.net; out = c.out }

-- the sum starts as the digits of 0
abbrev pub mul_words : ℕ → List ℕ → List ℕ → Word → Word
mul_words w left right st = iter w (mul_step w left right) (record { net = st.net; out = put_digits 0 w st.out })

abbrev pub mul_cost : ℕ → ℕ
mul_cost w = 2 * (w * (w + 1))

-- what is right of a row
pub record RowLaw (left : List ℕ) (digit k : ℕ) (s : Net) (t : Word) : Type 0 where
  pub ext : Ext s t.net k
  pub value : (e : Assign) → Obeys t.net e → num e t.out k ≡ num e left k * bit (e digit)
  pub formed : Room t.net.gates t.net.n → Below s.n left k → digit < s.n → Formed s → Formed t.net × Below t.net.n t.out k
  pub known : Below 2 left k → digit < 2 → (t.net ≡ s) × Below 2 t.out k

-- what is right of a word of k bits added i up onto a sum of w = i + k
pub record OntoLaw (w i k : ℕ) (right : List ℕ) (s t : Chain) : Type 0 where
  pub ext : Ext s.net t.net (3 * k)
  pub long : length t.out ≡ length s.out
  pub rest : (j : ℕ) → w ≤ j → get_or t.out j 0 ≡ get_or s.out j 0
  pub value : (e : Assign) → Obeys t.net e → num e t.out w + 2 ^ w * bit (e t.carry) ≡ num e s.out w + 2 ^ i * (num e right k + bit (e s.carry))
  pub formed : Room t.net.gates t.net.n → Below s.net.n s.out w → Below s.net.n right k → s.carry < s.net.n → Formed s.net
      → Formed t.net × (t.carry < t.net.n) × Below t.net.n t.out w
  pub known : Below 2 s.out w → Below 2 right k → s.carry < 2 → (t.net ≡ s.net) × (t.carry < 2) × Below 2 t.out w

-- what is right of a product
pub record MulLaw (w : ℕ) (left right : List ℕ) (s t : Word) : Type 0 where
  pub ext : Ext s.net t.net (mul_cost w)
  pub long : length t.out ≡ length s.out
  pub rest : (j : ℕ) → w ≤ j → get_or t.out j 0 ≡ get_or s.out j 0
  pub value : (e : Assign) → Obeys t.net e → num e t.out w ≡ num e left w * num e right w % 2 ^ w
  pub formed : Room t.net.gates t.net.n → Below s.net.n left w → Below s.net.n right w → Formed s.net → Formed t.net × Below t.net.n t.out w
  pub known : Below 2 left w → Below 2 right w → (t.net ≡ s.net) × Below 2 t.out w
