-- Quotient times divisor as Mul (quotient left). In row i, after the kept bits, each quotient bit of place width−i or more is Anded with digit i
-- and constrained false; then the chain, its last carry constrained false.
use Rattle.std.specs.Prelude.{◌≡◌, List, ◌↔◌, ℕ, ◌+◌, ◌*◌, ◌-◌, ◌^◌, ◌<◌, get_or, length, take, drop}
use Rattle.loops.specs.Loop.{iter, sum}
use Rattle.netlist.specs.Record.{Room}
use Rattle.netlist.specs.Net.{Net, Assign, Obeys}
use Rattle.division.specs.declared.lists.Lists.{Lists}
use Rattle.gates.specs.Made.{net_of, SameList}
use Rattle.gates.specs.Law.{Ext, Formed}
use Rattle.digits.specs.Digits.{Below}
use Rattle.words.specs.Num.{num, blank}
use Rattle.words.specs.Each.{Word}
use Rattle.words.specs.Add.{Chain, add_onto}
use Rattle.words.specs.Mul.{row_of}
use Rattle.division.specs.Constraint.{Cons, cons_in, ConRoom, constrain, constrain_each, Holds, Within, More, SameCons}

-- a word, the net that has its gates, and the constraints
pub record Checked : Type 0 where
  pub net : Net
  pub cons : Cons
  pub out : List ℕ

abbrev pub checked_of : Lists → List ℕ → Checked
checked_of l out = record { net = net_of l.gates; cons = cons_in l.cons; out = out }

abbrev pub SameLists : Lists → Lists → Type 0
SameLists old new = SameList old.gates new.gates × SameCons old.cons new.cons

-- the places from a up to b of a word
abbrev pub places : ℕ → ℕ → List ℕ → List ℕ
places a b bits = take (b - a) (drop a bits)

unfoldable pub row_step : ℕ → List ℕ → List ℕ → ℕ → Checked → Checked
row_step w quot den i st =
    let d : ℕ = get_or den i 0 in
    let kept : Word = row_of quot d (w - i) st.net in
    let lost : Word = row_of (places (w - i) w quot) d i kept.net in
    let c : Chain = add_onto i kept.out (w - i) (record { net = lost.net; carry = 0; out = st.out }) in
    record { net = c.net; cons = constrain (constrain_each lost.out 0 i st.cons) c.carry 0; out = c.out }

-- the sum starts known false
abbrev pub div_rows : ℕ → List ℕ → List ℕ → Net → Cons → Checked
div_rows w quot den s c = iter w (row_step w quot den) (record { net = s; cons = c; out = blank })

-- what the first i rows make
abbrev pub rows_cost : ℕ → ℕ → ℕ
rows_cost w i = sum i (λ j. 4 * (w - j) + j)

abbrev pub rows_count : ℕ → ℕ
rows_count i = sum i (λ j. j + 1)

-- what is right of the first i rows: their constraints hold where the product so far fits in w bits; k is what is lost above
pub record RowsLaw (w : ℕ) (quot den : List ℕ) (s : Checked) (i : ℕ) (t : Checked) : Type 0 where
  pub ext : Ext s.net t.net (rows_cost w i)
  pub more : More s.cons t.cons (rows_count i)
  pub long : length t.out ≡ length s.out
  pub value : (e : Assign) → Obeys t.net e → (k : ℕ) × (num e t.out w + 2 ^ w * k ≡ num e quot w * num e den i)
  pub holds : (e : Assign) → Obeys t.net e → ConRoom t.cons → Holds e t.cons.list s.cons.m t.cons.m ↔ (num e quot w * num e den i < 2 ^ w)
  pub formed : Room t.net.gates t.net.n → Below s.net.n quot w → Below s.net.n den w → Formed s.net → Formed t.net × Below t.net.n t.out w
  pub within : Room t.net.gates t.net.n → ConRoom t.cons → Below s.net.n quot w → Below s.net.n den w → Formed s.net
      → Within t.net.n t.cons.list s.cons.m t.cons.m
