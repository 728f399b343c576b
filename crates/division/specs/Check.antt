-- Then the remainder is added, carry constrained false; each Xnor of dividend and sum is constrained true; remainder ult divisor is constrained
-- true.
use Rattle.std.specs.Prelude.{◌≡◌, List, ◌↔◌, ℕ, ◌+◌, ◌*◌, ◌-◌, ◌/◌, ◌<◌}
use Rattle.netlist.specs.Record.{Room}
use Rattle.netlist.specs.Net.{Net, Assign, Obeys}
use Rattle.division.specs.declared.lists.Lists.{Lists}
use Rattle.gates.specs.Made.{MadeBit, net_of}
use Rattle.gates.specs.Law.{Ext, Formed}
use Rattle.digits.specs.Digits.{Below}
use Rattle.words.specs.declared.each.Bitwise.TheVariants.{Xnor}
use Rattle.words.specs.Num.{num, blank}
use Rattle.words.specs.Each.{Word, each_bit}
use Rattle.words.specs.Add.{Chain, add_onto}
use Rattle.words.specs.Sub.{ult_words}
use Rattle.words.specs.Mul.{mul_cost}
use Rattle.division.specs.Constraint.{Cons, cons_in, ConRoom, constrain, constrain_each, Holds, Within, More}
use Rattle.division.specs.Rows.{Checked, div_rows}

-- a net and the constraints on it
pub record Book : Type 0 where
  pub net : Net
  pub cons : Cons

abbrev pub book_of : Lists → Book
book_of l = record { net = net_of l.gates; cons = cons_in l.cons }

-- quotient times divisor, and the remainder added
unfoldable pub sum_words : ℕ → List ℕ → List ℕ → List ℕ → Book → Checked
sum_words w quot rem d s =
    let p : Checked = div_rows w quot d s.net s.cons in
    let c : Chain = add_onto 0 rem w (record { net = p.net; carry = 0; out = p.out }) in
    record { net = c.net; cons = constrain p.cons c.carry 0; out = c.out }

unfoldable pub check_words : ℕ → List ℕ → List ℕ → List ℕ → List ℕ → Book → Book
check_words w quot rem n d s =
    let p : Checked = sum_words w quot rem d s in
    let x : Word = each_bit Xnor n p.out w (record { net = p.net; out = blank }) in
    let u : MadeBit = ult_words w rem d x.net in
    record { net = u.net; cons = constrain (constrain_each x.out 1 w p.cons) u.bit 1 }

-- what the constraints say, of natural numbers with no modulus
abbrev pub Divides : ℕ → List ℕ → List ℕ → List ℕ → List ℕ → Assign → Type 0
Divides w quot rem n d e = (num e quot w * num e d w + num e rem w ≡ num e n w) × (num e rem w < num e d w)

abbrev pub sum_cost : ℕ → ℕ
sum_cost w = mul_cost w + w * (w - 1) / 2 + 3 * w

abbrev pub sum_count : ℕ → ℕ
sum_count w = w * (w - 1) / 2 + w + 1

abbrev pub check_cost : ℕ → ℕ
check_cost w = mul_cost w + w * (w - 1) / 2 + 9 * w + 1

abbrev pub con_count : ℕ → ℕ
con_count w = w * (w - 1) / 2 + 2 * w + 2

-- what is right of the check of any four words: all its constraints hold exactly if they say quot · d + rem ≡ n and rem < d
pub record CheckLaw (w : ℕ) (quot rem n d : List ℕ) (s t : Book) : Type 0 where
  pub ext : Ext s.net t.net (check_cost w)
  pub more : More s.cons t.cons (con_count w)
  pub holds : (e : Assign) → Obeys t.net e → ConRoom t.cons → Holds e t.cons.list s.cons.m t.cons.m ↔ Divides w quot rem n d e
  pub formed : Room t.net.gates t.net.n → Below s.net.n quot w → Below s.net.n rem w → Below s.net.n n w → Below s.net.n d w → Formed s.net
      → Formed t.net
  pub within : Room t.net.gates t.net.n → ConRoom t.cons → Below s.net.n quot w → Below s.net.n rem w → Below s.net.n n w → Below s.net.n d w
      → Formed s.net → Within t.net.n t.cons.list s.cons.m t.cons.m
