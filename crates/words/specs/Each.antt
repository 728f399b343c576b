-- Words that are made bit by bit.
use Rattle.std.specs.Prelude.{◌≡◌, List, Bool, not, ◌&&◌, ◌||◌, ℕ, ◌+◌, ◌≤◌, ◌<◌, get_or, set, length}
use Rattle.loops.specs.Loop.{pick, iter, sum}
use Rattle.netlist.specs.Record.{Room}
use Rattle.netlist.specs.Kind.{xor}
use Rattle.netlist.specs.Net.{Net, Assign, Obeys}
use Rattle.gates.specs.declared.list.GateList.{GateList}
use Rattle.gates.specs.Made.{MadeBit, net_of}
use Rattle.gates.specs.Fold.{not_bit, and_bit, or_bit, xnor_bit, not_cost, xnor_cost}
use Rattle.gates.specs.Choice.{mux_bit}
use Rattle.gates.specs.Law.{Ext, Formed}
use Rattle.digits.specs.Digits.{Below}
use Rattle.words.specs.declared.each.Bitwise.{Bitwise}
use Rattle.words.specs.declared.each.Bitwise.TheVariants.{Not, And, Or, Xnor, AndWith, Choose, Clear}

-- the bit that is made of a left and a right one
unfoldable pub bitwise : Bitwise → Net → ℕ → ℕ → MadeBit
bitwise Not s a b = not_bit s a
bitwise And s a b = and_bit s a b
bitwise Or s a b = or_bit s a b
bitwise Xnor s a b = xnor_bit s a b
bitwise (AndWith c) s a b = and_bit s a c
bitwise (Choose c) s a b = mux_bit s c a b
bitwise (Clear c) s a b = mux_bit s c 0 b

-- its value
unfoldable pub bit_value : Bitwise → Assign → ℕ → ℕ → Bool
bit_value Not e a b = not (e a)
bit_value And e a b = e a && e b
bit_value Or e a b = e a || e b
bit_value Xnor e a b = not (xor (e a) (e b))
bit_value (AndWith c) e a b = e a && e c
bit_value (Choose c) e a b = pick (e c) (e a) (e b)
bit_value (Clear c) e a b = not (e c) && e b

-- how many gates it makes at most
unfoldable pub bit_cost : Bitwise → ℕ → ℕ → ℕ
bit_cost Not a b = not_cost a
bit_cost And a b = 1
bit_cost Or a b = 1
bit_cost Xnor a b = xnor_cost a b
bit_cost (AndWith c) a b = 1
bit_cost (Choose c) a b = 3
bit_cost (Clear c) a b = 1

-- the bits that it looks at are below n
unfoldable pub bit_below : Bitwise → ℕ → ℕ → ℕ → Type 0
bit_below Not n a b = a < n
bit_below And n a b = (a < n) × (b < n)
bit_below Or n a b = (a < n) × (b < n)
bit_below Xnor n a b = (a < n) × (b < n)
bit_below (AndWith c) n a b = (a < n) × (c < n)
bit_below (Choose c) n a b = (c < n) × (a < n) × (b < n)
bit_below (Clear c) n a b = (c < n) × (b < n)

-- a word, and the net that has its gates
pub record Word : Type 0 where
  pub net : Net
  pub out : List ℕ

abbrev pub word_of : GateList → List ℕ → Word
word_of l out = record { net = net_of l; out = out }

-- a bit that was made, put at place i
abbrev pub placed : MadeBit → ℕ → List ℕ → Word
placed m i out = record { net = m.net; out = set out i m.bit }

unfoldable pub each_step : Bitwise → List ℕ → List ℕ → ℕ → Word → Word
each_step op left right i st = placed (bitwise op st.net (get_or left i 0) (get_or right i 0)) i st.out

-- lowest bit first
abbrev pub each_bit : Bitwise → List ℕ → List ℕ → ℕ → Word → Word
each_bit op left right w st = iter w (each_step op left right) st

abbrev pub each_cost : Bitwise → List ℕ → List ℕ → ℕ → ℕ
each_cost op left right w = sum w (λ i. bit_cost op (get_or left i 0) (get_or right i 0))

-- what is right of it
pub record EachLaw (op : Bitwise) (left right : List ℕ) (s : Word) (w : ℕ) (t : Word) : Type 0 where
  pub ext : Ext s.net t.net (each_cost op left right w)
  pub long : length t.out ≡ length s.out
  pub rest : (j : ℕ) → w ≤ j → get_or t.out j 0 ≡ get_or s.out j 0
  pub value : (e : Assign) → Obeys t.net e → (i : ℕ) → i < w → e (get_or t.out i 0) ≡ bit_value op e (get_or left i 0) (get_or right i 0)
  pub formed : Room t.net.gates t.net.n → ((i : ℕ) → i < w → bit_below op s.net.n (get_or left i 0) (get_or right i 0)) → Formed s.net
      → Formed t.net × Below t.net.n t.out w
  pub known : ((i : ℕ) → i < w → bit_below op 2 (get_or left i 0) (get_or right i 0)) → t.net ≡ s.net
  pub known_at : (i : ℕ) → i < w → bit_below op 2 (get_or left i 0) (get_or right i 0) → get_or t.out i 0 < 2

-- a word's bits put into a list from a place on
unfoldable pub copy_step : ℕ → List ℕ → ℕ → List ℕ → List ℕ
copy_step from bits i map = set map (from + i) (get_or bits i 0)

abbrev pub put_bits : ℕ → List ℕ → ℕ → List ℕ → List ℕ
put_bits from bits w map = iter w (copy_step from bits) map

-- after that the bits stand there, and every other place is as before
pub record Put (from : ℕ) (bits map : List ℕ) (w : ℕ) (out : List ℕ) : Type 0 where
  pub long : length out ≡ length map
  pub there : (j : ℕ) → j < w → get_or out (from + j) 0 ≡ get_or bits j 0
  pub below : (k : ℕ) → k < from → get_or out k 0 ≡ get_or map k 0
  pub above : (k : ℕ) → from + w ≤ k → get_or out k 0 ≡ get_or map k 0
