-- Divu, rem: wholly known operands are divided as numbers. Otherwise, where the divisor is known to be zero, the answers are all ones and the
-- dividend; else Quotient and Remainder gates and their constraints, over a divisor that is not zero.
use Rattle.std.specs.Prelude.{◌≡◌, List, ◌⊎◌, ◌↔◌, Bool, false, ◌&&◌, ℕ, ◌+◌, ◌*◌, ◌-◌, ◌/◌, ◌≤◌, ◌<◌, eqb, get_or}
use Rattle.loops.specs.Loop.{pick}
use Rattle.netlist.specs.Record.{gate_at, Room}
use Rattle.netlist.specs.Kind.{free}
use Rattle.netlist.specs.Net.{Assign, Obeys}
use Rattle.division.specs.declared.lists.Lists.{Lists}
use Rattle.gates.specs.Made.{MadeBit, gate_quotient, gate_remainder}
use Rattle.gates.specs.Law.{Grows, Formed}
use Rattle.digits.specs.Digits.{Below, Parts, all_known, number}
use Rattle.words.specs.Num.{num, blank}
use Rattle.words.specs.Each.{Word, put_bits}
use Rattle.division.specs.Constraint.{ConRoom, Holds, Within, More}
use Rattle.division.specs.Rows.{Checked}
use Rattle.division.specs.Check.{Book, book_of, check_words, Divides, con_count}
use Rattle.division.specs.Pair.{Pair, pair_words}
use Rattle.division.specs.Known.{answer_of, known_word}
use Rattle.division.specs.Zero.{nonzero, zero_bit, raised, zero_word, chosen}

-- both words, their gates and constraints
pub record Divided : Type 0 where
  pub book : Book
  pub quot : List ℕ
  pub rem : List ℕ

abbrev pub divided_of : Lists → List ℕ → List ℕ → Divided
divided_of l q r = record { book = book_of l; quot = q; rem = r }

unfoldable pub div_words : ℕ → ℕ → List ℕ → List ℕ → Book → Divided
div_words w node n d s =
    let f : Pair = pair_words w node (record { net = s.net; quot = blank; rem = blank }) in
    record { book = check_words w f.quot f.rem n d (record { net = f.net; cons = s.cons }); quot = f.quot; rem = f.rem }

-- the gates, the constraints and the word of a division by a divisor that is zero or not as z says
unfoldable pub free_word : Bool → ℕ → ℕ → List ℕ → List ℕ → ℕ → Checked → Checked
free_word quotient w node n d z st =
    let r : Word = raised w d z st.net in
    let t : Divided = div_words w node n r.out (record { net = r.net; cons = st.cons }) in
    let x : Word = chosen quotient w z n t.quot t.rem (record { net = t.book.net; out = st.out }) in
    record { net = x.net; cons = t.book.cons; out = x.out }

-- operands that are not both wholly known
unfoldable pub by_zero : Bool → ℕ → ℕ → List ℕ → List ℕ → Checked → Checked
by_zero quotient w node n d st =
    let z : MadeBit = zero_bit w d st.net in
    pick (eqb z.bit 1)
    (record { net = z.net; cons = st.cons; out = put_bits 0 (zero_word quotient n) w st.out })
    (free_word quotient w node n d z.bit (record { net = z.net; cons = st.cons; out = st.out }))

unfoldable pub divide_words : Bool → ℕ → ℕ → List ℕ → List ℕ → Checked → Checked
divide_words quotient w node n d st =
    pick (all_known w n && all_known w d)
    (record { net = st.net; cons = st.cons; out = known_word quotient w n d st.out })
    (by_zero quotient w node n d st)

abbrev pub div_cost : ℕ → ℕ
div_cost w = 2 * (w * w) + 13 * w + 1 + w * (w - 1) / 2

-- what is right of a division by gates: the equivalence for every assignment that obeys; exactly the 2w Quotient and Remainder gates are free
pub record DivLaw (w node : ℕ) (n d : List ℕ) (s : Book) (t : Divided) : Type 0 where
  pub grows : Grows s.net t.book.net (div_cost w)
  pub more : More s.cons t.book.cons (con_count w)
  pub holds : (e : Assign) → Obeys t.book.net e → ConRoom t.book.cons
      → Holds e t.book.cons.list s.cons.m t.book.cons.m ↔ Divides w t.quot t.rem n d e
  pub formed : Room t.book.net.gates t.book.net.n → Below s.net.n n w → Below s.net.n d w → Formed s.net → Formed t.book.net
  pub within : Room t.book.net.gates t.book.net.n → ConRoom t.book.cons → Below s.net.n n w → Below s.net.n d w → Formed s.net
      → Within t.book.net.n t.book.cons.list s.cons.m t.book.cons.m
  pub room : s.net.n + 2 * w ≤ t.book.net.n
  pub quots : (i : ℕ) → i < w → get_or t.quot i 0 ≡ s.net.n + 2 * i
  pub rems : (i : ℕ) → i < w → get_or t.rem i 0 ≡ s.net.n + 2 * i + 1
  pub gates : Room t.book.net.gates t.book.net.n → (i : ℕ) → i < w
      → (gate_at t.book.net.gates (s.net.n + 2 * i) ≡ gate_quotient node i) × (gate_at t.book.net.gates (s.net.n + 2 * i + 1) ≡ gate_remainder node i)
  pub bound : Room t.book.net.gates t.book.net.n → (i : ℕ) → s.net.n + 2 * w ≤ i → i < t.book.net.n → free (gate_at t.book.net.gates i).kind ≡ false

-- with z, the Or and the choice
abbrev pub free_cost : ℕ → ℕ
free_cost w = div_cost w + 3 * w + 1

abbrev pub divide_cost : ℕ → ℕ
divide_cost w = 2 * (w * w) + 18 * w + 1 + w * (w - 1) / 2

-- what is right of a division that makes no gate and records no constraint: of known operands, or by a divisor that is known to be zero
pub record PlainLaw (quotient : Bool) (w : ℕ) (n d : List ℕ) (st t : Checked) : Type 0 where
  pub grows : Grows st.net t.net (divide_cost w)
  pub same : 2 ≤ st.net.n → t.net ≡ st.net
  pub cons : t.cons ≡ st.cons
  pub below : (b : ℕ) → 2 ≤ b → Below b n w → Below b t.out w
  pub value : (e : Assign) → Obeys t.net e → num e t.out w ≡ answer_of quotient w (num e n w) (num e d w)

-- what is right of one by gates: its new free gates are 2w, Quotient and Remainder by turns from the gate `from` on; for every assignment that obeys,
-- the constraints hold exactly if they are the quotient and the remainder by the divisor, or by 1 where that is zero; and then the word is the answer
pub record DividedLaw (quotient : Bool) (w node : ℕ) (n d : List ℕ) (st t : Checked) : Type 0 where
  pub from : ℕ
  pub low : st.net.n ≤ from
  pub high : from + 2 * w ≤ t.net.n
  pub unknown : Below 2 n w → Below 2 d w → ⊥
  pub grows : Grows st.net t.net (divide_cost w)
  pub more : More st.cons t.cons (con_count w)
  pub formed : Room t.net.gates t.net.n → Below st.net.n n w → Below st.net.n d w → Formed st.net → Formed t.net × Below t.net.n t.out w
  pub within : Room t.net.gates t.net.n → ConRoom t.cons → Below st.net.n n w → Below st.net.n d w → Formed st.net
      → Within t.net.n t.cons.list st.cons.m t.cons.m
  pub gates : Room t.net.gates t.net.n → (i : ℕ) → i < w
      → (gate_at t.net.gates (from + 2 * i) ≡ gate_quotient node i) × (gate_at t.net.gates (from + 2 * i + 1) ≡ gate_remainder node i)
  pub before : Room t.net.gates t.net.n → (i : ℕ) → st.net.n ≤ i → i < from → free (gate_at t.net.gates i).kind ≡ false
  pub after : Room t.net.gates t.net.n → (i : ℕ) → from + 2 * w ≤ i → i < t.net.n → free (gate_at t.net.gates i).kind ≡ false
  pub holds : (e : Assign) → Obeys t.net e → ConRoom t.cons
      → Holds e t.cons.list st.cons.m t.cons.m ↔ Parts (number (λ i. e (from + 2 * i)) w) (number (λ i. e (from + 2 * i + 1)) w) (num e n w) (nonzero (num e d w))
  pub value : (e : Assign) → Obeys t.net e → Parts (number (λ i. e (from + 2 * i)) w) (number (λ i. e (from + 2 * i + 1)) w) (num e n w) (nonzero (num e d w))
      → num e t.out w ≡ answer_of quotient w (num e n w) (num e d w)

-- what is right of every division
abbrev pub DivideLaw : Bool → ℕ → ℕ → List ℕ → List ℕ → Checked → Checked → Type 0
DivideLaw quotient w node n d st t = PlainLaw quotient w n d st t ⊎ DividedLaw quotient w node n d st t
