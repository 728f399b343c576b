-- Sub: Nots of the right bits first, then an adder chain with carry known true. Ult: both sides widened by a known false, Sub, top result bit.
use Rattle.std.specs.Prelude.{◌≡◌, List, ℕ, ◌+◌, ◌*◌, ◌^◌, ltb, get_or, length}
use Rattle.loops.specs.Loop.{bit}
use Rattle.netlist.specs.Record.{Room}
use Rattle.netlist.specs.Net.{Net, Assign, Obeys}
use Rattle.gates.specs.Made.{MadeBit, kept}
use Rattle.gates.specs.Law.{Ext, Formed, BitLaw}
use Rattle.digits.specs.Digits.{Below}
use Rattle.words.specs.declared.each.Bitwise.TheVariants.{Not}
use Rattle.words.specs.Num.{num, blank}
use Rattle.words.specs.Each.{Word, each_bit, each_cost}
use Rattle.words.specs.Extend.{extended}
use Rattle.words.specs.Add.{Chain, add_words, add_cost}

unfoldable pub sub_words : ℕ → List ℕ → List ℕ → Net → List ℕ → Chain
sub_words w left right s out =
    let r : Word = each_bit Not right right w (record { net = s; out = blank }) in
    add_words w left r.out (record { net = r.net; carry = 1; out = out })

abbrev pub sub_cost : List ℕ → List ℕ → ℕ → ℕ
sub_cost left right w = each_cost Not right right w + add_cost left right w

unfoldable pub ult_words : ℕ → List ℕ → List ℕ → Net → MadeBit
ult_words w left right s =
    let c : Chain = sub_words (w + 1) (extended 0 w left) (extended 0 w right) s blank in
    kept c.net (get_or c.out w 0)

-- what is right of a subtraction
pub record SubLaw (w : ℕ) (left right : List ℕ) (s : Net) (out : List ℕ) (t : Chain) : Type 0 where
  pub ext : Ext s t.net (sub_cost left right w)
  pub long : length t.out ≡ length out
  pub value : (e : Assign) → Obeys t.net e → num e t.out w + 2 ^ w * bit (e t.carry) + num e right w ≡ num e left w + 2 ^ w
  pub formed : Room t.net.gates t.net.n → Below s.n left w → Below s.n right w → Formed s → Formed t.net × Below t.net.n t.out w
  pub known : Below 2 left w → Below 2 right w → (t.net ≡ s) × Below 2 t.out w

-- and of less-than
abbrev pub UltLaw : ℕ → List ℕ → List ℕ → Net → MadeBit → Type 0
UltLaw w left right s m =
    BitLaw s (Below s.n left w × Below s.n right w) (Below 2 left w × Below 2 right w) (λ e. ltb (num e left w) (num e right w)) (4 * w + 1) m
