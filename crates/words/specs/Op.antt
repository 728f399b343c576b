-- The plain operations over bits, and what is right of every one.
use Rattle.std.specs.Prelude.{◌≡◌, List, Bool, true, ℕ, set}
use Rattle.netlist.specs.Record.{Room}
use Rattle.netlist.specs.Net.{Net, Assign, Obeys}
use Rattle.gates.specs.Made.{MadeBit}
use Rattle.gates.specs.Law.{Ext, Formed}
use Rattle.digits.specs.Digits.{Below}
use Rattle.digits.specs.Op.{Op, op_not, op_and, op_or, op_eq, op_add, op_sub, op_ult, op_mul, op_sll, op_srl, op_two, op_wide, op_value, op_gates}
use Rattle.words.specs.declared.each.Bitwise.TheVariants.{Not, And, Or}
use Rattle.words.specs.declared.shift.Direction.TheVariants.{Left, Right}
use Rattle.words.specs.Num.{num, blank}
use Rattle.words.specs.Each.{Word, each_bit}
use Rattle.words.specs.Add.{Chain, add_words}
use Rattle.words.specs.Sub.{sub_words, ult_words}
use Rattle.words.specs.Eq.{eq_words}
use Rattle.words.specs.Mul.{mul_words}
use Rattle.words.specs.Shift.{shift_words}

-- a word over a blank, and the net unchanged
abbrev pub as_is : Net → List ℕ → Word
as_is s out = record { net = s; out = out }

abbrev pub fresh : Net → Word
fresh s = as_is s blank

abbrev pub of_chain : Chain → Word
of_chain c = as_is c.net c.out

-- a bit that was made, in front of the others
abbrev pub in_front : List ℕ → MadeBit → Word
in_front out m = as_is m.net (set out 0 m.bit)

-- the word of an operation over the bits A and B, which are v wide, put into `out`
unfoldable pub op_into : Op → ℕ → List ℕ → List ℕ → List ℕ → Net → Word
op_into op_not v A B out s = each_bit Not A A v (as_is s out)
op_into op_and v A B out s = each_bit And A B v (as_is s out)
op_into op_or v A B out s = each_bit Or A B v (as_is s out)
op_into op_eq v A B out s = in_front out (eq_words v A B s)
op_into op_add v A B out s = of_chain (add_words v A B (record { net = s; carry = 0; out = out }))
op_into op_sub v A B out s = of_chain (sub_words v A B s out)
op_into op_ult v A B out s = in_front out (ult_words v A B s)
op_into op_mul v A B out s = mul_words v A B (as_is s out)
op_into op_sll v A B out s = shift_words Left v A B (as_is s out)
op_into op_srl v A B out s = shift_words Right v A B (as_is s out)

abbrev pub op_word : Op → ℕ → List ℕ → List ℕ → Net → Word
op_word o v A B s = op_into o v A B blank s

-- what is right of a word w wide that is made of A and B, with at most c gates, and says f of their numbers; where it is made of A alone, nothing
-- is asked of B
pub record WordLaw (v : ℕ) (A B : List ℕ) (s : Net) (two : Bool) (w c : ℕ) (f : ℕ → ℕ → ℕ) (t : Word) : Type 0 where
  pub ext : Ext s t.net c
  pub value : (e : Assign) → Obeys t.net e → num e t.out w ≡ f (num e A v) (num e B v)
  pub formed : Room t.net.gates t.net.n → Below s.n A v → (two ≡ true → Below s.n B v) → Formed s → Formed t.net × Below t.net.n t.out w
  pub known : Below 2 A v → (two ≡ true → Below 2 B v) → (t.net ≡ s) × Below 2 t.out w

abbrev pub OpLaw : Op → ℕ → List ℕ → List ℕ → Net → Word → Type 0
OpLaw o v A B s t = WordLaw v A B s (op_two o) (op_wide o v) (op_gates o v) (op_value o v) t
