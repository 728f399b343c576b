-- How many gates and constraints an operation makes: rules for the room that a next call asks for.
use mathlib.Core.Path.{◌≡◌, ap, sym, ◌∙◌}
use mathlib.Core.List.{List}
use mathlib.Core.Bool.{Bool, true, ◌&&◌}
use Prim.Native.Nat.{ℕ, ◌-◌, ◌+◌, ◌*◌, ◌/◌, ◌≤◌, ◌<◌}
use native.Mathlib.Omega.{arith}
use lib.ListN.{length, set}
use Rattle.loops.specs.Loop.{iter}
use Rattle.loops.proofs.Loop.{both}
use Rattle.netlist.specs.Net.{Net}
use Rattle.gates.specs.declared.list.GateList.{GateList}
use Rattle.gates.specs.Made.{MadeBit, net_of, made_of, added, gate_quotient, gate_remainder}
use Rattle.digits.specs.Digits.{Below, all_known}
use Rattle.digits.proofs.Words.{all_true}
use Rattle.words.specs.declared.each.Bitwise.TheVariants.{Xnor, AndWith}
use Rattle.words.specs.Num.{blank}
use Rattle.words.specs.Each.{Word, word_of, each_bit}
use Rattle.words.specs.Add.{Chain, add_onto}
use Rattle.words.specs.Mul.{row_of, mul_cost}
use Rattle.words.proofs.Sums.{sum-within}
use Rattle.words.proofs.NumLaws.{blank-long}
use Rattle.words.proofs.EachLaws.{each-ext, choose-cost}
use Rattle.words.proofs.AddLaws.{onto-law, chain-three}
use Rattle.words.proofs.MulStep.{row-cost}
use Rattle.division.specs.declared.lists.Lists.{Lists}
use Rattle.division.specs.Constraint.{Cons, constrain_each}
use Rattle.division.specs.Rows.{Checked, checked_of, row_step, div_rows}
use Rattle.division.specs.Check.{Book, sum_words, sum_cost, sum_count}
use Rattle.division.specs.Pair.{Pair, pair_of, pair_step, pair_words}
use Rattle.division.specs.Zero.{zero_bit, raised}
use Rattle.division.specs.Divide.{div_words, div_cost}
use Rattle.division.proofs.ConstraintLaws.{each_more}
use Rattle.division.proofs.RowLaws.{rows-law}
use Rattle.division.proofs.CheckLaws.{cost-all, count-all, xnors-cost, sum-upto, sum_more}
use Rattle.division.proofs.PairLaws.{pair-law}
use Rattle.division.proofs.ZeroLaws.{zero-law, raised-law, zero-cost}
use Rattle.division.proofs.DivideLaws.{div-law}

pub each-count : (bits : List ℕ) (v k : ℕ) (s : Cons) → (constrain_each bits v k s).m ≡ s.m + k
each-count bits v k s = (each_more bits v s k).count

pub row-upto : (bits : List ℕ) (digit k : ℕ) (s : Net) → (row_of bits digit k s).net.n ≤ s.n + k
row-upto bits digit k s = omega (arith, (each-ext (AndWith digit) bits bits (record { net = s; out = blank }) k).grows.upto, row-cost bits digit k)

pub row-most : (bits : List ℕ) (digit k : ℕ) (l l' : GateList) (out : List ℕ) → word_of l' out ≡ row_of bits digit k (net_of l) → l'.n ≤ l.n + k
row-most bits digit k l l' out e = omega (arith, row-upto bits digit k (net_of l), ap (λ (x : Word). x.net.n) e)

pub xnors-upto : (left right : List ℕ) (w : ℕ) (s : Word) → (each_bit Xnor left right w s).net.n ≤ s.net.n + 2 * w
xnors-upto left right w s = omega (arith, (each-ext Xnor left right s w).grows.upto, xnors-cost left right w)

pub onto-upto : (from : ℕ) (right : List ℕ) (w : ℕ) (s : Chain) → from + w ≤ length s.out → (add_onto from right w s).net.n ≤ s.net.n + 3 * w
onto-upto from right w s h = omega (arith, (onto-law from right s w h).ext.grows.upto, chain-three from s.out right w)

pub pair-count : (node i : ℕ) (s : Pair) → i ≤ length s.quot → i ≤ length s.rem → (pair_words i node s).net.n ≡ s.net.n + 2 * i
pair-count node i s h k = (pair-law node s i h k).count

pub rows-upto : (w : ℕ) (quot den : List ℕ) (s : Net) (k : Cons) → w ≤ 64 → (div_rows w quot den s k).net.n ≤ s.n + (mul_cost w + w * (w - 1) / 2)
rows-upto w quot den s k small = omega (arith, (rows-law w quot den s k (omega arith) w (omega arith)).ext.grows.upto, cost-all w)

pub rows-count : (w : ℕ) (quot den : List ℕ) (s : Net) (k : Cons) → w ≤ 64 → (div_rows w quot den s k).cons.m ≡ k.m + (w * (w - 1) / 2 + w)
rows-count w quot den s k small = omega (arith, (rows-law w quot den s k (omega arith) w (omega arith)).more.count, count-all w)

pub sum-words-upto : (w : ℕ) (quot rem den : List ℕ) (s : Book) → w ≤ 64 → (sum_words w quot rem den s).net.n ≤ s.net.n + sum_cost w
sum-words-upto w quot rem den s small = sum-upto w quot rem quot den s small

pub sum-words-count : (w : ℕ) (quot rem den : List ℕ) (s : Book) → w ≤ 64 → (sum_words w quot rem den s).cons.m ≡ s.cons.m + sum_count w
sum-words-count w quot rem den s small = (sum_more w quot rem quot den s small).count

pub words-upto : (w node : ℕ) (num den : List ℕ) (s : Book) → w ≤ 64 → (div_words w node num den s).book.net.n ≤ s.net.n + div_cost w
words-upto w node num den s small = (div-law w node num den s small).grows.upto

pub raised-upto : (w : ℕ) (den : List ℕ) (z : ℕ) (s : Net) → 1 ≤ w → w ≤ 64 → (raised w den z s).net.n ≤ s.n + 1
raised-upto w den z s big small = (raised-law w den z s big (omega arith)).ext.grows.upto

pub zero-upto : (w : ℕ) (den : List ℕ) (s : Net) → 1 ≤ w → w ≤ 64 → (zero_bit w den s).net.n ≤ s.n + (2 * w - 1)
zero-upto w den s big small = (zero-law w den s big (omega arith)).ext.grows.upto

-- the gates after i pairs, and after the first of one more
pub pair-room : (node : ℕ) (s : Pair) (l l' : GateList) (quot rem : List ℕ) (i b : ℕ) → pair_of l quot rem ≡ pair_words i node s → i ≤ length s.quot → i ≤ length s.rem
    → made_of l' b ≡ added (net_of l) (gate_quotient node i) → l'.n ≡ s.net.n + 2 * i + 1
unfolding added
pair-room node s l l' quot rem i b e h k q = omega (arith, ap (λ (x : Pair). x.net.n) e, pair-count node i s h k, ap (λ (x : MadeBit). x.net.n) q)

pub pair-turn : (l l₁ l₂ : GateList) (quot rem : List ℕ) (node i b₁ b₂ : ℕ) → made_of l₁ b₁ ≡ added (net_of l) (gate_quotient node i)
    → made_of l₂ b₂ ≡ added (net_of l₁) (gate_remainder node i) → pair_of l₂ (set quot i b₁) (set rem i b₂) ≡ pair_step node i (pair_of l quot rem)
unfolding pair_step
pair-turn l l₁ l₂ quot rem node i b₁ b₂ e f =
    ap {B = Pair} (λ (y : MadeBit). record { net = y.net; quot = set quot i b₁; rem = set rem i y.bit }) f
    ∙ ap {B = Pair} (λ (x : MadeBit). record { net = (added x.net (gate_remainder node i)).net; quot = set quot i x.bit; rem = set rem i (added x.net (gate_remainder node i)).bit }) e

-- room for row i, where there is room for w of them
pub rows-room : (w : ℕ) (quot den : List ℕ) (s : Net) (k : Cons) (sum₀ sum : List ℕ) (l : Lists) (i : ℕ) → w ≤ 64 → sum₀ ≡ blank
    → checked_of l sum ≡ iter i (row_step w quot den) (record { net = s; cons = k; out = sum₀ }) → i < w
    → (l.gates.n + (4 * (w - i) + i) ≤ s.n + (mul_cost w + w * (w - 1) / 2)) × (l.cons.m + (i + 1) ≤ k.m + (w * (w - 1) / 2 + w)) × (length sum ≡ 65)
rows-room w quot den s k sum₀ sum l i small z e h =
    let same : checked_of l sum ≡ iter i (row_step w quot den) (record { net = s; cons = k; out = blank }) = rw z at e in
    let r = rows-law w quot den s k (omega arith) i (omega arith) in (
      omega (arith, ap (λ (x : Checked). x.net.n) same, r.ext.grows.upto, sum-within (λ j. 4 * (w - j) + j) i w h, cost-all w),
      omega (arith, ap (λ (x : Checked). x.cons.m) same, r.more.count, sum-within (λ j. j + 1) i w h, count-all w),
      ap (λ (x : Checked). length x.out) same ∙ (r.long ∙ blank-long),
    )

-- what the bits of a word of known bits are
pub known_both : (w : ℕ) (num den : List ℕ) (kn kd : Bool) → length num ≡ w → length den ≡ w → kn ≡ all_known (length num) num → kd ≡ all_known (length den) den → (kn && kd) ≡ true
    → Below 2 num w × Below 2 den w
known_both w num den kn kd ln ld en ed h =
    let b = both kn kd h in
    (all_true num w (sym (rw ln at en) ∙ b.0), all_true den w (sym (rw ld at ed) ∙ b.1))

-- what `grind` has to know at each call, beside std's rules
pub ruleset steps = (each-count, row-upto, xnors-upto, xnors-cost, onto-upto, pair-count, rows-upto, rows-count, sum-words-upto, sum-words-count, words-upto, raised-upto, zero-upto, zero-cost, row-cost, chain-three, choose-cost, blank-long)
