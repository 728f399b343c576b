-- What the code's calls come to, path by path, over the definitions alone: a proof of the code cites each by its bare name in `search`.
use mathlib.Core.Path.{◌≡◌, refl, ap, sym, ◌∙◌}
use mathlib.Core.List.{List}
use Prim.Native.Nat.{ℕ, ◌+◌, ◌*◌, ◌-◌, ◌≤◌}
use native.Mathlib.Omega.{arith}
use lib.ListN.{length, get_or, set, take, drop}
use borrow.Author.Tests.{ne_eqb}
use Rattle.loops.specs.Loop.{pick, iter}
use Rattle.loops.proofs.Loop.{iter-inv, for_loop}
use Rattle.table.specs.declared.Node.{Node}
use Rattle.table.specs.Kind.{CONST, NOT, AND, EQ, ADD, SUB, ULT, MUL, OR, SLL, SRL}
use Rattle.table.specs.Op.{op_kind, by_op}
use Rattle.digits.specs.Op.{Op}
use Rattle.netlist.specs.Net.{Net}
use Rattle.gates.specs.declared.list.GateList.{GateList}
use Rattle.gates.specs.Made.{MadeBit, made_of, added}
use Rattle.words.specs.declared.each.Bitwise.TheVariants as op
use Rattle.words.specs.Num.{blank}
use Rattle.words.specs.Each.{Word, word_of}
use Rattle.digits.specs.Digits.{put_digits}
use Rattle.words.specs.Add.{Chain, chain_of}
use Rattle.words.specs.Op.{op_into}
use Rattle.words.proofs.NumLaws.{blank-long}
use Rattle.words.proofs.EachLaws.{choose-cost, each-ext}
use Rattle.nodes.specs.Own.{fresh, as_is, of_chain, input_step, plain_word}
use Rattle.nodes.specs.Place.{placed, inputs, choices, in_front}
use Rattle.nodes.proofs.OpKinds.{plain-is}
use Rattle.nodes.proofs.Places.{part-within}

-- InputBits
input-one : (node from j : ℕ) (x : Word) → (input_step node from j x).net.n ≡ x.net.n + 1
unfolding input_step added
input-one node from j x = refl

pub input-count : (node from w : ℕ) (s : Word) → (iter w (input_step node from) s).net.n ≡ s.net.n + w
input-count node from w s =
    iter-inv (λ i (x : Word). x.net.n ≡ s.net.n + i) (input_step node from) s w (omega arith) (λ i x lt h. omega (arith, input-one node from i x))

inputs-one : (node to w i : ℕ) (s : Word) → (placed to w (inputs node w) i s).net.n ≡ s.net.n + w
unfolding placed inputs
inputs-one node to w i s = input-count node (i * w) w (fresh s.net)

pub inputs-count : (node to w n : ℕ) (s : Word) → (iter n (placed to w (inputs node w)) s).net.n ≡ s.net.n + n * w
inputs-count node to w n s =
    iter-inv (λ i (x : Word). x.net.n ≡ s.net.n + i * w) (placed to w (inputs node w)) s n (omega arith) (λ i x lt h. omega (arith, inputs-one node to w i x))

-- choices
choices-one : (c a b to w i : ℕ) (s : Word) → (placed to w (choices c a b w) i s).net.n ≤ s.net.n + 3 * w
unfolding placed choices
choices-one c a b to w i s =
    let left : List ℕ = take w (drop (a + i * w) s.out) in
    let right : List ℕ = take w (drop (b + i * w) s.out) in
    omega (arith, (each-ext (op.Choose (get_or s.out c 0)) left right (fresh s.net) w).grows.upto, choose-cost (get_or s.out c 0) left right w)

pub choices-upto : (c a b to w n : ℕ) (s : Word) → (iter n (placed to w (choices c a b w)) s).net.n ≤ s.net.n + 3 * (n * w)
choices-upto c a b to w n s =
    iter-inv (λ i (x : Word). x.net.n ≤ s.net.n + 3 * (i * w)) (placed to w (choices c a b w)) s n (omega arith) (λ i x lt h. omega (arith, choices-one c a b to w i x))

-- a part that is taken from a place up to another
pub part-long : (a w : ℕ) → a + w - a ≡ w
part-long a w = omega arith

pub ruleset steps = (for_loop, input-count, inputs-count, choices-upto, choose-cost, part-long, part-within, blank-long)

-- the plain words
pub blank-room : (out : List ℕ) → out ≡ blank → length out ≡ 65
blank-room out h = ap length h ∙ blank-long

pub bit-put : (t : GateList) (out : List ℕ) (b : ℕ) (m : MadeBit) → made_of t b ≡ m → word_of t (set out 0 b) ≡ in_front out m
bit-put t out b m e = ap {B = Word} (λ (x : MadeBit). in_front out x) e

pub chain-put : (t : GateList) (out : List ℕ) (c : ℕ) (x : Chain) → chain_of t c out ≡ x → word_of t out ≡ of_chain x
chain-put t out c x e = ap {B = Word} (λ (y : Chain). of_chain y) e

module _ (d : Node) (v : ℕ) (A B : List ℕ) (s : Net) (x : Word) (out : List ℕ) (h : out ≡ blank) where
  pub plain-const : d.kind ≡ CONST → x ≡ as_is s (put_digits d.imm d.width out) → x ≡ plain_word d v A B s
  unfolding plain_word pick
  plain-const e q = rw e (rw h at q)

  pub plain_op : (o : Op) → d.kind ≡ op_kind o → x ≡ op_into o v A B out s → x ≡ plain_word d v A B s
  plain_op o e q = (rw h at q) ∙ sym (plain-is d v A B s o e)

  pub plain-none : (d.kind ≡ CONST → ⊥) → (d.kind ≡ NOT → ⊥) → (d.kind ≡ AND → ⊥) → (d.kind ≡ EQ → ⊥) → (d.kind ≡ ADD → ⊥) → (d.kind ≡ SUB → ⊥) → (d.kind ≡ ULT → ⊥)
      → (d.kind ≡ MUL → ⊥) → (d.kind ≡ OR → ⊥) → (d.kind ≡ SLL → ⊥) → (d.kind ≡ SRL → ⊥) → x ≡ as_is s out → x ≡ plain_word d v A B s
  unfolding plain_word by_op pick
  plain-none e1 e2 e3 e4 e5 e6 e7 e8 e9 e10 e11 q =
      rw (
        ne_eqb _ _ e1,
        ne_eqb _ _ e2,
        ne_eqb _ _ e3,
        ne_eqb _ _ e4,
        ne_eqb _ _ e5,
        ne_eqb _ _ e6,
        ne_eqb _ _ e7,
        ne_eqb _ _ e8,
        ne_eqb _ _ e9,
        ne_eqb _ _ e10,
        ne_eqb _ _ e11,
      ) (rw h at q)
