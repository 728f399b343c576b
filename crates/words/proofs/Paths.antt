-- What the code's calls come to, path by path, over the definitions alone: a proof of the code cites each by its bare name in `search`.
use mathlib.Core.Path.{◌≡◌, ap, ◌∙◌}
use mathlib.Core.List.{List}
use Prim.Native.Nat.{ℕ, suc, ◌-◌, ◌+◌, ◌*◌, ◌^◌, ◌%◌, ◌≤◌, ◌<◌}
use native.Mathlib.Omega.{arith}
use native.Mathlib.Nat.{mod-eq_of_lt, mul-le-mul_left}
use lib.ListN.{length, get_or, set, take, drop}
use Rattle.loops.specs.Loop.{iter}
use Rattle.netlist.specs.Net.{Net}
use Rattle.gates.specs.declared.list.GateList.{GateList}
use Rattle.gates.specs.declared.adder.Sum.{Sum}
use Rattle.gates.specs.Made.{MadeBit, MadeSum, net_of, made_of, sum_of, kept}
use Rattle.gates.specs.Adder.{adder_bit, adder_cost}
use Rattle.digits.specs.Digits.{put_digits, powers_below}
use Rattle.digits.proofs.Numbers.{powers-each, powers-less}
use Rattle.words.specs.declared.each.Bitwise.{Bitwise}
use Rattle.words.specs.declared.each.Bitwise.TheVariants.{Not, And, Or, Xnor, AndWith, Choose, Clear}
use Rattle.words.specs.declared.shift.Direction.{Direction}
use Rattle.words.specs.Num.{blank}
use Rattle.words.specs.Each.{bitwise, bit_cost, Word, word_of, placed, each_step, each_bit, each_cost, put_bits}
use Rattle.words.specs.Add.{Chain, chain_of, add_step, add_onto, chain_cost, add_cost, add_words}
use Rattle.words.specs.Sub.{sub_words, sub_cost, ult_words}
use Rattle.words.specs.Extend.{extended}
use Rattle.words.specs.Join.{Joins, join_step, join_all}
use Rattle.words.specs.Eq.{eq_words, eq_cost}
use Rattle.words.specs.Mul.{row_of, mul_step, mul_cost}
use Rattle.words.specs.Shift.{moved, stage, shift_words, shift_cost}
use Rattle.words.proofs.Sums.{sum-within}
use Rattle.words.proofs.EachLaws.{each-ext, each-rest, put-law}
use Rattle.words.proofs.AddLaws.{onto-law, copied-cost, chain-three}
use Rattle.words.proofs.SubLaws.{nots-less, wide-cost}
use Rattle.words.proofs.ExtendLaws.{extend-law}
use Rattle.words.proofs.JoinLaws.{joins-ext}
use Rattle.words.proofs.MulStep.{row-cost}
use Rattle.words.proofs.MulLaws.{rows-room}
use Rattle.words.proofs.ShiftLaws.{clear-cost, stages-most}

-- a word bit by bit
pub each-turn : (op : Bitwise) (left right : List ℕ) (t t' : GateList) (out : List ℕ) (b i : ℕ) → made_of t' b ≡ bitwise op (net_of t) (get_or left i 0) (get_or right i 0)
    → word_of t' (set out i b) ≡ each_step op left right i (word_of t out)
unfolding each_step
each-turn op left right t t' out b i e = ap {B = Word} (λ (m : MadeBit). placed m i out) e

module _ (op : Bitwise) (left right : List ℕ) (s : Word) (t : GateList) (out : List ℕ) (i : ℕ) (e : word_of t out ≡ each_bit op left right i s) where
  pub each-most : t.n ≤ s.net.n + each_cost op left right i
  each-most = omega (arith, ap (λ (x : Word). x.net.n) e, (each-ext op left right s i).grows.upto)

  -- room for bit i, where there is room for w of them
  pub each-room : (w : ℕ) → i < w → t.n + bit_cost op (get_or left i 0) (get_or right i 0) ≤ s.net.n + each_cost op left right w
  each-room w l = omega (arith, each-most, sum-within (λ j. bit_cost op (get_or left j 0) (get_or right j 0)) i w l)

-- onto the right word itself: the bit that comes next is as it was
module _ (op : Bitwise) (left : List ℕ) (s : Word) (t : GateList) (out : List ℕ) (i : ℕ) (e : word_of t out ≡ each_bit op left s.out i s) where
  same_bit : get_or out i 0 ≡ get_or s.out i 0
  same_bit = ap (λ (x : Word). get_or x.out i 0) e ∙ each-rest op left s.out s i i (omega arith)

  pub each-onto-room : (w : ℕ) → i < w → t.n + bit_cost op (get_or left i 0) (get_or out i 0) ≤ s.net.n + each_cost op left s.out w
  each-onto-room w l = rw same_bit (each-room op left s.out s t out i e w l)

  pub each-onto-turn : (t' : GateList) (b : ℕ) → made_of t' b ≡ bitwise op (net_of t) (get_or left i 0) (get_or out i 0)
      → word_of t' (set out i b) ≡ each_step op left s.out i (word_of t out)
  each-onto-turn t' b q = each-turn op left s.out t t' out b i (rw same_bit at q)

-- a chain of adders
pub add-path : (from : ℕ) (right out : List ℕ) (t t' : GateList) (c j : ℕ) (s : Sum) → sum_of t' s ≡ adder_bit (net_of t) (get_or out (from + j) 0) (get_or right j 0) c
    → chain_of t' s.carry (set out (from + j) s.sum) ≡ add_step from right j (chain_of t c out)
unfolding add_step
add-path from right out t t' c j s e =
    ap {B = Chain} (λ (m : MadeSum). record { net = m.net; carry = m.carry; out = set out (from + j) m.sum }) e

module _ (from : ℕ) (right : List ℕ) (s : Chain) (t : GateList) (out : List ℕ) (c j : ℕ) (e : chain_of t c out ≡ add_onto from right j s) where
  pub onto-most : from + j ≤ length s.out → t.n ≤ s.net.n + chain_cost from s.out right j
  onto-most h = omega (arith, ap (λ (x : Chain). x.net.n) e, (onto-law from right s j h).ext.grows.upto)

  -- room for the adder at place j, where there is room for w of them
  pub onto-room : (w : ℕ) → j < w → from + w ≤ length s.out → t.n + adder_cost (get_or out (from + j) 0) (get_or right j 0) ≤ s.net.n + chain_cost from s.out right w
  onto-room w l h =
      let q : get_or out (from + j) 0 ≡ get_or s.out (from + j) 0 =
      ap (λ (x : Chain). get_or x.out (from + j) 0) e ∙ (onto-law from right s j (omega arith)).above (from + j) (omega arith) in
      let k : adder_cost (get_or out (from + j) 0) (get_or right j 0) ≡ adder_cost (get_or s.out (from + j) 0) (get_or right j 0) = ap (λ (b : ℕ). adder_cost b (get_or right j 0)) q in
      omega (arith, onto-most (omega arith), sum-within (λ i. adder_cost (get_or s.out (from + i) 0) (get_or right i 0)) j w l)

-- the left word copied, and the right one added onto it
module _ (left right : List ℕ) (t : GateList) (out out₁ : List ℕ) (w : ℕ) (p : out₁ ≡ put_bits 0 left w out) where
  pub add-words-room : w ≤ length out → (c : ℕ) → chain_cost 0 out₁ right w ≤ add_cost left right w
  add-words-room h c = rw p (copied-cost left right (chain_of t c out) w h)

-- the Nots, and the chain over them
module _ (left right : List ℕ) (t t₁ : GateList) (nots : List ℕ) (w : ℕ) (e : word_of t₁ nots ≡ each_bit Not right right w (word_of t blank)) where
  pub sub-room : (out : List ℕ) → w ≤ 65 → w ≤ length out → t₁.n + add_cost left nots w ≤ t.n + sub_cost left right w
  sub-room out h k =
      let q : nots ≡ (each_bit Not right right w (word_of t blank)).out = ap (λ (x : Word). x.out) e in
      let r : add_cost left nots w ≡ add_cost left (each_bit Not right right w (word_of t blank)).out w = ap (λ (l : List ℕ). add_cost left l w) q in
      omega (arith, each-most Not right right (word_of t blank) t₁ nots w e, nots-less w left right (net_of t) out h k)

  pub sub-path : (t₂ : GateList) (out out₂ : List ℕ) (c₂ : ℕ) → chain_of t₂ c₂ out₂ ≡ add_words w left nots (chain_of t₁ 1 out)
      → chain_of t₂ c₂ out₂ ≡ sub_words w left right (net_of t) out
  unfolding sub_words
  sub-path t₂ out out₂ c₂ q =
      q ∙ ap {B = Chain} (λ (r : Word). add_words w left r.out (record { net = r.net; carry = 1; out = out })) e

pub ult-path : (left right wl wr d : List ℕ) (t t₁ : GateList) (w c₁ : ℕ) → wl ≡ put_bits 0 left w blank → wr ≡ put_bits 0 right w blank
    → chain_of t₁ c₁ d ≡ sub_words (w + 1) wl wr (net_of t) blank → made_of t₁ (get_or d w 0) ≡ ult_words w left right (net_of t)
unfolding ult_words
ult-path left right wl wr d t t₁ w c₁ p q e =
    ap {B = MadeBit} (λ (c : Chain). kept c.net (get_or c.out w 0)) (e ∙ (ap (λ (l : List ℕ). sub_words (w + 1) l wr (net_of t) blank) p
    ∙ ap (λ (l : List ℕ). sub_words (w + 1) (extended 0 w left) l (net_of t) blank) q))

-- bits joined
pub joins-and : Joins And
unfolding bit_cost
joins-and a b = omega arith

pub joins-or : Joins Or
unfolding bit_cost
joins-or a b = omega arith

pub join-path : (op : Bitwise) (bits : List ℕ) (t : GateList) (b i : ℕ) (m : MadeBit) → m ≡ bitwise op (net_of t) b (get_or bits (i + 1) 0) → m ≡ join_step op bits i (made_of t b)
unfolding join_step
join-path op bits t b i m e = e

module _ (op : Bitwise) (bits : List ℕ) (s : Net) (t : GateList) (b b₀ i : ℕ) (e : made_of t b ≡ iter i (join_step op bits) (kept s b₀)) (one : Joins op) where
  joins-most : t.n ≤ s.n + i
  joins-most = omega (arith, ap (λ (m : MadeBit). m.net.n) e, (joins-ext op bits s b₀ i one).grows.upto)

  pub joins-room : (c w : ℕ) → i < w → t.n + bit_cost op b c ≤ s.n + w
  joins-room c w l = omega (arith, joins-most, one b c)

module _ (left right : List ℕ) (t t₁ : GateList) (x : List ℕ) (w : ℕ) (e : word_of t₁ x ≡ each_bit Xnor left right w (word_of t blank)) where
  pub eq-room : t₁.n + (w - 1) ≤ t.n + eq_cost left right w
  eq-room = omega (arith, each-most Xnor left right (word_of t blank) t₁ x w e)

  pub eq-path : (t₂ : GateList) (b₂ : ℕ) → made_of t₂ b₂ ≡ join_all And w x (net_of t₁) → made_of t₂ b₂ ≡ eq_words w left right (net_of t)
  unfolding eq_words
  eq-path t₂ b₂ q = q ∙ ap {B = MadeBit} (λ (r : Word). join_all And w r.out r.net) e

-- the two sides widened
module _ (left right wl wr : List ℕ) (w : ℕ) (small : w ≤ 64) (p : wl ≡ put_bits 0 left w blank) (q : wr ≡ put_bits 0 right w blank) where
  pub ult-room : sub_cost wl wr (w + 1) ≤ 4 * w + 1
  ult-room = rw (p, q) (wide-cost w left right small)

  pub ult-long : (length wl ≡ 65) × (length wr ≡ 65)
  ult-long = (ap length p ∙ (extend-law 0 w left (omega arith)).long, ap length q ∙ (extend-law 0 w right (omega arith)).long)

-- a row, and the chain that adds it
module _ (w : ℕ) (left right : List ℕ) (t t₁ : GateList) (row out : List ℕ) (i : ℕ) (e : word_of t₁ row ≡ row_of left (get_or right i 0) (w - i) (net_of t)) where
  pub mul-room : t₁.n + chain_cost i out row (w - i) ≤ t.n + 4 * (w - i)
  mul-room =
      omega (arith, each-most (AndWith (get_or right i 0)) left left (word_of t blank) t₁ row (w - i) e, row-cost left (get_or right i 0) (w - i), chain-three i out row (w - i))

  pub mul-path : (t₂ : GateList) (out₂ : List ℕ) (c₂ : ℕ) → chain_of t₂ c₂ out₂ ≡ add_onto i row (w - i) (chain_of t₁ 0 out)
      → word_of t₂ out₂ ≡ mul_step w left right i (word_of t out)
  unfolding mul_step
  mul-path t₂ out₂ c₂ q =
      ap {B = Word} (λ (c : Chain). record { net = c.net; out = c.out })
      (q ∙ ap {B = Chain} (λ (r : Word). add_onto i r.out (w - i) (record { net = r.net; carry = 0; out = out })) e)

-- the rows onto a sum that is known false
module _ (w : ℕ) (left right : List ℕ) (s : Word) (out₀ : List ℕ) (small : w ≤ 64) (fits : w ≤ length s.out) (p : out₀ ≡ put_digits 0 w s.out) where
  pub mul_most : (t : GateList) (out : List ℕ) (i : ℕ) → i < w → word_of t out ≡ iter i (mul_step w left right) (record { net = s.net; out = out₀ })
      → t.n + 4 * (w - i) ≤ s.net.n + mul_cost w
  mul_most t out i l e = omega (arith, ap (λ (x : Word). x.net.n) (rw p at e), rows-room w left right s (omega arith) fits i l)

-- a stage: the places by a shift of one, and the choice
module _ (w j : ℕ) (small : w ≤ 64) (lt : j < powers_below w) where
  pub stage-places : (1 * 2 ^ j % 2 ^ 64 ≡ 2 ^ j) × (2 ^ j < w)
  stage-places =
      let l : 2 ^ j < w = powers-each w j lt in
      let q : 1 * 2 ^ j ≡ 2 ^ j = omega arith in
      (rw q (mod-eq_of_lt (omega arith)), l)

  pub stage-path : (to : Direction) (amount there : List ℕ) (s x : Word) → there ≡ moved to w (1 * 2 ^ j % 2 ^ 64) s.out blank
      → x ≡ each_bit (Choose (get_or amount j 0)) there s.out w s → x ≡ stage to w amount j s
  unfolding stage
  stage-path to amount there s x p q =
      q ∙ ap (λ (l : List ℕ). each_bit (Choose (get_or amount j 0)) l s.out w s) (p ∙ ap (λ (k : ℕ). moved to w k s.out blank) stage-places.0)

-- the stages: room for one more
module _ (to : Direction) (w : ℕ) (amount : List ℕ) (s : Word) (small : w ≤ 64) (fits : w ≤ length s.out) where
  pub stages-room : (t : GateList) (out : List ℕ) (i k : ℕ) → i < k → k ≤ powers_below w → word_of t out ≡ iter i (stage to w amount) s → t.n + 3 * w ≤ s.net.n + 3 * w * k
  stages-room t out i k l h e =
      omega (arith, ap (λ (x : Word). x.net.n) e, stages-most to w amount small s i (omega arith) fits, mul-le-mul_left {m = suc i} {n = k} (3 * w) l)

pub stages-fit : (w k : ℕ) → 1 ≤ w → k ≡ powers_below w → (k ≤ powers_below w) × (3 * w * k ≤ shift_cost w)
stages-fit w k big e = let c : 3 * w * k ≡ 3 * w * powers_below w = ap (λ (i : ℕ). 3 * w * i) e in omega (arith, powers-less w big)

-- the shift: k stages over a copy of the word, the remaining amount bits joined, the clearing
module _ (to : Direction) (w k : ℕ) (bits amount : List ℕ) (s : Word) (out₀ : List ℕ) (big : 1 ≤ w) (small : w ≤ 64) (fits : w ≤ length s.out) (e : k ≡ powers_below w)
    (p : out₀ ≡ put_bits 0 bits w s.out) (t₁ : GateList) (out₁ : List ℕ) (q : word_of t₁ out₁ ≡ iter k (stage to w amount) (record { net = s.net; out = out₀ })) where
  shift-most : t₁.n + (w - k - 1) + w ≤ s.net.n + shift_cost w
  shift-most =
      let h : w ≤ length out₀ = rw p (omega (arith, (put-law 0 bits s.out w (omega arith)).long)) in
      let c : 3 * w * k ≡ 3 * w * powers_below w = ap (λ (i : ℕ). 3 * w * i) e in
      omega (arith, ap (λ (x : Word). x.net.n) q, stages-most to w amount small (record { net = s.net; out = out₀ }) k (omega arith) h, powers-less w big)

  pub join-room : t₁.n + (w - k - 1) ≤ s.net.n + shift_cost w
  join-room = omega (arith, shift-most)

  module _ (t₂ : GateList) (b : ℕ) (o : made_of t₂ b ≡ join_all Or (w - k) (take (w - k) (drop k amount)) (net_of t₁)) where
    pub clear_room : t₂.n + each_cost (Clear b) bits out₁ w ≤ s.net.n + shift_cost w
    clear_room =
        omega (
          arith,
          shift-most,
          clear-cost b bits out₁ w,
          ap (λ (m : MadeBit). m.net.n) o,
          (joins-ext Or (take (w - k) (drop k amount)) (net_of t₁) (get_or (take (w - k) (drop k amount)) 0 0) (w - k - 1) joins-or).grows.upto,
        )

    pub shift-path : (x : Word) → x ≡ each_bit (Clear b) bits out₁ w (word_of t₂ out₁) → x ≡ shift_words to w bits amount s
    unfolding shift_words
    shift-path x r =
        r ∙ (ap (λ (m : MadeBit). each_bit (Clear m.bit) bits out₁ w (record { net = m.net; out = out₁ })) o ∙ (ap (after k) q ∙ rw (p, e)))
      where
        after : ℕ → Word → Word
        after i y =
            let m : MadeBit = join_all Or (w - i) (take (w - i) (drop i amount)) y.net in
            each_bit (Clear m.bit) bits y.out w (record { net = m.net; out = y.out })
