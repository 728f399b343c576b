-- Values stay in range: each slot of a word is below 2^width, each word of a memory below 2^W.
use Rattle.std.proofs.Common.{◌≡◌, Ok, Option, Some, None, ℕ, zero, suc, ◌+◌, ◌-◌, ◌*◌, ◌/◌, ◌%◌, ◌^◌, ◌<◌, ◌≤◌, Bool, true, false, eqb, ltb, List, length, get_or, sym, refl, ap, ◌∙◌, inl, inr, lt_of_lt_of_le, lt_of_le_of_lt, mod-lt, div-le_self, arith, pow_pos, pow_mono, ltb-false, ltb-true}
use native.Mathlib.Nat.{mod-le}
use native.Mathlib.Decide.{dec_lt}
use lib.Bits.{and_le_l, or_lt}
use borrow.Author.Tests.{not-false}
use Rattle.loops.specs.Loop.{first, pick, bit}
use Rattle.loops.proofs.Loop.{by-pick, first_below}
use Rattle.table.specs.declared.Node.{Node}
use Rattle.table.specs.Kind.{uses_a, uses_b, uses_c}
use Rattle.table.specs.Node.{nodes, node_at, width_of, a_of, b_of, c_of}
use Rattle.table.specs.Sheet.{table_fault}
use Rattle.digits.specs.Op.{Op, op_two, op_one, op_wide, op_value}
use Rattle.digits.proofs.Ops.{each-op, op-even, op-wide, op-some}
use Rattle.table.proofs.Ops.{op-a, op-b}
use Rattle.table.proofs.Whole.{Sound, Rule, Extended, is-const, is-input, is_state, is-op, is-bad, is-ext, is-ite, is-divu, is-rem, is_read, is-write, is-sext, within, each-sound}
use Rattle.values.specs.Value.{not_word, add_word, sub_word, mul_word, div_word, rem_word, sll_word, srl_word, sext_word, read_value, write_value, ite_value, place_at, slot_at}
use Rattle.values.specs.Eval.{slots, offset, node_given, slot_width, slot_bad, input_bad, eval_words}
use Rattle.values.specs.Frame.{InRange, Made}
use Rattle.values.proofs.ByKind.{at-const, at-state, at_op, at-bad, at-ext, at-ite, at-divu, at-rem, at_read, at-write, at-sext}
use Rattle.values.proofs.Seen.{width_word, width-memory, no-input, initial, memory-own, see-word, see-memory, see-same}
use Rattle.values.proofs.Kept.{finished}
use Rattle.values.proofs.Local.{done-right}

-- of each operation
not-range : (v x : ℕ) → not_word v x < 2 ^ v
unfolding not_word
not-range v x = omega (arith, pow_pos v)

bit-range : (v : ℕ) (b : Bool) → 1 ≤ v → bit b < 2 ^ v
bit-range v true h = lt_of_lt_of_le {m = 2 ^ 1} (omega arith) (pow_mono h)
bit-range v false h = pow_pos v

add-range : (v x y : ℕ) → add_word v x y < 2 ^ v
unfolding add_word
add-range v x y = mod-lt (x + y) (pow_pos v)

sub-range : (v x y : ℕ) → sub_word v x y < 2 ^ v
unfolding sub_word
sub-range v x y = mod-lt (x + (2 ^ v - y % 2 ^ v)) (pow_pos v)

mul-range : (v x y : ℕ) → mul_word v x y < 2 ^ v
unfolding mul_word
mul-range v x y = mod-lt (x * y) (pow_pos v)

div-range : (v x y : ℕ) → x < 2 ^ v → div_word v x y < 2 ^ v
unfolding div_word
div-range v x y h = by-pick (λ z. z < 2 ^ v) (eqb y 0) (2 ^ v - 1) (x / y) (λ e. omega (arith, pow_pos v)) (λ e. lt_of_le_of_lt (div-le_self x y) h)

rem-range : (v x y : ℕ) → x < 2 ^ v → rem_word x y < 2 ^ v
unfolding rem_word
rem-range v x y h = by-pick (λ z. z < 2 ^ v) (eqb y 0) x (x % y) (λ e. h) (λ e. lt_of_le_of_lt (mod-le x y) h)

sll-range : (v x y : ℕ) → sll_word v x y < 2 ^ v
unfolding sll_word
sll-range v x y = by-pick (λ z. z < 2 ^ v) (ltb y v) (x * 2 ^ y % 2 ^ v) 0 (λ e. mod-lt (x * 2 ^ y) (pow_pos v)) (λ e. pow_pos v)

srl-range : (v x y : ℕ) → x < 2 ^ v → srl_word v x y < 2 ^ v
unfolding srl_word
srl-range v x y h = by-pick (λ z. z < 2 ^ v) (ltb y v) (x / 2 ^ y) 0 (λ e. lt_of_le_of_lt (div-le_self x (2 ^ y)) h) (λ e. pow_pos v)

op-range : (v x y : ℕ) → x < 2 ^ v → (o : Op) → (op_two o ≡ true → y < 2 ^ v) → op_value o v x y < 2 ^ op_wide o v
unfolding op_two op_one op_value pick
op-range v x y h =
    each-op (λ o. (op_two o ≡ true → y < 2 ^ v) → op_value o v x y < 2 ^ op_wide o v)
    (λ g. not-range v x) (λ g. lt_of_le_of_lt (and_le_l x y) h) (λ g. or_lt v x y h (g refl)) (λ g. bit-range 1 (eqb x y) (omega arith))
    (λ g. add-range v x y) (λ g. sub-range v x y) (λ g. bit-range 1 (ltb x y) (omega arith)) (λ g. mul-range v x y) (λ g. sll-range v x y) (λ g. srl-range v x y h)

sext-range : (v w x : ℕ) → x < 2 ^ w → sext_word v w x < 2 ^ w
unfolding sext_word
sext-range v w x h = by-pick (λ z. z < 2 ^ w) (ltb x (2 ^ (v - 1))) x ((x + (2 ^ w - 2 ^ v)) % 2 ^ w) (λ e. h) (λ e. mod-lt (x + (2 ^ w - 2 ^ v)) (pow_pos w))

module _ (t l : List ℕ) (w i : ℕ) (x : List ℕ) (j : ℕ) (pos : 1 ≤ w) (s : Sound t w (i + 1)) (free : node_given t i ≡ false) (inside : j < slots t l i)
    (all : (p m : ℕ) → 1 ≤ p → p < i + 1 → m < slots t l (p - 1) → get_or x (offset t l p + m) 0 < 2 ^ slot_width w (node_at t p)) where
  abbrev d : Node
  d = node_at t (i + 1)

  -- the first operand's width
  abbrev va : ℕ
  va = width_of t (a_of t (i + 1))

  abbrev oa : ℕ
  oa = offset t l (a_of t (i + 1))

  abbrev ob : ℕ
  ob = offset t l (b_of t (i + 1))

  abbrev oc : ℕ
  oc = offset t l (c_of t (i + 1))

  abbrev px : Option ℕ
  px = place_at l d x ob

  abbrev Below : ℕ → ℕ → Type 0
  Below k u = get_or x k 0 < 2 ^ u

  word : (p : ℕ) → 1 ≤ p → p < i + 1 → 1 ≤ width_of t p → get_or x (offset t l p) 0 < 2 ^ width_of t p
  word = see-word t l w i Below all

  memory : (p m : ℕ) → 1 ≤ p → p < i + 1 → width_of t p ≡ 0 → m < length l → get_or x (offset t l p + m) 0 < 2 ^ w
  memory = see-memory t l w i Below all

  same : (p : ℕ) → 1 ≤ p → p < i + 1 → width_of t p ≡ width_of t (i + 1) → get_or x (offset t l p + j) 0 < 2 ^ slot_width w d
  same p h g z = see-same t l w i Below all p j h g z inside

  -- the operands of a word of its own width
  left : uses_a d.kind ≡ true → 1 ≤ d.width → width_of t (a_of t (i + 1)) ≡ d.width → get_or x oa 0 < 2 ^ d.width
  left u h z = rw z at (word (a_of t (i + 1)) (s.operands.a-used u) s.operands.a (omega arith))

  right : uses_b d.kind ≡ true → 1 ≤ d.width → width_of t (b_of t (i + 1)) ≡ d.width → get_or x ob 0 < 2 ^ d.width
  right u h z = rw z at (word (b_of t (i + 1)) (s.operands.b-used u) s.operands.b (omega arith))

  -- the operand of an extension
  under : uses_a d.kind ≡ true → Extended d.width va → get_or x oa 0 < 2 ^ d.width
  under u z = lt_of_lt_of_le (word (a_of t (i + 1)) (s.operands.a-used u) s.operands.a z.word) (pow_mono z.wide)

  Good : Type 0
  Good = slot_at l d va x oa ob oc px j < 2 ^ slot_width w d

  -- a word by its value
  as-word : (v : ℕ) → slot_at l d va x oa ob oc px j ≡ v → 1 ≤ d.width → v < 2 ^ d.width → Good
  unfolding Good
  as-word v e h k = rw (e, width_word w d h) k

  read-range : (p : Option ℕ) → ((m : ℕ) → m < length l → get_or x (oa + m) 0 < 2 ^ w) → read_value l x oa p < 2 ^ w
  unfolding read_value
  read-range (Some m) h = by-pick (λ v. v < 2 ^ w) (ltb m (length l)) (get_or x (oa + m) 0) 0 (λ e. h m (ltb-true m (length l) e)) (λ e. pow_pos w)
  read-range None h = pow_pos w

  write-range : (p : Option ℕ) (u : ℕ) → u < 2 ^ w → get_or x (oa + j) 0 < 2 ^ w → write_value x oa p u j < 2 ^ w
  unfolding write_value
  write-range (Some p) u h k = by-pick (λ v. v < 2 ^ w) (eqb j p) u (get_or x (oa + j) 0) (λ e. h) (λ e. k)
  write-range None u h k = k

  ite-range : (u : ℕ) → get_or x (ob + j) 0 < u → get_or x (oc + j) 0 < u → ite_value x oa ob oc j < u
  unfolding ite_value
  ite-range u h k = by-pick (λ v. v < u) (eqb (get_or x oa 0) 1) (get_or x (ob + j) 0) (get_or x (oc + j) 0) (λ e. h) (λ e. k)

  by-rule : Rule w d (width_of t (a_of t (i + 1))) (width_of t (b_of t (i + 1))) (width_of t (c_of t (i + 1))) → Good
  unfolding Good
  by-rule (is-const e h m) = as-word d.imm (at-const l d va x oa ob oc px j e) h m
  by-rule (is-input e) = absurd (no-input d e free)
  by-rule (is_state e (inl z)) = absurd (omega (arith, initial d e free))
  by-rule (is_state e (inr z)) = rw (at-state l d va x oa ob oc px j e) (same (a_of t (i + 1)) (initial d e free) s.operands.a z)
  by-rule (is-op o e z) =
      as-word (op_value o d.width (get_or x oa 0) (get_or x ob 0)) (at_op l d va x oa ob oc px j o e) (omega (arith, z.wide, op-some o va z.word))
      (rw (op-wide d.width va (get_or x oa 0) (get_or x ob 0) o (op-even o z.wide), z.wide)
      (op-range va (get_or x oa 0) (get_or x ob 0) (word (a_of t (i + 1)) (s.operands.a-used (ap uses_a e ∙ op-a o)) s.operands.a z.word) o
      (λ u. rw (z.same u) at (word (b_of t (i + 1)) (s.operands.b-used (ap uses_b e ∙ (op-b o ∙ u))) s.operands.b (omega (arith, z.word, z.same u))))))
  by-rule (is-bad e h z) = as-word _ (at-bad l d va x oa ob oc px j e) (omega arith) (left (ap uses_a e) (omega arith) (z ∙ sym h))
  by-rule (is-ext e z) = as-word _ (at-ext l d va x oa ob oc px j e) (omega arith) (under (ap uses_a e) z)
  by-rule (is-sext e z) = as-word _ (at-sext l d va x oa ob oc px j e) (omega arith) (sext-range va d.width (get_or x oa 0) (under (ap uses_a e) z))
  by-rule (is-divu e z) = as-word _ (at-divu l d va x oa ob oc px j e) z.word (div-range d.width (get_or x oa 0) (get_or x ob 0) (left (ap uses_a e) z.word z.left))
  by-rule (is-rem e z) = as-word _ (at-rem l d va x oa ob oc px j e) z.word (rem-range d.width (get_or x oa 0) (get_or x ob 0) (left (ap uses_a e) z.word z.left))
  by-rule (is-ite e p q r) =
      rw (at-ite l d va x oa ob oc px j e)
      (ite-range (2 ^ slot_width w d)
      (same (b_of t (i + 1)) (s.operands.b-used (ap uses_b e)) s.operands.b q)
      (same (c_of t (i + 1)) (s.operands.c-used (ap uses_c e)) s.operands.c r))
  by-rule (is_read e h p q) =
      as-word _ (at_read l d va x oa ob oc px j e) (omega arith)
      (lt_of_lt_of_le (read-range px (λ m. memory (a_of t (i + 1)) m (s.operands.a-used (ap uses_a e)) s.operands.a p)) (pow_mono (omega arith)))
  by-rule (is-write e h p q r) =
      rw (at-write l d va x oa ob oc px j e, width-memory w d h)
      (write-range px (get_or x oc 0)
      (rw r at (word (c_of t (i + 1)) (s.operands.c-used (ap uses_c e)) s.operands.c (omega arith)))
      (memory (a_of t (i + 1)) j (s.operands.a-used (ap uses_a e)) s.operands.a p (omega (arith, memory-own t l i h))))

  slot-range : slot_at l d va x oa ob oc px j < 2 ^ slot_width w d
  unfolding Good
  slot-range = by-rule s.sort

module _ (t l : List ℕ) (w : ℕ) (v : List ℕ) (e : (eval_words t l w v).answer ≡ Ok tt) where
  abbrev x : List ℕ
  x = (eval_words t l w v).values

  -- the first n nodes are in range
  abbrev Below-all : ℕ → Type 0
  Below-all n = (i j : ℕ) → i < n → j < slots t l i → get_or x (offset t l (i + 1) + j) 0 < 2 ^ slot_width w (node_at t (i + 1))

  -- a given slot was looked at
  given-range : (i j : ℕ) → i < nodes t → j < slots t l i → node_given t i ≡ true → get_or x (offset t l (i + 1) + j) 0 < 2 ^ slot_width w (node_at t (i + 1))
  unfolding input_bad slot_bad
  given-range i j h k g =
      let f = finished t l w v e in
      let u : ℕ = slot_width w (node_at t (i + 1)) in
      let o : ℕ = offset t l (i + 1) in
      let none : input_bad t l w v i ≡ false = first_below (input_bad t l w v) (nodes t) i (omega (arith, f.inputs)) in
      let past : ltb (first (slots t l i) (slot_bad u v o)) (slots t l i) ≡ false = rw g at none in
      let good : slot_bad u v o j ≡ false = first_below (slot_bad u v o) (slots t l i) j (omega (arith, ltb-false (first (slots t l i) (slot_bad u v o)) (slots t l i) past)) in
      let q : get_or v (o + j) 0 < 2 ^ u = ltb-true (get_or v (o + j) 0) (2 ^ u) (not-false _ good) in
      rw ((done-right t l w v e).kept.given i j h k g) q

  next : (n : ℕ) → n < nodes t → Below-all n → (j : ℕ) → j < slots t l n → (b : Bool) → node_given t n ≡ b → get_or x (offset t l (n + 1) + j) 0 < 2 ^ slot_width w (node_at t (n + 1))
  next n h ih j k true g = given-range n j h k g
  next n h ih j k false g = rw (made n j h k g) (slot-range t l w n x j (within t l w clear).3 (each-sound t l w clear n h) g k all)
    where
      clear : table_fault t l w ≡ Ok tt
      clear = (finished t l w v e).clear

      made : (i j : ℕ) → i < nodes t → j < slots t l i → node_given t i ≡ false → Made t l x x i j
      made = (done-right t l w v e).made

      all : (p m : ℕ) → 1 ≤ p → p < n + 1 → m < slots t l (p - 1) → get_or x (offset t l p + m) 0 < 2 ^ slot_width w (node_at t p)
      all p m a b c = let q : p - 1 + 1 ≡ p = omega arith in rw q at (ih (p - 1) m (omega arith) c)

  up_to : (n : ℕ) → n < nodes t → Below-all n → (i j : ℕ) → i < suc n → j < slots t l i → Dec (i < n) → get_or x (offset t l (i + 1) + j) 0 < 2 ^ slot_width w (node_at t (i + 1))
  up_to n h ih i j a k (yes q) = ih i j q k
  up_to n h ih i j a k (no q) = let z : i ≡ n = omega arith in rw z (next n h ih j (rw z at k) (node_given t n) refl)

  below : (n : ℕ) → n ≤ nodes t → Below-all n
  below zero h i j a k = absurd (omega arith)
  below (suc n) h i j a k = up_to n h (below n (omega arith)) i j a k (dec_lt i n)

  -- all that is answered with no refusal is in range
  pub in-range : InRange t l w (eval_words t l w v).values
  in-range i j h k = below (nodes t) (omega arith) i j h k
