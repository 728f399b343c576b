-- The laws of Not, And, Or and Xnor.
use mathlib.Core.Path.{◌≡◌, refl, ap}
use mathlib.Core.Bool.{Bool, true, false, not, ◌&&◌, ◌||◌}
use Prim.Native.Nat.{ℕ, ◌≤◌, ◌<◌}
use native.Mathlib.Omega.{arith}
use Rattle.loops.specs.Loop.{pick}
use Rattle.loops.proofs.Loop.{by-pick}
use Rattle.netlist.specs.Kind.{xor, maj, free, uses_y, uses_z, value_of}
use Rattle.netlist.specs.Net.{Net, Says}
use Rattle.netlist.specs.Bit.{is_known}
use Rattle.netlist.proofs.BitLaws.{by-known, less-known, least-unknown}
use Rattle.gates.specs.Made.{MadeBit, added, gate_not, gate_and, gate_or, gate_matriarch1, gate_carry_half, gate_result_half, gate_carry_full, gate_result_full}
use Rattle.gates.specs.Fold.{not_bit, and_bit, or_bit, xnor_bit, not_cost, xnor_cost}
use Rattle.gates.specs.Law.{BitLaw, In2, Kn2, In3, Kn3}
use Rattle.gates.proofs.Laws.{kept-law, added-law, good-one, good-two, good-three, bit-map, then-law}

-- ---- truth values

pub &&-false : (b : Bool) → (b && false) ≡ false
&&-false true = refl
&&-false false = refl

pub &&-true : (b : Bool) → (b && true) ≡ b
&&-true true = refl
&&-true false = refl

||-false : (b : Bool) → (b || false) ≡ b
||-false true = refl
||-false false = refl

||-true : (b : Bool) → (b || true) ≡ true
||-true true = refl
||-true false = refl

not-not : (b : Bool) → not (not b) ≡ b
not-not true = refl
not-not false = refl

xnor-true : (b : Bool) → not (xor b true) ≡ b
xnor-true true = refl
xnor-true false = refl

xnor-false : (b : Bool) → not (xor b false) ≡ not b
xnor-false true = refl
xnor-false false = refl

true-xnor : (b : Bool) → not (xor true b) ≡ b
true-xnor true = refl
true-xnor false = refl

false-xnor : (b : Bool) → not (xor false b) ≡ not b
false-xnor true = refl
false-xnor false = refl

-- ---- the gates themselves, over bits that are not known

module _ (s : Net) (a : ℕ) (ha : 2 ≤ a) where
  gate-not : BitLaw s (a < s.n) (a < 2) (λ e. not (e a)) 1 (added s (gate_not a))
  unfolding Says value_of free uses_y uses_z pick
  gate-not = added-law (gate_not a) refl (λ e w. w refl) (λ i. good-one 3 refl refl refl refl s.n a ha i) (λ k. omega arith)

  module _ (b : ℕ) (hb : 2 ≤ b) where
    gate-and : BitLaw s (In2 s a b) (Kn2 a b) (λ e. e a && e b) 1 (added s (gate_and a b))
    unfolding Says value_of free uses_y uses_z pick
    gate-and = added-law (gate_and a b) refl (λ e w. w refl) (λ i. good-two 4 refl refl refl refl s.n a b ha hb i.0 i.1) (λ k. omega arith)

    gate-or : BitLaw s (In2 s a b) (Kn2 a b) (λ e. e a || e b) 1 (added s (gate_or a b))
    unfolding Says value_of free uses_y uses_z pick
    gate-or = added-law (gate_or a b) refl (λ e w. w refl) (λ i. good-two 6 refl refl refl refl s.n a b ha hb i.0 i.1) (λ k. omega arith)

    pub matriarch-law : BitLaw s (In2 s a b) (Kn2 a b) (λ e. not (e a) && e b) 1 (added s (gate_matriarch1 a b))
    unfolding Says value_of free uses_y uses_z pick
    matriarch-law = added-law (gate_matriarch1 a b) refl (λ e w. w refl) (λ i. good-two 7 refl refl refl refl s.n a b ha hb i.0 i.1) (λ k. omega arith)

    pub carry-half : BitLaw s (In2 s a b) (Kn2 a b) (λ e. e a && e b) 1 (added s (gate_carry_half a b))
    unfolding Says value_of free uses_y uses_z pick
    carry-half = added-law (gate_carry_half a b) refl (λ e w. w refl) (λ i. good-two 8 refl refl refl refl s.n a b ha hb i.0 i.1) (λ k. omega arith)

    pub result-half : BitLaw s (In2 s a b) (Kn2 a b) (λ e. xor (e a) (e b)) 1 (added s (gate_result_half a b))
    unfolding Says value_of free uses_y uses_z pick
    result-half = added-law (gate_result_half a b) refl (λ e w. w refl) (λ i. good-two 9 refl refl refl refl s.n a b ha hb i.0 i.1) (λ k. omega arith)

    module _ (c : ℕ) (hc : 2 ≤ c) where
      pub carry-full : BitLaw s (In3 s a b c) (Kn3 a b c) (λ e. maj (e a) (e b) (e c)) 1 (added s (gate_carry_full a b c))
      unfolding Says value_of free uses_y uses_z pick
      carry-full = added-law (gate_carry_full a b c) refl (λ e w. w refl) (λ i. good-three 10 refl refl refl refl s.n a b c ha hb hc i.0 i.1 i.2) (λ k. omega arith)

      pub result-full : BitLaw s (In3 s a b c) (Kn3 a b c) (λ e. xor (xor (e a) (e b)) (e c)) 1 (added s (gate_result_full a b c))
      unfolding Says value_of free uses_y uses_z pick
      result-full = added-law (gate_result_full a b c) refl (λ e w. w refl) (λ i. good-three 11 refl refl refl refl s.n a b c ha hb hc i.0 i.1 i.2) (λ k. omega arith)

-- ---- folding

-- a Not makes no gate where its operand is known, an Xnor at most one where its left operand is
pub not-cost : (a : ℕ) → not_cost a ≤ 1
unfolding not_cost
not-cost a = by-pick (λ k. k ≤ 1) (is_known a) 0 1 (λ h. omega arith) (λ h. omega arith)

pub not-unknown : (a : ℕ) → 2 ≤ a → not_cost a ≡ 1
unfolding not_cost pick
not-unknown a h = rw (least-unknown a h)

pub not_known : (a : ℕ) → a < 2 → not_cost a ≡ 0
unfolding not_cost pick
not_known a h = rw (less-known a h)

pub xnor-cost : (a b : ℕ) → (1 ≤ xnor_cost a b) × (xnor_cost a b ≤ 2)
unfolding xnor_cost
xnor-cost a b = by-pick (λ k. (1 ≤ k) × (k ≤ 2)) (is_known a || is_known b) 1 2 (λ h. omega arith) (λ h. omega arith)

pub xnor-unknown : (a b : ℕ) → 2 ≤ a → 2 ≤ b → xnor_cost a b ≡ 2
unfolding xnor_cost pick
xnor-unknown a b h k = rw (least-unknown a h, least-unknown b k)

pub xnor-known : (a b : ℕ) → a < 2 → xnor_cost a b ≡ 1
unfolding xnor_cost pick
xnor-known a b h = rw (less-known a h)

pub xnor-known-right : (a b : ℕ) → b < 2 → xnor_cost a b ≡ 1
unfolding xnor_cost pick
xnor-known-right a b h = rw (less-known b h, ||-true)

pub not-law : (s : Net) (a : ℕ) → BitLaw s (a < s.n) (a < 2) (λ e. not (e a)) (not_cost a) (not_bit s a)
unfolding not_bit
not-law s a =
    by-known P a _ _ _
    (λ h. kept-law (not_cost a) 1 (λ e o. simp (h, o.low, o.high)) (λ i l. omega arith) (λ k. omega arith))
    (λ h. kept-law (not_cost a) 0 (λ e o. simp (h, o.low, o.high)) (λ i l. omega arith) (λ k. omega arith))
    (λ h. rw (not-unknown a h) (gate-not s a h))
  where
    P : MadeBit → Type 0
    P m = BitLaw s (a < s.n) (a < 2) (λ e. not (e a)) (not_cost a) m

-- where one gate is allowed
pub not-one : (s : Net) (a : ℕ) → BitLaw s (a < s.n) (a < 2) (λ e. not (e a)) 1 (not_bit s a)
not-one s a = bit-map (λ i. i) (λ k. k) (λ e o. refl) (not-cost a) (not-law s a)

pub and-law : (s : Net) (a b : ℕ) → BitLaw s (In2 s a b) (Kn2 a b) (λ e. e a && e b) 1 (and_bit s a b)
unfolding and_bit
and-law s a b =
    by-known P a _ _ _
    (λ h. kept-law 1 0 (λ e o. simp (h, o.low)) (λ i l. omega arith) (λ k. omega arith))
    (λ h. kept-law 1 b (λ e o. simp (h, o.high)) (λ i l. i.1) (λ k. k.1))
    (λ ha. by-known P b _ _ _
    (λ h. kept-law 1 0 (λ e o. simp (h, o.low, &&-false)) (λ i l. omega arith) (λ k. omega arith))
    (λ h. kept-law 1 a (λ e o. simp (h, o.high, &&-true)) (λ i l. i.0) (λ k. k.0))
    (λ hb. gate-and s a ha b hb))
  where
    P : MadeBit → Type 0
    P m = BitLaw s (In2 s a b) (Kn2 a b) (λ e. e a && e b) 1 m

pub or-law : (s : Net) (a b : ℕ) → BitLaw s (In2 s a b) (Kn2 a b) (λ e. e a || e b) 1 (or_bit s a b)
unfolding or_bit
or-law s a b =
    by-known P a _ _ _
    (λ h. kept-law 1 b (λ e o. simp (h, o.low)) (λ i l. i.1) (λ k. k.1))
    (λ h. kept-law 1 1 (λ e o. simp (h, o.high)) (λ i l. omega arith) (λ k. omega arith))
    (λ ha. by-known P b _ _ _
    (λ h. kept-law 1 a (λ e o. simp (h, o.low, ||-false)) (λ i l. i.0) (λ k. k.0))
    (λ h. kept-law 1 1 (λ e o. simp (h, o.high, ||-true)) (λ i l. omega arith) (λ k. omega arith))
    (λ hb. gate-or s a ha b hb))
  where
    P : MadeBit → Type 0
    P m = BitLaw s (In2 s a b) (Kn2 a b) (λ e. e a || e b) 1 m

pub xnor-law : (s : Net) (a b : ℕ) → BitLaw s (In2 s a b) (Kn2 a b) (λ e. not (xor (e a) (e b))) (xnor_cost a b) (xnor_bit s a b)
unfolding xnor_bit
xnor-law s a b =
    by-known P a _ _ _
    (λ h. bit-map (λ i. i.1) (λ k. k.1) (λ e o. simp (h, o.low, false-xnor)) (xnor-cost a b).0 (not-one s b))
    (λ h. kept-law (xnor_cost a b) b (λ e o. simp (h, o.high, true-xnor)) (λ i l. i.1) (λ k. k.1))
    (λ ha. by-known P b _ _ _
    (λ h. bit-map (λ i. i.0) (λ k. k.0) (λ e o. simp (h, o.low, xnor-false)) (xnor-cost a b).0 (not-one s a))
    (λ h. kept-law (xnor_cost a b) a (λ e o. simp (h, o.high, xnor-true)) (λ i l. i.0) (λ k. k.0))
    (λ hb. rw (xnor-unknown a b ha hb)
    (then-law (λ e. not (xor (e a) (e b))) (result-half s a ha b hb) (λ i l q. q) (λ q w. w) (not-one _ _) (λ e q. ap not q))))
  where
    P : MadeBit → Type 0
    P m = BitLaw s (In2 s a b) (Kn2 a b) (λ e. not (xor (e a) (e b))) (xnor_cost a b) m
