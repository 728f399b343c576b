-- The gates of any table have numbers that a u32 holds.
use Rattle.std.specs.Prelude.{Ok}
use mathlib.Core.Path.{◌≡◌}
use mathlib.Core.List.{List}
use Prim.Native.Nat.{ℕ, zero, suc, ◌+◌, ◌-◌, ◌*◌, ◌≤◌, ◌<◌}
use native.Mathlib.Omega.{arith}
use lib.Dec.{eqb}
use lib.ListN.{length}
use Rattle.loops.proofs.Loop.{by-pick}
use Rattle.table.specs.declared.Node.{Node}
use Rattle.table.specs.declared.Unit.TheVariants.{Bit}
use Rattle.table.specs.Node.{nodes, node_at, width_of, a_of}
use Rattle.table.specs.Size.{size_of}
use Rattle.table.specs.Sheet.{table_fault}
use Rattle.table.specs.Ceiling.{div_gates, shift_gates, memory_gates, ite_gates, plain_gates, ceiling, node_gates, sums_of}
use Rattle.table.proofs.Whole.{within, fine}
use Rattle.table.specs.Op.{by_op}
use Rattle.digits.specs.Digits.{powers_below}
use Rattle.digits.specs.Op.{Op, op_not, op_and, op_or, op_eq, op_add, op_sub, op_ult, op_mul, op_sll, op_srl, op_gates}
use Rattle.digits.proofs.Ops.{each-op}
use Rattle.digits.proofs.Numbers.{powers-few}
use Rattle.words.proofs.Sums.{sum-most}

-- a product of two small numbers is small
pub times-most : (a b c d : ℕ) → a ≤ c → b ≤ d → a * b ≤ c * d
times-most zero b c d h k = omega arith
times-most (suc a) b zero d h k = absurd (omega arith)
times-most (suc a) b (suc c) d h k = omega (arith, times-most a b c d (omega arith) k)

-- what holds of each operation, and where there is none, holds by kind
any-op : (P : ℕ → Type 0) (k none : ℕ) (f : Op → ℕ) → P none → ((o : Op) → P (f o)) → P (by_op k none f)
unfolding by_op
any-op P k none f a g =
    by-pick P _ _ _ (λ _. g op_not) (λ _. by-pick P _ _ _ (λ _. g op_and) (λ _. by-pick P _ _ _ (λ _. g op_eq) (λ _. by-pick P _ _ _ (λ _. g op_add)
    (λ _. by-pick P _ _ _ (λ _. g op_sub) (λ _. by-pick P _ _ _ (λ _. g op_ult) (λ _. by-pick P _ _ _ (λ _. g op_mul) (λ _. by-pick P _ _ _ (λ _. g op_or)
    (λ _. by-pick P _ _ _ (λ _. g op_sll) (λ _. by-pick P _ _ _ (λ _. g op_srl) (λ _. a))))))))))

-- of one node
module _ (n w : ℕ) (few : n ≤ 64) (small : w ≤ 64) where
  size-most : (v : ℕ) → v ≤ 64 → size_of Bit n w v ≤ 4096
  size-most v h = by-pick (λ x. x ≤ 4096) (eqb v 0) (n * w) v (λ _. times-most n w 64 64 few small) (λ _. omega arith)

  memory-most : (k : ℕ) → k ≤ 5 → memory_gates n w k ≤ 20480
  unfolding memory_gates
  memory-most k h = times-most n (k * w - 1) 64 320 few (omega (arith, times-most k w 5 64 h small))

  div_most : (v : ℕ) → v ≤ 64 → div_gates v ≤ 20480
  unfolding div_gates
  div_most v h = omega (arith, times-most (2 * v) v 128 64 (omega arith) h, times-most v (v - 1) 64 63 h (omega arith))

  shift-most : (v : ℕ) → v ≤ 64 → shift_gates v ≤ 20480
  unfolding shift_gates
  shift-most v h = omega (arith, times-most (3 * v) (powers_below v) 192 64 (omega arith) (omega (arith, powers-few v)))

  op-most : (x : ℕ) → x ≤ 64 → (o : Op) → op_gates o x ≤ 20480
  unfolding op_gates
  op-most x k =
      each-op (λ o. op_gates o x ≤ 20480) (omega arith) (omega arith) (omega arith) (omega arith) (omega arith) (omega arith) (omega arith)
      (omega (arith, times-most (2 * x) (x + 1) 128 65 (omega arith) (omega arith))) (shift-most x k) (shift-most x k)

  plain-most : (d : Node) (x : ℕ) → d.width ≤ 64 → x ≤ 64 → plain_gates n w d x ≤ 20480
  unfolding plain_gates ite_gates
  plain-most d x h k =
      by-pick (λ y. y ≤ 20480) _ _ _ (λ _. omega (arith, size-most d.width h))
      (λ _. by-pick (λ y. y ≤ 20480) _ _ _ (λ _. memory-most 4 (omega arith))
      (λ _. by-pick (λ y. y ≤ 20480) _ _ _ (λ _. memory-most 5 (omega arith)) (λ _. any-op (λ y. y ≤ 20480) d.kind 0 (λ o. op_gates o x) (omega arith) (op-most x k))))

  top-most : (d : Node) (x : ℕ) → d.width ≤ 64 → x ≤ 64 → ceiling n w d x ≤ 20480
  unfolding ceiling
  top-most d x h k =
      by-pick (λ y. y ≤ 20480) _ _ _ (λ _. omega (arith, size-most d.width h))
      (λ _. by-pick (λ y. y ≤ 20480) _ _ _ (λ _. div_most d.width h) (λ _. plain-most d x h k))

-- and of all
pub gates-cap : (t l : List ℕ) (w : ℕ) → table_fault t l w ≡ Ok tt → (sums_of t (length l) w).gates < 4294967296
unfolding sums_of node_gates
gates-cap t l w clear =
    let f = fine t l w clear in
    let q = sum-most (node_gates t (length l) w) 20480 (nodes t) (λ i h. top-most (length l) w f.short (within t l w clear).4 (node_at t (i + 1)) (width_of t (a_of t (i + 1))) (f.narrow (i + 1)) (f.narrow (a_of t (i + 1)))) in
    omega (arith, q, f.few)
