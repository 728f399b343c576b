-- A slot of a node, path by path.
use Rattle.std.proofs.Common.{◌≡◌, ℕ, zero, suc, ◌+◌, ◌-◌, ◌*◌, ◌<◌, ◌≤◌, eqb, List, length, get_or, arith}
use Rattle.loops.specs.Loop.{sum}
use Rattle.loops.proofs.Loop.{by-pick}
use Rattle.table.specs.declared.Node.{Node}
use Rattle.table.specs.declared.Unit.TheVariants.{Slot}
use Rattle.table.specs.Node.{nodes, node_at, width_of, Fine}
use Rattle.table.specs.Size.{size_of, node_size, offset_of, Offsets}

-- few slots, and no far offsets
pub slots-most : (n v : ℕ) → n ≤ 64 → size_of Slot n 0 v ≤ 64
slots-most n v h = by-pick (λ x. x ≤ 64) (eqb v 0) n 1 (λ e. h) (λ e. omega arith)

sum-most : (f : ℕ → ℕ) → ((i : ℕ) → f i ≤ 64) → (m : ℕ) → sum m f ≤ 64 * m
unfolding sum
sum-most f h zero = omega arith
sum-most f h (suc m) = omega (arith, sum-most f h m, h m)

offset-most : (t l : List ℕ) (i : ℕ) → length l ≤ 64 → i ≤ 513 → offset_of Slot t (length l) 0 i ≤ 65536
unfolding offset_of node_size
offset-most t l i h k = omega (arith, sum-most (node_size Slot t (length l) 0) (λ j. slots-most (length l) (width_of t (j + 1)) h) (i - 1))

pub near : (t l o : List ℕ) → Fine t l → Offsets Slot t (length l) 0 o → (i : ℕ) → i ≤ nodes t + 1 → get_or o i 0 ≤ 65536
near t l o f s i h = omega (arith, s.at i h, offset-most t l i f.short (omega (arith, f.few)))

-- a node's operands come before it, and it is narrow
pub operands-in : (t l : List ℕ) (i : ℕ) (d : Node) → Fine t l → i < nodes t → d ≡ node_at t (i + 1) → (d.a ≤ i) × (d.b ≤ i) × (d.c ≤ i) × (d.width ≤ 64)
operands-in t l i d f h e =
    let q = f.before i h in
    rw e (q.0, q.1, q.2, f.narrow (i + 1))
