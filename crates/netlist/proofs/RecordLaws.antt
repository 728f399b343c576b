-- The layout of a record in the buffer: what is written is read back, and nothing else changes.
use mathlib.Core.Path.{◌≡◌, ◌∙◌}
use mathlib.Core.List.{List}
use Prim.Native.Nat.{ℕ, ◌+◌, ◌*◌, ◌≤◌, ◌<◌}
use native.Mathlib.Omega.{arith}
use lib.ListN.{set, get_or, length, length-set}
use lib.Seq.{get_or-set_same, get_or-set_other}
use Rattle.netlist.specs.Record.{put, gate_at, used, Room}
use Rattle.netlist.specs.declared.record.Gate.{Gate}

pub put-length : (l : List ℕ) (n : ℕ) (g : Gate) → length (put l n g) ≡ length l
unfolding put
put-length l n g = simp length-set

-- a store above the place that is read, and a store there
above : (l : List ℕ) (i j v : ℕ) → j < i → get_or (set l i v) j 0 ≡ get_or l j 0
above l i j v h = get_or-set_other l i j v 0 (omega arith)

there : (l : List ℕ) (i v : ℕ) → i < length l → get_or (set l i v) i 0 ≡ v
there l i v h = get_or-set_same l i v 0 h

pub put_same : (l : List ℕ) (n : ℕ) (g : Gate) → Room l (n + 1) → gate_at (put l n g) n ≡ g
unfolding put gate_at
put_same l n g h =
    let a : ℕ = 4 * n in
    let l1 : List ℕ = set l a g.kind in
    let l2 : List ℕ = set l1 (a + 1) g.x in
    let l3 : List ℕ = set l2 (a + 2) g.y in
    let p3 : get_or (set l3 (a + 3) g.z) (a + 3) 0 ≡ g.z = there l3 (a + 3) g.z (simp length-set (omega arith)) in
    let p2 : get_or (set l3 (a + 3) g.z) (a + 2) 0 ≡ g.y = above l3 (a + 3) (a + 2) g.z (omega arith) ∙ there l2 (a + 2) g.y (simp length-set (omega arith)) in
    let p1 : get_or (set l3 (a + 3) g.z) (a + 1) 0 ≡ g.x = above l3 (a + 3) (a + 1) g.z (omega arith) ∙ (above l2 (a + 2) (a + 1) g.y (omega arith)
    ∙ there l1 (a + 1) g.x (simp length-set (omega arith))) in
    let p0 : get_or (set l3 (a + 3) g.z) a 0 ≡ g.kind = above l3 (a + 3) a g.z (omega arith) ∙ (above l2 (a + 2) a g.y (omega arith)
    ∙ (above l1 (a + 1) a g.x (omega arith) ∙ there l a g.kind (omega arith))) in
    λ t. record { kind = p0 t; x = p1 t; y = p2 t; z = p3 t }

below : (l : List ℕ) (n : ℕ) (g : Gate) (j : ℕ) → j < 4 * n → get_or (put l n g) j 0 ≡ get_or l j 0
unfolding put
below l n g j h =
    let h1 : j < 4 * n + 1 = omega arith in
    let h2 : j < 4 * n + 2 = omega arith in
    let h3 : j < 4 * n + 3 = omega arith in
    simp above

pub put_other : (l : List ℕ) (n : ℕ) (g : Gate) (i : ℕ) → i < n → gate_at (put l n g) i ≡ gate_at l i
unfolding gate_at
put_other l n g i h =
    λ t. record { kind = below l n g (4 * i) (omega arith) t; x = below l n g (4 * i + 1) (omega arith) t; y = below l n g (4 * i + 2) (omega arith) t; z = below l n g (4 * i + 3) (omega arith) t }

-- a store below the place that is read
past : (l : List ℕ) (i j v : ℕ) → i < j → get_or (set l i v) j 0 ≡ get_or l j 0
past l i j v h = get_or-set_other l i j v 0 (omega arith)

-- beyond the record nothing changes
pub put_rest : (l : List ℕ) (n : ℕ) (g : Gate) (j : ℕ) → used (n + 1) ≤ j → get_or (put l n g) j 0 ≡ get_or l j 0
unfolding put
put_rest l n g j h =
    let h0 : 4 * n < j = omega arith in
    let h1 : 4 * n + 1 < j = omega arith in
    let h2 : 4 * n + 2 < j = omega arith in
    let h3 : 4 * n + 3 < j = omega arith in
    simp past
