-- What a node sees of its operands: a fact of each slot of each lower node, with that slot's width, is one of each operand at the width its sort rule says.
use Rattle.std.proofs.Common.{◌≡◌, ℕ, ◌+◌, ◌-◌, ◌<◌, ◌≤◌, false, ◌&&◌, ◌||◌, eqb, List, length, ap, arith, eq-eqb, ne_eqb}
use borrow.Author.Tests.{eqb-false}
use Rattle.loops.proofs.Loop.{pick_true, pick-false}
use Rattle.table.specs.declared.Node.{Node}
use Rattle.table.specs.declared.Unit.TheVariants.{Slot}
use Rattle.table.specs.Kind.{INPUT, STATE}
use Rattle.table.specs.Node.{node_at, width_of, given}
use Rattle.table.specs.Size.{node_size}
use Rattle.table.proofs.size.Laws.{apart}
use Rattle.values.specs.Eval.{slots, offset, slot_width}

module _ (w : ℕ) (d : Node) where
  pub width_word : 1 ≤ d.width → slot_width w d ≡ d.width
  unfolding slot_width
  width_word h = pick-false _ _ _ (ne_eqb d.width 0 (λ e. omega arith))

  pub width-memory : d.width ≡ 0 → slot_width w d ≡ w
  unfolding slot_width
  width-memory h = pick_true _ _ _ (eq-eqb d.width 0 h)

  pub width_same : (e : Node) → d.width ≡ e.width → slot_width w d ≡ slot_width w e
  unfolding slot_width
  width_same e h = rw h

-- an input is given, and so is a state with no initial node
pub no-input : (d : Node) → d.kind ≡ INPUT → given d ≡ false → ⊥
no-input d e g = let z : ◌≡◌ {A = ℕ} 0 1 = cc (ap (λ b. b || (eqb d.kind STATE && eqb d.a 0)) (eq-eqb d.kind INPUT e)) in omega arith

pub initial : (d : Node) → d.kind ≡ STATE → given d ≡ false → 1 ≤ d.a
initial d e g =
    let z : eqb d.a 0 ≡ false = rw e at g in
    let n : d.a ≡ 0 → ⊥ = eqb-false d.a 0 z in
    omega (arith, n)

module _ (t l : List ℕ) where
  memory-slots : (p : ℕ) → 1 ≤ p → width_of t p ≡ 0 → slots t l (p - 1) ≡ length l
  unfolding node_size
  memory-slots p h z = let e : p - 1 + 1 ≡ p = omega arith in rw e (pick_true _ _ _ (eq-eqb (width_of t p) 0 z))

  pub memory-own : (i : ℕ) → width_of t (i + 1) ≡ 0 → slots t l i ≡ length l
  unfolding node_size
  memory-own i z = pick_true _ _ _ (eq-eqb (width_of t (i + 1)) 0 z)

  word-slots : (p : ℕ) → 1 ≤ p → 1 ≤ width_of t p → slots t l (p - 1) ≡ 1
  unfolding node_size
  word-slots p h z = let e : p - 1 + 1 ≡ p = omega arith in rw e (pick-false _ _ _ (ne_eqb (width_of t p) 0 (λ q. omega arith)))

  same-slots : (p i : ℕ) → 1 ≤ p → width_of t p ≡ width_of t (i + 1) → slots t l (p - 1) ≡ slots t l i
  unfolding node_size
  same-slots p i h z = let e : p - 1 + 1 ≡ p = omega arith in rw (e, z)

  -- a lower node's slots end before
  pub reach : (i p j : ℕ) → 1 ≤ p → p < i + 1 → j < slots t l (p - 1) → offset t l p + j < offset t l (i + 1)
  reach i p j h g s =
      let e : p - 1 + 1 ≡ p = omega arith in
      let m : offset t l p + slots t l (p - 1) ≤ offset t l (i + 1) = rw e at (apart Slot t (length l) 0 (p - 1) i (omega arith)) in
      omega arith

  module _ (w i : ℕ) (R : ℕ → ℕ → Type 0) (all : (p j : ℕ) → 1 ≤ p → p < i + 1 → j < slots t l (p - 1) → R (offset t l p + j) (slot_width w (node_at t p))) where
    -- the one slot of a word
    pub see-word : (p : ℕ) → 1 ≤ p → p < i + 1 → 1 ≤ width_of t p → R (offset t l p) (width_of t p)
    see-word p h g z =
        let e : offset t l p + 0 ≡ offset t l p = omega arith in
        let r : R (offset t l p + 0) (slot_width w (node_at t p)) = all p 0 h g (omega (arith, word-slots p h z)) in
        rw (e, width_word w (node_at t p) z) at r

    -- word m of a memory
    pub see-memory : (p m : ℕ) → 1 ≤ p → p < i + 1 → width_of t p ≡ 0 → m < length l → R (offset t l p + m) w
    see-memory p m h g z k =
        let r : R (offset t l p + m) (slot_width w (node_at t p)) = all p m h g (omega (arith, memory-slots p h z)) in
        rw (width-memory w (node_at t p) z) at r

    -- slot j of an operand of the node's own sort
    pub see-same : (p j : ℕ) → 1 ≤ p → p < i + 1 → width_of t p ≡ width_of t (i + 1) → j < slots t l i → R (offset t l p + j) (slot_width w (node_at t (i + 1)))
    see-same p j h g z k =
        let r : R (offset t l p + j) (slot_width w (node_at t p)) = all p j h g (omega (arith, same-slots p i h z)) in
        rw (width_same w (node_at t p) (node_at t (i + 1)) z) at r
