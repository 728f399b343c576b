-- Refusal 13, path by path.
use Rattle.std.proofs.Common.{◌≡◌, ℕ, ◌+◌, Bool, true, false, not, ltb, List, length, sym, ap, ◌∙◌}
use borrow.Author.Tests.{not-true, not-false}
use Rattle.loops.specs.Loop.{first}
use Rattle.table.specs.declared.Node.{Node}
use Rattle.table.specs.declared.Unit.TheVariants.{Slot}
use Rattle.table.specs.Node.{node_at, given}
use Rattle.table.specs.Size.{size_of, node_size}
use Rattle.values.specs.Eval.{offset, slot_width, slot_bad, input_bad}

module _ (t l : List ℕ) (w : ℕ) (vals : List ℕ) (i : ℕ) (d : Node) (r : Bool) (e : d ≡ node_at t (i + 1)) (g : r ≡ given d) where
  is-given : given (node_at t (i + 1)) ≡ r
  is-given = sym (g ∙ ap given e)

  pub input_none : not r ≡ true → false ≡ input_bad t l w vals i
  unfolding input_bad
  input_none h = rw (is-given, not-true r h)

  pub input-path : (u o m k : ℕ) → not r ≡ false → u ≡ slot_width w d → o ≡ offset t l (i + 1) → m ≡ size_of Slot (length l) 0 d.width → k ≡ first m (slot_bad u vals o) → ltb k m ≡ input_bad t l w vals i
  unfolding input_bad node_size
  input-path u o m k h eu eo em ek =
      let eu' : u ≡ slot_width w (node_at t (i + 1)) = eu ∙ ap (slot_width w) e in
      let em' : m ≡ size_of Slot (length l) 0 (node_at t (i + 1)).width = em ∙ ap (λ x. size_of Slot (length l) 0 x.width) e in
      rw (is-given, not-false r h, ← eu', ← eo, ← em', ← ek)
