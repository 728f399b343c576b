-- The word evaluator, path by path.
use Rattle.std.proofs.Common.{◌≡◌, ℕ, ◌+◌, ◌<◌, ◌≤◌, Bool, true, false, List, length, Option, Some, None, Ok, Err, sym, ap, ◌∙◌, arith, le-ltb, lt-ltb}
use Rattle.loops.specs.Loop.{pick, first, found, iter}
use Rattle.loops.proofs.Search.{some_first, none_first}
use Rattle.loops.proofs.Loop.{pick_true, pick-false}
use Rattle.table.specs.declared.Node.{Node}
use Rattle.table.specs.declared.Unit.TheVariants.{Slot}
use Rattle.table.specs.Node.{nodes, node_at, given, width_of, a_of, b_of, c_of}
use Rattle.table.specs.Size.{size_of, node_size}
use Rattle.table.proofs.size.Laws.{size_room}
use Rattle.values.specs.declared.Refusal.TheVariants.{ValueRoom, Input}
use Rattle.values.specs.Value.{place_at}
use Rattle.values.specs.Eval.{slots, offset, total, input_bad, slot_step, node_step, run, eval_clear}

module _ (t l vals : List ℕ) (i : ℕ) (d : Node) (r : Bool) (e : d ≡ node_at t (i + 1)) (g : r ≡ given d) where
  is-given : given (node_at t (i + 1)) ≡ r
  is-given = sym (g ∙ ap given e)

  pub node_kept : r ≡ true → vals ≡ node_step t l i vals
  unfolding node_step
  node_kept h = sym (pick_true _ _ _ (is-given ∙ h))

  pub node_made : (v o a b c : ℕ) (p : Option ℕ) (m : ℕ) (x : List ℕ) → r ≡ false → v ≡ width_of t d.a → o ≡ offset t l (i + 1)
      → a ≡ offset t l d.a → b ≡ offset t l d.b → c ≡ offset t l d.c → p ≡ place_at l d vals b
      → m ≡ size_of Slot (length l) 0 d.width → x ≡ iter m (slot_step l d v o a b c p) vals → x ≡ node_step t l i vals
  unfolding node_step node_size
  node_made v o a b c p m x h ev eo ea eb ec ep em q =
      let made : x
      ≡ iter (slots t l i)
      (slot_step l (node_at t (i + 1)) (width_of t (a_of t (i + 1))) (offset t l (i + 1)) (offset t l (a_of t (i + 1))) (offset t l (b_of t (i + 1))) (offset t l (c_of t (i + 1)))
      (place_at l (node_at t (i + 1)) vals (offset t l (b_of t (i + 1)))))
      vals = cc in
      made ∙ sym (pick-false _ _ _ (is-given ∙ h))

pub fill-room : (t l : List ℕ) (i : ℕ) (d : Node) (o m n : ℕ) → i < nodes t → d ≡ node_at t (i + 1) → o ≡ offset t l (i + 1) → m ≡ size_of Slot (length l) 0 d.width
    → total t l ≤ n → o + m ≤ n
unfolding node_size
fill-room t l i d o m n h e eo em k =
    let em' : m ≡ size_of Slot (length l) 0 (node_at t (i + 1)).width = em ∙ ap (λ x. size_of Slot (length l) 0 x.width) e in
    omega (arith, size_room Slot t (length l) 0 i h)

module _ (t l : List ℕ) (w : ℕ) (v : List ℕ) (x : ℕ) (e : x ≡ total t l) where
  pub clear_room : length v < x → run (Err ValueRoom) v ≡ eval_clear t l w v
  unfolding eval_clear pick
  clear_room h = rw (← e, lt-ltb (length v) x h)

  module _ (m : x ≤ length v) where
    pub clear-input : (i : ℕ) → Some i ≡ found (nodes t) (input_bad t l w v) → run (Err (Input (i + 1))) v ≡ eval_clear t l w v
    unfolding eval_clear pick
    clear-input i q = let z = some_first (input_bad t l w v) (nodes t) i q in rw (← e, le-ltb (length v) x m, ← z.0, lt-ltb i (nodes t) z.1)

    pub clear-done : (y : List ℕ) → None ≡ found (nodes t) (input_bad t l w v) → y ≡ iter (nodes t) (node_step t l) v → run (Ok tt) y ≡ eval_clear t l w v
    unfolding eval_clear pick
    clear-done y q k = rw (← e, le-ltb (length v) x m, le-ltb (first (nodes t) (input_bad t l w v)) (nodes t) (none_first (input_bad t l w v) (nodes t) q), k)

pub ruleset node_rules = (node_kept, node_made)

pub ruleset clear_rules = (clear_room, clear-input, clear-done)
