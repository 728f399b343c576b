-- What the word evaluator leaves as it was, and of what each slot is made.
use Rattle.std.proofs.Common.{◌≡◌, ℕ, zero, suc, ◌+◌, ◌<◌, ◌≤◌, Bool, true, false, ltb, List, length, Option, Result, Ok, Err, get_or, sym, refl, ap, ◌∙◌, arith, length-set, get_or-set_other, get_or-set_same, ltb-false}
use native.Mathlib.Decide.{dec_lt}
use Rattle.loops.specs.Loop.{pick, iter, first}
use Rattle.loops.proofs.Loop.{iter-inv, pick_true, pick-false}
use Rattle.table.specs.declared.Fault.{Fault}
use Rattle.table.specs.declared.Node.{Node}
use Rattle.table.specs.declared.Unit.TheVariants.{Slot}
use Rattle.table.specs.Node.{nodes, node_at, width_of, a_of, b_of, c_of}
use Rattle.table.specs.Sheet.{table_fault, by_fault}
use Rattle.table.proofs.size.Laws.{apart, begins, size_room}
use Rattle.values.specs.declared.Refusal.{Refusal}
use Rattle.values.specs.declared.Refusal.TheVariants.{Table, ValueRoom, Input}
use Rattle.values.specs.Value.{place_at, slot_at}
use Rattle.values.specs.Eval.{slots, offset, total, node_given, input_bad, slot_step, node_step, Run, run, eval_clear, eval_words}
use Rattle.values.specs.Frame.{Kept}

-- y differs from x at most from o up to o + m
record Within (o m : ℕ) (x y : List ℕ) : Type 0 where
  pub long : length y ≡ length x
  pub below : (k : ℕ) → k < o → get_or y k 0 ≡ get_or x k 0
  pub above : (k : ℕ) → o + m ≤ k → get_or y k 0 ≡ get_or x k 0

module _ (l : List ℕ) (d : Node) (v o a b c : ℕ) (p : Option ℕ) (x : List ℕ) where
  filled : (m : ℕ) → Within o m x (iter m (slot_step l d v o a b c p) x)
  unfolding slot_step
  filled m =
      iter-inv (λ i y. Within o i x y) (slot_step l d v o a b c p) x m
      (record { long = refl; below = λ k h. refl; above = λ k h. refl })
      (λ i y h w.
      record {
        long = length-set y (o + i) _ ∙ w.long;
        below = λ k q. get_or-set_other y (o + i) k _ 0 (omega arith) ∙ w.below k q;
        above = λ k q. get_or-set_other y (o + i) k _ 0 (omega arith) ∙ w.above k (omega arith);
      })

  -- each of the m slots is made of what stood there when its turn came
  at-step : (m j : ℕ) → j < suc m → o + suc m ≤ length x
      → (j < m → get_or (iter m (slot_step l d v o a b c p) x) (o + j) 0 ≡ slot_at l d v (iter j (slot_step l d v o a b c p) x) a b c p j) → Dec (j < m)
      → get_or (iter (suc m) (slot_step l d v o a b c p) x) (o + j) 0 ≡ slot_at l d v (iter j (slot_step l d v o a b c p) x) a b c p j
  unfolding iter slot_step
  at-step m j h r ih (yes q) = get_or-set_other (iter m (slot_step l d v o a b c p) x) (o + m) (o + j) _ 0 (omega arith) ∙ ih q
  at-step m j h r ih (no q) =
      let e : j ≡ m = omega arith in
      rw e (get_or-set_same (iter m (slot_step l d v o a b c p) x) (o + m) _ 0 (omega (arith, (filled m).long)))

  fill-at : (m j : ℕ) → j < m → o + m ≤ length x → get_or (iter m (slot_step l d v o a b c p) x) (o + j) 0 ≡ slot_at l d v (iter j (slot_step l d v o a b c p) x) a b c p j
  fill-at zero j h r = absurd (omega arith)
  fill-at (suc m) j h r = at-step m j h r (λ q. fill-at m j q (omega arith)) (dec_lt j m)

module _ (t l : List ℕ) where
  place : ℕ → List ℕ → Option ℕ
  place i x = place_at l (node_at t (i + 1)) x (offset t l (b_of t (i + 1)))

  -- node i + 1, whose address stands at place p
  step : ℕ → Option ℕ → ℕ → List ℕ → List ℕ
  step i p = slot_step l (node_at t (i + 1)) (width_of t (a_of t (i + 1))) (offset t l (i + 1)) (offset t l (a_of t (i + 1))) (offset t l (b_of t (i + 1))) (offset t l (c_of t (i + 1))) p

  node-given : (i : ℕ) (x : List ℕ) → node_given t i ≡ true → node_step t l i x ≡ x
  unfolding node_step
  node-given i x e = pick_true _ _ _ e

  node_made : (i : ℕ) (x : List ℕ) → node_given t i ≡ false → node_step t l i x ≡ iter (slots t l i) (step i (place i x)) x
  unfolding node_step step place
  node_made i x e = pick-false _ _ _ e

  node-within : (i : ℕ) (x : List ℕ) (b : Bool) → node_given t i ≡ b → Within (offset t l (i + 1)) (slots t l i) x (node_step t l i x)
  unfolding step
  node-within i x true e = rw (node-given i x e) (record { long = refl; below = λ k h. refl; above = λ k h. refl })
  node-within i x false e = rw (node_made i x e) (filled l (node_at t (i + 1)) _ (offset t l (i + 1)) _ _ _ (place i x) x (slots t l i))

  module _ (v : List ℕ) where
    other : (i j k : ℕ) (x : List ℕ) → j < slots t l i → node_given t i ≡ true → Dec (i < k) → Dec (k < i)
        → get_or (node_step t l k x) (offset t l (i + 1) + j) 0 ≡ get_or x (offset t l (i + 1) + j) 0
    other i j k x h g (yes p) q = (node-within k x (node_given t k) refl).below _ (omega (arith, apart Slot t (length l) 0 i k p))
    other i j k x h g (no p) (yes q) = (node-within k x (node_given t k) refl).above _ (omega (arith, apart Slot t (length l) 0 k i q))
    other i j k x h g (no p) (no q) = let e : k ≡ i = omega arith in rw e (ap (λ y. get_or y (offset t l (i + 1) + j) 0) (node-given i x g))

    pub kept : Kept t l v (iter (nodes t) (node_step t l) v)
    kept =
        iter-inv (λ k x. Kept t l v x) (node_step t l) v (nodes t)
        (record { long = refl; given = λ i j h q g. refl; beyond = λ k h. refl })
        (λ k x h s.
        record {
          long = (node-within k x (node_given t k) refl).long ∙ s.long;
          given = λ i j p q g. other i j k x q g (dec_lt i k) (dec_lt k i) ∙ s.given i j p q g;
          beyond = λ n p. (node-within k x (node_given t k) refl).above n (omega (arith, size_room Slot t (length l) 0 k h)) ∙ s.beyond n p;
        })

    -- a later node leaves the slots below its own
    later-step : (i m s : ℕ) → i ≤ suc m → s < offset t l (i + 1) → (i ≤ m → get_or (iter m (node_step t l) v) s 0 ≡ get_or (iter i (node_step t l) v) s 0) → Dec (i < suc m)
        → get_or (iter (suc m) (node_step t l) v) s 0 ≡ get_or (iter i (node_step t l) v) s 0
    unfolding iter
    later-step i m s h q ih (yes p) =
        (node-within m (iter m (node_step t l) v) (node_given t m) refl).below s (omega (arith, begins Slot t (length l) 0 i m (omega arith))) ∙ ih (omega arith)
    later-step i m s h q ih (no p) = let e : i ≡ suc m = omega arith in rw e refl

    later : (i m s : ℕ) → i ≤ m → s < offset t l (i + 1) → get_or (iter m (node_step t l) v) s 0 ≡ get_or (iter i (node_step t l) v) s 0
    later i zero s h q = let e : i ≡ 0 = omega arith in rw e refl
    later i (suc m) s h q = later-step i m s h q (λ p. later i m s p q) (dec_lt i (suc m))

    long-at : (i : ℕ) → length (iter i (node_step t l) v) ≡ length v
    long-at i = iter-inv (λ k x. length x ≡ length v) (node_step t l) v i refl (λ k x h e. (node-within k x (node_given t k) refl).long ∙ e)

    one_more : (i : ℕ) → node_given t i ≡ false → iter (suc i) (node_step t l) v ≡ iter (slots t l i) (step i (place i (iter i (node_step t l) v))) (iter i (node_step t l) v)
    unfolding iter
    one_more i g = node_made i (iter i (node_step t l) v) g

    -- a list that agrees with the final values in the slots of all lower nodes
    abbrev Agrees : ℕ → List ℕ → Type 0
    Agrees i y = (k : ℕ) → k < offset t l (i + 1) → get_or y k 0 ≡ get_or (iter (nodes t) (node_step t l) v) k 0

    -- slot j of node i + 1 is made of such a list y, with the address of another, z
    pub record Worked (i j : ℕ) : Type 0 where
      pub y : List ℕ
      pub z : List ℕ
      pub agrees : Agrees i y
      pub agreed : Agrees i z
      pub made : get_or (iter (nodes t) (node_step t l) v) (offset t l (i + 1) + j) 0
          ≡ slot_at l (node_at t (i + 1)) (width_of t (a_of t (i + 1))) y (offset t l (a_of t (i + 1))) (offset t l (b_of t (i + 1))) (offset t l (c_of t (i + 1)))
          (place_at l (node_at t (i + 1)) z (offset t l (b_of t (i + 1)))) j

    pub worked : (i j : ℕ) → i < nodes t → j < slots t l i → node_given t i ≡ false → total t l ≤ length v → Worked i j
    unfolding step place
    worked i j h q g r =
        record {
          y = iter j (step i (place i y0)) y0;
          z = y0;
          agrees = λ k p. (filled l (node_at t (i + 1)) _ o _ _ _ (place i y0) y0 j).below k p ∙ sym (later i (nodes t) k (omega arith) p);
          agreed = λ k p. sym (later i (nodes t) k (omega arith) p);
          made =
              later (suc i) (nodes t) (o + j) h (omega (arith, next))
              ∙ (ap (λ x. get_or x (o + j) 0) (one_more i g) ∙ fill-at l (node_at t (i + 1)) _ o _ _ _ (place i y0) y0 (slots t l i) j q (omega (arith, size_room Slot t (length l) 0 i h, long-at i)));
        }
      where
        y0 : List ℕ
        y0 = iter i (node_step t l) v

        o : ℕ
        o = offset t l (i + 1)

        next : o + slots t l i ≤ offset t l (suc i + 1)
        next = apart Slot t (length l) 0 i (suc i) (omega arith)

refused-first : {P : Type 0} (b : Bool) (f : Refusal) (v : List ℕ) (y : Run) → (pick b (run (Err f) v) y).answer ≡ Ok tt → (b ≡ false → y.answer ≡ Ok tt → P) → P
unfolding pick
refused-first true f v y e k = absurd cc
refused-first false f v y e k = k refl e

by-clear : {P : Type 0} (r : Result Unit Fault) (y : Run) (v : List ℕ) → (by_fault r y (λ f. run (Err (Table f)) v)).answer ≡ Ok tt → (r ≡ Ok tt → y.answer ≡ Ok tt → P) → P
by-clear (Ok u) y v e k = k refl e
by-clear (Err f) y v e k = absurd cc

-- what an answer without refusal tells: a table without fault, room, given values in range, and where the values come from
pub record Finished (t l : List ℕ) (w : ℕ) (v : List ℕ) : Type 0 where
  pub clear : table_fault t l w ≡ Ok tt
  pub room : total t l ≤ length v
  pub inputs : nodes t ≤ first (nodes t) (input_bad t l w v)
  pub values : (eval_words t l w v).values ≡ iter (nodes t) (node_step t l) v

pub finished : (t l : List ℕ) (w : ℕ) (v : List ℕ) → (eval_words t l w v).answer ≡ Ok tt → Finished t l w v
unfolding eval_words eval_clear
finished t l w v e =
    by-clear (table_fault t l w) (eval_clear t l w v) v e
    (λ b1 e1.
    refused-first (ltb (length v) (total t l)) ValueRoom v _ e1
    (λ b2 e2.
    refused-first (ltb (first (nodes t) (input_bad t l w v)) (nodes t)) (Input (first (nodes t) (input_bad t l w v) + 1)) v _ e2
    (λ b3 e3.
    record {
      clear = b1;
      room = ltb-false (length v) (total t l) b2;
      inputs = ltb-false (first (nodes t) (input_bad t l w v)) (nodes t) b3;
      values =
          rw b1
          (ap (λ (r : Run). r.values)
          (pick-false _ (run (Err ValueRoom) v) _ b2 ∙ pick-false _ (run (Err (Input (first (nodes t) (input_bad t l w v) + 1))) v) _ b3));
    })))
