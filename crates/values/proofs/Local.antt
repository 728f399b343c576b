-- A node's value looks only at the slots of lower nodes, so the final values are what each node's kind makes of the final values themselves.
use Rattle.std.proofs.Common.{◌≡◌, refl, Ok, Option, Some, None, ℕ, ◌+◌, ◌-◌, ◌<◌, ◌≤◌, true, false, List, length, get_or, sym, ap, ◌∙◌, ap₂, inl, inr, arith, lt-ltb, le-ltb}
use native.Mathlib.Decide.{dec_lt}
use Rattle.loops.specs.Loop.{pick, iter}
use Rattle.table.specs.declared.Node.{Node}
use Rattle.table.specs.Kind.{uses_a, uses_b, uses_c, accesses}
use Rattle.table.specs.Node.{nodes, node_at, width_of, a_of, b_of, c_of}
use Rattle.digits.proofs.Ops.{op_same}
use Rattle.table.proofs.Ops.{op-a, op-b}
use Rattle.table.proofs.Whole.{Sound, Rule, is-const, is-input, is_state, is-op, is-bad, is-ext, is-ite, is-divu, is-rem, is_read, is-write, is-sext, within, each-sound}
use Rattle.values.specs.Value.{listed, div_word, rem_word, sext_word, read_value, write_value, ite_value, place_at, slot_at}
use Rattle.values.specs.Eval.{slots, offset, node_given, node_step, eval_words}
use Rattle.values.specs.Frame.{Valued}
use Rattle.values.proofs.ByKind.{at-const, at-state, at_op, at-bad, at-ext, at-ite, at-divu, at-rem, at_read, at-write, at-sext, place-access}
use Rattle.values.proofs.Seen.{no-input, initial, reach, see-word, see-memory, see-same}
use Rattle.values.proofs.Kept.{kept, worked, finished}

module _ (t l : List ℕ) (w i : ℕ) (x y : List ℕ) (j : ℕ) (pos : 1 ≤ w) (s : Sound t w (i + 1)) (free : node_given t i ≡ false) (inside : j < slots t l i)
    (agrees : (k : ℕ) → k < offset t l (i + 1) → get_or y k 0 ≡ get_or x k 0) (z : List ℕ) (agreed : (k : ℕ) → k < offset t l (i + 1) → get_or z k 0 ≡ get_or x k 0) where
  abbrev d : Node
  d = node_at t (i + 1)

  -- the first operand's width
  abbrev va : ℕ
  va = width_of t (a_of t (i + 1))

  abbrev oa : ℕ
  oa = offset t l (a_of t (i + 1))

  abbrev ob : ℕ
  ob = offset t l (b_of t (i + 1))

  abbrev oc : ℕ
  oc = offset t l (c_of t (i + 1))

  -- the address's place, as it was looked for and as it is
  abbrev pz : Option ℕ
  pz = place_at l d z ob

  abbrev px : Option ℕ
  px = place_at l d x ob

  abbrev Alike : ℕ → ℕ → Type 0
  Alike k u = get_or y k 0 ≡ get_or x k 0

  abbrev Alike-z : ℕ → ℕ → Type 0
  Alike-z k u = get_or z k 0 ≡ get_or x k 0

  all : (p m : ℕ) → 1 ≤ p → p < i + 1 → m < slots t l (p - 1) → get_or y (offset t l p + m) 0 ≡ get_or x (offset t l p + m) 0
  all p m h g k = agrees (offset t l p + m) (reach t l i p m h g k)

  word : (p : ℕ) → 1 ≤ p → p < i + 1 → 1 ≤ width_of t p → get_or y (offset t l p) 0 ≡ get_or x (offset t l p) 0
  word = see-word t l w i Alike all

  memory : (p m : ℕ) → 1 ≤ p → p < i + 1 → width_of t p ≡ 0 → m < length l → get_or y (offset t l p + m) 0 ≡ get_or x (offset t l p + m) 0
  memory = see-memory t l w i Alike all

  same : (p : ℕ) → 1 ≤ p → p < i + 1 → width_of t p ≡ width_of t (i + 1) → get_or y (offset t l p + j) 0 ≡ get_or x (offset t l p + j) 0
  same p h g z = see-same t l w i Alike all p j h g z inside

  Local : Type 0
  Local = slot_at l d va y oa ob oc pz j ≡ slot_at l d va x oa ob oc px j

  -- a kind that takes a word, and one that takes two
  one : (f : ℕ → ℕ) → slot_at l d va y oa ob oc pz j ≡ f (get_or y oa 0) → slot_at l d va x oa ob oc px j ≡ f (get_or x oa 0) → uses_a d.kind ≡ true → 1 ≤ width_of t (a_of t (i + 1)) → Local
  unfolding Local
  one f p q u h = p ∙ (ap f (word (a_of t (i + 1)) (s.operands.a-used u) s.operands.a h) ∙ sym q)

  two : (f : ℕ → ℕ → ℕ) → slot_at l d va y oa ob oc pz j ≡ f (get_or y oa 0) (get_or y ob 0) → slot_at l d va x oa ob oc px j ≡ f (get_or x oa 0) (get_or x ob 0)
      → uses_a d.kind ≡ true → uses_b d.kind ≡ true → 1 ≤ width_of t (a_of t (i + 1)) → 1 ≤ width_of t (b_of t (i + 1)) → Local
  unfolding Local
  two f p q u m h k =
      p
      ∙ (ap₂ f (word (a_of t (i + 1)) (s.operands.a-used u) s.operands.a h) (word (b_of t (i + 1)) (s.operands.b-used m) s.operands.b k)
      ∙ sym q)

  ite-alike : get_or y oa 0 ≡ get_or x oa 0 → get_or y (ob + j) 0 ≡ get_or x (ob + j) 0 → get_or y (oc + j) 0 ≡ get_or x (oc + j) 0 → ite_value y oa ob oc j ≡ ite_value x oa ob oc j
  unfolding ite_value
  ite-alike p q r = rw (p, q, r)

  read_alike : (p : Option ℕ) → ((m : ℕ) → m < length l → get_or y (oa + m) 0 ≡ get_or x (oa + m) 0) → read_value l y oa p ≡ read_value l x oa p
  unfolding read_value pick
  read_alike (Some m) h = go (dec_lt m (length l))
    where
      go : Dec (m < length l) → read_value l y oa (Some m) ≡ read_value l x oa (Some m)
      go (yes k) = rw (lt-ltb m (length l) k) (h m k)
      go (no k) = rw (le-ltb m (length l) (omega arith))
  read_alike None h = refl

  write-alike : (p : Option ℕ) → get_or y oc 0 ≡ get_or x oc 0 → get_or y (oa + j) 0 ≡ get_or x (oa + j) 0 → write_value y oa p (get_or y oc 0) j ≡ write_value x oa p (get_or x oc 0) j
  unfolding write_value
  write-alike (Some m) h k = rw (h, k)
  write-alike None h k = k

  -- an address below is the same when it was looked for
  place-alike : accesses d.kind ≡ true → uses_b d.kind ≡ true → 1 ≤ width_of t (b_of t (i + 1)) → pz ≡ px
  place-alike e u h =
      place-access l d z ob e
      ∙ (ap (listed l) (see-word t l w i Alike-z (λ p m a b c. agreed (offset t l p + m) (reach t l i p m a b c)) (b_of t (i + 1)) (s.operands.b-used u) s.operands.b h)
      ∙ sym (place-access l d x ob e))

  by-rule : Rule w d (width_of t (a_of t (i + 1))) (width_of t (b_of t (i + 1))) (width_of t (c_of t (i + 1))) → Local
  unfolding Local
  by-rule (is-const e h m) = at-const l d va y oa ob oc pz j e ∙ sym (at-const l d va x oa ob oc px j e)
  by-rule (is-input e) = absurd (no-input d e free)
  by-rule (is_state e (inl z)) = absurd (omega (arith, initial d e free))
  by-rule (is_state e (inr z)) = at-state l d va y oa ob oc pz j e ∙ (same (a_of t (i + 1)) (initial d e free) s.operands.a z ∙ sym (at-state l d va x oa ob oc px j e))
  by-rule (is-op o e z) =
      at_op l d va y oa ob oc pz j o e
      ∙ (op_same o d.width
      (word (a_of t (i + 1)) (s.operands.a-used (ap uses_a e ∙ op-a o)) s.operands.a z.word)
      (λ u. word (b_of t (i + 1)) (s.operands.b-used (ap uses_b e ∙ (op-b o ∙ u))) s.operands.b (omega (arith, z.word, z.same u)))
      ∙ sym (at_op l d va x oa ob oc px j o e))
  by-rule (is-bad e h z) = one (λ v. v) (at-bad l d va y oa ob oc pz j e) (at-bad l d va x oa ob oc px j e) (ap uses_a e) (omega arith)
  by-rule (is-ext e z) = one (λ v. v) (at-ext l d va y oa ob oc pz j e) (at-ext l d va x oa ob oc px j e) (ap uses_a e) z.word
  by-rule (is-sext e z) = one (sext_word va d.width) (at-sext l d va y oa ob oc pz j e) (at-sext l d va x oa ob oc px j e) (ap uses_a e) z.word
  by-rule (is-divu e z) = two (div_word d.width) (at-divu l d va y oa ob oc pz j e) (at-divu l d va x oa ob oc px j e) (ap uses_a e) (ap uses_b e) (omega arith) (omega arith)
  by-rule (is-rem e z) = two rem_word (at-rem l d va y oa ob oc pz j e) (at-rem l d va x oa ob oc px j e) (ap uses_a e) (ap uses_b e) (omega arith) (omega arith)
  by-rule (is-ite e p q r) =
      at-ite l d va y oa ob oc pz j e
      ∙ (ite-alike
      (word (a_of t (i + 1)) (s.operands.a-used (ap uses_a e)) s.operands.a (omega arith))
      (same (b_of t (i + 1)) (s.operands.b-used (ap uses_b e)) s.operands.b q)
      (same (c_of t (i + 1)) (s.operands.c-used (ap uses_c e)) s.operands.c r)
      ∙ sym (at-ite l d va x oa ob oc px j e))
  by-rule (is_read e h p q) =
      at_read l d va y oa ob oc pz j e
      ∙ (ap (read_value l y oa) (place-alike (ap accesses e) (ap uses_b e) (omega arith))
      ∙ (read_alike px (λ m. memory (a_of t (i + 1)) m (s.operands.a-used (ap uses_a e)) s.operands.a p)
      ∙ sym (at_read l d va x oa ob oc px j e)))
  by-rule (is-write e h p q r) =
      at-write l d va y oa ob oc pz j e
      ∙ (ap (λ k. write_value y oa k (get_or y oc 0) j) (place-alike (ap accesses e) (ap uses_b e) (omega arith))
      ∙ (write-alike px
      (word (c_of t (i + 1)) (s.operands.c-used (ap uses_c e)) s.operands.c (omega arith))
      (same (a_of t (i + 1)) (s.operands.a-used (ap uses_a e)) s.operands.a (p ∙ sym h))
      ∙ sym (at-write l d va x oa ob oc px j e)))

  local : slot_at l d va y oa ob oc pz j ≡ slot_at l d va x oa ob oc px j
  unfolding Local
  local = by-rule s.sort

-- what is answered with no refusal: given slots and all beyond are kept, and every other slot is what its node's kind makes of the answer itself
pub done-right : (t l : List ℕ) (w : ℕ) (v : List ℕ) → (eval_words t l w v).answer ≡ Ok tt → Valued t l v (eval_words t l w v).values
done-right t l w v e =
    let f = finished t l w v e in
    rw f.values
    (record {
      kept = kept t l v;
      made = λ i j h q g.
          let r = worked t l v i j h q g f.room in
          r.made ∙ local t l w i (iter (nodes t) (node_step t l) v) r.y j (within t l w f.clear).3 (each-sound t l w f.clear i h) g q r.agrees r.z r.agreed;
    })
