-- What the lines written one after the other come to.
use mathlib.Core.Path.{◌≡◌, refl, ap, ◌∙◌}
use mathlib.Core.List.{List, ◌∷◌, append_assoc}
use Prim.Native.Nat.{ℕ, ◌+◌, ◌-◌, ◌≤◌}
use native.Mathlib.Omega.{arith}
use native.Mathlib.Numerals.{add-one}
use lib.ListN.{length, get_or}
use lib.Seq.{sets, sets-eq}
use borrow.Author.Tests.{eq-eqb, ne_eqb}
use Rattle.loops.specs.Loop.{pick}
use Rattle.netlist.specs.Record.{used}
use Rattle.text.specs.Line.{line}
use Rattle.text.specs.Put.{Text, put}
use Rattle.text.specs.Put.Text.{text}
use Rattle.text.specs.Write.{part, gate_name, bits_name, gate_count, constraint_count, gate_line, bits_line, next_bits, node_count, constraint_line, done_line, each, output, Written}
use Rattle.text.proofs.Puts.{put-append, put-room}

module _ (f : ℕ → List ℕ) (t : Text) where
  pub each_none : t ≡ put t (each 0 f)
  unfolding each put
  each_none = refl

  pub each_more : (u v : Text) (i : ℕ) → u ≡ put t (each i f) → v ≡ put u (f i) → v ≡ put t (each (i + 1) f)
  unfolding each
  each_more u v i e h = rw (add-one, ← put-append t (each i f) (f i), ← e) h

pub gate-put : (gates : List ℕ) (i o e : ℕ) (t u : Text) → o ≡ used i → e ≡ used (i + 1) → u ≡ put t (line gate_name (i ∷ part o e gates)) → u ≡ put t (gate_line gates i)
unfolding gate_line
gate-put gates i o e t u p q h = rw (p, q) at h

module _ (map offsets marks : List ℕ) (i : ℕ) (t : Text) where
  pub unmarked : get_or marks i 0 ≡ 0 → t ≡ put t (bits_line map offsets marks i)
  unfolding bits_line pick put
  unmarked h = rw (eq-eqb (get_or marks i 0) 0 h)

  pub marked : (u : Text) → (get_or marks i 0 ≡ 0 → ⊥) → u ≡ put t (line bits_name (i ∷ part (get_or offsets i 0) (get_or offsets (i + 1) 0) map)) → u ≡ put t (bits_line map offsets marks i)
  unfolding bits_line pick
  marked u h e = rw (ne_eqb (get_or marks i 0) 0 h) e

-- node i is the one after i - 1 nodes
pub bits_more : (map offsets marks : List ℕ) (t u v : Text) (i : ℕ) → 1 ≤ i → u ≡ put t (each (i - 1) (next_bits map offsets marks)) → v ≡ put u (bits_line map offsets marks i)
    → v ≡ put t (each (i + 1 - 1) (next_bits map offsets marks))
unfolding next_bits
bits_more map offsets marks t u v i h e f =
    let y : i + 1 - 1 ≡ i - 1 + 1 = omega arith in
    let z : i - 1 + 1 ≡ i = omega arith in
    rw y (each_more (next_bits map offsets marks) t u v (i - 1) e (rw z f))

output-put : (gates map offsets marks cs : List ℕ) (t a b c d : Text)
    → a ≡ put t (each (gate_count gates) (gate_line gates)) → b ≡ put a (each (node_count marks) (next_bits map offsets marks))
    → c ≡ put b (each (constraint_count cs) (constraint_line cs)) → d ≡ put c (done_line (gate_count gates) (constraint_count cs))
    → d ≡ put t (output gates map offsets marks cs)
unfolding output
output-put gates map offsets marks cs t a b c d e₁ e₂ e₃ e₄ =
    rw (e₄, e₃, e₂, e₁, put-append, put-append, put-append) (ap (put t) (simp append_assoc))

-- with room nothing is left out
pub room-put : (l bs k m : List ℕ) (r : ℕ) → k ≡ m → length bs ≤ length l → text m r ≡ put (text l 0) bs → Written l bs k r
room-put l bs k m r same h e =
    let z : 0 + length bs ≡ length bs = omega arith in
    let q : text m r ≡ text (sets l 0 bs) (length bs) = rw z at (e ∙ put-room bs l 0 (omega arith)) in
    let n : r ≡ length bs = cc in
    let s : m ≡ sets l 0 bs = cc in
    (n, same ∙ s ∙ rw z at (sets-eq bs l 0 (omega arith)))

-- g is the code's count of the gates
pub written : (gates map offsets marks cs l : List ℕ) (a b c : Text) (k m : List ℕ) (r g : ℕ)
    → k ≡ m → length (output gates map offsets marks cs) ≤ length l → g ≡ gate_count gates
    → a ≡ put (text l 0) (each (gate_count gates) (gate_line gates)) → b ≡ put a (each (node_count marks) (next_bits map offsets marks))
    → c ≡ put b (each (constraint_count cs) (constraint_line cs)) → text m r ≡ put c (done_line g (constraint_count cs))
    → Written l (output gates map offsets marks cs) k r
written gates map offsets marks cs l a b c k m r g same h q e₁ e₂ e₃ e₄ =
    room-put l (output gates map offsets marks cs) k m r same h (output-put gates map offsets marks cs (text l 0) _ _ _ _ e₁ e₂ e₃ (rw q at e₄))
