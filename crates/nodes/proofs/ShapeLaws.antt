-- The recipe of a table without fault has the shape that the visits ask.
use Rattle.std.specs.Prelude.{Ok}
use mathlib.Core.Path.{◌≡◌, refl, ap, sym, ◌∙◌}
use mathlib.Core.List.{List}
use mathlib.Core.Bool.{Bool, true, false, ◌&&◌, false≢true}
use Prim.Native.Nat.{ℕ, ◌+◌, ◌*◌, ◌≤◌, ◌<◌}
use native.Mathlib.Omega.{arith}
use lib.Dec.{eqb}
use lib.ListN.{get_or}
use borrow.Author.Tests.{eqb-true, eqb-false, ne_eqb}
use Rattle.loops.specs.Loop.{pick}
use Rattle.loops.proofs.Loop.{by-pick, either}
use Rattle.table.specs.declared.Node.{Node}
use Rattle.table.specs.Kind.{ITE, DIVU, REM, divides, uses_b}
use Rattle.table.specs.Node.{width_of}
use Rattle.table.specs.Sheet.{table_fault}
use Rattle.table.proofs.Whole.{Sound, Rule, Even, is-const, is-input, is_state, is-op, is-bad, is-ext, is-ite, is-divu, is-rem, is_read, is-write, is-sext}
use Rattle.netlist.specs.Bit.{is_known}
use Rattle.visits.specs.Claims.{Is, Same, Shape}
use Rattle.nodes.specs.Source.{Source, node_of, wide_of, bits_of, off_of, condition_of, first_of, second_of, third_of, word_at}
use Rattle.nodes.specs.Recipe.{recipe}
use Rattle.nodes.proofs.OpKinds.{op-plain}
use Rattle.nodes.proofs.Places.{no_bits, off-apart, off-inside, sound-of, part_at, bits-words, word-words, word_wide}

-- a division is a word over two of its width
pub divided : {w : ℕ} {d : Node} {va vb vc : ℕ} → Rule w d va vb vc → divides d.kind ≡ true → Even d.width va vb
divided (is-const e a b) h = absurd (false≢true (rw e at h))
divided (is-input e) h = absurd (false≢true (rw e at h))
divided (is_state e a) h = absurd (false≢true (rw e at h))
divided {w} {d} (is-op o e s) h = absurd (false≢true (sym (op-plain o d e).divides ∙ h))
divided (is-bad e a b) h = absurd (false≢true (rw e at h))
divided (is-ext e s) h = absurd (false≢true (rw e at h))
divided (is-ite e a b c) h = absurd (false≢true (rw e at h))
divided (is-sext e s) h = absurd (false≢true (rw e at h))
divided (is-divu e s) h = s
divided (is-rem e s) h = s
divided (is_read e a b c) h = absurd (false≢true (rw e at h))
divided (is-write e a b c f) h = absurd (false≢true (rw e at h))

pub divides-two : (k : ℕ) → divides k ≡ true → uses_b k ≡ true
divides-two k h = either (eqb k DIVU) (eqb k REM) (uses_b k ≡ true) (λ e. rw (eqb-true k DIVU e)) (λ e. rw (eqb-true k REM e)) h

-- an ite: a condition one bit wide, and two sides of its own sort
pub chosen : {w : ℕ} {d : Node} {va vb vc : ℕ} → Rule w d va vb vc → d.kind ≡ ITE → (va ≡ 1) × (vb ≡ d.width) × (vc ≡ d.width)
chosen (is-ite e a b c) h = (a, b, c)
chosen (is-const e a b) h = absurd (omega arith)
chosen (is-input e) h = absurd (omega arith)
chosen (is_state e a) h = absurd (omega arith)
chosen {w} {d} (is-op o e s) h = absurd (eqb-false d.kind ITE (op-plain o d e).chooses h)
chosen (is-bad e a b) h = absurd (omega arith)
chosen (is-ext e s) h = absurd (omega arith)
chosen (is-sext e s) h = absurd (omega arith)
chosen (is-divu e s) h = absurd (omega arith)
chosen (is-rem e s) h = absurd (omega arith)
chosen (is_read e a b c) h = absurd (omega arith)
chosen (is-write e a b c f) h = absurd (omega arith)

-- the operands that are read, by kind
module _ (S : Source) (m : List ℕ) (k : ℕ) where
  pub second-else : ((node_of S k).kind ≡ ITE → ⊥) → second_of S m k ≡ (node_of S k).b
  unfolding second_of pick
  second-else h = rw (ne_eqb (node_of S k).kind ITE h)

  pub third-else : ((node_of S k).kind ≡ ITE → ⊥) → third_of S m k ≡ (node_of S k).c
  unfolding third_of pick
  third-else h = rw (ne_eqb (node_of S k).kind ITE h)

-- a word in two maps that have its bits alike
word_same : (S : Source) (m t : List ℕ) (x : ℕ) → 1 ≤ x → 1 ≤ width_of S.table x → Same (recipe S) m t x → (j : ℕ) → j < wide_of S x
    → get_or (word_at S t x 0) j 0 ≡ get_or (word_at S m x 0) j 0
word_same S m t x some word same j l =
    let e : off_of S x + 0 * wide_of S x + j ≡ off_of S x + j = omega arith in
    let q : j < bits_of S x = omega (arith, bits-words S x some, ap (λ (n : ℕ). n * wide_of S x) (word-words S x word)) in
    rw (part_at t (off_of S x + 0 * wide_of S x) (wide_of S x) j l, part_at m (off_of S x + 0 * wide_of S x) (wide_of S x) j l, e) (same j q)

module _ (S : Source) (clear : table_fault S.table S.addrs S.word ≡ Ok tt) where
  module _ (m t : List ℕ) (k : ℕ) (is : Is (recipe S) k) where
    cond_same : (node_of S k).kind ≡ ITE → Same (recipe S) m t (first_of S k) → condition_of S t k ≡ condition_of S m k
    cond_same h same =
        let n : Sound S.table S.word k = sound-of S clear k is in
        let one : width_of S.table (node_of S k).a ≡ 1 = (chosen n.sort h).0 in
        word_same S m t (node_of S k).a (n.operands.a-used (rw h)) (omega arith) same 0 (omega (arith, word_wide S (node_of S k).a (omega arith)))

    second-same : Same (recipe S) m t (first_of S k) → second_of S t k ≡ second_of S m k
    unfolding second_of
    second-same same = go (eqb (node_of S k).kind ITE) refl
      where
        go : (b : Bool) → eqb (node_of S k).kind ITE ≡ b
            → pick (b && eqb (condition_of S t k) 0) (node_of S k).c (node_of S k).b ≡ pick (b && eqb (condition_of S m k) 0) (node_of S k).c (node_of S k).b
        go true e = rw (cond_same (eqb-true (node_of S k).kind ITE e) same)
        go false e = refl

    third-same : Same (recipe S) m t (first_of S k) → third_of S t k ≡ third_of S m k
    unfolding third_of
    third-same same = go (eqb (node_of S k).kind ITE) refl
      where
        go : (b : Bool) → eqb (node_of S k).kind ITE ≡ b → pick (b && is_known (condition_of S t k)) 0 (node_of S k).c ≡ pick (b && is_known (condition_of S m k)) 0 (node_of S k).c
        go true e = rw (cond_same (eqb-true (node_of S k).kind ITE e) same)
        go false e = refl

  pub shape : Shape (recipe S)
  unfolding second_of third_of
  shape =
      record {
        none = no_bits S;
        first = λ k is. (sound-of S clear k is).operands.a;
        second = λ m k is. by-pick (λ x. x < k) _ _ _ (λ _. (sound-of S clear k is).operands.c) (λ _. (sound-of S clear k is).operands.b);
        third = λ m k is. by-pick (λ x. x < k) _ _ _ (λ _. omega (arith, is.low)) (λ _. (sound-of S clear k is).operands.c);
        second-same = second-same;
        third-same = third-same;
        inside = λ k is. off-inside S k is.low is.high;
        apart = λ x y lt _. off-apart S x y lt;
      }
