-- The law of one adder: sum + 2 · carry ≡ left + right + carry in.
use mathlib.Core.Path.{◌≡◌, refl, ap}
use mathlib.Core.Bool.{Bool, true, false, not, ◌&&◌, ◌||◌}
use Prim.Native.Nat.{ℕ, ◌+◌, ◌*◌, ◌≤◌, ◌<◌}
use native.Mathlib.Omega.{arith}
use lib.Dec.{eqb}
use borrow.Author.Tests.{eqb-true, eqb-false}
use Rattle.loops.specs.Loop.{pick, bit}
use Rattle.loops.proofs.Loop.{by-pick, both}
use Rattle.netlist.specs.Kind.{xor, maj}
use Rattle.netlist.specs.Net.{Net, Obeys}
use Rattle.netlist.specs.Bit.{is_known}
use Rattle.netlist.proofs.BitLaws.{known-less, unknown-least, less-known}
use Rattle.gates.specs.Made.{MadeSum, added, gate_result_half}
use Rattle.gates.specs.Fold.{not_bit}
use Rattle.gates.specs.Adder.{two_known, one_known, none_known, adder_bit, adder_cost}
use Rattle.gates.specs.Law.{Formed, BitLaw, SumLaw, In2, Kn2, In3, Kn3, total3}
use Rattle.gates.proofs.Laws.{ext_refl, keeps, then-law, pair-law, sum-map, bit-known}
use Rattle.gates.proofs.FoldLaws.{&&-false, not-one, or-law, carry-half, result-half, carry-full, result-full}

bit_not : (b : Bool) → bit (not b) + bit b ≡ 1
bit_not true = refl
bit_not false = refl

half-0 : (x y : Bool) → bit (xor x y) + 2 * bit (x && y) ≡ bit x + bit y
half-0 true true = refl
half-0 true false = refl
half-0 false true = refl
half-0 false false = refl

half-1 : (x y : Bool) → bit (not (xor x y)) + 2 * bit (x || y) ≡ 1 + bit x + bit y
half-1 true true = refl
half-1 true false = refl
half-1 false true = refl
half-1 false false = refl

full : (x y z : Bool) → bit (xor (xor x y) z) + 2 * bit (maj x y z) ≡ bit x + bit y + bit z
full true true true = refl
full true true false = refl
full true false true = refl
full true false false = refl
full false true true = refl
full false true false = refl
full false false true = refl
full false false false = refl

two-law : (s : Net) (a b t : ℕ) → a < 2 → b < 2 → SumLaw s (In3 s a b t) (Kn3 a b t) (total3 a b t) 1 (two_known s a b t)
unfolding two_known
two-law s a b t ka kb =
    by-pick P (eqb a b) _ _
    (λ h. record {
      ext = ext_refl s 1;
      value = λ e o. rw (eqb-true a b h) (omega arith);
      formed = λ room i f. (f, i.2, i.0);
      known = λ k. (refl, k.2, k.0);
    })
    (λ h. let n : BitLaw s (t < s.n) (t < 2) (λ e. not (e t)) 1 (not_bit s t) = not-one s t in
    record {
      ext = n.ext;
      value = λ e o.
          let o₁ : Obeys s e = keeps s (not_bit s t).net 1 e n.ext.grows o in
          rw (n.value e o) (omega (arith, bit_not (e t), bit-known s e a o₁ ka, bit-known s e b o₁ kb, eqb-false a b h));
      formed = λ room i f. let q : Formed (not_bit s t).net × ((not_bit s t).bit < (not_bit s t).net.n) = n.formed room i.2 f in (q.0, q.1, omega (arith, n.ext.grows.from, i.2));
      known = λ k. let q : ((not_bit s t).net ≡ s) × ((not_bit s t).bit < 2) = n.known k.2 in (q.0, q.1, k.2);
    })
  where
    P : MadeSum → Type 0
    P m = SumLaw s (In3 s a b t) (Kn3 a b t) (total3 a b t) 1 m

none-law : (s : Net) (a b c : ℕ) → 2 ≤ a → 2 ≤ b → 2 ≤ c → SumLaw s (In3 s a b c) (Kn3 a b c) (total3 a b c) 2 (none_known s a b c)
unfolding none_known
none-law s a b c ha hb hc =
    pair-law (total3 a b c) (result-full s a ha b hb c hc) (λ i l. omega arith) (λ k. k) (carry-full _ a ha b hb c hc) (λ e o. full (e a) (e b) (e c))

one-law : (s : Net) (k a b : ℕ) → k < 2 → 2 ≤ a → 2 ≤ b → SumLaw s (In2 s a b) (Kn2 a b) (total3 k a b) 3 (one_known s k a b)
unfolding one_known
one-law s k a b hk ha hb =
    by-pick P (eqb k 0) _ _
    (λ h. sum-map (λ i. i) (λ i. i) (λ e. refl) (omega arith)
    (pair-law (total3 k a b) r (λ i l. omega arith) (λ q. q) (carry-half _ a ha b hb)
    (λ e o. omega (arith, half-0 (e a) (e b), bit-known s e k o hk, eqb-true k 0 h))))
    (λ h. pair-law (total3 k a b) (then-law (λ e. not (xor (e a) (e b))) r (λ i l q. q) (λ q w. w) (not-one _ _) (λ e q. ap not q))
    (λ i l. omega arith) (λ q. q) (or-law _ a b)
    (λ e o. omega (arith, half-1 (e a) (e b), bit-known s e k o hk, eqb-false k 0 h)))
  where
    P : MadeSum → Type 0
    P m = SumLaw s (In2 s a b) (Kn2 a b) (total3 k a b) 3 m

    r : BitLaw s (In2 s a b) (Kn2 a b) (λ e. xor (e a) (e b)) 1 (added s (gate_result_half a b))
    r = result-half s a ha b hb

-- at least one gate, three unless left and right are known
pub adder-cost : (l r : ℕ) → (1 ≤ adder_cost l r) × (adder_cost l r ≤ 3)
unfolding adder_cost
adder-cost l r = by-pick (λ k. (1 ≤ k) × (k ≤ 3)) (is_known l && is_known r) 1 3 (λ h. omega arith) (λ h. omega arith)

pub cost-left : (l r : ℕ) → is_known l ≡ false → adder_cost l r ≡ 3
unfolding adder_cost pick
cost-left l r h = rw h

pub cost-right : (l r : ℕ) → is_known r ≡ false → adder_cost l r ≡ 3
unfolding adder_cost pick
cost-right l r h = rw (h, &&-false)

pub cost-known : (l r : ℕ) → l < 2 → r < 2 → adder_cost l r ≡ 1
unfolding adder_cost pick
cost-known l r h k = rw (less-known l h, less-known r k)

-- a right bit that is known wherever another is costs no more than it
pub cost-less : (l a b : ℕ) → (b < 2 → a < 2) → adder_cost l a ≤ adder_cost l b
unfolding adder_cost
cost-less l a b h = by-pick (λ k. adder_cost l a ≤ k) (is_known l && is_known b) 1 3 (λ k. one k) (λ k. (adder-cost l a).1)
  where
    one : (is_known l && is_known b) ≡ true → adder_cost l a ≤ 1
    one k =
        let q = both (is_known l) (is_known b) k in
        omega (arith, cost-known l a (known-less l q.0) (h (known-less b q.1)))

pub adder-law : (s : Net) (l r c : ℕ) → SumLaw s (In3 s l r c) (Kn3 l r c) (total3 l r c) (adder_cost l r) (adder_bit s l r c)
unfolding adder_bit
adder-law s l r c =
    by-pick P (is_known l) _ _
    (λ kl. by-pick P (is_known r) _ _
    (λ kr. sum-map (λ i. i) (λ i. i) (λ e. refl) one (two-law s l r c (known-less l kl) (known-less r kr)))
    (λ ur. by-pick P (is_known c) _ _
    (λ kc. sum-map (λ i. (i.0, i.2, i.1)) (λ i. (i.0, i.2, i.1)) (λ e. omega arith) one (two-law s l c r (known-less l kl) (known-less c kc)))
    (λ uc. sum-map (λ i. (i.1, i.2)) (λ i. (i.1, i.2)) (λ e. refl) (right ur) (one-law s l r c (known-less l kl) (unknown-least r ur) (unknown-least c uc)))))
    (λ ul. by-pick P (is_known r) _ _
    (λ kr. by-pick P (is_known c) _ _
    (λ kc. sum-map (λ i. (i.1, i.2, i.0)) (λ i. (i.1, i.2, i.0)) (λ e. omega arith) one (two-law s r c l (known-less r kr) (known-less c kc)))
    (λ uc. sum-map (λ i. (i.0, i.2)) (λ i. (i.0, i.2)) (λ e. omega arith) (left ul) (one-law s r l c (known-less r kr) (unknown-least l ul) (unknown-least c uc))))
    (λ ur. by-pick P (is_known c) _ _
    (λ kc. sum-map (λ i. (i.0, i.1)) (λ i. (i.0, i.1)) (λ e. omega arith) (left ul) (one-law s c l r (known-less c kc) (unknown-least l ul) (unknown-least r ur)))
    (λ uc. sum-map (λ i. i) (λ i. i) (λ e. refl) (omega (arith, left ul)) (none-law s l r c (unknown-least l ul) (unknown-least r ur) (unknown-least c uc)))))
  where
    P : MadeSum → Type 0
    P m = SumLaw s (In3 s l r c) (Kn3 l r c) (total3 l r c) (adder_cost l r) m

    one : 1 ≤ adder_cost l r
    one = (adder-cost l r).0

    left : is_known l ≡ false → 3 ≤ adder_cost l r
    left h = omega (arith, cost-left l r h)

    right : is_known r ≡ false → 3 ≤ adder_cost l r
    right h = omega (arith, cost-right l r h)
