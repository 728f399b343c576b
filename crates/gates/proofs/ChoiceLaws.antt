-- The law of a choice: the value of the side that the condition picks.
use mathlib.Core.Path.{◌≡◌, refl, sym}
use mathlib.Core.Bool.{Bool, true, false, not, ◌&&◌, ◌||◌}
use Prim.Native.Nat.{ℕ, zero, suc, ◌≤◌, ◌<◌}
use native.Mathlib.Omega.{arith}
use lib.Dec.{eqb}
use borrow.Author.Tests.{eqb-true, eqb-false}
use Rattle.loops.specs.Loop.{pick}
use Rattle.loops.proofs.Loop.{by-pick, both, pick_true, pick-false}
use Rattle.netlist.specs.Net.{Net, Assign, Obeys}
use Rattle.netlist.specs.Bit.{is_known, known_of, by_known}
use Rattle.netlist.proofs.BitLaws.{by-known, known-less, least-unknown}
use Rattle.gates.specs.Made.{MadeBit, kept, gate_matriarch1}
use Rattle.gates.specs.Fold.{or_bit}
use Rattle.gates.specs.Choice.{true_side, false_side, both_sides, choice_bit, mux_bit}
use Rattle.gates.specs.Law.{Grows, BitLaw, In2, Kn2, In3, Kn3}
use Rattle.gates.proofs.Laws.{grows-refl, grows-added, kept-law, bit-map, join-law}
use Rattle.gates.proofs.FoldLaws.{&&-false, &&-true, not-one, and-law, or-law, matriarch-law}

&&-comm : (a b : Bool) → (a && b) ≡ (b && a)
&&-comm true true = refl
&&-comm true false = refl
&&-comm false true = refl
&&-comm false false = refl

true-law : (s : Net) (c t : ℕ) → 2 ≤ c → BitLaw s (In2 s c t) (Kn2 c t) (λ e. e c && e t) 1 (true_side s c t)
unfolding true_side
true-law s c t hc =
    by-known P t _ _ _
    (λ h. kept-law 1 0 (λ e o. simp (h, o.low, &&-false)) (λ i l. omega arith) (λ k. omega arith))
    (λ h. kept-law 1 c (λ e o. simp (h, o.high, &&-true)) (λ i l. i.0) (λ k. k.0))
    (λ h. bit-map (λ i. (i.1, i.0)) (λ i. (i.1, i.0)) (λ e o. &&-comm (e t) (e c)) (omega arith) (and-law s t c))
  where
    P : MadeBit → Type 0
    P m = BitLaw s (In2 s c t) (Kn2 c t) (λ e. e c && e t) 1 m

false-law : (s : Net) (c f : ℕ) → 2 ≤ c → BitLaw s (In2 s c f) (Kn2 c f) (λ e. not (e c) && e f) 1 (false_side s c f)
unfolding false_side
false-law s c f hc =
    by-known P f _ _ _
    (λ h. kept-law 1 0 (λ e o. simp (h, o.low, &&-false)) (λ i l. omega arith) (λ k. omega arith))
    (λ h. bit-map (λ i. i.0) (λ k. k.0) (λ e o. simp (h, o.high, &&-true)) (omega arith) (not-one s c))
    (λ h. matriarch-law s c hc f h)
  where
    P : MadeBit → Type 0
    P m = BitLaw s (In2 s c f) (Kn2 c f) (λ e. not (e c) && e f) 1 m

-- the sides grow by one gate at most, whatever the condition is
pub true-grows : (s : Net) (c t : ℕ) → Grows s (true_side s c t).net 1
unfolding true_side
true-grows s c t = by-known (λ (m : MadeBit). Grows s m.net 1) t _ _ _ (λ h. grows-refl s 1) (λ h. grows-refl s 1) (λ h. (and-law s t c).ext.grows)

pub false-grows : (s : Net) (c f : ℕ) → Grows s (false_side s c f).net 1
unfolding false_side
false-grows s c f = by-known (λ (m : MadeBit). Grows s m.net 1) f _ _ _ (λ h. grows-refl s 1) (λ h. (not-one s c).ext.grows) (λ h. grows-added s (gate_matriarch1 c f))

sides : (c t f : Bool) → ((c && t) || (not c && f)) ≡ pick c t f
unfolding pick
sides true true f = refl
sides true false f = refl
sides false t f = refl

both-law : (s : Net) (c t f : ℕ) → 2 ≤ c → BitLaw s (In3 s c t f) (Kn3 c t f) (λ e. pick (e c) (e t) (e f)) 3 (both_sides s c t f)
unfolding both_sides
both-law s c t f hc =
    bit-map (λ i. i) (λ k. k) (λ e o. sides (e c) (e t) (e f)) (omega arith)
    (join-law {j = 1} ◌||◌ (bit-map {v = λ e. e c && e t} {j = 1} (λ i. (i.0, i.1)) (λ k. (k.0, k.1)) (λ e o. refl) (omega arith) (true-law s c t hc))
    (λ i l. (omega arith, omega arith)) (λ k. (k.0, k.2)) (false-law _ c f hc) (or-law _ _ _))

pick_same : (c x : Bool) → pick c x x ≡ x
unfolding pick
pick_same true x = refl
pick_same false x = refl

pick-cond : (c : Bool) → pick c true false ≡ c
unfolding pick
pick-cond true = refl
pick-cond false = refl

pick-not : (c : Bool) → pick c false true ≡ not c
unfolding pick
pick-not true = refl
pick-not false = refl

choice-law : (s : Net) (c t f : ℕ) → 2 ≤ c → BitLaw s (In3 s c t f) (Kn3 c t f) (λ e. pick (e c) (e t) (e f)) 3 (choice_bit s c t f)
unfolding choice_bit
choice-law s c t f hc =
    by-pick P (is_known t && is_known f) _ _
    (λ k.
    let kt : t < 2 = known-less t (both (is_known t) (is_known f) k).0 in
    let kf : f < 2 = known-less f (both (is_known t) (is_known f) k).1 in
    by-pick P (eqb t f) _ _
    (λ u. let h : t ≡ f = eqb-true t f u in kept-law 3 t (λ e o. rw h (sym (pick_same (e c) (e f)))) (λ i l. i.1) (λ k. k.1))
    (λ u. by-pick P (eqb t 1) _ _
    (λ w.
    let h : t ≡ 1 = eqb-true t 1 w in
    let g : f ≡ 0 = omega (arith, eqb-false t f u) in
    kept-law 3 c (λ e o. simp (h, g, o.low, o.high) (sym (pick-cond (e c)))) (λ i l. i.0) (λ k. k.0))
    (λ w.
    let h : t ≡ 0 = omega (arith, eqb-false t 1 w) in
    let g : f ≡ 1 = omega (arith, eqb-false t f u) in
    bit-map (λ i. i.0) (λ k. k.0) (λ e o. simp (h, g, o.low, o.high) (sym (pick-not (e c)))) (omega arith) (not-one s c))))
    (λ k. both-law s c t f hc)
  where
    P : MadeBit → Type 0
    P m = BitLaw s (In3 s c t f) (Kn3 c t f) (λ e. pick (e c) (e t) (e f)) 3 m

pub mux-law : (s : Net) (c t f : ℕ) → BitLaw s (In3 s c t f) (Kn3 c t f) (λ e. pick (e c) (e t) (e f)) 3 (mux_bit s c t f)
unfolding mux_bit
mux-law s c t f =
    by-known P c _ _ _
    (λ h. kept-law 3 f (λ e o. low e o h) (λ i l. i.2) (λ k. k.2))
    (λ h. kept-law 3 t (λ e o. high e o h) (λ i l. i.1) (λ k. k.1))
    (λ h. choice-law s c t f h)
  where
    P : MadeBit → Type 0
    P m = BitLaw s (In3 s c t f) (Kn3 c t f) (λ e. pick (e c) (e t) (e f)) 3 m

    low : (e : Assign) → Obeys s e → c ≡ 0 → e f ≡ pick (e c) (e t) (e f)
    low e o h = sym (pick-false (e c) (e t) (e f) (rw h o.low))

    high : (e : Assign) → Obeys s e → c ≡ 1 → e t ≡ pick (e c) (e t) (e f)
    high e o h = sym (pick_true (e c) (e t) (e f) (rw h o.high))

-- a known condition makes no gate, and the bit is that of the side chosen
pub mux-known : (s : Net) (c t f : ℕ) → c < 2 → mux_bit s c t f ≡ kept s (pick (eqb c 1) t f)
unfolding mux_bit pick
mux-known s c t f h = by-known (λ m. m ≡ kept s (pick (eqb c 1) t f)) c _ _ _ (λ e. rw e refl) (λ e. rw e refl) (λ e. absurd (omega arith))

-- a choice of known false or a bit is its false side
pub clear-side : (s : Net) (c f : ℕ) → choice_bit s c 0 f ≡ false_side s c f
unfolding choice_bit both_sides true_side false_side or_bit is_known known_of by_known pick
clear-side s c zero = refl
clear-side s c (suc zero) = refl
clear-side s c (suc (suc f)) = rw (least-unknown (suc (suc f)) (omega arith))

pub clear-law : (s : Net) (c f : ℕ) → BitLaw s (In2 s c f) (Kn2 c f) (λ e. not (e c) && e f) 1 (mux_bit s c 0 f)
unfolding mux_bit
clear-law s c f =
    by-known P c _ _ _
    (λ h. kept-law 1 f (λ e o. simp (h, o.low)) (λ i l. i.1) (λ k. k.1))
    (λ h. kept-law 1 0 (λ e o. simp (h, o.low, o.high)) (λ i l. omega arith) (λ k. omega arith))
    (λ h. rw (clear-side s c f) (false-law s c f h))
  where
    P : MadeBit → Type 0
    P m = BitLaw s (In2 s c f) (Kn2 c f) (λ e. not (e c) && e f) 1 m
