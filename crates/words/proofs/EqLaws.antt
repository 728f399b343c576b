-- The law of equality, over the width.
use mathlib.Core.Path.{◌≡◌, refl, sym, ◌∙◌}
use mathlib.Core.List.{List}
use mathlib.Core.Bool.{Bool, true, false, not, ◌&&◌}
use Prim.Native.Nat.{ℕ, zero, suc, ◌+◌, ◌*◌, ◌-◌, ◌^◌, ◌≤◌, ◌<◌}
use native.Mathlib.Omega.{arith}
use native.Mathlib.Decide.{dec_lt, ℕ_discrete}
use native.Mathlib.Numerals.{add-one}
use lib.Dec.{eqb}
use lib.ListN.{length, get_or, length-set}
use lib.Seq.{get_or-set_same, get_or-set_other}
use borrow.Author.Tests.{eq-eqb, ne_eqb}
use Rattle.loops.specs.Loop.{bit, iter}
use Rattle.loops.proofs.Loop.{iter-inv}
use Rattle.netlist.specs.Kind.{xor}
use Rattle.netlist.specs.Net.{Net, Assign}
use Rattle.gates.specs.Made.{MadeBit, kept}
use Rattle.gates.specs.Fold.{xnor_bit, xnor_cost}
use Rattle.gates.specs.Law.{Formed, BitLaw}
use Rattle.gates.proofs.Laws.{ext_trans, keeps, room_back}
use Rattle.gates.proofs.FoldLaws.{and-law, xnor-law, xnor-cost, xnor-known, xnor-known-right}
use Rattle.gates.proofs.TrueLaws.{xnor-same, and_same}
use Rattle.digits.specs.Digits.{Below, number}
use Rattle.words.specs.declared.each.Bitwise.TheVariants.{And, Xnor}
use Rattle.words.specs.Num.{num, blank}
use Rattle.words.specs.Each.{bitwise, bit_cost, bit_value, bit_below, Word, each_step, each_bit, each_cost, EachLaw}
use Rattle.words.specs.Join.{join_step, join_all}
use Rattle.words.specs.Eq.{eq_cost, eq_words, EqLaw}
use Rattle.words.proofs.Sums.{sum-most}
use Rattle.words.proofs.NumLaws.{num-lt, blank-long}
use Rattle.words.proofs.EachLaws.{each-law}
use Rattle.words.proofs.JoinLaws.{joined, joined-law}

-- one bit more, of weight p
module _ (l r p : ℕ) (ll : l < p) (lr : r < p) where
  one_more : (a b : Bool) → Dec (l ≡ r) → (eqb l r && not (xor a b)) ≡ eqb (l + p * bit a) (r + p * bit b)
  one_more true true (yes q) = rw (eq-eqb l r q, eq-eqb (l + p * 1) (r + p * 1) (omega arith))
  one_more true true (no q) = rw (ne_eqb l r q, ne_eqb (l + p * 1) (r + p * 1) (omega arith))
  one_more true false (yes q) = rw (eq-eqb l r q, ne_eqb (l + p * 1) (r + p * 0) (omega arith))
  one_more true false (no q) = rw (ne_eqb l r q, ne_eqb (l + p * 1) (r + p * 0) (omega arith))
  one_more false true (yes q) = rw (eq-eqb l r q, ne_eqb (l + p * 0) (r + p * 1) (omega arith))
  one_more false true (no q) = rw (ne_eqb l r q, ne_eqb (l + p * 0) (r + p * 1) (omega arith))
  one_more false false (yes q) = rw (eq-eqb l r q, eq-eqb (l + p * 0) (r + p * 0) (omega arith))
  one_more false false (no q) = rw (ne_eqb l r q, ne_eqb (l + p * 0) (r + p * 0) (omega arith))

-- two words say the same number exactly if all their bits are the same
all-num : (e : Assign) (left right : List ℕ) (v : ℕ → Bool) (w : ℕ) → ((i : ℕ) → i < suc w → v i ≡ not (xor (e (get_or left i 0)) (e (get_or right i 0))))
    → joined ◌&&◌ v w ≡ eqb (num e left (suc w)) (num e right (suc w))
unfolding number joined
all-num e left right v zero h = rw (h 0 (omega arith)) (one_more 0 0 1 (omega arith) (omega arith) (e (get_or left 0 0)) (e (get_or right 0 0)) (ℕ_discrete 0 0))
all-num e left right v (suc w) h =
    rw (h (suc w) (omega arith), all-num e left right v w (λ i l. h i (omega arith)))
    (one_more (num e left (suc w)) (num e right (suc w)) (2 ^ suc w) (num-lt e left (suc w)) (num-lt e right (suc w)) (e (get_or left (suc w) 0)) (e (get_or right (suc w) 0))
    (ℕ_discrete (num e left (suc w)) (num e right (suc w))))

module _ (w : ℕ) (left right : List ℕ) (s : Net) (big : 1 ≤ w) (small : w ≤ 65) where
  x : Word
  x = each_bit Xnor left right w (record { net = s; out = blank })

  xl : EachLaw Xnor left right (record { net = s; out = blank }) w x
  unfolding x
  xl = each-law Xnor left right (record { net = s; out = blank }) w (omega (arith, blank-long))

  al : BitLaw x.net (Below x.net.n x.out w) (Below 2 x.out w) (λ e. joined ◌&&◌ (λ i. e (get_or x.out i 0)) (w - 1)) (w - 1) (join_all And w x.out x.net)
  unfolding bitwise
  al = joined-law And ◌&&◌ and-law x.out x.net w big

  same : (e : Assign) (v : ℕ → Bool) → ((i : ℕ) → i < w → v i ≡ not (xor (e (get_or left i 0)) (e (get_or right i 0)))) → joined ◌&&◌ v (w - 1) ≡ eqb (num e left w) (num e right w)
  same e v h = let q : suc (w - 1) ≡ w = omega arith in rw q at (all-num e left right v (w - 1) (λ i l. h i (omega arith)))

  pub eq-law : EqLaw w left right s (eq_words w left right s)
  unfolding eq_words x bit_below bit_value
  eq-law =
      record {
        ext = ext_trans s x.net (join_all And w x.out x.net).net (each_cost Xnor left right w) (w - 1) xl.ext al.ext;
        value = λ e o.
            al.value e o
            ∙ same e (λ i. e (get_or x.out i 0)) (xl.value e (keeps x.net (join_all And w x.out x.net).net (w - 1) e al.ext.grows o));
        formed = λ rm b f.
            let q : Formed x.net × Below x.net.n x.out w =
            xl.formed (room_back x.net (join_all And w x.out x.net).net (w - 1) al.ext.grows rm) (λ i l. (b.0 i l, b.1 i l)) f in
            al.formed rm q.1 q.0;
        known = λ b.
            let q : ((join_all And w x.out x.net).net ≡ x.net) × ((join_all And w x.out x.net).bit < 2) = al.known (λ i l. xl.known_at i l (b.0 i l, b.1 i l)) in
            (q.0 ∙ xl.known (λ i l. (b.0 i l, b.1 i l)), q.1);
      }

-- an And of all bits that is known true: they all are, and no gate was made
module _ (bits : List ℕ) (s : Net) (two : 2 ≤ s.n) where
  AllTrue : ℕ → MadeBit → Type 0
  AllTrue i m = (2 ≤ m.net.n) × (m.bit ≡ 1 → (m.net ≡ s) × ((j : ℕ) → j < suc i → get_or bits j 0 ≡ 1))

  and-next : (i : ℕ) (m : MadeBit) → AllTrue i m → AllTrue (suc i) (join_step And bits i m)
  unfolding AllTrue join_step bitwise
  and-next i m h =
      rw (add-one i) (
        omega (arith, (and-law m.net m.bit (get_or bits (suc i) 0)).ext.grows.from, h.0),
        λ e. let a = and_same m.net h.0 m.bit (get_or bits (suc i) 0) e in let k = h.1 a.1 in (a.0 ∙ k.0, λ j l. at k.1 a.2 j l (dec_lt j (suc i))),
      )
    where
      at : ((j : ℕ) → j < suc i → get_or bits j 0 ≡ 1) → get_or bits (suc i) 0 ≡ 1 → (j : ℕ) → j < suc (suc i) → Dec (j < suc i) → get_or bits j 0 ≡ 1
      at k q j l (yes p) = k j p
      at k q j l (no p) = let r : j ≡ suc i = omega arith in rw r q

  all_true : (i : ℕ) → AllTrue i (iter i (join_step And bits) (kept s (get_or bits 0 0)))
  unfolding AllTrue
  all_true i =
      iter-inv AllTrue (join_step And bits) (kept s (get_or bits 0 0)) i (two, λ e. (refl, λ j l. let q : j ≡ 0 = omega arith in rw q e)) (λ i m l h. and-next i m h)

-- an equality that is known true made no gate
module _ (left right : List ℕ) (s : Net) where
  record Trues (i : ℕ) (x : Word) : Type 0 where
    two : 2 ≤ x.net.n
    long : length x.out ≡ 65
    same : ((j : ℕ) → j < i → get_or x.out j 0 ≡ 1) → x.net ≡ s

  xnor-next : (i : ℕ) (x : Word) → i < 65 → Trues i x → Trues (suc i) (each_step Xnor left right i x)
  unfolding each_step bitwise
  xnor-next i x l h =
      record {
        two = omega (arith, h.two, (xnor-law x.net (get_or left i 0) (get_or right i 0)).ext.grows.from);
        long = length-set x.out i m.bit ∙ h.long;
        same = λ k.
            xnor-same x.net h.two (get_or left i 0) (get_or right i 0) (sym (get_or-set_same x.out i m.bit 0 (omega (arith, h.long))) ∙ k i (omega arith))
            ∙ h.same (λ j lt. sym (get_or-set_other x.out i j m.bit 0 (omega arith)) ∙ k j (omega arith));
      }
    where
      m : MadeBit
      m = xnor_bit x.net (get_or left i 0) (get_or right i 0)

  pub eq-same : (w : ℕ) → 1 ≤ w → w ≤ 65 → 2 ≤ s.n → (eq_words w left right s).bit ≡ 1 → (eq_words w left right s).net ≡ s
  unfolding eq_words AllTrue
  eq-same w big small two e =
      let x : Word = each_bit Xnor left right w (record { net = s; out = blank }) in
      let o : Trues w x =
      iter-inv Trues (each_step Xnor left right) (record { net = s; out = blank }) w (record { two = two; long = blank-long; same = λ h. refl }) (λ i y l h. xnor-next i y (omega arith) h) in
      let a = (all_true x.out x.net o.two (w - 1)).1 e in
      a.0 ∙ o.same (λ j l. a.1 j (omega arith))

-- three gates a place less one; two where a side is wholly known
pub eq-three : (left right : List ℕ) (w : ℕ) → 1 ≤ w → eq_cost left right w ≤ 3 * w - 1
unfolding bit_cost
eq-three left right w big = omega (arith, sum-most (λ i. xnor_cost (get_or left i 0) (get_or right i 0)) 2 w (λ i l. (xnor-cost (get_or left i 0) (get_or right i 0)).1))

pub eq-left : (left right : List ℕ) (w : ℕ) → 1 ≤ w → Below 2 left w → eq_cost left right w ≤ 2 * w - 1
unfolding bit_cost
eq-left left right w big k =
    omega (arith, sum-most (λ i. xnor_cost (get_or left i 0) (get_or right i 0)) 1 w (λ i l. omega (arith, xnor-known (get_or left i 0) (get_or right i 0) (k i l))))

pub eq-right : (left right : List ℕ) (w : ℕ) → 1 ≤ w → Below 2 right w → eq_cost left right w ≤ 2 * w - 1
unfolding bit_cost
eq-right left right w big k =
    omega (arith, sum-most (λ i. xnor_cost (get_or left i 0) (get_or right i 0)) 1 w (λ i l. omega (arith, xnor-known-right (get_or left i 0) (get_or right i 0) (k i l))))
