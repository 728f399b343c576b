-- The laws of a divisor that may be zero.
use mathlib.Core.Path.{◌≡◌, refl, ap, ◌∙◌}
use mathlib.Core.List.{List}
use mathlib.Core.Bool.{Bool, true, false, ◌||◌}
use Prim.Native.Nat.{ℕ, zero, suc, ◌+◌, ◌*◌, ◌-◌, ◌≤◌, ◌<◌}
use native.Mathlib.Omega.{arith}
use native.Mathlib.Decide.{dec_lt, ℕ_discrete}
use lib.Dec.{eqb}
use lib.ListN.{get_or, set}
use lib.Seq.{get_or-set_same, get_or-set_other}
use borrow.Author.Tests.{eq-eqb, ne_eqb}
use Rattle.loops.specs.Loop.{pick, iter, bit}
use Rattle.netlist.specs.Net.{Net, Assign, Obeys}
use Rattle.gates.specs.Made.{MadeBit}
use Rattle.gates.specs.Fold.{or_bit}
use Rattle.gates.specs.Law.{Formed, BitLaw, In2, Kn2}
use Rattle.gates.proofs.Laws.{bit-map}
use Rattle.gates.proofs.FoldLaws.{or-law}
use Rattle.digits.specs.Digits.{number, Below}
use Rattle.values.specs.Value.{div_word, rem_word}
use Rattle.words.specs.Num.{num, blank}
use Rattle.words.specs.Each.{put_bits}
use Rattle.words.specs.Eq.{eq_cost}
use Rattle.words.specs.Extend.{ExtendLaw}
use Rattle.words.proofs.NumLaws.{num-none, blank-at}
use Rattle.words.proofs.EachLaws.{below_more}
use Rattle.words.proofs.EqLaws.{eq-law, eq-right, eq-same}
use Rattle.words.proofs.MulStep.{num-zero}
use Rattle.words.proofs.ExtendLaws.{extend-law}
use Rattle.division.specs.Known.{answer_of}
use Rattle.division.specs.Zero.{nonzero, zero_bit, raised, zero_word, RaisedLaw}

-- ---- z

pub zero-cost : (d : List ℕ) (w : ℕ) → 1 ≤ w → eq_cost d blank w ≤ 2 * w - 1
zero-cost d w big = eq-right d blank w big (λ j l. omega (arith, blank-at j))

pub zero-law : (w : ℕ) (d : List ℕ) (s : Net) → 1 ≤ w → w ≤ 65 → BitLaw s (Below s.n d w) (Below 2 d w) (λ e. eqb (num e d w) 0) (2 * w - 1) (zero_bit w d s)
unfolding zero_bit
zero-law w d s big small =
    bit-map (λ i. (i, λ j l. omega (arith, blank-at j, i 0 (omega arith)))) (λ k. (k, λ j l. omega (arith, blank-at j)))
    (λ e o. ap (λ (x : ℕ). eqb (num e d w) x) (num-zero e blank w (λ j l. ap e (blank-at j) ∙ o.low)))
    (zero-cost d w big) (eq-law w d blank s big small)

-- where it is known true, no gate was made
pub zero_one : (d : List ℕ) (s : Net) (w : ℕ) → 1 ≤ w → w ≤ 65 → 2 ≤ s.n → (zero_bit w d s).bit ≡ 1 → (zero_bit w d s).net ≡ s
unfolding zero_bit
zero_one d s w big small two e = eq-same d blank s w big small two e

-- ---- the divisor with its lowest bit Ored with z

-- two numbers whose digits but the lowest are the same
lowest : (u v : ℕ → Bool) (w : ℕ) → ((j : ℕ) → 1 ≤ j → j < suc w → u j ≡ v j) → (number u (suc w) + bit (v 0) ≡ number v (suc w) + bit (u 0)) × (bit (v 0) ≤ number v (suc w))
unfolding number
lowest u v zero h = (omega arith, omega arith)
lowest u v (suc w) h =
    let q : (number u (suc w) + bit (v 0) ≡ number v (suc w) + bit (u 0)) × (bit (v 0) ≤ number v (suc w)) = lowest u v w (λ j a b. h j a (omega arith)) in
    rw (h (suc w) (omega arith) (omega arith)) (omega (arith, q.0), omega (arith, q.1))

module _ (w : ℕ) (d : List ℕ) (z : ℕ) (s : Net) (big : 1 ≤ w) (small : w ≤ 65) where
  x : List ℕ
  x = put_bits 0 d w blank

  xl : ExtendLaw 0 w d x
  unfolding x
  xl = extend-law 0 w d small

  m : MadeBit
  m = or_bit s (get_or d 0 0) z

  ml : BitLaw s (In2 s (get_or d 0 0) z) (Kn2 (get_or d 0 0) z) (λ e. e (get_or d 0 0) || e z) 1 m
  unfolding m
  ml = or-law s (get_or d 0 0) z

  y : List ℕ
  y = set x 0 m.bit

  first : get_or y 0 0 ≡ m.bit
  unfolding y
  first = get_or-set_same x 0 m.bit 0 (omega (arith, xl.long))

  others : (j : ℕ) → 1 ≤ j → j < w → get_or y j 0 ≡ get_or d j 0
  unfolding y
  others j a l = get_or-set_other x 0 j m.bit 0 (omega arith) ∙ xl.there j l

  below : (n : ℕ) → m.bit < n → Below n d w → Below n y w
  below n h b j l = one (dec_lt j 1)
    where
      one : Dec (j < 1) → get_or y j 0 < n
      one (yes p) = let q : j ≡ 0 = omega arith in rw (q, first) h
      one (no p) = rw (others j (omega arith) l) (b j l)

  -- where z is right
  module _ (e : Assign) (o : Obeys m.net e) (right : e z ≡ eqb (num e d w) 0) where
    parts : (num e y w + bit (e (get_or d 0 0)) ≡ num e d w + bit (e (get_or d 0 0) || e z)) × (bit (e (get_or d 0 0)) ≤ num e d w)
    parts =
        let q : suc (w - 1) ≡ w = omega arith in
        rw (first, ml.value e o) at (rw q at (lowest (λ j. e (get_or y j 0)) (λ j. e (get_or d j 0)) (w - 1) (λ j a l. ap e (others j a (omega arith)))))

    by-case : (a : Bool) (r n : ℕ) → Dec (n ≡ 0) → (r + bit a ≡ n + bit (a || eqb n 0)) × (bit a ≤ n) → r ≡ nonzero n
    unfolding pick
    by-case true r n (yes p) h = absurd (omega arith)
    by-case false r n (yes p) h = let q = rw (eq-eqb n 0 p) at h.0 in rw (eq-eqb n 0 p) (omega arith)
    by-case true r n (no p) h = rw (ne_eqb n 0 p) (omega arith)
    by-case false r n (no p) h = let q = rw (ne_eqb n 0 p) at h.0 in rw (ne_eqb n 0 p) (omega arith)

    value : num e y w ≡ nonzero (num e d w)
    value = by-case (e (get_or d 0 0)) (num e y w) (num e d w) (ℕ_discrete (num e d w) 0) (rw right at parts)

  pub raised-law : RaisedLaw w d z s (raised w d z s)
  unfolding raised y m x
  raised-law =
      record {
        ext = ml.ext;
        value = value;
        formed = λ rm b h f.
            let q : Formed m.net × (m.bit < m.net.n) = ml.formed rm (b 0 (omega arith), h) f in
            (q.0, below m.net.n q.1 (below_more s.n m.net.n d w ml.ext.grows.from b));
      }

-- ---- the answers by zero, and the choice

-- all ones, or the dividend, say what a division by zero answers
pub zero-num : (quotient : Bool) (w : ℕ) (n : List ℕ) (e : Assign) → w ≤ 65 → e 1 ≡ true → num e (zero_word quotient n) w ≡ answer_of quotient w (num e n w) 0
unfolding pick div_word rem_word iter
zero-num true w n e small one = let q = rw one at ((extend-law 1 0 n (omega arith)).value e w (omega arith) small) in omega (arith, q, num-none e n)
zero-num false w n e small one = refl

pub zero-below : (quotient : Bool) (w : ℕ) (n : List ℕ) (b : ℕ) → w ≤ 65 → 2 ≤ b → Below b n w → Below b (zero_word quotient n) w
unfolding pick iter
zero-below true w n b small two h j l = omega (arith, (extend-law 1 0 n (omega arith)).above j (omega arith) (omega arith))
zero-below false w n b small two h j l = h j l
