-- One stage of the shifts, over the width and the direction: a stage moves by its power of two or by nothing.
use mathlib.Core.Path.{◌≡◌, ap, sym, ◌∙◌}
use mathlib.Core.List.{List}
use mathlib.Core.Bool.{Bool, true, false}
use Prim.Native.Nat.{ℕ, suc, ◌+◌, ◌*◌, ◌-◌, ◌/◌, ◌%◌, ◌^◌, ◌≤◌, ◌<◌}
use native.Mathlib.Omega.{arith}
use native.Mathlib.Decide.{dec_lt}
use native.Mathlib.Nat.{zero-add, mul-mod_right, add-mul-mod_self_left, mod-eq_of_lt, div-add-mod, div-one, div-eq_of_lt, div-div-eq-div-mul, add-mul-div_left, pow-le-pow_right, mul-le-mul_left}
use lib.ListN.{length, get_or, take, drop}
use lib.Seq.{get_or-take, get_or-drop}
use Rattle.loops.specs.Loop.{bit, pick}
use Rattle.netlist.specs.Record.{Room}
use Rattle.netlist.specs.Net.{Assign, Obeys}
use Rattle.gates.specs.Law.{Ext, Formed}
use Rattle.gates.proofs.Laws.{ext-weaken}
use Rattle.digits.specs.Digits.{Below, powers_below}
use Rattle.digits.proofs.Numbers.{pow_pos, powers-each}
use Rattle.words.specs.declared.each.Bitwise.TheVariants.{Choose}
use Rattle.words.specs.declared.shift.Direction.{Direction}
use Rattle.words.specs.declared.shift.Direction.TheVariants.{Left, Right}
use Rattle.words.specs.Num.{num, blank}
use Rattle.words.specs.Each.{bit_value, bit_below, Word, each_bit, each_cost, EachLaw, put_bits, Put}
use Rattle.words.specs.Shift.{moved, stage, shifted}
use Rattle.words.proofs.NumLaws.{num-lt, num-same, num-choose, blank-long, blank-at}
use Rattle.words.proofs.EachLaws.{choose-cost, each-law, put-law}
use Rattle.words.proofs.AddLaws.{pow-add}
use Rattle.words.proofs.MulStep.{num-zero, num-split}

-- ---- a number moved: by nothing, twice, and out of its digits

mod-scale : (y m k : ℕ) → y % m * k % m ≡ y * k % m
mod-scale y m k =
    let q : (m * (y / m) + y % m) * k ≡ y * k = ap (λ (z : ℕ). z * k) (div-add-mod y m) in
    let p : y * k ≡ y % m * k + m * (y / m * k) = omega arith in
    rw (p, add-mul-mod_self_left (y % m * k) m (y / m * k))

pub shift_none : (to : Direction) (w x : ℕ) → x < 2 ^ w → shifted to w 0 x ≡ x
unfolding shifted
shift_none Left w x h = let q : x * 2 ^ 0 ≡ x = omega arith in rw q (mod-eq_of_lt h)
shift_none Right w x h = div-one x

pub shift-add : (to : Direction) (w a b x : ℕ) → shifted to w b (shifted to w a x) ≡ shifted to w (a + b) x
unfolding shifted
shift-add Left w a b x =
    let p : x * 2 ^ a * 2 ^ b ≡ x * (2 ^ a * 2 ^ b) = omega arith in
    rw (mod-scale (x * 2 ^ a) (2 ^ w) (2 ^ b), p, pow-add a b)
shift-add Right w a b x = rw (div-div-eq-div-mul x (2 ^ a) (2 ^ b), pow-add a b)

pub shift-out : (to : Direction) (w k x : ℕ) → w ≤ k → x < 2 ^ w → shifted to w k x ≡ 0
unfolding shifted
shift-out Left w k x l h =
    let s : w + (k - w) ≡ k = omega arith in
    let p : 2 ^ k ≡ 2 ^ w * 2 ^ (k - w) = rw s at (pow-add w (k - w)) in
    let q : x * 2 ^ k ≡ x * (2 ^ w * 2 ^ (k - w)) = ap (λ (z : ℕ). x * z) p in
    let r : x * 2 ^ k ≡ 2 ^ w * (x * 2 ^ (k - w)) = omega arith in
    rw r (mul-mod_right (2 ^ w) (x * 2 ^ (k - w)))
shift-out Right w k x l h = div-eq_of_lt (omega (arith, pow-le-pow_right {n = 2} (omega arith) {i = w} {j = k} l))

-- ---- a word moved

-- the kept digits l, those that are pushed out h
left-arith : (w k x l h : ℕ) → k ≤ w → l < 2 ^ (w - k) → x ≡ l + 2 ^ (w - k) * h → 2 ^ k * l ≡ x * 2 ^ k % 2 ^ w
left-arith w k x l h le lt e =
    let s : k + (w - k) ≡ w = omega arith in
    let p : 2 ^ w ≡ 2 ^ k * 2 ^ (w - k) = rw s at (pow-add k (w - k)) in
    let u : x * 2 ^ k ≡ (l + 2 ^ (w - k) * h) * 2 ^ k = ap (λ (z : ℕ). z * 2 ^ k) e in
    let v : 2 ^ w * h ≡ 2 ^ k * 2 ^ (w - k) * h = ap (λ (z : ℕ). z * h) p in
    let q : x * 2 ^ k ≡ 2 ^ k * l + 2 ^ w * h = omega arith in
    let b : 2 ^ k * l < 2 ^ w = omega (arith, mul-le-mul_left {m = suc l} {n = 2 ^ (w - k)} (2 ^ k) lt, pow_pos k) in
    rw (q, add-mul-mod_self_left (2 ^ k * l) (2 ^ w) h) (sym (mod-eq_of_lt b))

right-arith : (k x l h : ℕ) → l < 2 ^ k → x ≡ l + 2 ^ k * h → h ≡ x / 2 ^ k
right-arith k x l h lt e = rw (e, add-mul-div_left l h (pow_pos k), div-eq_of_lt lt) (omega arith)

module _ (w k : ℕ) (bits : List ℕ) (fits : k ≤ w) (small : w ≤ 64) where
  up : k + (w - k) ≡ w
  up = omega arith

  down : w - k + k ≡ w
  down = omega arith

  pl : Put k bits blank (w - k) (put_bits k bits (w - k) blank)
  pl = put-law k bits blank (w - k) (omega (arith, blank-long))

  pr : Put 0 (take (w - k) (drop k bits)) blank (w - k) (put_bits 0 (take (w - k) (drop k bits)) (w - k) blank)
  pr = put-law 0 (take (w - k) (drop k bits)) blank (w - k) (omega (arith, blank-long))

  right-at : (j : ℕ) → j < w - k → get_or (put_bits 0 (take (w - k) (drop k bits)) (w - k) blank) j 0 ≡ get_or (drop k bits) j 0
  right-at j l = rw (zero-add j) at (pr.there j l) ∙ get_or-take (w - k) (drop k bits) j 0 l

  pub moved-num : (to : Direction) (e : Assign) → e 0 ≡ false → num e (moved to w k bits blank) w ≡ shifted to w k (num e bits w)
  unfolding moved shifted
  moved-num Left e z =
      let m : List ℕ = put_bits k bits (w - k) blank in
      let low : num e m k ≡ 0 = num-zero e m k (λ j l. ap e (pl.below j l ∙ blank-at j) ∙ z) in
      let high : num e (drop k m) (w - k) ≡ num e bits (w - k) = num-same e (drop k m) bits (w - k) (λ j l. get_or-drop k m j 0 ∙ pl.there j l) in
      let whole : num e m w ≡ num e m k + 2 ^ k * num e (drop k m) (w - k) = rw up at (num-split e m k (w - k)) in
      let parts : num e bits w ≡ num e bits (w - k) + 2 ^ (w - k) * num e (drop (w - k) bits) k = rw down at (num-split e bits (w - k) k) in
      rw (whole, low, high, zero-add) (left-arith w k (num e bits w) (num e bits (w - k)) (num e (drop (w - k) bits) k) fits (num-lt e bits (w - k)) parts)
  moved-num Right e z =
      let m : List ℕ = put_bits 0 (take (w - k) (drop k bits)) (w - k) blank in
      let low : num e m (w - k) ≡ num e (drop k bits) (w - k) = num-same e m (drop k bits) (w - k) right-at in
      let high : num e (drop (w - k) m) k ≡ 0 =
      num-zero e (drop (w - k) m) k (λ j l. ap e (get_or-drop (w - k) m j 0 ∙ (pr.above (w - k + j) (omega arith) ∙ blank-at (w - k + j))) ∙ z) in
      let whole : num e m w ≡ num e m (w - k) + 2 ^ (w - k) * num e (drop (w - k) m) k = rw down at (num-split e m (w - k) k) in
      let parts : num e bits w ≡ num e bits k + 2 ^ k * num e (drop k bits) (w - k) = rw up at (num-split e bits k (w - k)) in
      let gone : 2 ^ (w - k) * num e (drop (w - k) m) k ≡ 2 ^ (w - k) * 0 = ap (λ (y : ℕ). 2 ^ (w - k) * y) high in
      let said : num e m w ≡ num e (drop k bits) (w - k) = omega arith in
      said ∙ right-arith k (num e bits w) (num e bits k) (num e (drop k bits) (w - k)) (num-lt e bits k) parts

  pub moved-below : (to : Direction) (b : ℕ) → 0 < b → Below b bits w → Below b (moved to w k bits blank) w
  unfolding moved
  moved-below Left b pos h j l = go (dec_lt j k)
    where
      go : Dec (j < k) → get_or (put_bits k bits (w - k) blank) j 0 < b
      go (yes p) = omega (arith, pl.below j p, blank-at j)
      go (no p) =
          let q : k + (j - k) ≡ j = omega arith in
          let t : get_or (put_bits k bits (w - k) blank) j 0 ≡ get_or bits (j - k) 0 = rw q at (pl.there (j - k) (omega arith)) in
          rw t (h (j - k) (omega arith))
  moved-below Right b pos h j l = go (dec_lt j (w - k))
    where
      go : Dec (j < w - k) → get_or (put_bits 0 (take (w - k) (drop k bits)) (w - k) blank) j 0 < b
      go (yes p) = rw (right-at j p, get_or-drop k bits j 0) (h (k + j) (omega arith))
      go (no p) = omega (arith, pr.above j (omega arith), blank-at j)

-- ---- stages

-- what is right of a word s that has moved to t, by a number of places that bits under a bound say
pub record MoveLaw (to : Direction) (w : ℕ) (under : ℕ → Type 0) (by : Assign → ℕ) (k : ℕ) (s t : Word) : Type 0 where
  pub ext : Ext s.net t.net k
  pub long : length t.out ≡ length s.out
  pub rest : (j : ℕ) → w ≤ j → get_or t.out j 0 ≡ get_or s.out j 0
  pub value : (e : Assign) → Obeys t.net e → num e t.out w ≡ shifted to w (by e) (num e s.out w)
  pub formed : Room t.net.gates t.net.n → Below s.net.n s.out w → under s.net.n → Formed s.net → Formed t.net × Below t.net.n t.out w
  pub known : Below 2 s.out w → under 2 → (t.net ≡ s.net) × Below 2 t.out w

module _ (to : Direction) (w : ℕ) (amount : List ℕ) (small : w ≤ 64) where
  -- by 2^j, or by nothing
  pub stage-law : (j : ℕ) (s : Word) → j < powers_below w → w ≤ length s.out
      → MoveLaw to w (λ b. get_or amount j 0 < b) (λ e. 2 ^ j * bit (e (get_or amount j 0))) (3 * w) s (stage to w amount j s)
  unfolding stage bit_value bit_below pick
  stage-law j s lt fits =
      record {
        ext = ext-weaken s.net _ (each_cost (Choose c) m s.out w) (3 * w) (choose-cost c m s.out w) a.ext;
        long = a.long;
        rest = a.rest;
        value = λ e o. num-choose e (e c) (each_bit (Choose c) m s.out w s).out m s.out w (a.value e o) ∙ val e o.low (e c);
        formed = λ rm bs bc f. a.formed rm (λ i l. (bc, moved-below w k s.out least small to s.net.n (omega (arith, f.two)) bs i l, bs i l)) f;
        known = λ bs bc. (a.known (λ i l. kn bs bc i l), λ i l. a.known_at i l (kn bs bc i l));
      }
    where
      c : ℕ
      c = get_or amount j 0

      k : ℕ
      k = 2 ^ j

      least : k ≤ w
      least = omega (arith, powers-each w j lt)

      m : List ℕ
      m = moved to w k s.out blank

      a : EachLaw (Choose c) m s.out s w (each_bit (Choose c) m s.out w s)
      a = each-law (Choose c) m s.out s w fits

      kn : Below 2 s.out w → c < 2 → (i : ℕ) → i < w → (c < 2) × (get_or m i 0 < 2) × (get_or s.out i 0 < 2)
      kn bs bc i l = (bc, moved-below w k s.out least small to 2 (omega arith) bs i l, bs i l)

      val : (e : Assign) → e 0 ≡ false → (v : Bool) → pick v (num e m w) (num e s.out w) ≡ shifted to w (2 ^ j * bit v) (num e s.out w)
      val e z true = let q : 2 ^ j * 1 ≡ 2 ^ j = omega arith in rw q (moved-num w k s.out least small to e z)
      val e z false = let q : 2 ^ j * 0 ≡ 0 = omega arith in rw q (sym (shift_none to w (num e s.out w) (num-lt e s.out w)))
