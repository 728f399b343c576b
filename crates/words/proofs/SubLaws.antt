-- The laws of subtraction and of unsigned less-than, over the width.
use mathlib.Core.Path.{◌≡◌, ap, sym, ◌∙◌}
use mathlib.Core.List.{List}
use mathlib.Core.Bool.{Bool, true, false}
use Prim.Native.Nat.{ℕ, ◌+◌, ◌*◌, ◌-◌, ◌^◌, ◌%◌, ◌≤◌, ◌<◌}
use native.Mathlib.Omega.{arith}
use native.Mathlib.Numerals.{add-one}
use native.Mathlib.Nat.{pow-suc, add-mul-mod_self_left, mod-eq_of_lt}
use lib.Dec.{ltb}
use lib.ListN.{length, get_or}
use borrow.Author.Tests.{lt-ltb, le-ltb}
use Rattle.loops.specs.Loop.{bit}
use Rattle.netlist.specs.Net.{Net, Assign, Obeys}
use Rattle.gates.specs.Fold.{not_cost}
use Rattle.gates.specs.Adder.{adder_cost}
use Rattle.gates.specs.Law.{Formed}
use Rattle.gates.proofs.Laws.{ext_trans, ext-weaken, keeps, room_back}
use Rattle.gates.proofs.FoldLaws.{not_known}
use Rattle.gates.proofs.AdderLaws.{cost-known, cost-less}
use Rattle.digits.specs.Digits.{Below}
use Rattle.words.specs.declared.each.Bitwise.TheVariants.{Not}
use Rattle.words.specs.Num.{num, blank}
use Rattle.words.specs.Each.{bit_cost, bit_value, bit_below, Word, each_bit, each_cost, EachLaw}
use Rattle.words.specs.Add.{Chain, add_words, add_cost}
use Rattle.words.specs.Sub.{sub_words, sub_cost, ult_words, SubLaw, UltLaw}
use Rattle.words.specs.Extend.{extended}
use Rattle.words.proofs.Sums.{sum-suc, sum_mono}
use Rattle.words.proofs.NumLaws.{num-lt, num-next, num-not, blank-long}
use Rattle.words.proofs.EachLaws.{nots-cost, each-law, below_more}
use Rattle.words.proofs.AddLaws.{AddLaw, add-law, cost-three}
use Rattle.words.proofs.ExtendLaws.{extend-law, clear-num}

module _ (w : ℕ) (left right : List ℕ) (s : Net) (out : List ℕ) (small : w ≤ 65) (fits : w ≤ length out) where
  r : Word
  r = each_bit Not right right w (record { net = s; out = blank })

  n : EachLaw Not right right (record { net = s; out = blank }) w r
  unfolding r
  n = each-law Not right right (record { net = s; out = blank }) w (omega (arith, blank-long))

  t : Chain
  t = add_words w left r.out (record { net = r.net; carry = 1; out = out })

  a : AddLaw left r.out (record { net = r.net; carry = 1; out = out }) w t
  unfolding t
  a = add-law left r.out (record { net = r.net; carry = 1; out = out }) w fits

  -- the Not of a known bit is known, so the chain costs no more than over the right word itself
  nots-chain : add_cost left r.out w ≤ add_cost left right w
  unfolding bit_below
  nots-chain =
      sum_mono (λ j. adder_cost (get_or left j 0) (get_or r.out j 0)) (λ j. adder_cost (get_or left j 0) (get_or right j 0)) w
      (λ i l. cost-less (get_or left i 0) (get_or r.out i 0) (get_or right i 0) (λ k. n.known_at i l k))

  pub nots-less : add_cost left (each_bit Not right right w (record { net = s; out = blank })).out w ≤ add_cost left right w
  unfolding r
  nots-less = nots-chain

  pub sub-law : SubLaw w left right s out (sub_words w left right s out)
  unfolding sub_words r t bit_value bit_below
  sub-law =
      record {
        ext = ext-weaken s t.net (each_cost Not right right w + add_cost left r.out w) (sub_cost left right w) (omega (arith, nots-chain))
            (ext_trans s r.net t.net (each_cost Not right right w) (add_cost left r.out w) n.ext a.ext);
        long = a.long;
        value = λ e o.
            let q : num e r.out w + num e right w + 1 ≡ 2 ^ w = num-not e r.out right w (n.value e (keeps r.net t.net _ e a.ext.grows o)) in
            omega (arith, a.value e o, ap bit o.high);
        formed = λ rm bl br f.
            let u : Formed r.net × Below r.net.n r.out w = n.formed (room_back r.net t.net _ a.ext.grows rm) br f in
            let v : Formed t.net × (t.carry < t.net.n) × Below t.net.n t.out w =
            a.formed rm (below_more s.n r.net.n left w n.ext.grows.from bl) u.1 (omega (arith, u.0.two)) u.0 in
            (v.0, v.2);
        known = λ bl br.
            let y : (t.net ≡ r.net) × (t.carry < 2) × Below 2 t.out w = a.known bl (λ i l. n.known_at i l (br i l)) (omega arith) in
            (y.0 ∙ n.known br, y.2);
      }

-- the difference modulo 2 ^ w
pub sub-value : (w : ℕ) (left right : List ℕ) (s : Net) (out : List ℕ) (t : Chain) → SubLaw w left right s out t → (e : Assign) → Obeys t.net e
    → num e t.out w ≡ (num e left w + 2 ^ w - num e right w) % 2 ^ w
sub-value w left right s out t h e o =
    let p : num e left w + 2 ^ w - num e right w ≡ num e t.out w + 2 ^ w * bit (e t.carry) = omega (arith, h.value e o) in
    rw (p, add-mul-mod_self_left (num e t.out w) (2 ^ w) (bit (e t.carry)), mod-eq_of_lt (num-lt e t.out w))

-- four gates a place are enough
pub sub-four : (left right : List ℕ) (w : ℕ) → sub_cost left right w ≤ 4 * w
sub-four left right w = omega (arith, nots-cost right w, cost-three left right w)

-- Ult: over one bit more, which is known false on both sides, the top bit of the difference
pub wide-cost : (w : ℕ) (left right : List ℕ) → w ≤ 64 → sub_cost (extended 0 w left) (extended 0 w right) (w + 1) ≤ 4 * w + 1
unfolding bit_cost
wide-cost w left right small =
    let n : not_cost (get_or (extended 0 w right) w 0) ≡ 0 = not_known _ (omega (arith, (extend-law 0 w right (omega arith)).above w (omega arith) (omega arith))) in
    let a : adder_cost (get_or (extended 0 w left) w 0) (get_or (extended 0 w right) w 0) ≡ 1 = cost-known _ _ (omega (arith, (extend-law 0 w left (omega arith)).above w (omega arith) (omega arith))) (omega (arith, (extend-law 0 w right (omega arith)).above w (omega arith) (omega arith))) in
    rw (add-one w, sum-suc (λ i. not_cost (get_or (extended 0 w right) i 0)) w, sum-suc (λ i. adder_cost (get_or (extended 0 w left) i 0) (get_or (extended 0 w right) i 0)) w)
    (omega (arith, sub-four (extended 0 w left) (extended 0 w right) w))

module _ (w : ℕ) (left right : List ℕ) (s : Net) (small : w ≤ 64) where
  d : Chain
  d = sub_words (w + 1) (extended 0 w left) (extended 0 w right) s blank

  h : SubLaw (w + 1) (extended 0 w left) (extended 0 w right) s blank d
  unfolding d
  h = sub-law (w + 1) (extended 0 w left) (extended 0 w right) s blank (omega arith) (omega (arith, blank-long))

  less : (e : Assign) → Obeys d.net e → e (get_or d.out w 0) ≡ ltb (num e left w) (num e right w)
  less e o = go (e (get_or d.out w 0)) (e d.carry) all
    where
      L : ℕ
      L = num e left w

      R : ℕ
      R = num e right w

      D : ℕ
      D = num e d.out w

      all : D + 2 ^ w * bit (e (get_or d.out w 0)) + 2 ^ w * 2 * bit (e d.carry) + R ≡ L + 2 ^ w * 2
      all =
          let p : 2 ^ (w + 1) ≡ 2 ^ w * 2 = ap (λ (k : ℕ). 2 ^ k) (add-one w) ∙ pow-suc 2 w in
          let c : 2 ^ (w + 1) * bit (e d.carry) ≡ 2 ^ w * 2 * bit (e d.carry) = ap (λ (k : ℕ). k * bit (e d.carry)) p in
          let q : num e d.out (w + 1) ≡ D + 2 ^ w * bit (e (get_or d.out w 0)) = num-next e d.out w in
          omega (arith, h.value e o, clear-num 0 w left (omega arith) e (w + 1) (omega arith) (omega arith) o.low, clear-num 0 w right (omega arith) e (w + 1) (omega arith) (omega arith) o.low)

      go : (top c : Bool) → D + 2 ^ w * bit top + 2 ^ w * 2 * bit c + R ≡ L + 2 ^ w * 2 → top ≡ ltb L R
      go true true q = absurd (omega (arith, num-lt e left w, num-lt e right w, num-lt e d.out w))
      go true false q = sym (lt-ltb L R (omega (arith, num-lt e left w, num-lt e right w, num-lt e d.out w)))
      go false true q = sym (le-ltb L R (omega (arith, num-lt e left w, num-lt e right w, num-lt e d.out w)))
      go false false q = absurd (omega (arith, num-lt e left w, num-lt e right w, num-lt e d.out w))

  pub ult-law : UltLaw w left right s (ult_words w left right s)
  unfolding ult_words d
  ult-law =
      record {
        ext = ext-weaken s d.net (sub_cost (extended 0 w left) (extended 0 w right) (w + 1)) (4 * w + 1) (wide-cost w left right small) h.ext;
        value = less;
        formed = λ rm b f.
            let q : Formed d.net × Below d.net.n d.out (w + 1) =
            h.formed rm ((extend-law 0 w left (omega arith)).under s.n (w + 1) (omega arith) (omega (arith, f.two)) b.0) ((extend-law 0 w right (omega arith)).under s.n (w + 1) (omega arith) (omega (arith, f.two)) b.1) f in
            (q.0, q.1 w (omega arith));
        known = λ b.
            let q : (d.net ≡ s) × Below 2 d.out (w + 1) = h.known ((extend-law 0 w left (omega arith)).under 2 (w + 1) (omega arith) (omega arith) b.0) ((extend-law 0 w right (omega arith)).under 2 (w + 1) (omega arith) (omega arith) b.1) in
            (q.0, q.1 w (omega arith));
      }
