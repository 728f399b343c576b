-- The law of the adder chain, over the width: what the sum says, with the carry above it, is what was said before and what was added.
use mathlib.Core.Path.{◌≡◌, refl, ap, ◌∙◌}
use mathlib.Core.List.{List}
use Prim.Native.Nat.{ℕ, zero, suc, ◌+◌, ◌*◌, ◌^◌, ◌%◌, ◌≤◌, ◌<◌}
use native.Mathlib.Omega.{arith}
use native.Mathlib.Nat.{pow-suc, zero-add, add-zero, add-suc, mul_assoc, add-mul-mod_self_left, mod-eq_of_lt}
use lib.ListN.{length, get_or, set, length-set}
use lib.Seq.{get_or-set_same, get_or-set_other}
use Rattle.loops.specs.Loop.{bit}
use Rattle.loops.proofs.Loop.{iter-inv}
use Rattle.netlist.specs.Record.{Room}
use Rattle.netlist.specs.Net.{Assign, Obeys}
use Rattle.gates.specs.Made.{MadeSum}
use Rattle.gates.specs.Adder.{adder_bit, adder_cost}
use Rattle.gates.specs.Law.{Ext, Formed, SumLaw, In3, Kn3, total3}
use Rattle.gates.proofs.Laws.{ext_refl, ext_trans, ext-weaken, keeps, room_back}
use Rattle.gates.proofs.AdderLaws.{adder-law, adder-cost}
use Rattle.digits.specs.Digits.{Below}
use Rattle.words.specs.Num.{num}
use Rattle.words.specs.Each.{put_bits, Put}
use Rattle.words.specs.Add.{Chain, add_step, add_onto, chain_cost, add_cost, add_words, ChainLaw}
use Rattle.words.proofs.Sums.{sum-suc, sum_mono, sum-most}
use Rattle.words.proofs.NumLaws.{num-lt, num-suc, num-none, num-same}
use Rattle.words.proofs.EachLaws.{below_set, below_more, put-law}

pub pow-add : (i m : ℕ) → 2 ^ (i + m) ≡ 2 ^ i * 2 ^ m
pow-add i zero = rw add-zero (omega arith)
pow-add i (suc m) = rw (add-suc, pow-suc 2 (i + m), pow-suc 2 m, pow-add i m) (omega arith)

-- a store above the first j bits
pub num-set : (e : Assign) (bs : List ℕ) (i v j : ℕ) → j ≤ i → num e (set bs i v) j ≡ num e bs j
num-set e bs i v j h = num-same e (set bs i v) bs j (λ k l. get_or-set_other bs i k v 0 (omega arith))

module _ (from : ℕ) (right : List ℕ) where
  add_step_lem : (s : Chain) (j : ℕ) (x : Chain) → from + j < length s.out → ChainLaw from right s j x → ChainLaw from right s (suc j) (add_step from right j x)
  unfolding add_step
  add_step_lem s j x room h =
      record {
        ext = ext-weaken s.net m.net (chain_cost from s.out right j + adder_cost l r) (chain_cost from s.out right (suc j)) more
            (ext_trans s.net x.net m.net (chain_cost from s.out right j) (adder_cost l r) h.ext a.ext);
        long = length-set x.out (from + j) m.sum ∙ h.long;
        below = λ k lt. get_or-set_other x.out (from + j) k m.sum 0 (omega arith) ∙ h.below k lt;
        above = λ k lt. get_or-set_other x.out (from + j) k m.sum 0 (omega arith) ∙ h.above k (omega arith);
        value = λ e o. rw (add-suc from j, num-suc e (set x.out (from + j) m.sum) (from + j), num-suc e s.out (from + j), num-suc e right j) (val e o);
        formed = λ rm bl br bc f.
            let q : Formed x.net × (x.carry < x.net.n) × Below x.net.n x.out (from + j) =
            h.formed (room_back x.net m.net (adder_cost l r) a.ext.grows rm) (λ k lt. bl k (omega arith)) (λ k lt. br k (omega arith)) bc f in
            let il : l < x.net.n = rw old (omega (arith, bl (from + j) (omega arith), h.ext.grows.from)) in
            let ir : r < x.net.n = omega (arith, br j (omega arith), h.ext.grows.from) in
            let u : Formed m.net × (m.sum < m.net.n) × (m.carry < m.net.n) = a.formed rm (il, ir, q.1) q.0 in
            (u.0, u.2, rw (add-suc from j) (below_set m.net.n x.out (from + j) m.sum fits (below_more x.net.n m.net.n x.out (from + j) a.ext.grows.from q.2) u.1));
        known = λ bl br bc.
            let q : (x.net ≡ s.net) × (x.carry < 2) × Below 2 x.out (from + j) = h.known (λ k lt. bl k (omega arith)) (λ k lt. br k (omega arith)) bc in
            let kl : l < 2 = rw old (bl (from + j) (omega arith)) in
            let u : (m.net ≡ x.net) × (m.sum < 2) × (m.carry < 2) = a.known (kl, br j (omega arith), q.1) in
            (u.0 ∙ q.0, u.2, rw (add-suc from j) (below_set 2 x.out (from + j) m.sum fits q.2 u.1));
      }
    where
      l : ℕ
      l = get_or x.out (from + j) 0

      r : ℕ
      r = get_or right j 0

      m : MadeSum
      m = adder_bit x.net l r x.carry

      a : SumLaw x.net (In3 x.net l r x.carry) (Kn3 l r x.carry) (total3 l r x.carry) (adder_cost l r) m
      a = adder-law x.net l r x.carry

      fits : from + j < length x.out
      fits = omega (arith, h.long)

      -- the sum's bit has not been touched yet
      old : get_or x.out (from + j) 0 ≡ get_or s.out (from + j) 0
      old = h.above (from + j) (omega arith)

      more : chain_cost from s.out right j + adder_cost l r ≤ chain_cost from s.out right (suc j)
      more =
          let e : adder_cost l r ≡ adder_cost (get_or s.out (from + j) 0) r = ap (λ (b : ℕ). adder_cost b r) old in
          omega (arith, sum-suc (λ k. adder_cost (get_or s.out (from + k) 0) (get_or right k 0)) j)

      val : (e : Assign) → Obeys m.net e
          → num e (set x.out (from + j) m.sum) (from + j) + 2 ^ (from + j) * bit (e (get_or (set x.out (from + j) m.sum) (from + j) 0)) + 2 ^ suc (from + j) * bit (e m.carry)
          ≡ num e s.out (from + j) + 2 ^ (from + j) * bit (e (get_or s.out (from + j) 0)) + 2 ^ from * (num e right j + 2 ^ j * bit (e (get_or right j 0)) + bit (e s.carry))
      val e o =
          let p : num e x.out (from + j) + 2 ^ (from + j) * bit (e x.carry) ≡ num e s.out (from + j) + 2 ^ from * (num e right j + bit (e s.carry)) =
          h.value e (keeps x.net m.net (adder_cost l r) e a.ext.grows o) in
          let q : 2 ^ (from + j) * (bit (e m.sum) + 2 * bit (e m.carry)) ≡ 2 ^ (from + j) * total3 l r x.carry e = ap (λ (y : ℕ). 2 ^ (from + j) * y) (a.value e o) in
          let t : 2 ^ (from + j) * bit (e r) ≡ 2 ^ from * (2 ^ j * bit (e r)) = ap (λ (y : ℕ). y * bit (e r)) (pow-add from j) ∙ mul_assoc (2 ^ from) (2 ^ j) (bit (e r)) in
          let u : bit (e l) ≡ bit (e (get_or s.out (from + j) 0)) = ap (λ (b : ℕ). bit (e b)) old in
          let v : 2 ^ (from + j) * bit (e l) ≡ 2 ^ (from + j) * bit (e (get_or s.out (from + j) 0)) = ap (λ (y : ℕ). 2 ^ (from + j) * y) u in
          rw (num-set e x.out (from + j) m.sum (from + j) (omega arith), get_or-set_same x.out (from + j) m.sum 0 fits, pow-suc 2 (from + j)) (omega arith)

  add_none : (s : Chain) → ChainLaw from right s 0 s
  add_none s =
      record {
        ext = ext_refl s.net (chain_cost from s.out right 0);
        long = refl;
        below = λ k l. refl;
        above = λ k l. refl;
        value = λ e o. rw (add-zero from, num-none e right) (omega arith);
        formed = λ rm bl br bc f. (f, bc, bl);
        known = λ bl br bc. (refl, bc, bl);
      }

  pub onto-law : (s : Chain) (w : ℕ) → from + w ≤ length s.out → ChainLaw from right s w (add_onto from right w s)
  onto-law s w h = iter-inv (ChainLaw from right s) (add_step from right) s w (add_none s) (λ j x lt q. add_step_lem s j x (omega arith) q)

  pub onto-long : (s : Chain) (w : ℕ) → length (add_onto from right w s).out ≡ length s.out
  unfolding add_step
  onto-long s w = iter-inv (λ i (x : Chain). length x.out ≡ length s.out) (add_step from right) s w refl (λ i x lt e. length-set x.out (from + i) _ ∙ e)

-- three gates a place are enough
pub cost-three : (left right : List ℕ) (w : ℕ) → add_cost left right w ≤ 3 * w
cost-three left right w = sum-most (λ j. adder_cost (get_or left j 0) (get_or right j 0)) 3 w (λ i l. (adder-cost (get_or left i 0) (get_or right i 0)).1)

pub chain-three : (from : ℕ) (out right : List ℕ) (w : ℕ) → chain_cost from out right w ≤ 3 * w
chain-three from out right w = sum-most (λ j. adder_cost (get_or out (from + j) 0) (get_or right j 0)) 3 w (λ i l. (adder-cost (get_or out (from + i) 0) (get_or right i 0)).1)

-- the chain over two words
pub record AddLaw (left right : List ℕ) (s : Chain) (w : ℕ) (t : Chain) : Type 0 where
  pub ext : Ext s.net t.net (add_cost left right w)
  pub long : length t.out ≡ length s.out
  pub value : (e : Assign) → Obeys t.net e → num e t.out w + 2 ^ w * bit (e t.carry) ≡ num e left w + num e right w + bit (e s.carry)
  pub formed : Room t.net.gates t.net.n → Below s.net.n left w → Below s.net.n right w → s.carry < s.net.n → Formed s.net
      → Formed t.net × (t.carry < t.net.n) × Below t.net.n t.out w
  pub known : Below 2 left w → Below 2 right w → s.carry < 2 → (t.net ≡ s.net) × (t.carry < 2) × Below 2 t.out w

module _ (left right : List ℕ) (s : Chain) (w : ℕ) (fits : w ≤ length s.out) where
  p : Put 0 left s.out w (put_bits 0 left w s.out)
  p = put-law 0 left s.out w (omega arith)

  copied : (i : ℕ) → i < w → get_or (put_bits 0 left w s.out) i 0 ≡ get_or left i 0
  copied i l = rw (zero-add i) at (p.there i l)

  pub copied-cost : chain_cost 0 (put_bits 0 left w s.out) right w ≤ add_cost left right w
  copied-cost =
      sum_mono (λ j. adder_cost (get_or (put_bits 0 left w s.out) (0 + j) 0) (get_or right j 0)) (λ j. adder_cost (get_or left j 0) (get_or right j 0)) w
      (λ i l. let q : adder_cost (get_or (put_bits 0 left w s.out) (0 + i) 0) (get_or right i 0) ≡ adder_cost (get_or left i 0) (get_or right i 0) =
      ap (λ (b : ℕ). adder_cost b (get_or right i 0)) (p.there i l) in
      omega arith)

  pub add-law : AddLaw left right s w (add_words w left right s)
  add-law =
      let a : ChainLaw 0 right (record { net = s.net; carry = s.carry; out = put_bits 0 left w s.out }) w (add_words w left right s) =
      onto-law 0 right (record { net = s.net; carry = s.carry; out = put_bits 0 left w s.out }) w (omega (arith, p.long)) in
      record {
        ext = ext-weaken s.net _ (chain_cost 0 (put_bits 0 left w s.out) right w) (add_cost left right w) copied-cost a.ext;
        long = a.long ∙ p.long;
        value = λ e o.
            let q : num e (put_bits 0 left w s.out) w ≡ num e left w = num-same e (put_bits 0 left w s.out) left w copied in
            omega (arith, rw (zero-add w) at (a.value e o));
        formed = λ rm bl br bc f. rw (zero-add w) at (a.formed rm (λ i l. rw (copied i (omega arith)) (bl i (omega arith))) br bc f);
        known = λ bl br bc. rw (zero-add w) at (a.known (λ i l. rw (copied i (omega arith)) (bl i (omega arith))) br bc);
      }

-- the sum modulo 2 ^ w
pub add-value : (left right : List ℕ) (s : Chain) (w : ℕ) (t : Chain) → AddLaw left right s w t → s.carry ≡ 0 → (e : Assign) → Obeys t.net e
    → num e t.out w ≡ (num e left w + num e right w) % 2 ^ w
add-value left right s w t h z e o =
    let c : bit (e s.carry) ≡ 0 = ap (λ (b : ℕ). bit (e b)) z ∙ ap bit o.low in
    let q : num e left w + num e right w ≡ num e t.out w + 2 ^ w * bit (e t.carry) = omega (arith, h.value e o) in
    rw (q, add-mul-mod_self_left (num e t.out w) (2 ^ w) (bit (e t.carry)), mod-eq_of_lt (num-lt e t.out w))
