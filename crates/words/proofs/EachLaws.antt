-- The law of a word that is made bit by bit, once for every operation and every width.
use mathlib.Core.Path.{◌≡◌, refl, ap, ◌∙◌}
use mathlib.Core.List.{List, ◌++◌}
use Prim.Native.Nat.{ℕ, suc, ◌+◌, ◌-◌, ◌*◌, ◌≤◌, ◌<◌}
use native.Mathlib.Omega.{arith}
use native.Mathlib.Decide.{dec_lt}
use lib.Dec.{eqb}
use lib.ListN.{length, get_or, set, take, drop, replicate, length-set}
use borrow.Rule.Slice.PartMut.{put_mid}
use Rattle.std.proofs.Common.{rules}
use Rattle.std.proofs.lemmas.List.{places, ext_get_or, length-take-le}
use lib.Seq.{get_or-set_same, get_or-set_other}
use Rattle.loops.specs.Loop.{pick}
use Rattle.loops.proofs.Loop.{iter-inv}
use Rattle.netlist.specs.Net.{Net, Assign, Obeys}
use Rattle.gates.specs.Made.{MadeBit}
use Rattle.gates.specs.Law.{Ext, Formed, BitLaw}
use Rattle.gates.proofs.Laws.{ext_refl, ext_trans, ext-weaken, keeps, room_back}
use Rattle.gates.proofs.FoldLaws.{not-law, and-law, or-law, xnor-law, not-cost}
use Rattle.gates.proofs.ChoiceLaws.{mux-law, mux-known, clear-law}
use Rattle.digits.specs.Digits.{Below}
use Rattle.words.specs.declared.each.Bitwise.{Bitwise}
use Rattle.words.specs.declared.each.Bitwise.TheVariants.{Not, And, Or, Xnor, AndWith, Choose, Clear}
use Rattle.words.specs.Each.{bitwise, bit_value, bit_cost, bit_below, Word, each_step, each_bit, each_cost, EachLaw, copy_step, put_bits, Put}
use Rattle.words.specs.Num.{filled}
use Rattle.words.proofs.NumLaws.{filled-at}
use Rattle.words.proofs.Sums.{sum-suc, sum-most}

-- each operation's law, under one name
pub bit-law : (op : Bitwise) (s : Net) (a b : ℕ) → BitLaw s (bit_below op s.n a b) (bit_below op 2 a b) (λ e. bit_value op e a b) (bit_cost op a b) (bitwise op s a b)
unfolding bitwise bit_value bit_cost bit_below
bit-law Not s a b = not-law s a
bit-law And s a b = and-law s a b
bit-law Or s a b = or-law s a b
bit-law Xnor s a b = xnor-law s a b
bit-law (AndWith c) s a b = and-law s a c
bit-law (Choose c) s a b = mux-law s c a b
bit-law (Clear c) s a b = clear-law s c b

below_up : (op : Bitwise) (m n a b : ℕ) → m ≤ n → bit_below op m a b → bit_below op n a b
unfolding bit_below
below_up Not m n a b l h = omega arith
below_up And m n a b l h = omega arith
below_up Or m n a b l h = omega arith
below_up Xnor m n a b l h = omega arith
below_up (AndWith c) m n a b l h = omega arith
below_up (Choose c) m n a b l h = omega arith
below_up (Clear c) m n a b l h = omega arith

-- k gates a bit
pub cost-each : (op : Bitwise) (k : ℕ) (left right : List ℕ) (w : ℕ) → ((a b : ℕ) → bit_cost op a b ≤ k) → each_cost op left right w ≤ k * w
cost-each op k left right w h = sum-most (λ i. bit_cost op (get_or left i 0) (get_or right i 0)) k w (λ i l. h (get_or left i 0) (get_or right i 0))

pub nots-cost : (bits : List ℕ) (w : ℕ) → each_cost Not bits bits w ≤ 1 * w
unfolding bit_cost
nots-cost bits w = cost-each Not 1 bits bits w (λ a b. not-cost a)

pub ands-cost : (left right : List ℕ) (w : ℕ) → each_cost And left right w ≤ 1 * w
unfolding bit_cost
ands-cost left right w = cost-each And 1 left right w (λ a b. omega arith)

pub ors-cost : (left right : List ℕ) (w : ℕ) → each_cost Or left right w ≤ 1 * w
unfolding bit_cost
ors-cost left right w = cost-each Or 1 left right w (λ a b. omega arith)

pub choose-cost : (c : ℕ) (left right : List ℕ) (w : ℕ) → each_cost (Choose c) left right w ≤ 3 * w
unfolding bit_cost
choose-cost c left right w = cost-each (Choose c) 3 left right w (λ a b. omega arith)

-- bits below a number after one more was stored, and below a larger one
pub below_set : (n : ℕ) (bs : List ℕ) (w v : ℕ) → w < length bs → Below n bs w → v < n → Below n (set bs w v) (suc w)
below_set n bs w v h b hv i lt = go (dec_lt i w)
  where
    go : Dec (i < w) → get_or (set bs w v) i 0 < n
    go (yes l) = rw (get_or-set_other bs w i v 0 (omega arith)) (b i l)
    go (no l) = let q : i ≡ w = omega arith in rw (q, get_or-set_same bs w v 0 h) hv

pub below_more : (m n : ℕ) (bs : List ℕ) (w : ℕ) → m ≤ n → Below m bs w → Below n bs w
below_more m n bs w l b i lt = omega (arith, b i lt)

module _ (op : Bitwise) (left right : List ℕ) where
  each_step_lem : (s : Word) (i : ℕ) (x : Word) → i < length s.out → EachLaw op left right s i x → EachLaw op left right s (suc i) (each_step op left right i x)
  unfolding each_step
  each_step_lem s i x room h =
      record {
        ext = ext-weaken s.net m.net (each_cost op left right i + bit_cost op (get_or left i 0) (get_or right i 0)) (each_cost op left right (suc i))
            (omega (arith, sum-suc (λ j. bit_cost op (get_or left j 0) (get_or right j 0)) i))
            (ext_trans s.net x.net m.net (each_cost op left right i) (bit_cost op (get_or left i 0) (get_or right i 0)) h.ext a.ext);
        long = length-set x.out i m.bit ∙ h.long;
        rest = λ j l. get_or-set_other x.out i j m.bit 0 (omega arith) ∙ h.rest j (omega arith);
        value = λ e o j lt. val e o j lt (dec_lt j i);
        formed = λ rm inn f.
            let q : Formed x.net × Below x.net.n x.out i = h.formed (room_back x.net m.net _ a.ext.grows rm) (λ j lt. inn j (omega arith)) f in
            let u : Formed m.net × (m.bit < m.net.n) = a.formed rm (below_up op s.net.n x.net.n _ _ h.ext.grows.from (inn i (omega arith))) q.0 in
            (u.0, below_set m.net.n x.out i m.bit fits (below_more x.net.n m.net.n x.out i a.ext.grows.from q.1) u.1);
        known = λ kn. (a.known (kn i (omega arith))).0 ∙ h.known (λ j lt. kn j (omega arith));
        known_at = λ j lt k. kn j lt k (dec_lt j i);
      }
    where
      m : MadeBit
      m = bitwise op x.net (get_or left i 0) (get_or right i 0)

      a : BitLaw x.net (bit_below op x.net.n (get_or left i 0) (get_or right i 0)) (bit_below op 2 (get_or left i 0) (get_or right i 0)) (λ e. bit_value op e (get_or left i 0) (get_or right i 0))
          (bit_cost op (get_or left i 0) (get_or right i 0)) m
      a = bit-law op x.net (get_or left i 0) (get_or right i 0)

      fits : i < length x.out
      fits = omega (arith, h.long)

      val : (e : Assign) → Obeys m.net e → (j : ℕ) → j < suc i → Dec (j < i) → e (get_or (set x.out i m.bit) j 0) ≡ bit_value op e (get_or left j 0) (get_or right j 0)
      val e o j lt (yes l) = rw (get_or-set_other x.out i j m.bit 0 (omega arith)) (h.value e (keeps x.net m.net _ e a.ext.grows o) j l)
      val e o j lt (no l) = let q : j ≡ i = omega arith in rw (q, get_or-set_same x.out i m.bit 0 fits) (a.value e o)

      kn : (j : ℕ) → j < suc i → bit_below op 2 (get_or left j 0) (get_or right j 0) → Dec (j < i) → get_or (set x.out i m.bit) j 0 < 2
      kn j lt k (yes l) = rw (get_or-set_other x.out i j m.bit 0 (omega arith)) (h.known_at j l k)
      kn j lt k (no l) = let q : j ≡ i = omega arith in rw (q, get_or-set_same x.out i m.bit 0 fits) (a.known (rw q at k)).1

  pub each-law : (s : Word) (w : ℕ) → w ≤ length s.out → EachLaw op left right s w (each_bit op left right w s)
  each-law s w h =
      iter-inv (EachLaw op left right s) (each_step op left right) s w
      (record {
        ext = ext_refl s.net (each_cost op left right 0);
        long = refl;
        rest = λ j l. refl;
        value = λ e o i lt. absurd (omega arith);
        formed = λ rm inn f. (f, λ i lt. omega arith);
        known = λ kn. refl;
        known_at = λ i lt k. absurd (omega arith);
      })
      (λ i x lt q. each_step_lem s i x (omega arith) q)

  -- growth and length at any room, for the code's own proof
  pub each-ext : (s : Word) (w : ℕ) → Ext s.net (each_bit op left right w s).net (each_cost op left right w)
  unfolding each_step
  each-ext s w =
      iter-inv (λ i (x : Word). Ext s.net x.net (each_cost op left right i)) (each_step op left right) s w (ext_refl s.net (each_cost op left right 0))
      (λ i x lt q. ext-weaken s.net _ (each_cost op left right i + bit_cost op (get_or left i 0) (get_or right i 0)) (each_cost op left right (suc i))
      (omega (arith, sum-suc (λ j. bit_cost op (get_or left j 0) (get_or right j 0)) i))
      (ext_trans s.net x.net _ (each_cost op left right i) (bit_cost op (get_or left i 0) (get_or right i 0)) q (bit-law op x.net (get_or left i 0) (get_or right i 0)).ext))

  pub each_long : (s : Word) (w : ℕ) → length (each_bit op left right w s).out ≡ length s.out
  unfolding each_step
  each_long s w = iter-inv (λ i (x : Word). length x.out ≡ length s.out) (each_step op left right) s w refl (λ i x lt e. length-set x.out i _ ∙ e)

  -- and the bits that are not made yet
  pub each-rest : (s : Word) (w j : ℕ) → w ≤ j → get_or (each_bit op left right w s).out j 0 ≡ get_or s.out j 0
  unfolding each_step
  each-rest s w j h =
      iter-inv (λ i (x : Word). i ≤ j → get_or x.out j 0 ≡ get_or s.out j 0) (each_step op left right) s w (λ l. refl)
      (λ i x lt e l. get_or-set_other x.out i j _ 0 (omega arith) ∙ e (omega arith)) h

-- a choice by a known condition makes no gate, and gives the bits of the side chosen
module _ (c : ℕ) (t f : List ℕ) (s : Word) (known : c < 2) where
  record Same (i : ℕ) (x : Word) : Type 0 where
    net : x.net ≡ s.net
    long : length x.out ≡ length s.out
    at : (j : ℕ) → j < i → get_or x.out j 0 ≡ pick (eqb c 1) (get_or t j 0) (get_or f j 0)

  picked : (i : ℕ) (x : Word) → each_step (Choose c) t f i x ≡ record { net = x.net; out = set x.out i (pick (eqb c 1) (get_or t i 0) (get_or f i 0)) }
  unfolding each_step bitwise
  picked i x = ap {B = Word} (λ (m : MadeBit). record { net = m.net; out = set x.out i m.bit }) (mux-known x.net c (get_or t i 0) (get_or f i 0) known)

  choose-step : (i : ℕ) (x : Word) → i < length s.out → Same i x → Same (suc i) (each_step (Choose c) t f i x)
  choose-step i x fits h =
      rw (picked i x)
      (record {
        net = h.net;
        long = length-set x.out i _ ∙ h.long;
        at = λ j l. one j l (dec_lt j i);
      })
    where
      one : (j : ℕ) → j < suc i → Dec (j < i) → get_or (set x.out i (pick (eqb c 1) (get_or t i 0) (get_or f i 0))) j 0 ≡ pick (eqb c 1) (get_or t j 0) (get_or f j 0)
      one j l (yes p) = get_or-set_other x.out i j _ 0 (omega arith) ∙ h.at j p
      one j l (no p) = let q : j ≡ i = omega arith in rw q (get_or-set_same x.out i _ 0 (omega (arith, h.long)))

  pub choose-known : (w : ℕ) → w ≤ length s.out
      → ((each_bit (Choose c) t f w s).net ≡ s.net) × ((i : ℕ) → i < w → get_or (each_bit (Choose c) t f w s).out i 0 ≡ pick (eqb c 1) (get_or t i 0) (get_or f i 0))
  choose-known w fits =
      let q : Same w (each_bit (Choose c) t f w s) =
      iter-inv Same (each_step (Choose c) t f) s w (record { net = refl; long = refl; at = λ j l. absurd (omega arith) }) (λ i x lt h. choose-step i x (omega arith) h) in
      (q.net, q.at)

-- after put_bits the bits stand there, and every other place is as before
pub put-law : (from : ℕ) (bits map : List ℕ) (w : ℕ) → from + w ≤ length map → Put from bits map w (put_bits from bits w map)
unfolding copy_step
put-law from bits map w fits =
    iter-inv (Put from bits map) (copy_step from bits) map w (record { long = refl; there = λ j h. absurd (omega arith); below = λ k h. refl; above = λ k h. refl }) step
  where
    at_one : (i : ℕ) (x : List ℕ) → i < w → Put from bits map i x → (j : ℕ) → j < suc i → Dec (j < i) → get_or (set x (from + i) (get_or bits i 0)) (from + j) 0 ≡ get_or bits j 0
    at_one i x lt p j h (yes l) = get_or-set_other x (from + i) (from + j) (get_or bits i 0) 0 (omega arith) ∙ p.there j l
    at_one i x lt p j h (no l) = let q : j ≡ i = omega arith in rw q (get_or-set_same x (from + i) (get_or bits i 0) 0 (omega (arith, p.long)))

    step : (i : ℕ) (x : List ℕ) → i < w → Put from bits map i x → Put from bits map (suc i) (copy_step from bits i x)
    step i x lt p =
        record {
          long = length-set x (from + i) _ ∙ p.long;
          there = λ j h. at_one i x lt p j h (dec_lt j i);
          below = λ k h. get_or-set_other x (from + i) k _ 0 (omega arith) ∙ p.below k h;
          above = λ k h. get_or-set_other x (from + i) k _ 0 (omega arith) ∙ p.above k (omega arith);
        }

-- a part of a list written over with a word's bits
pub put-mid : (from : ℕ) (bits map part : List ℕ) (w k : ℕ) → from + w ≤ length map → w ≤ length bits → k ≡ w → part ≡ take w bits → put_mid from k map part ≡ put_bits from bits w map
put-mid from bits map part w k h g q p =
    let m = put-law from bits map w h in
    rw (q, p) (ext_get_or 0 _ _ (search (rules, places)) (λ i l. grind (arith, places, m.long, m.there (i - from), m.below i, m.above i)))

-- the first w places of a list, each with the bit b
pub fill_path : (b w : ℕ) (map bits : List ℕ) → w ≤ 64 → w ≤ length map → bits ≡ replicate (length (take w map)) b → bits ++ drop w map ≡ put_bits 0 (filled b) w map
fill_path b w map bits small fits e =
    let m : Put 0 (filled b) map w (put_bits 0 (filled b) w map) = put-law 0 (filled b) map w (omega arith) in
    rw (e, length-take-le w map fits) (ext_get_or 0 _ _ (search (rules, places, m.long)) (λ i l. grind (arith, places, m.long, m.there i, m.above i, filled-at b i)))
