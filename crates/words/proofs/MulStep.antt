-- One row of the product. One number k stands for what is lost above w bits: sum + 2 ^ w · k ≡ left · right.
use mathlib.Core.Path.{◌≡◌, refl, ap, ◌∙◌}
use mathlib.Core.List.{List}
use mathlib.Core.Bool.{Bool, true, false, ◌&&◌}
use Prim.Native.Nat.{ℕ, zero, suc, ◌+◌, ◌*◌, ◌-◌, ◌^◌, ◌≤◌, ◌<◌}
use native.Mathlib.Omega.{arith}
use native.Mathlib.Nat.{add-zero, add-suc}
use lib.ListN.{length, get_or, drop}
use lib.Seq.{get_or-drop}
use Rattle.loops.specs.Loop.{sum, bit}
use Rattle.netlist.specs.Record.{Room}
use Rattle.netlist.specs.Net.{Net, Assign, Obeys}
use Rattle.gates.specs.Law.{Ext, Formed}
use Rattle.gates.proofs.Laws.{ext_trans, ext-weaken, keeps, room_back}
use Rattle.digits.specs.Digits.{number, Below}
use Rattle.words.specs.declared.each.Bitwise.TheVariants.{AndWith}
use Rattle.words.specs.Num.{num, blank}
use Rattle.words.specs.Each.{bit_value, bit_cost, bit_below, Word, each_cost, EachLaw}
use Rattle.words.specs.Add.{Chain, add_onto, chain_cost, ChainLaw}
use Rattle.words.specs.Mul.{row_of, mul_step, mul_cost, RowLaw, OntoLaw}
use Rattle.words.proofs.Sums.{sum-suc, sum-none}
use Rattle.words.proofs.NumLaws.{num-suc, num-none, blank-long}
use Rattle.words.proofs.EachLaws.{cost-each, each-law, below_more}
use Rattle.words.proofs.AddLaws.{pow-add, onto-law, chain-three}

-- a word of false bits
pub num-zero : (e : Assign) (bs : List ℕ) (w : ℕ) → ((j : ℕ) → j < w → e (get_or bs j 0) ≡ false) → num e bs w ≡ 0
unfolding number
num-zero e bs zero h = refl
num-zero e bs (suc w) h =
    let q : num e bs w ≡ 0 = num-zero e bs w (λ j l. h j (omega arith)) in
    rw (h w (omega arith)) (omega arith)

-- a word in two parts
pub num-split : (e : Assign) (bs : List ℕ) (m k : ℕ) → num e bs (m + k) ≡ num e bs m + 2 ^ m * num e (drop m bs) k
num-split e bs m zero = rw (add-zero, num-none e (drop m bs)) (omega arith)
num-split e bs m (suc k) = rw (add-suc, num-suc e bs (m + k), num-suc e (drop m bs) k, get_or-drop, num-split e bs m k, pow-add m k) (omega arith)

-- a word And one bit
num-and : (e : Assign) (row left : List ℕ) (d k : ℕ) → ((j : ℕ) → j < k → e (get_or row j 0) ≡ (e (get_or left j 0) && e d)) → num e row k ≡ num e left k * bit (e d)
num-and e row left d zero h = rw (num-none e row, num-none e left) (omega arith)
num-and e row left d (suc k) h =
    rw (num-suc e row k, num-suc e left k, h k (omega arith), num-and e row left d k (λ j l. h j (omega arith))) (go (e (get_or left k 0)) (e d))
  where
    go : (x y : Bool) → num e left k * bit y + 2 ^ k * bit (x && y) ≡ (num e left k + 2 ^ k * bit x) * bit y
    go true true = omega arith
    go true false = omega arith
    go false true = omega arith
    go false false = omega arith

pub row-cost : (left : List ℕ) (d k : ℕ) → each_cost (AndWith d) left left k ≤ 1 * k
unfolding bit_cost
row-cost left d k = cost-each (AndWith d) 1 left left k (λ a b. omega arith)

pub row-law : (left : List ℕ) (d k : ℕ) (s : Net) → k ≤ 65 → RowLaw left d k s (row_of left d k s)
unfolding bit_value bit_below
row-law left d k s small =
    let a : EachLaw (AndWith d) left left (record { net = s; out = blank }) k (row_of left d k s) =
    each-law (AndWith d) left left (record { net = s; out = blank }) k (omega (arith, blank-long)) in
    record {
      ext = ext-weaken s _ (each_cost (AndWith d) left left k) k (omega (arith, row-cost left d k)) a.ext;
      value = λ e o. num-and e (row_of left d k s).out left d k (a.value e o);
      formed = λ rm bl bd f. a.formed rm (λ i l. (bl i l, bd)) f;
      known = λ bl bd. (a.known (λ i l. (bl i l, bd)), λ i l. a.known_at i l (bl i l, bd));
    }

pub placed-law : (w i k : ℕ) (right : List ℕ) (s : Chain) → i + k ≡ w → w ≤ length s.out → OntoLaw w i k right s (add_onto i right k s)
placed-law w i k right s q fits =
    let a : ChainLaw i right s k (add_onto i right k s) = onto-law i right s k (omega arith) in
    record {
      ext = ext-weaken s.net _ (chain_cost i s.out right k) (3 * k) (chain-three i s.out right k) a.ext;
      long = a.long;
      rest = λ j l. a.above j (omega arith);
      value = λ e o. rw q at (a.value e o);
      formed = rw q at a.formed;
      known = rw q at a.known;
    }

-- one row more: the sum p becomes q and a carry c; x is the number of the kept bits, h of those above
pub row-arith : (w i k c p q l x h r d : ℕ) → i ≤ w → q + 2 ^ w * c ≡ p + 2 ^ i * (x * d) → l ≡ x + 2 ^ (w - i) * h → p + 2 ^ w * k ≡ l * r
    → q + 2 ^ w * (k + c + h * d) ≡ l * (r + 2 ^ i * d)
row-arith w i k c p q l x h r d hi hq hl hp =
    let m : i + (w - i) ≡ w = omega arith in
    let a : 2 ^ w ≡ 2 ^ i * 2 ^ (w - i) = rw m at (pow-add i (w - i)) in
    let b : 2 ^ i * l * d ≡ 2 ^ i * (x + 2 ^ (w - i) * h) * d = ap (λ (z : ℕ). 2 ^ i * z * d) hl in
    let g : 2 ^ w * (h * d) ≡ 2 ^ i * 2 ^ (w - i) * (h * d) = ap (λ (z : ℕ). z * (h * d)) a in
    omega arith

-- four gates for each place of each row
pub rows-cost : (w i : ℕ) → i ≤ w → sum i (λ j. 4 * (w - j)) + 2 * ((w - i) * (w - i + 1)) ≡ mul_cost w
rows-cost w zero h = let q : w - 0 ≡ w = omega arith in rw (sum-none (λ j. 4 * (w - j)), q) (omega arith)
rows-cost w (suc i) h =
    let m : ℕ = w - suc i in
    let q : w - i ≡ suc m = omega arith in
    let p : sum i (λ j. 4 * (w - j)) + 2 * (suc m * (suc m + 1)) ≡ mul_cost w = rw q at (rows-cost w i (omega arith)) in
    rw (sum-suc (λ j. 4 * (w - j)) i, q) (omega arith)

-- what is right of the first i rows, onto a sum that is known false
pub record RowsLaw (w : ℕ) (left right : List ℕ) (s : Word) (i : ℕ) (t : Word) : Type 0 where
  pub ext : Ext s.net t.net (sum i (λ j. 4 * (w - j)))
  pub long : length t.out ≡ length s.out
  pub rest : (j : ℕ) → w ≤ j → get_or t.out j 0 ≡ get_or s.out j 0
  pub value : (e : Assign) → Obeys t.net e → (k : ℕ) × (num e t.out w + 2 ^ w * k ≡ num e left w * num e right i)
  pub formed : Room t.net.gates t.net.n → Below s.net.n left w → Below s.net.n right i → Formed s.net → Formed t.net × Below t.net.n t.out w
  pub known : Below 2 left w → Below 2 right i → (t.net ≡ s.net) × Below 2 t.out w

module _ (w : ℕ) (left right : List ℕ) (s : Word) (small : w ≤ 65) (fits : w ≤ length s.out) where
  pub mul-step : (i : ℕ) (x : Word) → i < w → RowsLaw w left right s i x → RowsLaw w left right s (suc i) (mul_step w left right i x)
  unfolding mul_step
  mul-step i x lt h =
      record {
        ext = ext-weaken s.net c.net (sum i (λ j. 4 * (w - j)) + (m + 3 * m)) (sum (suc i) (λ j. 4 * (w - j))) (omega (arith, sum-suc (λ j. 4 * (w - j)) i))
            (ext_trans s.net x.net c.net (sum i (λ j. 4 * (w - j))) (m + 3 * m) h.ext (ext_trans x.net r.net c.net m (3 * m) a.ext b.ext));
        long = b.long ∙ h.long;
        rest = λ j l. b.rest j l ∙ h.rest j l;
        value = λ e o.
            let o₁ : Obeys r.net e = keeps r.net c.net (3 * m) e b.ext.grows o in
            let v : (k : ℕ) × (num e x.out w + 2 ^ w * k ≡ num e left w * num e right i) = h.value e (keeps x.net r.net m e a.ext.grows o₁) in
            let y : num e left w ≡ num e left m + 2 ^ m * num e (drop m left) i = rw whole at (num-split e left m i) in
            let u : 2 ^ i * (num e r.out m + bit (e 0)) ≡ 2 ^ i * (num e left m * bit (e d)) = ap (λ (z : ℕ). 2 ^ i * z) (omega (arith, a.value e o₁, ap bit o.low)) in
            let z : num e c.out w + 2 ^ w * bit (e c.carry) ≡ num e x.out w + 2 ^ i * (num e left m * bit (e d)) = b.value e o ∙ ap (λ (z : ℕ). num e x.out w + z) u in (
              v.0 + bit (e c.carry) + num e (drop m left) i * bit (e d),
              rw (num-suc e right i)
                  (row-arith w i v.0 (bit (e c.carry)) (num e x.out w) (num e c.out w) (num e left w) (num e left m) (num e (drop m left) i) (num e right i) (bit (e d)) (omega arith) z y v.1),
            );
        formed = λ rm bl br f.
            let rm₁ : Room r.net.gates r.net.n = room_back r.net c.net (3 * m) b.ext.grows rm in
            let q : Formed x.net × Below x.net.n x.out w = h.formed (room_back x.net r.net m a.ext.grows rm₁) bl (λ j l. br j (omega arith)) f in
            let u : Formed r.net × Below r.net.n r.out m =
            a.formed rm₁ (λ j l. omega (arith, bl j (omega arith), h.ext.grows.from)) (omega (arith, br i (omega arith), h.ext.grows.from)) q.0 in
            let v : Formed c.net × (c.carry < c.net.n) × Below c.net.n c.out w =
            b.formed rm (below_more x.net.n r.net.n x.out w a.ext.grows.from q.1) u.1 (omega (arith, u.0.two)) u.0 in
            (v.0, v.2);
        known = λ bl br.
            let q : (x.net ≡ s.net) × Below 2 x.out w = h.known bl (λ j l. br j (omega arith)) in
            let u : (r.net ≡ x.net) × Below 2 r.out m = a.known (λ j l. bl j (omega arith)) (br i (omega arith)) in
            let v : (c.net ≡ r.net) × (c.carry < 2) × Below 2 c.out w = b.known q.1 u.1 (omega arith) in
            (v.0 ∙ (u.0 ∙ q.0), v.2);
      }
    where
      d : ℕ
      d = get_or right i 0

      m : ℕ
      m = w - i

      whole : m + i ≡ w
      whole = omega arith

      r : Word
      r = row_of left d m x.net

      a : RowLaw left d m x.net r
      a = row-law left d m x.net (omega arith)

      c : Chain
      c = add_onto i r.out m (record { net = r.net; carry = 0; out = x.out })

      b : OntoLaw w i m r.out (record { net = r.net; carry = 0; out = x.out }) c
      b = placed-law w i m r.out (record { net = r.net; carry = 0; out = x.out }) (omega arith) (omega (arith, h.long))
