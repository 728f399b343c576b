-- What reading a number comes to.
use mathlib.Core.Path.{◌≡◌, refl, ap, sym, ◌∙◌}
use mathlib.Core.List.{List, [], ◌∷◌, ◌++◌, append_assoc, append-nil}
use mathlib.Core.Bool.{Bool, true, false, ◌&&◌, ◌||◌}
use Prim.Native.Nat.{ℕ, zero, suc, ◌+◌, ◌-◌, ◌*◌, ◌/◌, ◌%◌, ◌^◌, ◌≤◌, ◌<◌}
use native.Mathlib.Omega.{arith}
use native.Mathlib.Decide.{dec_lt}
use native.Mathlib.Numerals.{add-one}
use lib.Dec.{eqb, ltb, leb}
use lib.ListN.{length, get_or, take, drop, length-append, get_or-append}
use lib.Seq.{take-suc}
use Rattle.std.proofs.lemmas.List.{take-append-drop}
use borrow.Author.Tests.{lt-ltb, le-ltb, le-leb, lt-leb, eq-eqb, ne_eqb, eqb-true, eqb-false, leb-true, ltb-true}
use Rattle.loops.specs.Loop.{pick}
use Rattle.loops.proofs.Loop.{both}
use Rattle.std.specs.Prelude.{Option, Some, None}
use Rattle.std.specs.Option.{SomeIff}
use Rattle.text.specs.Number.{digits, decimal, add_digit, digit, number_from, number}
use Rattle.text.proofs.Decimals.{small-digits, large-digits, decimal-small, decimal-more}

module _ (v c : ℕ) where
  pub add_low : c < 48 → None ≡ add_digit v c
  unfolding add_digit pick
  add_low h = rw (lt-leb 48 c h)

  pub add-none : (48 ≤ c → c ≤ 57 → ⊥) → None ≡ add_digit v c
  unfolding add_digit pick
  add-none h = go (dec_lt c 48) (dec_lt 57 c)
    where
      go : Dec (c < 48) → Dec (57 < c) → None ≡ add_digit v c
      go (yes l) d = add_low l
      go (no l) (yes m) = rw (le-leb 48 c (omega arith), lt-leb c 57 m)
      go (no l) (no m) = absurd (h (omega arith) (omega arith))

  module _ (h : 48 ≤ c) (g : c ≤ 57) where
    pub add-big : 2 ^ 64 ≤ 10 * v + (c - 48) → None ≡ add_digit v c
    unfolding add_digit pick
    add-big f = rw (le-leb 48 c h, le-leb c 57 g, le-ltb (10 * v + (c - 48)) (2 ^ 64) f)

    pub add-fits : 10 * v + (c - 48) < 2 ^ 64 → Some (10 * v + (c - 48)) ≡ add_digit v c
    unfolding add_digit pick
    add-fits f = rw (le-leb 48 c h, le-leb c 57 g, lt-ltb (10 * v + (c - 48)) (2 ^ 64) f)

    -- what `checked_add` answers
    pub added-is : (u d : ℕ) (r : Option ℕ) → u ≡ v * 10 → d ≡ c - 48 → SomeIff r (u + d < 2 ^ 64) (u + d) → r ≡ add_digit v c
    added-is u d None p q k = add-big (by (dec_lt (10 * v + (c - 48)) (2 ^ 64)))
      where
        by : Dec (10 * v + (c - 48) < 2 ^ 64) → 2 ^ 64 ≤ 10 * v + (c - 48)
        by (yes m) = absurd (k (omega arith))
        by (no m) = omega arith
    added-is u d (Some w) p q k = let e : w ≡ 10 * v + (c - 48) = omega (arith, k.1) in rw e (add-fits (omega (arith, k.0, k.1)))

pub number-last : (n : Option ℕ) (s : List ℕ) (c : ℕ) → number_from n (s ++ (c ∷ [])) ≡ digit (number_from n s) c
unfolding number_from
number-last n [] c = refl
number-last n (d ∷ s) c = number-last (digit n d) s c

bad-stays : (s : List ℕ) → number_from None s ≡ None
unfolding number_from digit
bad-stays [] = refl
bad-stays (c ∷ cs) = bad-stays cs

number-append : (n : Option ℕ) (s t : List ℕ) → number_from n (s ++ t) ≡ number_from (number_from n s) t
unfolding number_from
number-append n [] t = refl
number-append n (c ∷ s) t = number-append (digit n c) s t

module _ (s : List ℕ) where
  pub number-none : Some 0 ≡ number_from (Some 0) (take 0 s)
  unfolding number_from
  number-none = refl

  module _ (i v c : ℕ) (h : i < length s) (e : Some v ≡ number_from (Some 0) (take i s)) (q : c ≡ get_or s i 0) where
    pub number_more : (w : ℕ) (r : Option ℕ) → r ≡ add_digit v c → r ≡ Some w → Some w ≡ number_from (Some 0) (take (i + 1) s)
    unfolding digit
    number_more w r f g = rw (add-one, take-suc s i 0 h, number-last (Some 0) (take i s) (get_or s i 0), ← e, ← q) (sym g ∙ f)

    -- a byte that cannot be added ends the number, whatever follows
    pub number_stops : (r : Option ℕ) → r ≡ add_digit v c → r ≡ None → None ≡ number_from (Some 0) s
    unfolding digit
    number_stops r f g =
        let z : number_from (Some 0) (take (suc i) s) ≡ None = rw (take-suc s i 0 h, number-last (Some 0) (take i s) (get_or s i 0), ← e, ← q) (sym f ∙ g) in
        sym (rw (take-append-drop (suc i) s) at (number-append (Some 0) (take (suc i) s) (drop (suc i) s) ∙ ap (λ n. number_from n (drop (suc i) s)) z ∙ bad-stays (drop (suc i) s)))

  pub number_empty : length s ≡ 0 → None ≡ number s
  unfolding number pick
  number_empty h = rw (eq-eqb (length s) 0 h)

  module _ (h : length s ≡ 0 → ⊥) where
    pub number-rest : (n : Option ℕ) → (eqb (get_or s 0 0) 48 && ltb 1 (length s)) ≡ false → n ≡ number_from (Some 0) s → n ≡ number s
    unfolding number pick
    number-rest n e f = rw (ne_eqb (length s) 0 h, e) f

pub number_zero : (s : List ℕ) → 2 ≤ length s → get_or s 0 0 ≡ 48 → None ≡ number s
unfolding number pick
number_zero s h e = rw (ne_eqb (length s) 0 (λ z. omega arith), eq-eqb (get_or s 0 0) 48 e, lt-ltb 1 (length s) (omega arith))

pub number-other : (s : List ℕ) (n : Option ℕ) → 1 ≤ length s → (2 ≤ length s → get_or s 0 0 ≡ 48 → ⊥) → n ≡ number_from (Some 0) s → n ≡ number s
number-other s n h k f = number-rest s (λ z. omega arith) n (alone (dec_lt 1 (length s))) f
  where
    alone : Dec (1 < length s) → (eqb (get_or s 0 0) 48 && ltb 1 (length s)) ≡ false
    alone (yes l) = rw (ne_eqb (get_or s 0 0) 48 (k (omega arith)))
    alone (no l) = rw (le-ltb 1 (length s) (omega arith)) (by (eqb (get_or s 0 0) 48))
      where
        by : (b : Bool) → (b && false) ≡ false
        by true = refl
        by false = refl

digit-adds : (v d : ℕ) → d < 10 → 10 * v + d < 2 ^ 64 → add_digit v (48 + d) ≡ Some (10 * v + d)
digit-adds v d h g =
    let e : 48 + d - 48 ≡ d = omega arith in
    let k : Some (10 * v + (48 + d - 48)) ≡ add_digit v (48 + d) = add-fits v (48 + d) (omega arith) (omega arith) (omega arith) in
    sym k ∙ ap (λ (x : ℕ). Some (10 * v + x)) e

value-step : (f n : ℕ) → n < suc f → n < 2 ^ 64 → (10 ≤ n → number_from (Some 0) (digits f (n / 10)) ≡ Some (n / 10)) → Dec (n < 10) → number_from (Some 0) (digits (suc f) n) ≡ Some n
unfolding number_from digit
value-step f n h g k (yes l) = rw (small-digits f n l) (digit-adds 0 n l (omega arith) ∙ ap Some (omega arith))
value-step f n h g k (no l) =
    let m : 10 ≤ n = omega arith in
    rw (large-digits f n m, number-last (Some 0) (digits f (n / 10)) (48 + n % 10), k m)
    (digit-adds (n / 10) (n % 10) (omega arith) (omega arith) ∙ ap Some (omega arith))

value_of : (f n : ℕ) → n < f → n < 2 ^ 64 → number_from (Some 0) (digits f n) ≡ Some n
value_of zero n h g = absurd (omega arith)
value_of (suc f) n h g = value-step f n h g (λ m. value_of f (n / 10) (omega arith) (omega arith)) (dec_lt n 10)

-- the digits of a number that is not 0 are some, and the first is not `0`
abbrev Leads : List ℕ → Type 0
Leads s = (0 < length s) × (get_or s 0 0 ≡ 48 → ⊥)

leads-append : (s t : List ℕ) → Leads s → Leads (s ++ t)
leads-append s t h = (rw (length-append s t) (omega arith), λ e. h.1 (sym (get_or-append s t 0 0 h.0) ∙ e))

leads-step : (f n : ℕ) → 0 < n → (10 ≤ n → Leads (digits f (n / 10))) → Dec (n < 10) → Leads (digits (suc f) n)
leads-step f n h k (yes l) = rw (small-digits f n l) (omega arith, λ e. absurd (omega arith))
leads-step f n h k (no l) = rw (large-digits f n (omega arith)) (leads-append (digits f (n / 10)) _ (k (omega arith)))

leads : (f n : ℕ) → 0 < n → n < f → Leads (digits f n)
leads zero n h g = absurd (omega arith)
leads (suc f) n h g = leads-step f n h (λ m. leads f (n / 10) (omega arith) (omega arith)) (dec_lt n 10)

-- a number that is written is read back
pub number-decimal : (n : ℕ) → n < 2 ^ 64 → number (decimal n) ≡ Some n
unfolding decimal number number_from digit add_digit pick
number-decimal n g = go (dec_lt 0 n)
  where
    go : Dec (0 < n) → number (digits (suc n) n) ≡ Some n
    go (yes h) =
        let l : Leads (digits (suc n) n) = leads (suc n) n h (omega arith) in
        sym (number-rest (digits (suc n) n) (λ e. omega (arith, l.0)) (Some n) (rw (ne_eqb (get_or (digits (suc n) n) 0 0) 48 l.1)) (sym (value_of (suc n) n (omega arith) g)))
    go (no h) = let z : n ≡ 0 = omega arith in rw z zero-read
      where
        zero-read : number (digits 1 0) ≡ Some 0
        zero-read = rw (small-digits 0 0 (omega arith)) refl

-- what is read is what would be written
-- a digit that was added
abbrev Digit : ℕ → ℕ → ℕ → Type 0
Digit u c v = (48 ≤ c) × (c ≤ 57) × (v < 2 ^ 64) × (v ≡ 10 * u + (c - 48))

added : (u c v : ℕ) → add_digit u c ≡ Some v → Digit u c v
unfolding add_digit pick
added u c v e = go (leb 48 c && leb c 57 && ltb (10 * u + (c - 48)) (2 ^ 64)) refl e
  where
    go : (b : Bool) → (leb 48 c && leb c 57 && ltb (10 * u + (c - 48)) (2 ^ 64)) ≡ b → pick b (Some (10 * u + (c - 48))) None ≡ Some v → Digit u c v
    go true t q =
        let p₁ = both (leb 48 c && leb c 57) (ltb (10 * u + (c - 48)) (2 ^ 64)) t in
        let p₂ = both (leb 48 c) (leb c 57) p₁.0 in
        let w : v ≡ 10 * u + (c - 48) = cc in
        (leb-true 48 c p₂.0, leb-true c 57 p₂.1, omega (arith, ltb-true (10 * u + (c - 48)) (2 ^ 64) p₁.1), w)
    go false t q = absurd (let z : ◌≡◌ {A = ℕ} 0 1 = cc in omega arith)

first-digit : (u c : ℕ) (cs : List ℕ) (v : ℕ) (n : Option ℕ) → add_digit u c ≡ n → number_from n cs ≡ Some v → (P : Type 0) → ((w : ℕ) → Digit u c w → number_from (Some w) cs ≡ Some v → P) → P
first-digit u c cs v None e q P k = absurd (let b = bad-stays cs in let z : ◌≡◌ {A = ℕ} 0 1 = cc in omega arith)
first-digit u c cs v (Some w) e q P k = k w (added u c w e) q

-- after a number that is not 0
from-digits : (u : ℕ) (s : List ℕ) (v : ℕ) → 1 ≤ u → u < 2 ^ 64 → number_from (Some u) s ≡ Some v → (decimal v ≡ decimal u ++ s) × (v < 2 ^ 64)
unfolding number_from digit
from-digits u [] v h l e = let w : v ≡ u = cc in (rw w (sym (append-nil (decimal u))), omega arith)
from-digits u (c ∷ cs) v h l e =
    first-digit u c cs v (add_digit u c) refl e _ (λ w d q.
    let i = from-digits w cs v (omega arith) d.2 q in
    let z : 48 + (c - 48) ≡ c = omega arith in
    let m : decimal w ≡ decimal u ++ (c ∷ []) = rw (d.3, decimal-more u (c - 48) h (omega arith), z) in
    (i.0 ∙ rw m (append_assoc (decimal u) (c ∷ []) cs), i.1))

-- some digits, and no zero before others
number-parts : (c : ℕ) (cs : List ℕ) (v : ℕ) → number (c ∷ cs) ≡ Some v → (number_from (Some 0) (c ∷ cs) ≡ Some v) × (c ≡ 48 → length cs ≡ 0)
unfolding number pick
number-parts c cs v e = go (eqb (length (c ∷ cs)) 0 || (eqb c 48 && ltb 1 (length (c ∷ cs)))) refl e
  where
    alone : (eqb (suc (length cs)) 0 || (eqb c 48 && ltb 1 (suc (length cs)))) ≡ false → c ≡ 48 → Dec (1 < suc (length cs)) → length cs ≡ 0
    alone t z (yes h) =
        let n = ne_eqb (suc (length cs)) 0 (λ q. omega arith) in
        let x = eq-eqb c 48 z in
        let y = lt-ltb 1 (suc (length cs)) h in
        absurd (let k : true ≡ false = rw (n, x, y) at t in let w : ◌≡◌ {A = ℕ} 0 1 = cc in omega arith)
    alone t z (no h) = omega arith

    go : (b : Bool) → (eqb (length (c ∷ cs)) 0 || (eqb c 48 && ltb 1 (length (c ∷ cs)))) ≡ b → pick b None (number_from (Some 0) (c ∷ cs)) ≡ Some v → (number_from (Some 0) (c ∷ cs) ≡ Some v) × (c ≡ 48 → length cs ≡ 0)
    go true t q = absurd (let z : ◌≡◌ {A = ℕ} 0 1 = cc in omega arith)
    go false t q = (q, λ z. alone t z (dec_lt 1 (suc (length cs))))

only_zero : (c : ℕ) (cs : List ℕ) (v : ℕ) → c ≡ 48 → length cs ≡ 0 → number_from (Some 0) (c ∷ cs) ≡ Some v → (c ∷ cs ≡ decimal v) × (v < 2 ^ 64)
unfolding number_from digit
only_zero c (d ∷ ds) v z h e = absurd (omega arith)
only_zero c [] v z h e =
    let d = added 0 c v e in
    let y : v ≡ 0 = omega arith in
    (rw (y, z) (sym (decimal-small 0 (omega arith))), omega arith)

-- an accepted number is the decimal of its value
pub number-written : (s : List ℕ) (v : ℕ) → number s ≡ Some v → (s ≡ decimal v) × (v < 2 ^ 64)
unfolding number number_from digit pick
number-written [] v e = absurd (let z : ◌≡◌ {A = ℕ} 0 1 = cc in omega arith)
number-written (c ∷ cs) v e = go (eqb c 48) refl
  where
    go : (b : Bool) → eqb c 48 ≡ b → (c ∷ cs ≡ decimal v) × (v < 2 ^ 64)
    go true t = let p = number-parts c cs v e in only_zero c cs v (eqb-true c 48 t) (p.1 (eqb-true c 48 t)) p.0
    go false t =
        first-digit 0 c cs v (add_digit 0 c) refl (number-parts c cs v e).0 _ (λ w d q.
        let n = eqb-false c 48 t in
        let k : 1 ≤ w = least w d n in
        let i = from-digits w cs v k d.2 q in
        let y : decimal w ≡ c ∷ [] = decimal-small w (omega arith) ∙ ap (λ (z : ℕ). z ∷ []) (omega arith) in
        (sym (i.0 ∙ rw y), i.1))
      where
        least : (w : ℕ) → Digit 0 c w → (c ≡ 48 → ⊥) → 1 ≤ w
        least w d n = by (dec_lt w 1)
          where
            by : Dec (w < 1) → 1 ≤ w
            by (yes h) = absurd (n (omega arith))
            by (no h) = omega arith
