-- The number that a word's bits say.
use mathlib.Core.Path.{◌≡◌, refl, ap, sym, ◌∙◌}
use mathlib.Core.List.{List}
use mathlib.Core.Bool.{Bool, true, false, not}
use Prim.Native.Nat.{ℕ, zero, suc, ◌+◌, ◌*◌, ◌^◌, ◌<◌}
use native.Mathlib.Omega.{arith}
use native.Mathlib.Nat.{pow-suc}
use native.Mathlib.Numerals.{add-one}
use lib.Dec.{eqb}
use lib.ListN.{length, get_or, replicate, length-replicate}
use Rattle.std.proofs.lemmas.List.{get_or-replicate}
use Rattle.loops.specs.Loop.{bit, pick}
use Rattle.netlist.specs.Net.{Net, Assign, Obeys}
use Rattle.digits.specs.Digits.{digit, number, Below, known_bits, known_number}
use Rattle.digits.proofs.Numbers.{number_lt, number_same, number_digits, number-digit}
use Rattle.words.specs.Num.{num, filled, blank}

pub num-lt : (e : Assign) (bs : List ℕ) (w : ℕ) → num e bs w < 2 ^ w
num-lt e bs w = number_lt (λ i. e (get_or bs i 0)) w

pub num-suc : (e : Assign) (bs : List ℕ) (w : ℕ) → num e bs (suc w) ≡ num e bs w + 2 ^ w * bit (e (get_or bs w 0))
unfolding number
num-suc e bs w = refl

pub num-next : (e : Assign) (bs : List ℕ) (w : ℕ) → num e bs (w + 1) ≡ num e bs w + 2 ^ w * bit (e (get_or bs w 0))
num-next e bs w = ap (λ (k : ℕ). num e bs k) (add-one w) ∙ num-suc e bs w

pub num-none : (e : Assign) (bs : List ℕ) → num e bs 0 ≡ 0
unfolding number
num-none e bs = refl

-- the same bits say the same number
pub num-same : (e : Assign) (xs ys : List ℕ) (w : ℕ) → ((j : ℕ) → j < w → get_or xs j 0 ≡ get_or ys j 0) → num e xs w ≡ num e ys w
num-same e xs ys w h = number_same (λ i. e (get_or xs i 0)) (λ i. e (get_or ys i 0)) w (λ j l. ap e (h j l))

known-value : (s : Net) (e : Assign) (a : ℕ) → Obeys s e → a < 2 → e a ≡ eqb a 1
known-value s e zero o h = o.low
known-value s e (suc zero) o h = o.high
known-value s e (suc (suc a)) o h = absurd (omega arith)

-- the number of known bits
pub num-known : (s : Net) (e : Assign) (bs : List ℕ) (w : ℕ) → Obeys s e → Below 2 bs w → num e bs w ≡ known_number w bs
num-known s e bs w o h = number_same (λ i. e (get_or bs i 0)) (known_bits bs) w (λ j l. known-value s e (get_or bs j 0) o (h j l))

-- bits that are the digits of x say x, and bits that say x are its digits
pub right-num : (e : Assign) (bs : List ℕ) (w x : ℕ) → x < 2 ^ w → ((j : ℕ) → j < w → e (get_or bs j 0) ≡ eqb (digit x j) 1) → num e bs w ≡ x
right-num e bs w x lt h = number_same (λ j. e (get_or bs j 0)) (λ j. eqb (digit x j) 1) w h ∙ number_digits x w lt

pub num-right : (e : Assign) (bs : List ℕ) (w x : ℕ) → x < 2 ^ w → num e bs w ≡ x → (j : ℕ) → j < w → e (get_or bs j 0) ≡ eqb (digit x j) 1
num-right e bs w x lt h = number-digit (λ j. e (get_or bs j 0)) (λ j. eqb (digit x j) 1) w (h ∙ sym (number_digits x w lt))

-- known digits of x say x
pub num-digits : (s : Net) (e : Assign) (bs : List ℕ) (w x : ℕ) → Obeys s e → x < 2 ^ w → ((j : ℕ) → j < w → get_or bs j 0 ≡ digit x j) → ((j : ℕ) → digit x j < 2) → num e bs w ≡ x
num-digits s e bs w x o lt h k = right-num e bs w x lt (λ j l. rw (h j l) (known-value s e (digit x j) o (k j)))

-- the number of the Nots
pub num-not : (e : Assign) (ns bs : List ℕ) (w : ℕ) → ((i : ℕ) → i < w → e (get_or ns i 0) ≡ not (e (get_or bs i 0))) → num e ns w + num e bs w + 1 ≡ 2 ^ w
unfolding number
num-not e ns bs zero h = refl
num-not e ns bs (suc w) h =
    let q : num e ns w + num e bs w + 1 ≡ 2 ^ w = num-not e ns bs w (λ i lt. h i (omega arith)) in
    rw (h w (omega arith), pow-suc 2 w) (go q (e (get_or bs w 0)))
  where
    go : num e ns w + num e bs w + 1 ≡ 2 ^ w → (b : Bool) → num e ns w + 2 ^ w * bit (not b) + (num e bs w + 2 ^ w * bit b) + 1 ≡ 2 ^ w * 2
    go q true = omega arith
    go q false = omega arith

-- the number of the word that is chosen bit by bit
pub num-choose : (e : Assign) (v : Bool) (out t f : List ℕ) (w : ℕ) → ((i : ℕ) → i < w → e (get_or out i 0) ≡ pick v (e (get_or t i 0)) (e (get_or f i 0)))
    → num e out w ≡ pick v (num e t w) (num e f w)
unfolding pick
num-choose e true out t f w h = number_same (λ i. e (get_or out i 0)) (λ i. e (get_or t i 0)) w h
num-choose e false out t f w h = number_same (λ i. e (get_or out i 0)) (λ i. e (get_or f i 0)) w h

-- scratch; before it is written it is known false
pub filled-long : (b : ℕ) → length (filled b) ≡ 65
unfolding filled
filled-long b = length-replicate {A = ℕ} 65 b

pub filled-at : (b j : ℕ) → j < 65 → get_or (filled b) j 0 ≡ b
unfolding filled
filled-at b j l = get_or-replicate 65 j b 0 l

pub blank-long : length blank ≡ 65
blank-long = filled-long 0

zeros-at : (n j : ℕ) → ◌≡◌ {A = ℕ} (get_or (replicate n 0) j 0) 0
zeros-at zero j = refl
zeros-at (suc n) zero = refl
zeros-at (suc n) (suc j) = zeros-at n j

pub blank-at : (j : ℕ) → get_or blank j 0 ≡ 0
unfolding filled
blank-at j = zeros-at 65 j
