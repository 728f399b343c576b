-- Arithmetic modulo 2^v over machine words.
use Rattle.std.proofs.Common.{◌≡◌, ℕ, zero, suc, ◌+◌, ◌-◌, ◌*◌, ◌/◌, ◌%◌, ◌^◌, ◌<◌, ◌≤◌, sym, ap, ◌∙◌, lt_of_lt_of_le, mod-lt, mod-eq_of_lt, add-mul, pow-suc, div-add-mod', arith, pow_pos, pow_mono, pow-add, shl_exact, le-ltb, lt-ltb}
use native.Mathlib.Nat.{mod-add-mod, add-mul-mod_self_right, mul-mod_left}
use native.Mathlib.Decide.{dec_lt}
use lib.Pow.{pow-lt, mod-mod-pow}
use Rattle.loops.proofs.Loop.{pick_true, pick-false}
use Rattle.values.specs.Value.{not_word, add_word, sub_word, mul_word, sll_word, sext_word}

pub shift_one : (v : ℕ) → v < 64 → (1 * 2 ^ v) % 2 ^ 64 ≡ 2 ^ v
shift_one v h = shl_exact {a = 1} 1 v 64 (omega arith) (omega arith) ∙ (omega arith)

pub shift-pos : (v : ℕ) → v < 64 → 1 ≤ (1 * 2 ^ v) % 2 ^ 64
shift-pos v h = omega (arith, shift_one v h, pow_pos v)

pub reduce-small : (x v : ℕ) → v < 64 → x % ((1 * 2 ^ v) % 2 ^ 64) ≡ x % 2 ^ v
reduce-small x v h = ap (λ m. x % m) (shift_one v h)

pub reduce-whole : (x v : ℕ) → x < 2 ^ 64 → 64 ≤ v → x ≡ x % 2 ^ v
reduce-whole x v h l = sym (mod-eq_of_lt (lt_of_lt_of_le h (pow_mono l)))

pub mask-small : (v : ℕ) → v < 64 → (1 * 2 ^ v) % 2 ^ 64 - 1 ≡ 2 ^ v - 1
mask-small v h = ap (λ m. m - 1) (shift_one v h)

pub mask-whole : (v : ℕ) → 64 ≤ v → v ≤ 64 → 18446744073709551615 ≡ 2 ^ v - 1
mask-whole v h k = let e : v ≡ 64 = omega arith in rw e

pub below-mask : (x v m r : ℕ) → m ≡ 2 ^ v - 1 → r ≡ x % 2 ^ v → r ≤ m
below-mask x v m r e q = omega (arith, mod-lt x (pow_pos v), pow_pos v)

-- what is reduced modulo 2^64 can be reduced further
pub narrow : (x v : ℕ) → v ≤ 64 → x % 2 ^ 64 % 2 ^ v ≡ x % 2 ^ v
narrow x v h =
    let e : 64 - v + v ≡ 64 = omega arith in
    rw e at (mod-mod-pow x (64 - v) v)

pub not-path : (v x m r : ℕ) → m ≡ 2 ^ v - 1 → r ≡ x % 2 ^ v → m - r ≡ not_word v x
unfolding not_word
not-path v x m r e q = rw (e, q)

pub add-path : (v x y r : ℕ) → v ≤ 64 → r ≡ (x + y) % 2 ^ 64 % 2 ^ v → r ≡ add_word v x y
unfolding add_word
add-path v x y r h q = q ∙ narrow (x + y) v h

pub mul-path : (v x y r : ℕ) → v ≤ 64 → r ≡ x * y % 2 ^ 64 % 2 ^ v → r ≡ mul_word v x y
unfolding mul_word
mul-path v x y r h q = q ∙ narrow (x * y) v h

pub sll-path : (v x y r : ℕ) → v ≤ 64 → y < v → r ≡ x * 2 ^ y % 2 ^ 64 % 2 ^ v → r ≡ sll_word v x y
unfolding sll_word
sll-path v x y r h k q = q ∙ (narrow (x * 2 ^ y) v h ∙ sym (pick_true _ _ _ (lt-ltb y v k)))

-- a difference that wraps, from the sum that it undoes
sub-law : (v x y s : ℕ) → v ≤ 64 → (s + y) % 2 ^ 64 ≡ x → s % 2 ^ v ≡ (x + (2 ^ v - y % 2 ^ v)) % 2 ^ v
sub-law v x y s h e =
    let q : (s + y) % 2 ^ v ≡ x % 2 ^ v = sym (narrow (s + y) v h) ∙ ap (λ k. k % 2 ^ v) e in
    let l : y % 2 ^ v < 2 ^ v = mod-lt y (pow_pos v) in
    let d : y / 2 ^ v * 2 ^ v + y % 2 ^ v ≡ y = div-add-mod' y (2 ^ v) in
    let c : s + y + (2 ^ v - y % 2 ^ v) ≡ s + (y / 2 ^ v + 1) * 2 ^ v = rw (add-mul (y / 2 ^ v) 1 (2 ^ v)) (omega arith) in
    sym
    (sym (mod-add-mod x (2 ^ v) (2 ^ v - y % 2 ^ v))
    ∙ (ap (λ k. (k + (2 ^ v - y % 2 ^ v)) % 2 ^ v) (sym q)
    ∙ (mod-add-mod (s + y) (2 ^ v) (2 ^ v - y % 2 ^ v)
    ∙ (ap (λ k. k % 2 ^ v) c ∙ add-mul-mod_self_right s (y / 2 ^ v + 1) (2 ^ v)))))

pub sub-path : (v x y r : ℕ) → v ≤ 64 → x < 2 ^ 64 → y < 2 ^ 64 → r ≡ (x + (2 ^ 64 - y)) % 2 ^ 64 % 2 ^ v → r ≡ sub_word v x y
unfolding sub_word
sub-path v x y r h f g q = q ∙ sub-law v x y ((x + (2 ^ 64 - y)) % 2 ^ 64) h (omega (arith, f, g))

-- half of v ones is the greatest number without the top bit
half-ones : (v : ℕ) → (2 ^ v - 1) / 2 + 1 ≡ 2 ^ (v - 1)
half-ones zero = omega arith
half-ones (suc k) =
    let e : 2 ^ suc k ≡ 2 ^ k * 2 = pow-suc 2 k in
    let z : suc k - 1 ≡ k = omega arith in
    rw z (omega (arith, pow_pos k))

-- what a set top bit takes away is 0 modulo 2^w where no bit is added
less-top : (v w x : ℕ) → Dec (v < w) → (x + (2 ^ w - 2 ^ v % 2 ^ w)) % 2 ^ w ≡ (x + (2 ^ w - 2 ^ v)) % 2 ^ w
less-top v w x (yes h) = ap (λ k. (x + (2 ^ w - k)) % 2 ^ w) (mod-eq_of_lt (pow-lt h))
less-top v w x (no h) =
    let e : v - w + w ≡ v = omega arith in
    let p : 2 ^ v ≡ 2 ^ (v - w) * 2 ^ w = ap (λ k. 2 ^ k) (sym e) ∙ pow-add 2 (v - w) w in
    let z : 2 ^ v % 2 ^ w ≡ 0 = ap (λ k. k % 2 ^ w) p ∙ mul-mod_left (2 ^ (v - w)) (2 ^ w) in
    let m : 2 ^ w ≤ 2 ^ v = pow_mono (omega arith) in
    let a : x + (2 ^ w - 2 ^ v % 2 ^ w) ≡ x + 1 * 2 ^ w = omega arith in
    let b : x + (2 ^ w - 2 ^ v) ≡ x = omega arith in
    ap (λ k. k % 2 ^ w) a ∙ (add-mul-mod_self_right x 1 (2 ^ w) ∙ ap (λ k. k % 2 ^ w) (sym b))

module _ (v w x m : ℕ) (e : m ≡ 2 ^ v - 1) where
  pub sext-clear : x ≤ m / 2 → x ≡ sext_word v w x
  unfolding sext_word
  sext-clear h = sym (pick_true _ _ _ (lt-ltb x (2 ^ (v - 1)) (omega (arith, half-ones v))))

  pub sext-set : (r : ℕ) → w ≤ 64 → m / 2 < x → r ≡ sub_word w x ((m + 1) % 2 ^ 64) → r ≡ sext_word v w x
  unfolding sext_word sub_word
  sext-set r h k t =
      let f : m + 1 ≡ 2 ^ v = omega (arith, pow_pos v) in
      let n : (m + 1) % 2 ^ 64 % 2 ^ w ≡ 2 ^ v % 2 ^ w = narrow (m + 1) w h ∙ ap (λ z. z % 2 ^ w) f in
      t
      ∙ (ap (λ z. (x + (2 ^ w - z)) % 2 ^ w) n
      ∙ (less-top v w x (dec_lt v w)
      ∙ sym (pick-false _ _ _ (le-ltb x (2 ^ (v - 1)) (omega (arith, half-ones v))))))

pub ruleset mask_rules = (shift-pos, reduce-small, reduce-whole, mask-small, mask-whole)

pub ruleset word_rules = (below-mask, not-path, add-path, sub-path, mul-path, sll-path, sext-clear, sext-set)
