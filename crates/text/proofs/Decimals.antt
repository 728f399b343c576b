-- The digits of a number: how they come about, and how many they are.
use mathlib.Core.Path.{◌≡◌, refl, sym, ◌∙◌}
use mathlib.Core.List.{[], ◌∷◌, ◌++◌}
use Prim.Native.Nat.{ℕ, zero, suc, ◌+◌, ◌*◌, ◌/◌, ◌%◌, ◌^◌, ◌≤◌, ◌<◌}
use native.Mathlib.Omega.{arith}
use native.Mathlib.Decide.{dec_lt}
use native.Mathlib.Nat.{pow-suc}
use lib.ListN.{length, length-append}
use borrow.Author.Tests.{lt-ltb, le-ltb}
use Rattle.loops.specs.Loop.{pick}
use Rattle.text.specs.Number.{digits, decimal}

pub small-digits : (f n : ℕ) → n < 10 → digits (suc f) n ≡ (48 + n) ∷ []
unfolding digits pick
small-digits f n h = rw (lt-ltb n 10 h)

pub large-digits : (f n : ℕ) → 10 ≤ n → digits (suc f) n ≡ digits f (n / 10) ++ ((48 + n % 10) ∷ [])
unfolding digits pick
large-digits f n h = rw (le-ltb n 10 h)

length-step : (k f n : ℕ) → n < 10 ^ suc k → (10 ≤ n → length (digits f (n / 10)) ≤ k) → Dec (n < 10) → length (digits (suc f) n) ≤ suc k
length-step k f n h g (yes l) = rw (small-digits f n l) (omega arith)
length-step k f n h g (no l) =
    let m : 10 ≤ n = omega arith in
    let z : length (digits f (n / 10)) ≤ k = g m in
    rw (large-digits f n m, length-append (digits f (n / 10)) ((48 + n % 10) ∷ [])) (omega arith)

tenth : (k n : ℕ) → n < 10 ^ suc (suc k) → n / 10 < 10 ^ suc k
tenth k n h = let e : 10 ^ suc (suc k) ≡ 10 ^ suc k * 10 = pow-suc 10 (suc k) in omega arith

digits-length : (k f n : ℕ) → n < 10 ^ suc k → length (digits f n) ≤ suc k
unfolding digits
digits-length k zero n h = omega arith
digits-length zero (suc f) n h = length-step zero f n h (λ m. absurd (let e : 10 ^ 1 ≡ 10 = refl in omega arith)) (dec_lt n 10)
digits-length (suc k) (suc f) n h = length-step (suc k) f n h (λ m. digits-length k f (n / 10) (tenth k n h)) (dec_lt n 10)

-- a number below 2^32 has at most 10 digits, one below 2^64 at most 20
pub decimal-length : (k n : ℕ) → n < 10 ^ suc k → length (decimal n) ≤ suc k
unfolding decimal
decimal-length k n h = digits-length k (suc n) n h

-- any number above n gives the digits of n
fuel-step : (f g n : ℕ) → (10 ≤ n → digits f (n / 10) ≡ digits g (n / 10)) → Dec (n < 10) → digits (suc f) n ≡ digits (suc g) n
fuel-step f g n k (yes l) = small-digits f n l ∙ sym (small-digits g n l)
fuel-step f g n k (no l) =
    let m : 10 ≤ n = omega arith in
    rw (large-digits f n m, large-digits g n m, k m)

digits_same : (f g n : ℕ) → n < f → n < g → digits f n ≡ digits g n
digits_same zero g n h k = absurd (omega arith)
digits_same (suc f) zero n h k = absurd (omega arith)
digits_same (suc f) (suc g) n h k = fuel-step f g n (λ m. digits_same f g (n / 10) (omega arith) (omega arith)) (dec_lt n 10)

-- the digits of 10 u + d are those of u, and d
pub decimal-small : (d : ℕ) → d < 10 → decimal d ≡ (48 + d) ∷ []
unfolding decimal
decimal-small d h = small-digits d d h

pub decimal-more : (u d : ℕ) → 1 ≤ u → d < 10 → decimal (10 * u + d) ≡ decimal u ++ ((48 + d) ∷ [])
unfolding decimal
decimal-more u d h k =
    let q : (10 * u + d) / 10 ≡ u = omega arith in
    let r : (10 * u + d) % 10 ≡ d = omega arith in
    rw (large-digits (10 * u + d) (10 * u + d) (omega arith), q, r, digits_same (10 * u + d) (suc u) u (omega arith) (omega arith))
