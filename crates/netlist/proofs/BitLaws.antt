-- What a case by what is known of a bit comes to.
use mathlib.Core.Path.{◌≡◌, refl, sym, ◌∙◌}
use mathlib.Core.Bool.{Bool, true, false}
use Rattle.std.specs.Prelude.{Option, Some, None}
use Prim.Native.Nat.{ℕ, zero, suc, ◌≤◌, ◌<◌}
use native.Mathlib.Omega.{arith}
use borrow.Author.Tests.{ltb-true, ltb-false, lt-ltb, le-ltb, ne_eqb}
use Rattle.loops.specs.Loop.{pick}
use Rattle.netlist.specs.Bit.{is_known, known_of, by_known}

pub known-less : (b : ℕ) → is_known b ≡ true → b < 2
unfolding is_known
known-less b h = ltb-true b 2 h

pub unknown-least : (b : ℕ) → is_known b ≡ false → 2 ≤ b
unfolding is_known
unknown-least b h = ltb-false b 2 h

pub less-known : (b : ℕ) → b < 2 → is_known b ≡ true
unfolding is_known
less-known b h = lt-ltb b 2 h

pub least-unknown : (b : ℕ) → 2 ≤ b → is_known b ≡ false
unfolding is_known
least-unknown b h = le-ltb b 2 h

-- a law of the case is the law of each of the three
pub by-known : {A : Type 0} (P : A → Type 0) (b : ℕ) (x y z : A) → (b ≡ 0 → P x) → (b ≡ 1 → P y) → (2 ≤ b → P z) → P (by_known (known_of b) x y z)
unfolding by_known known_of pick
by-known P zero x y z f g h = f refl
by-known P (suc zero) x y z f g h = g refl
by-known P (suc (suc b)) x y z f g h = rw (ne_eqb (suc (suc b)) 0 (λ e. omega arith), ne_eqb (suc (suc b)) 1 (λ e. omega arith)) (h (omega arith))

-- the case that the code has taken
module _ {A : Type 0} (k : Option Bool) (b : ℕ) (x y z : A) (e : k ≡ known_of b) where
  pub case-false : k ≡ Some false → x ≡ by_known (known_of b) x y z
  unfolding by_known
  case-false h = rw (← e, h)

  pub case-true : k ≡ Some true → y ≡ by_known (known_of b) x y z
  unfolding by_known
  case-true h = rw (← e, h)

  pub case-unknown : k ≡ None → z ≡ by_known (known_of b) x y z
  unfolding by_known
  case-unknown h = rw (← e, h)

by_name : (k : Option Bool) → by_known k (Some false) (Some true) None ≡ k
unfolding by_known
by_name (Some false) = refl
by_name (Some true) = refl
by_name None = refl

-- a bit of which nothing is known is no constant
pub told-unknown : (k : Option Bool) (b : ℕ) → k ≡ known_of b → k ≡ None → 2 ≤ b
told-unknown k b e h =
    by-known (λ c. c ≡ None → 2 ≤ b) b (Some false) (Some true) None
    (λ p q. cc) (λ p q. cc) (λ p q. p)
    (by_name (known_of b) ∙ (sym e ∙ h))
