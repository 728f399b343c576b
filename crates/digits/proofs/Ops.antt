-- The plain operations, one by one.
use mathlib.Core.Path.{◌≡◌, refl, ap, ap₂, sym, ◌∙◌}
use mathlib.Core.Bool.{Bool, true, false}
use Prim.Native.Nat.{ℕ, ◌≤◌}
use native.Mathlib.Omega.{arith}
use Rattle.loops.specs.Loop.{pick}
use Rattle.loops.proofs.Loop.{by-pick, pick-false}
use Rattle.digits.specs.Op.{not_word, add_word, sub_word, mul_word, sll_word, srl_word, Op, op_not, op_and, op_or, op_eq, op_add, op_sub, op_ult, op_mul, op_sll, op_srl, op_two, op_one, op_wide, op_value}

-- what holds of each holds of all
pub each-op : (P : Op → Type 0) → P op_not → P op_and → P op_or → P op_eq → P op_add → P op_sub → P op_ult → P op_mul → P op_sll → P op_srl → (o : Op) → P o
each-op P a b c d e f g h i j op_not = a
each-op P a b c d e f g h i j op_and = b
each-op P a b c d e f g h i j op_or = c
each-op P a b c d e f g h i j op_eq = d
each-op P a b c d e f g h i j op_add = e
each-op P a b c d e f g h i j op_sub = f
each-op P a b c d e f g h i j op_ult = g
each-op P a b c d e f g h i j op_mul = h
each-op P a b c d e f g h i j op_sll = i
each-op P a b c d e f g h i j op_srl = j

-- a second operand counts only where there is one
second : (w x y : ℕ) (o : Op) → op_value o w x y ≡ op_value o w x (pick (op_two o) y 0)
unfolding op_value op_two pick
second w x y = each-op (λ o. op_value o w x y ≡ op_value o w x (pick (op_two o) y 0)) refl refl refl refl refl refl refl refl refl refl

pub op_same : (o : Op) (w : ℕ) {x x' y y' : ℕ} → x ≡ x' → (op_two o ≡ true → y ≡ y') → op_value o w x y ≡ op_value o w x' y'
unfolding pick
op_same o w {x} {x'} {y} {y'} p q = second w x y o ∙ (ap₂ (op_value o w) p (go (op_two o) q) ∙ sym (second w x' y' o))
  where
    go : (b : Bool) → (b ≡ true → y ≡ y') → pick b y 0 ≡ pick b y' 0
    go true h = h refl
    go false h = refl

-- the width counts only where the word is as wide as its operands
pub op-even : (o : Op) {w v : ℕ} → w ≡ op_wide o v → op_one o ≡ false → w ≡ v
op-even o e h = e ∙ pick-false (op_one o) 1 _ h

pub op-wide : (w v x y : ℕ) (o : Op) → (op_one o ≡ false → w ≡ v) → op_value o w x y ≡ op_value o v x y
unfolding op_value op_one
op-wide w v x y =
    each-op (λ o. (op_one o ≡ false → w ≡ v) → op_value o w x y ≡ op_value o v x y)
    (λ h. ap (λ n. not_word n x) (h refl)) (λ h. refl) (λ h. refl) (λ h. refl)
    (λ h. ap (λ n. add_word n x y) (h refl)) (λ h. ap (λ n. sub_word n x y) (h refl)) (λ h. refl) (λ h. ap (λ n. mul_word n x y) (h refl))
    (λ h. ap (λ n. sll_word n x y) (h refl)) (λ h. ap (λ n. srl_word n x y) (h refl))

pub op-some : (o : Op) (v : ℕ) → 1 ≤ v → 1 ≤ op_wide o v
op-some o v h = by-pick (λ n. 1 ≤ n) (op_one o) 1 v (λ _. omega arith) (λ _. h)
