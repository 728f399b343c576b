-- What every definition of the house is made of: a case by a test, a loop, a search, a sum.
use Rattle.std.specs.Prelude.{Bool, true, false, ℕ, zero, suc, ◌+◌, ltb, Option, Some, None}

-- a where the test holds, else b
unfoldable pub pick {ℓ} : {A : Type ℓ} → Bool → A → A → A
pick true a b = a
pick false a b = b

-- f 0, then f 1, up to f (n - 1)
unfoldable pub iter {ℓ} : {A : Type ℓ} → ℕ → (ℕ → A → A) → A → A
iter zero f a = a
iter (suc n) f a = f n (iter n f a)

-- the least i below n with `p i`; n where there is none
unfoldable pub first : ℕ → (ℕ → Bool) → ℕ
first zero p = 0
first (suc n) p =
    let r : ℕ = first n p in
    pick (ltb r n) r (pick (p n) n (suc n))

-- the same as a find's answer: the least i below n with `p i`, if there is one
unfoldable pub found : ℕ → (ℕ → Bool) → Option ℕ
found n p = pick (ltb (first n p) n) (Some (first n p)) None

-- f 0 + f 1 + .. + f (n - 1)
unfoldable pub sum : ℕ → (ℕ → ℕ) → ℕ
sum zero f = 0
sum (suc n) f = sum n f + f n

-- 1 for true, 0 for false
abbrev pub bit : Bool → ℕ
bit true = 1
bit false = 0
