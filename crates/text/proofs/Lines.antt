-- A line's fields, as the code takes them apart: what each gives where it is good, and what is known where it gave something.
use mathlib.Core.Path.{◌≡◌, refl, ◌∙◌}
use mathlib.Core.List.{List}
use mathlib.Core.Bool.{Bool, true, false}
use Prim.Native.Nat.{ℕ, ◌+◌}
use native.Mathlib.Omega.{arith}
use lib.Dec.{ltb}
use Rattle.std.specs.Prelude.{Option, Some, None, option_map, option_and_then}
use Rattle.loops.specs.Loop.{pick}
use Rattle.loops.proofs.Loop.{pick_true}
use Rattle.text.specs.Number.{valid, value}
use Rattle.text.specs.Name.{same, kind_count, place_of, kind}
use Rattle.text.specs.Field.{inner, last, name_field, valued}
use Rattle.text.proofs.Names.{same-turned, kind-is}
use Rattle.text.proofs.Cuts.{field, tabbed, after, inner-is, last-is}

pub valid-some : (o : Option ℕ) → valid o ≡ true → o ≡ Some (value o)
valid-some None e = absurd (let z : ◌≡◌ {A = ℕ} 0 1 = cc in omega arith)
valid-some (Some v) e = refl

-- a kind's name is one where its place is that of a name
pub kind-good : (s : List ℕ) → ltb (place_of s) kind_count ≡ true → kind s ≡ Some (place_of s + 1)
kind-good s e = kind-is s ∙ pick_true _ _ _ e

pub kind-valid : (s : List ℕ) → valid (kind s) ≡ true → ltb (place_of s) kind_count ≡ true
unfolding pick
kind-valid s e = go (ltb (place_of s) kind_count) refl
  where
    go : (b : Bool) → ltb (place_of s) kind_count ≡ b → ltb (place_of s) kind_count ≡ true
    go true t = t
    go false t = absurd (let k : kind s ≡ None = rw t at (kind-is s) in let f : false ≡ true = rw k at e in let z : ◌≡◌ {A = ℕ} 0 1 = cc in omega arith)

module _ (s : List ℕ) where
  -- a good field
  pub name-got : (name : List ℕ) → tabbed s ≡ true → same name (field s) ≡ true → name_field name s ≡ Some (after s)
  unfolding name_field pick
  name-got name t e = rw (inner-is s, t, same-turned (field s) name, e)

  pub inner-got : (of : List ℕ → Option ℕ) (v : ℕ) → tabbed s ≡ true → of (field s) ≡ Some v → valued of (inner s) ≡ Some (v, after s)
  unfolding pick
  inner-got of v t e = rw (inner-is s, t, e)

  pub last-got : (of : List ℕ → Option ℕ) (v : ℕ) → tabbed s ≡ false → of (field s) ≡ Some v → valued of (last s) ≡ Some (v, after s)
  unfolding pick
  last-got of v t e = rw (last-is s, t, e)

  -- a field that gave something
  module _ {B : Type 0} (y : B) (P : Type 0) where
    pub name-had : (name : List ℕ) (f : List ℕ → Option B) → option_and_then f (name_field name s) ≡ Some y → (tabbed s ≡ true → same name (field s) ≡ true → f (after s) ≡ Some y → P) → P
    unfolding name_field pick
    name-had name f e k = go (tabbed s) refl (same (field s) name) refl (rw (inner-is s) at e)
      where
        go : (b : Bool) → tabbed s ≡ b → (d : Bool) → same (field s) name ≡ d
            → option_and_then f (option_and_then (λ (p : List ℕ × List ℕ). pick (same p.0 name) (Some p.1) None) (pick b (Some (field s, after s)) None)) ≡ Some y → P
        go true t true g q = k t (same-turned name (field s) ∙ g) (rw g at q)
        go true t false g q = absurd (let h : ◌≡◌ {A = Option B} None (Some y) = rw g at q in cc)
        go false t d g q = absurd (cc)

    pub inner-had : (of : List ℕ → Option ℕ) (f : ℕ × List ℕ → Option B) → option_and_then f (valued of (inner s)) ≡ Some y
        → (tabbed s ≡ true → valid (of (field s)) ≡ true → f (value (of (field s)), after s) ≡ Some y → P) → P
    unfolding pick
    inner-had of f e k = go (tabbed s) refl (of (field s)) refl (rw (inner-is s) at e)
      where
        go : (b : Bool) → tabbed s ≡ b → (o : Option ℕ) → of (field s) ≡ o → option_and_then f (valued of (pick b (Some (field s, after s)) None)) ≡ Some y → P
        go true t (Some v) g q = k t (rw g) (rw g (rw g at q))
        go true t None g q = absurd (let h : ◌≡◌ {A = Option B} None (Some y) = rw g at q in cc)
        go false t o g q = absurd (cc)

    pub last-had : (of : List ℕ → Option ℕ) (f : ℕ × List ℕ → B) → option_map f (valued of (last s)) ≡ Some y → (tabbed s ≡ false → valid (of (field s)) ≡ true → P) → P
    unfolding pick
    last-had of f e k = go (tabbed s) refl (of (field s)) refl (rw (last-is s) at e)
      where
        go : (b : Bool) → tabbed s ≡ b → (o : Option ℕ) → of (field s) ≡ o → option_map f (valued of (pick b None (Some (field s, after s)))) ≡ Some y → P
        go false t (Some v) g q = k t (rw g)
        go false t None g q = absurd (let h : ◌≡◌ {A = Option B} None (Some y) = rw g at q in cc)
        go true t o g q = absurd (cc)

-- a line's answer is one where, and only where, its row is good
pub answers_same : {A : Type 0} (o : Option A) (b : Bool) (x : A) → (b ≡ true → o ≡ Some x) → ((y : A) → o ≡ Some y → b ≡ true) → o ≡ pick b (Some x) None
unfolding pick
answers_same o true x f g = f refl
answers_same None false x f g = refl
answers_same (Some y) false x f g = absurd (let h = g y refl in let z : ◌≡◌ {A = ℕ} 0 1 = cc in omega arith)
