-- A name's bytes compared, and the kinds' names searched.
use mathlib.Core.Path.{◌≡◌, refl, sym, ap, ◌∙◌}
use mathlib.Core.List.{List, [], ◌∷◌, map}
use mathlib.Core.Bool.{Bool, true, false, ◌&&◌}
use Prim.Native.Nat.{ℕ, zero, suc, ◌+◌, ◌≤◌, ◌<◌}
use native.Mathlib.Omega.{arith}
use native.Mathlib.Decide.{dec_lt}
use lib.Dec.{eqb, ltb, leb}
use lib.ListN.{length, get_or}
use denote.Ref.{Bor}
use borrow.Author.Tests.{eqb-true, leb-true}
use Rattle.std.specs.Prelude.{Option, Some, None, option_map}
use Rattle.std.specs.Str.{bytes_eq}
use Rattle.std.specs.List.{position}
use Rattle.std.proofs.lemmas.Slice.Eq.{bytes_eq-Decides}
use Rattle.loops.specs.Loop.{pick, first, found}
use Rattle.loops.proofs.Loop.{both, by-pick, pick_true, pick-false}
use Rattle.loops.proofs.Search.{position_found}
use Rattle.text.specs.Name.{same, kind_names, kind_count, is_named, place_of, kind}

pub same_refl : (s : List ℕ) → same s s ≡ true
unfolding same
same_refl s = (bytes_eq-Decides s s).1 refl

pub same-eq : (s t : List ℕ) → same s t ≡ true → s ≡ t
unfolding same
same-eq s t e = (bytes_eq-Decides s t).0 e

pub bool_same : (a b : Bool) → (a ≡ true → b ≡ true) → (b ≡ true → a ≡ true) → a ≡ b
bool_same true b f g = sym (f refl)
bool_same false true f g = g refl
bool_same false false f g = refl

pub same-turned : (s t : List ℕ) → same s t ≡ same t s
same-turned s t = bool_same (same s t) (same t s) (λ e. rw (same-eq s t e) (same_refl t)) (λ e. rw (same-eq t s e) (same_refl s))

-- no kind's name is longer than seven bytes
unfoldable short : List (List ℕ) → Bool
short [] = true
short (n ∷ ns) = leb (length n) 7 && short ns

kinds-short : short kind_names ≡ true
unfolding short kind_names
kinds-short = refl

short-all : (ns : List (List ℕ)) → short ns ≡ true → (i : ℕ) → length (get_or ns i []) ≤ 7
unfolding short
short-all [] e i = omega arith
short-all (n ∷ ns) e zero = leb-true (length n) 7 (both (leb (length n) 7) (short ns) e).0
short-all (n ∷ ns) e (suc i) = short-all ns (both (leb (length n) 7) (short ns) e).1 i

pub kind-short : (i : ℕ) → length (get_or kind_names i []) ≤ 7
kind-short i = short-all kind_names kinds-short i

-- each kind's name stands at its own place
unfoldable places : ℕ → Bool
places zero = true
places (suc n) = eqb (place_of (get_or kind_names n [])) n && places n

places-right : places kind_count ≡ true
unfolding places place_of is_named same kind_names first pick
places-right = refl

place_at_lem : (n i : ℕ) → places n ≡ true → i < n → place_of (get_or kind_names i []) ≡ i
unfolding places
place_at_lem zero i e h = absurd (omega arith)
place_at_lem (suc n) i e h = go (dec_lt i n) (both (eqb (place_of (get_or kind_names n [])) n) (places n) e) (λ l p. place_at_lem n i p l)
  where
    go : Dec (i < n) → (eqb (place_of (get_or kind_names n [])) n ≡ true) × (places n ≡ true) → (i < n → places n ≡ true → place_of (get_or kind_names i []) ≡ i) → place_of (get_or kind_names i []) ≡ i
    go (yes l) p k = k l p.1
    go (no l) p k = let q : i ≡ n = omega arith in rw q (eqb-true (place_of (get_or kind_names n [])) n p.0)

pub kind-place : (i : ℕ) → i < kind_count → place_of (get_or kind_names i []) ≡ i
kind-place i h = place_at_lem kind_count i places-right h

first-same : (n : ℕ) (p q : ℕ → Bool) → ((i : ℕ) → i < n → p i ≡ q i) → first n p ≡ first n q
unfolding first
first-same zero p q h = refl
first-same (suc n) p q h = rw (first-same n p q (λ i l. h i (omega arith)), h n (omega arith))

-- a kind's number by its place
pub kind-is : (s : List ℕ) → kind s ≡ pick (ltb (place_of s) kind_count) (Some (place_of s + 1)) None
unfolding kind found place_of
kind-is s =
    by-pick (λ r. option_map (λ (i : ℕ). i + 1) r ≡ pick (ltb (first kind_count (is_named s)) kind_count) (Some (first kind_count (is_named s) + 1)) None)
    (ltb (first kind_count (is_named s)) kind_count) _ _ (λ e. sym (pick_true _ _ _ e)) (λ e. sym (pick-false _ _ _ e))

-- the code's search, over references to the names
seen_at : (ks : List (Bor (List ℕ))) (i : ℕ) (d : Bor (List ℕ)) → i < length ks → (get_or ks i d).now ≡ get_or (map (λ k. k.now) ks) i []
seen_at [] i d h = absurd (omega arith)
seen_at (k ∷ ks) zero d h = refl
seen_at (k ∷ ks) (suc i) d h = seen_at ks i d (omega arith)

module _ (ks : List (Bor (List ℕ))) (e : map (λ k. k.now) ks ≡ kind_names) (n : length ks ≡ kind_count) (s : List ℕ) (d : Bor (List ℕ)) where
  same_first : (m : ℕ) → m ≡ length ks → found m (λ i. bytes_eq (get_or ks i d).now s) ≡ found m (is_named s)
  unfolding found is_named same
  same_first m l =
      let f : first m (λ i. bytes_eq (get_or ks i d).now s) ≡ first m (is_named s) =
      first-same m _ _ (λ i h. ap (λ (k : List ℕ). bytes_eq k s) (seen_at ks i d (omega arith) ∙ ap (λ (q : List (List ℕ)). get_or q i []) e)) in
      rw f

  pub kind_found : position (λ (k : Bor (List ℕ)). bytes_eq k.now s) ks ≡ found kind_count (is_named s)
  kind_found = position_found (λ (k : Bor (List ℕ)). bytes_eq k.now s) ks d ∙ (same_first (length ks) refl ∙ ap (λ (m : ℕ). found m (is_named s)) n)

  -- what the search's `?` makes of it
  pub kind-none : (r : Option ℕ) → r ≡ position (λ (k : Bor (List ℕ)). bytes_eq k.now s) ks → r ≡ None → None ≡ kind s
  unfolding kind
  kind-none r h g = ap (option_map (λ (i : ℕ). i + 1)) (sym g ∙ h ∙ kind_found)

  pub kind-some : (r : Option ℕ) (i : ℕ) → r ≡ position (λ (k : Bor (List ℕ)). bytes_eq k.now s) ks → r ≡ Some i → Some (i + 1) ≡ kind s
  unfolding kind
  kind-some r i h g = ap (option_map (λ (i : ℕ). i + 1)) (sym g ∙ h ∙ kind_found)
