-- The library's searches, said by `first`: what `find` over a range, `position` over a slice and `all` over a slice answer.
use Prim.Native.Nat.{ℕ, ◌<◌, ◌≤◌}
use denote.Param.Members.{Mut}
use denote.Ref.{Bor}
use lib.Dec.{leb, ltb}
use lib.ListN.{length, get_or}
use mathlib.Core.Bool.{Bool, true, false, not}
use mathlib.Core.List.{List}
use mathlib.Core.Path.{◌≡◌, refl, sym, ◌∙◌}
use native.Mathlib.Decide.{dec_lt}
use native.Mathlib.Omega.{arith}
use borrow.Author.Tests.{lt-ltb, le-ltb, lt-leb, le-leb, ltb-true, ltb-false, not-true, not-false}
use Rattle.std.proofs.iter.Yields.{nat_range_steps}
use Rattle.std.proofs.lemmas.Iterator.{first_from_Range}
use Rattle.std.proofs.lemmas.List.{get_or_default}
use Rattle.std.proofs.lemmas.List.Folds.{list_all_at}
use Rattle.std.proofs.lemmas.List.Sums.{list_all-from_AllPass, position_or_len_is}
use Rattle.std.specs.declared.option.Option.{Option}
use Rattle.std.specs.declared.ops.Range.{Range}
use Rattle.std.specs.declared.option.Option.TheVariants.{Some, None}
use Rattle.std.specs.Fn.{CalledAt}
use Rattle.std.specs.Iterator.{YieldsThen}
use Rattle.std.specs.List.{FoldsTo, list_all, position, position_or_len}
use Rattle.std.specs.Bool.{⊤}
use Rattle.std.specs.Option.{MatchOption, unwrap_or}
use Rattle.loops.specs.Loop.{pick, first, found}
use Rattle.loops.proofs.Loop.{by-pick, first-true, first_below, first-le}

-- the least number is one alone
module _ (p : ℕ → Bool) where
  pub first-is : (n i : ℕ) → i ≤ n → ((k : ℕ) → k < i → p k ≡ false) → (i < n → p i ≡ true) → first n p ≡ i
  first-is n i h below at = go (dec_lt (first n p) i) (dec_lt i (first n p))
    where
      go : Dec (first n p < i) → Dec (i < first n p) → first n p ≡ i
      go (yes l) d = absurd (let a = below (first n p) l in let b = first-true p n (omega arith) in let z : ◌≡◌ {A = ℕ} 0 1 = cc in omega arith)
      go (no l) (yes m) = absurd (let a = first_below p n i m in let b = at (omega (arith, first-le p n)) in let z : ◌≡◌ {A = ℕ} 0 1 = cc in omega arith)
      go (no l) (no m) = omega arith

  -- two tests that agree below n
  pub first_same : (q : ℕ → Bool) (n : ℕ) → ((i : ℕ) → i < n → q i ≡ p i) → first n q ≡ first n p
  first_same q n same = sym (first-is n (first n q) (first-le q n) (λ k h. sym (same k (omega (arith, first-le q n))) ∙ first_below q n k h) (λ h. sym (same _ h) ∙ first-true q n h))

  pub found_some : (n i : ℕ) → i < n → ((k : ℕ) → k < i → p k ≡ false) → p i ≡ true → Some i ≡ found n p
  unfolding found pick
  found_some n i h below at = let e = first-is n i (omega arith) below (λ _. at) in rw (e, lt-ltb i n h)

  pub found_none : (n : ℕ) → ((k : ℕ) → k < n → p k ≡ false) → None ≡ found n p
  unfolding found pick
  found_none n below = let e = first-is n n (omega arith) below (λ h. absurd (omega arith)) in rw (e, le-ltb n n (omega arith))

  -- a find that answered as std's lemmas say answers `found`
  found-from : (n : ℕ) (r : Option ℕ) → MatchOption r ((k : ℕ) → 0 ≤ k → k < n → p k ≡ false) (λ i. (0 ≤ i) × (i < n) × (p i ≡ true) × ((k : ℕ) → 0 ≤ k → k < i → p k ≡ false)) → r ≡ found n p
  found-from n None h = found_none n (λ k. h k (omega arith))
  found-from n (Some i) h = found_some n i h.1 (λ k. h.3 k (omega arith)) h.2

  -- `(0..n).find(|&i| test)`, where the closure computes p
  pub found_by_find : {F : Type 0} {g : Mut F (Bor ℕ × Unit {0}) Bool} (n : ℕ) (u : Range ℕ) (f : F) (r : Option ℕ)
      → (xs : List ℕ) × (j : F) × YieldsThen nat_range_steps (record { start = 0; end = n }) xs r u × FoldsTo (λ p x q. CalledAt g p x false q) f xs j
      × MatchOption r ⊤ (λ x. (h : F) × CalledAt g j x true h)
      → ((x : ℕ) (b : Bool) (q : F) → CalledAt g f x b q → (q ≡ f) × (b ≡ p x)) → r ≡ found n p
  found_by_find n u f r ran call =
      found-from n r (first_from_Range (record { start = 0; end = n }) u f r (λ x. p x ≡ true) (λ x. p x ≡ false) ran
      (λ x q k. sym (call x true q k).1) (λ x q k. let a = call x false q k in (a.0, sym a.1)))

  -- what a caller learns of either answer
  pub some_first : (n i : ℕ) → Some i ≡ found n p → (i ≡ first n p) × (i < n)
  unfolding found
  some_first n i e = by-pick (λ r. Some i ≡ r → (i ≡ first n p) × (i < n)) (ltb (first n p) n) (Some (first n p)) None some none e
    where
      some : ltb (first n p) n ≡ true → Some i ≡ Some (first n p) → (i ≡ first n p) × (i < n)
      some t q = let z : i ≡ first n p = grind arith in (z, omega (arith, ltb-true (first n p) n t))

      none : ltb (first n p) n ≡ false → Some i ≡ None → (i ≡ first n p) × (i < n)
      none t q = absurd (grind arith)

  pub none_first : (n : ℕ) → None ≡ found n p → n ≤ first n p
  unfolding found
  none_first n e = by-pick (λ r. None ≡ r → n ≤ first n p) (ltb (first n p) n) (Some (first n p)) None (λ t q. absurd (grind arith)) (λ t q. ltb-false (first n p) n t) e

  -- the number itself, as `.unwrap_or(n)` gives it
  pub found_or : (n : ℕ) → unwrap_or (found n p) n ≡ first n p
  unfolding found
  found_or n = by-pick (λ r. unwrap_or r n ≡ first n p) (ltb (first n p) n) (Some (first n p)) None (λ t. refl) (λ t. omega (arith, ltb-false (first n p) n t, first-le p n))

-- `xs.iter().all(|x| test)`, by its lemma `all_from_yields_List`: no place fails the test
pub every : {A : Type 0} (t : A → Bool) (xs : List A) (d : A) → list_all t xs ≡ leb (length xs) (first (length xs) (λ i. not (t (get_or xs i d))))
every {A} t xs d = go (dec_lt m (length xs))
  where
    p : ℕ → Bool
    p = λ i. not (t (get_or xs i d))

    m : ℕ
    m = first (length xs) p

    go : Dec (m < length xs) → list_all t xs ≡ leb (length xs) m
    go (yes h) = list_all_at t xs m d h (not-true _ (first-true p (length xs) h)) ∙ sym (lt-leb (length xs) m h)
    go (no h) = list_all-from_AllPass t xs (λ k e l. rw (get_or_default xs k e d l) (not-false _ (first_below p (length xs) k (omega arith)))) ∙ sym (le-leb (length xs) m (omega arith))

-- `xs.iter().position(|x| test)`, by its lemma `position_from_yields_List`
pub position_found : {A : Type 0} (t : A → Bool) (xs : List A) (d : A) → position t xs ≡ found (length xs) (λ i. t (get_or xs i d))
unfolding found pick
position_found t xs d =
    let p : ℕ → Bool = λ i. t (get_or xs i d) in
    let e : position_or_len t xs ≡ first (length xs) p = position_or_len_is t xs (first (length xs) p) d (first-le p (length xs)) (λ k. first_below p (length xs) k) (first-true p (length xs)) in
    rw e refl
