-- A line of a name and a number is found just where a text's first row is one, with the same value.
use mathlib.Core.Path.{◌≡◌, ap, ◌∙◌}
use mathlib.Core.List.{List, [], ◌∷◌}
use mathlib.Core.Bool.{true, false, ◌&&◌}
use Prim.Native.Nat.{ℕ}
use lib.Dec.{eqb}
use lib.ListN.{length, get_or}
use borrow.Author.Tests.{eqb-true}
use Rattle.std.specs.Prelude.{Option, Some, None, option_map}
use Rattle.loops.specs.Loop.{pick}
use Rattle.loops.proofs.Loop.{both}
use Rattle.text.specs.Number.{number, valid}
use Rattle.text.specs.Name.{same}
use Rattle.text.specs.Plain.{number_at, is_pair, pair_of}
use Rattle.text.specs.Field.{last_number, pair_line}
use Rattle.text.proofs.Cuts.{field, tabbed, after, row, rest, row-tab, row-end, row_more, row_one}
use Rattle.text.proofs.Lines.{valid-some, name-got, last-got, name-had, last-had, answers_same}

module _ (name s : List ℕ) where
  -- what both say
  record Pair : Type 0 where
    named : same name (field s) ≡ true
    tab₀ : tabbed s ≡ true
    number₁ : valid (number (field (after s))) ≡ true
    end₁ : tabbed (after s) ≡ false

  line-pair : (p : ℕ × List ℕ) → pair_line name s ≡ Some p → Pair
  unfolding pair_line last_number
  line-pair p e =
      name-had s p Pair name last_number e (λ t n q.
      last-had (after s) p Pair number (λ (v : ℕ × List ℕ). v) (as_map (last_number (after s)) q) (λ u v. record { named = n; tab₀ = t; number₁ = v; end₁ = u }))
    where
      as_map : (o : Option (ℕ × List ℕ)) → o ≡ Some p → option_map (λ (v : ℕ × List ℕ). v) o ≡ Some p
      as_map o e = ap (option_map (λ (v : ℕ × List ℕ). v)) e

  pair_row_lem : Pair → (row s ≡ field s ∷ field (after s) ∷ []) × (rest s ≡ after (after s))
  pair_row_lem p =
      let q₀ = row-tab s p.tab₀ in
      let q₁ = row-end (after s) p.end₁ in
      (q₀.0 ∙ ap (λ (r : List (List ℕ)). field s ∷ r) q₁.0, q₀.1 ∙ q₁.1)

  pair_line_lem : Pair → pair_line name s ≡ Some (pair_of (row s), rest s)
  unfolding pair_line last_number pair_of number_at
  pair_line_lem p =
      let q = pair_row_lem p in
      rw (q.0, q.1, name-got s name p.tab₀ p.named) (last-got (after s) number _ p.end₁ (valid-some _ p.number₁))

  pair_is : Pair → is_pair name (row s) ≡ true
  unfolding is_pair number_at
  pair_is p = rw ((pair_row_lem p).0, p.named, p.number₁)

  is-pair : is_pair name (row s) ≡ true → Pair
  unfolding is_pair number_at
  is-pair e =
      let e₁ = both (eqb (length (row s)) 2 && same name (get_or (row s) 0 [])) (valid (number_at (row s) 1)) e in
      let e₂ = both (eqb (length (row s)) 2) (same name (get_or (row s) 0 [])) e₁.0 in
      let t₀ = row_more s 0 (eqb-true (length (row s)) 2 e₂.0) in
      let t₁ = row_one (after s) t₀.1 in
      let q : row s ≡ field s ∷ field (after s) ∷ [] = (row-tab s t₀.0).0 ∙ ap (λ (r : List (List ℕ)). field s ∷ r) (row-end (after s) t₁).0 in
      record { named = rw q at e₂.1; tab₀ = t₀.0; number₁ = rw q at e₁.1; end₁ = t₁ }

  pub pair-row : pair_line name s ≡ pick (is_pair name (row s)) (Some (pair_of (row s), rest s)) None
  pair-row = answers_same (pair_line name s) (is_pair name (row s)) (pair_of (row s), rest s) (λ e. pair_line_lem (is-pair e)) (λ p e. pair_is (line-pair p e))
