-- A node's line is found just where a text's first row is one, with the same record.
use mathlib.Core.Path.{◌≡◌, refl, ◌∙◌}
use mathlib.Core.List.{List, [], ◌∷◌}
use mathlib.Core.Bool.{Bool, true, false}
use Prim.Native.Nat.{ℕ, ◌+◌}
use lib.Dec.{eqb, ltb}
use lib.ListN.{length, get_or}
use borrow.Author.Tests.{eqb-true}
use Rattle.std.specs.Prelude.{Option, Some, None}
use Rattle.loops.specs.Loop.{pick}
use Rattle.loops.proofs.Loop.{both}
use Rattle.text.specs.Number.{number, valid, value}
use Rattle.text.specs.Name.{same, node_name, kind_count, place_of, kind}
use Rattle.text.specs.Plain.{number_at, kind_at, is_node, node_of}
use Rattle.text.specs.Field.{number_field, kind_field, last_number}
use Rattle.text.specs.NodeLine.{node_fields, node_line}
use Rattle.text.proofs.Cuts.{field, tabbed, after, row, rest, row-tab, row-end, row_more, row_one}
use Rattle.text.proofs.Lines.{valid-some, kind-good, kind-valid, name-got, inner-got, last-got, name-had, inner-had, last-had, answers_same}

module _ (i : ℕ) (s₀ : List ℕ) where
  abbrev s₁ : List ℕ
  s₁ = after s₀

  abbrev s₂ : List ℕ
  s₂ = after s₁

  abbrev s₃ : List ℕ
  s₃ = after s₂

  abbrev s₄ : List ℕ
  s₄ = after s₃

  abbrev s₅ : List ℕ
  s₅ = after s₄

  abbrev s₆ : List ℕ
  s₆ = after s₅

  abbrev s₇ : List ℕ
  s₇ = after s₆

  -- what both say
  record Whole : Type 0 where
    named : same node_name (field s₀) ≡ true
    v₁ : valid (number (field s₁)) ≡ true
    is : eqb (value (number (field s₁))) i ≡ true
    kind : ltb (place_of (field s₂)) kind_count ≡ true
    v₃ : valid (number (field s₃)) ≡ true
    v₄ : valid (number (field s₄)) ≡ true
    v₅ : valid (number (field s₅)) ≡ true
    v₆ : valid (number (field s₆)) ≡ true
    v₇ : valid (number (field s₇)) ≡ true
    t₀ : tabbed s₀ ≡ true
    t₁ : tabbed s₁ ≡ true
    t₂ : tabbed s₂ ≡ true
    t₃ : tabbed s₃ ≡ true
    t₄ : tabbed s₄ ≡ true
    t₅ : tabbed s₅ ≡ true
    t₆ : tabbed s₆ ≡ true
    t₇ : tabbed s₇ ≡ false

  line-whole : (p : List ℕ × List ℕ) → node_line i s₀ ≡ Some p → Whole
  unfolding node_line node_fields number_field kind_field last_number pick
  line-whole p e =
      name-had s₀ p Whole node_name _ e (λ t₀ named e₀.
      inner-had s₁ p Whole number _ e₀ (λ t₁ v₁ e₁.
      both_and p (eqb (value (number (field s₁))) i) (node_fields s₂) e₁ (λ is e₁'.
      inner-had s₂ p Whole kind _ e₁' (λ t₂ v₂ e₂.
      inner-had s₃ p Whole number _ e₂ (λ t₃ v₃ e₃.
      inner-had s₄ p Whole number _ e₃ (λ t₄ v₄ e₄.
      inner-had s₅ p Whole number _ e₄ (λ t₅ v₅ e₅.
      inner-had s₆ p Whole number _ e₅ (λ t₆ v₆ e₆.
      last-had s₇ p Whole number _ e₆ (λ t₇ v₇.
      record {
        named = named;
        v₁ = v₁;
        is = is;
        kind = kind-valid (field s₂) v₂;
        v₃ = v₃;
        v₄ = v₄;
        v₅ = v₅;
        v₆ = v₆;
        v₇ = v₇;
        t₀ = t₀;
        t₁ = t₁;
        t₂ = t₂;
        t₃ = t₃;
        t₄ = t₄;
        t₅ = t₅;
        t₆ = t₆;
        t₇ = t₇;
      })))))))))
    where
      both_and : (p : List ℕ × List ℕ) (b : Bool) (o : Option (List ℕ × List ℕ)) → pick b o None ≡ Some p → (b ≡ true → o ≡ Some p → Whole) → Whole
      both_and p true o e k = k refl e
      both_and p false o e k = absurd (cc)

  -- its record
  abbrev record_of : List ℕ
  record_of =
      (place_of (field s₂) + 1) ∷ value (number (field s₃)) ∷ value (number (field s₄)) ∷ value (number (field s₅)) ∷ value (number (field s₆)) ∷ value (number (field s₇)) ∷ []

  whole-line : Whole → node_line i s₀ ≡ Some (record_of, after s₇)
  unfolding node_line node_fields number_field kind_field last_number pick
  whole-line w =
      rw (
        name-got s₀ node_name w.t₀ w.named,
        inner-got s₁ number _ w.t₁ (valid-some _ w.v₁),
        w.is,
        inner-got s₂ kind _ w.t₂ (kind-good (field s₂) w.kind),
        inner-got s₃ number _ w.t₃ (valid-some _ w.v₃),
        inner-got s₄ number _ w.t₄ (valid-some _ w.v₄),
        inner-got s₅ number _ w.t₅ (valid-some _ w.v₅),
        inner-got s₆ number _ w.t₆ (valid-some _ w.v₆),
        last-got s₇ number _ w.t₇ (valid-some _ w.v₇),
      )

  abbrev eight_of : List (List ℕ)
  eight_of = field s₀ ∷ field s₁ ∷ field s₂ ∷ field s₃ ∷ field s₄ ∷ field s₅ ∷ field s₆ ∷ field s₇ ∷ []

  -- eight fields
  tabs-row : tabbed s₀ ≡ true → tabbed s₁ ≡ true → tabbed s₂ ≡ true → tabbed s₃ ≡ true → tabbed s₄ ≡ true → tabbed s₅ ≡ true → tabbed s₆ ≡ true → tabbed s₇ ≡ false
      → (row s₀ ≡ eight_of) × (rest s₀ ≡ after s₇)
  tabs-row t₀ t₁ t₂ t₃ t₄ t₅ t₆ t₇ =
      let q₀ = row-tab s₀ t₀ in
      let q₁ = row-tab s₁ t₁ in
      let q₂ = row-tab s₂ t₂ in
      let q₃ = row-tab s₃ t₃ in
      let q₄ = row-tab s₄ t₄ in
      let q₅ = row-tab s₅ t₅ in
      let q₆ = row-tab s₆ t₆ in
      let q₇ = row-end s₇ t₇ in
      (rw (q₀.0, q₁.0, q₂.0, q₃.0, q₄.0, q₅.0, q₆.0, q₇.0), q₀.1 ∙ q₁.1 ∙ q₂.1 ∙ q₃.1 ∙ q₄.1 ∙ q₅.1 ∙ q₆.1 ∙ q₇.1)

  whole_row : Whole → (row s₀ ≡ eight_of) × (rest s₀ ≡ after s₇)
  whole_row w = tabs-row w.t₀ w.t₁ w.t₂ w.t₃ w.t₄ w.t₅ w.t₆ w.t₇

  whole_is : Whole → is_node i (row s₀) ≡ true
  unfolding is_node number_at kind_at
  whole_is w = rw ((whole_row w).0, w.named, w.v₁, w.is, w.kind, w.v₃, w.v₄, w.v₅, w.v₆, w.v₇)

  is_whole : is_node i (row s₀) ≡ true → Whole
  unfolding is_node number_at kind_at
  is_whole e =
      let R = row s₀ in
      let e₇ = both _ (valid (number_at R 7)) e in
      let e₆ = both _ (valid (number_at R 6)) e₇.0 in
      let e₅ = both _ (valid (number_at R 5)) e₆.0 in
      let e₄ = both _ (valid (number_at R 4)) e₅.0 in
      let e₃ = both _ (valid (number_at R 3)) e₄.0 in
      let e₂ = both _ (ltb (kind_at R 2) kind_count) e₃.0 in
      let eᵢ = both _ (eqb (value (number_at R 1)) i) e₂.0 in
      let e₁ = both _ (valid (number_at R 1)) eᵢ.0 in
      let e₀ = both (eqb (length R) 8) (same node_name (get_or R 0 [])) e₁.0 in
      let m₀ = row_more s₀ 6 (eqb-true (length R) 8 e₀.0) in
      let m₁ = row_more s₁ 5 m₀.1 in
      let m₂ = row_more s₂ 4 m₁.1 in
      let m₃ = row_more s₃ 3 m₂.1 in
      let m₄ = row_more s₄ 2 m₃.1 in
      let m₅ = row_more s₅ 1 m₄.1 in
      let m₆ = row_more s₆ 0 m₅.1 in
      let m₇ = row_one s₇ m₆.1 in
      let q : row s₀ ≡ eight_of = (tabs-row m₀.0 m₁.0 m₂.0 m₃.0 m₄.0 m₅.0 m₆.0 m₇).0 in
      record {
        named = rw q at e₀.1;
        v₁ = rw q at e₁.1;
        is = rw q at eᵢ.1;
        kind = rw q at e₂.1;
        v₃ = rw q at e₃.1;
        v₄ = rw q at e₄.1;
        v₅ = rw q at e₅.1;
        v₆ = rw q at e₆.1;
        v₇ = rw q at e₇.1;
        t₀ = m₀.0;
        t₁ = m₁.0;
        t₂ = m₂.0;
        t₃ = m₃.0;
        t₄ = m₄.0;
        t₅ = m₅.0;
        t₆ = m₆.0;
        t₇ = m₇;
      }

  row_found : Whole → node_line i s₀ ≡ Some (node_of (row s₀), rest s₀)
  unfolding node_of number_at kind_at
  row_found w = let q = whole_row w in rw (q.0, q.1) (whole-line w)

  pub node-row : node_line i s₀ ≡ pick (is_node i (row s₀)) (Some (node_of (row s₀), rest s₀)) None
  node-row = answers_same (node_line i s₀) (is_node i (row s₀)) (node_of (row s₀), rest s₀) (λ e. row_found (is_whole e)) (λ p e. whole_is (line-whole p e))
