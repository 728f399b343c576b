-- The texts that are accepted are the written ones.
use mathlib.Core.Path.{◌≡◌, refl, ap, sym, ◌∙◌}
use mathlib.Core.List.{List, [], ◌∷◌, ◌++◌, append-nil}
use mathlib.Core.Bool.{Bool, true, false, ◌&&◌}
use Prim.Native.Nat.{ℕ, zero, suc, ◌+◌, ◌-◌, ◌^◌, ◌≤◌, ◌<◌}
use native.Mathlib.Omega.{arith}
use lib.Dec.{eqb, ltb, leb}
use lib.ListN.{length, get_or, drop, length-drop, drop_of_length-le}
use borrow.Author.Tests.{eqb-true, ltb-true, leb-true}
use Rattle.loops.specs.Loop.{pick}
use Rattle.loops.proofs.Loop.{both, first-true}
use Rattle.std.specs.Prelude.{Option, Some, None}
use Rattle.text.specs.Number.{decimal, number, valid, value}
use Rattle.text.specs.Name.{same, word_name, addr_name, node_name, kind_names, kind_count, is_named, place_of}
use Rattle.text.specs.Rows.{rows}
use Rattle.text.specs.Plain.{number_at, kind_at, is_pair, pair_of, is_addr, addr_of, is_node, node_of, lead, after_word, plain_rows, plain_text}
use Rattle.text.specs.Plain.Plain.{plain}
use Rattle.text.specs.TableText.{text_of, ended, pair_row, addr_row, node_row, rows_of, table_rows, table_text, AddrRecord, NodeRecord, All, IsTable}
use Rattle.text.proofs.Names.{same-eq}
use Rattle.text.proofs.Numbers.{number-written}
use Rattle.text.proofs.Joins.{joined-rows}

-- a valid number is written by its value
valid-written : (s : List ℕ) (n : Option ℕ) → number s ≡ n → valid n ≡ true → (s ≡ decimal (value n)) × (value n < 2 ^ 64)
valid-written s None e h = absurd (let z : ◌≡◌ {A = ℕ} 0 1 = cc in omega arith)
valid-written s (Some v) e h = number-written s v e

two : (r : List (List ℕ)) → length r ≡ 2 → r ≡ get_or r 0 [] ∷ get_or r 1 [] ∷ []
two [] e = absurd (omega arith)
two (a ∷ []) e = absurd (omega arith)
two (a ∷ b ∷ []) e = refl
two (a ∷ b ∷ c ∷ r) e = absurd (omega arith)

eight : (r : List (List ℕ)) → length r ≡ 8 → r ≡ get_or r 0 [] ∷ get_or r 1 [] ∷ get_or r 2 [] ∷ get_or r 3 [] ∷ get_or r 4 [] ∷ get_or r 5 [] ∷ get_or r 6 [] ∷ get_or r 7 [] ∷ []
eight [] e = absurd (omega arith)
eight (a ∷ []) e = absurd (omega arith)
eight (a ∷ b ∷ []) e = absurd (omega arith)
eight (a ∷ b ∷ c ∷ []) e = absurd (omega arith)
eight (a ∷ b ∷ c ∷ d ∷ []) e = absurd (omega arith)
eight (a ∷ b ∷ c ∷ d ∷ f ∷ []) e = absurd (omega arith)
eight (a ∷ b ∷ c ∷ d ∷ f ∷ g ∷ []) e = absurd (omega arith)
eight (a ∷ b ∷ c ∷ d ∷ f ∷ g ∷ h ∷ []) e = absurd (omega arith)
eight (a ∷ b ∷ c ∷ d ∷ f ∷ g ∷ h ∷ i ∷ []) e = refl
eight (a ∷ b ∷ c ∷ d ∷ f ∷ g ∷ h ∷ i ∷ j ∷ r) e = absurd (omega arith)

-- a line of a name and a number
pair-written : (name : List ℕ) (r : List (List ℕ)) → is_pair name r ≡ true → (r ≡ pair_row name (pair_of r)) × (pair_of r < 2 ^ 64)
unfolding is_pair pair_of number_at pair_row
pair-written name r e =
    let e₁ = both (eqb (length r) 2 && same name (get_or r 0 [])) (valid (number_at r 1)) e in
    let e₂ = both (eqb (length r) 2) (same name (get_or r 0 [])) e₁.0 in
    let q = two r (eqb-true (length r) 2 e₂.0) in
    let f = same-eq name (get_or r 0 []) e₂.1 in
    let n = valid-written (get_or r 1 []) (number (get_or r 1 [])) refl e₁.1 in
    (q ∙ rw (← f, ← n.0), n.1)

addr-written : (i : ℕ) (r : List (List ℕ)) → is_addr i r ≡ true → (r ≡ addr_row i (addr_of r)) × AddrRecord (addr_of r)
unfolding is_addr addr_row addr_of
addr-written i r e = let p = pair-written addr_name r e in (p.0, (refl, p.1))

-- a kind's name
kind-written : (s : List ℕ) → place_of s < kind_count → s ≡ get_or kind_names (place_of s) []
unfolding place_of is_named
kind-written s h = sym (same-eq (get_or kind_names (place_of s) []) s (first-true (is_named s) kind_count h))

-- a node's line
node-written : (i : ℕ) (r : List (List ℕ)) → is_node i r ≡ true → (r ≡ node_row i (node_of r)) × NodeRecord (node_of r)
unfolding is_node node_of number_at kind_at node_row
node-written i r e =
    let e₇ = both _ (valid (number_at r 7)) e in
    let e₆ = both _ (valid (number_at r 6)) e₇.0 in
    let e₅ = both _ (valid (number_at r 5)) e₆.0 in
    let e₄ = both _ (valid (number_at r 4)) e₅.0 in
    let e₃ = both _ (valid (number_at r 3)) e₄.0 in
    let e₂ = both _ (ltb (kind_at r 2) kind_count) e₃.0 in
    let eᵢ = both _ (eqb (value (number_at r 1)) i) e₂.0 in
    let e₁ = both _ (valid (number_at r 1)) eᵢ.0 in
    let e₀ = both (eqb (length r) 8) (same node_name (get_or r 0 [])) e₁.0 in
    let k : place_of (get_or r 2 []) < kind_count = ltb-true (kind_at r 2) kind_count e₂.1 in
    let z : place_of (get_or r 2 []) + 1 - 1 ≡ place_of (get_or r 2 []) = omega arith in
    let n₀ = same-eq node_name (get_or r 0 []) e₀.1 in
    let n₁ = valid-written (get_or r 1 []) (number (get_or r 1 [])) refl e₁.1 in
    let m : value (number (get_or r 1 [])) ≡ i = eqb-true _ _ eᵢ.1 in
    let n₃ = valid-written (get_or r 3 []) (number (get_or r 3 [])) refl e₃.1 in
    let n₄ = valid-written (get_or r 4 []) (number (get_or r 4 [])) refl e₄.1 in
    let n₅ = valid-written (get_or r 5 []) (number (get_or r 5 [])) refl e₅.1 in
    let n₆ = valid-written (get_or r 6 []) (number (get_or r 6 [])) refl e₆.1 in
    let n₇ = valid-written (get_or r 7 []) (number (get_or r 7 [])) refl e₇.1 in (
      eight r (eqb-true (length r) 8 e₀.0)
          ∙ rw (z, ← kind-written (get_or r 2 []) k) (eight-same (sym n₀) (n₁.0 ∙ ap decimal m) refl n₃.0 n₄.0 n₅.0 n₆.0 n₇.0),
      record { six = refl; kind = (omega arith, omega arith); width = n₃.1; a = n₄.1; b = n₅.1; c = n₆.1; imm = n₇.1 },
    )
  where
    eight-same : {a a' b b' c c' d d' f f' g g' h h' j j' : List ℕ} → a ≡ a' → b ≡ b' → c ≡ c' → d ≡ d' → f ≡ f' → g ≡ g' → h ≡ h' → j ≡ j'
        → ◌≡◌ {A = List (List ℕ)} (a ∷ b ∷ c ∷ d ∷ f ∷ g ∷ h ∷ j ∷ []) (a' ∷ b' ∷ c' ∷ d' ∷ f' ∷ g' ∷ h' ∷ j' ∷ [])
    eight-same p₀ p₁ p₂ p₃ p₄ p₅ p₆ p₇ = cc

-- the leading lines
module _ (good : ℕ → List (List ℕ) → Bool) (of : List (List ℕ) → List ℕ) (line : ℕ → List ℕ → List (List ℕ)) (P : List ℕ → Type 0)
    (w : (i : ℕ) (r : List (List ℕ)) → good i r ≡ true → (r ≡ line i (of r)) × P (of r)) where
  Leads : ℕ → ℕ → List (List (List ℕ)) → List (List ℕ) → Type 0
  Leads j i rs ls = (rs ≡ rows_of line i ls ++ drop (length ls) rs) × (length ls ≤ j) × All P ls

  lead-written : (j i : ℕ) (rs : List (List (List ℕ))) → Leads j i rs (lead good of j i rs)
  unfolding Leads lead rows_of pick
  lead-written zero i rs = (refl, omega arith, tt)
  lead-written (suc j) i [] = (refl, omega arith, tt)
  lead-written (suc j) i (r ∷ rs) = go (good i r) refl (lead-written j (suc i) rs)
    where
      go : (b : Bool) → good i r ≡ b → Leads j (suc i) rs (lead good of j (suc i) rs) → Leads (suc j) i (r ∷ rs) (pick b (of r ∷ lead good of j (suc i) rs) [])
      go true e h = let p = w i r e in let q = p.0 in let t = h.0 in (cc, omega arith, (p.1, h.2))
      go false e h = (refl, omega arith, tt)

module _ (j k : ℕ) where
  module _ (r : List (List ℕ)) (rs : List (List (List ℕ))) where
    abbrev xs : List (List ℕ)
    xs = lead is_addr addr_of j 1 rs

    abbrev ns : List (List ℕ)
    ns = lead is_node node_of k 1 (drop (length xs) rs)

    after-written : is_pair word_name r ≡ true → length rs ≤ length xs + length ns → (r ∷ rs ≡ table_rows (pair_of r) xs ns) × IsTable j k (pair_of r) xs ns
    unfolding table_rows Leads
    after-written e h =
        let p = pair-written word_name r e in
        let a = lead-written is_addr addr_of addr_row AddrRecord addr-written j 1 rs in
        let n = lead-written is_node node_of node_row NodeRecord node-written k 1 (drop (length xs) rs) in
        let l : length (drop (length xs) rs) ≡ length rs - length xs = length-drop (length xs) rs in
        let d : length (drop (length xs) rs) ≤ length ns = omega arith in
        let z : drop (length ns) (drop (length xs) rs) ≡ [] = drop_of_length-le (drop (length xs) rs) d in
        let m : drop (length xs) rs ≡ rows_of node_row 1 ns = n.0 ∙ rw z (append-nil (rows_of node_row 1 ns)) in
        let t : rs ≡ rows_of addr_row 1 xs ++ rows_of node_row 1 ns = a.0 ∙ ap (λ (q : List (List (List ℕ))). rows_of addr_row 1 xs ++ q) m in
        let f = p.0 in
        (cc, record { word = p.1; few = a.1; addrs = a.2; some = n.1; nodes = n.2 })

  rows-accepted : (R : List (List (List ℕ))) (v : ℕ) (us ms : List (List ℕ)) → plain_rows j k R ≡ plain true v us ms → (R ≡ table_rows v us ms) × IsTable j k v us ms
  unfolding plain_rows after_word pick
  rows-accepted [] v us ms e = absurd (let z : ◌≡◌ {A = ℕ} 0 1 = cc in omega arith)
  rows-accepted (r ∷ rs) v us ms e = go (is_pair word_name r) refl e
    where
      -- the parts of an answer
      same_parts : (b : Bool) (w : ℕ) (as' bs : List (List ℕ)) → plain b w as' bs ≡ plain true v us ms → (r ∷ rs ≡ table_rows w as' bs) × IsTable j k w as' bs → (r ∷ rs ≡ table_rows v us ms) × IsTable j k v us ms
      same_parts b w as' bs q h =
          let q₁ : w ≡ v = cc in
          let q₂ : as' ≡ us = cc in
          let q₃ : bs ≡ ms = cc in
          rw (q₁, q₂, q₃) at h

      go : (b : Bool) → is_pair word_name r ≡ b → pick b (plain (leb (length rs) (length (xs r rs) + length (ns r rs))) (pair_of r) (xs r rs) (ns r rs)) (plain false 0 [] []) ≡ plain true v us ms → (r ∷ rs ≡ table_rows v us ms) × IsTable j k v us ms
      go true t q =
          let l : leb (length rs) (length (xs r rs) + length (ns r rs)) ≡ true = cc in
          same_parts _ _ _ _ q (after-written r rs t (leb-true (length rs) (length (xs r rs) + length (ns r rs)) l))
      go false t q = absurd (let z : ◌≡◌ {A = ℕ} 0 1 = cc in omega arith)

  -- an accepted text is the text of its table, but for a missing last newline
  pub accepted : (x : List ℕ) (w : ℕ) (xs ns : List (List ℕ)) → plain_text j k x ≡ plain true w xs ns → (ended x ≡ table_text w xs ns) × IsTable j k w xs ns
  unfolding plain_text table_text
  accepted x w us ms e =
      let h = rows-accepted (rows x) w us ms e in
      (sym (joined-rows x) ∙ ap text_of h.0, h.1)
