-- Records stored line by line are the leading lines' records stored.
use mathlib.Core.Path.{◌≡◌, refl, ap, sym, ◌∙◌}
use mathlib.Core.List.{List, [], ◌∷◌, ◌++◌}
use mathlib.Core.Bool.{Bool, true, false}
use Prim.Native.Nat.{ℕ, zero, suc, ◌+◌, ◌-◌, ◌*◌, ◌/◌, ◌≤◌, ◌<◌}
use native.Mathlib.Omega.{arith}
use native.Mathlib.Nat.{mul-zero}
use lib.ListN.{length, set, drop, length-append}
use lib.Seq.{sets, sets-eq, length-sets}
use Rattle.loops.specs.Loop.{pick}
use Rattle.std.specs.Prelude.{Option, Some, None}
use Rattle.text.specs.Over.{over}
use Rattle.text.specs.Rows.{rows, lines, each_fields}
use Rattle.text.specs.Plain.{lead}
use Rattle.text.specs.Read.{flat, fill}
use Rattle.text.specs.Read.Filled.{filled}
use Rattle.text.proofs.Cuts.{row, rest, rows_split}

pub sets-append : (u v l : List ℕ) (i : ℕ) → sets l i (u ++ v) ≡ sets (sets l i u) (i + length u) v
sets-append [] v l i = let z : i ≡ i + 0 = omega arith in ap (λ (k : ℕ). sets l k v) z
sets-append (a ∷ u) v l i =
    let z : suc i + length u ≡ i + suc (length u) = omega arith in
    sets-append u v (set l i a) (suc i) ∙ ap (λ (k : ℕ). sets (sets (set l i a) (suc i) u) k v) z

-- two answers that are the same
pub some_parts : {A B : Type 0} (p q : A × B) → Some p ≡ Some q → (p.0 ≡ q.0) × (p.1 ≡ q.1)
some_parts {A} {B} p q e = let h : p ≡ q = cc in (ap (λ (z : A × B). z.0) h, ap (λ (z : A × B). z.1) h)

-- the leading lines, one by one
module _ (good : ℕ → List (List ℕ) → Bool) (of : List (List ℕ) → List ℕ) where
  pub lead-full : (j i : ℕ) (rs : List (List (List ℕ))) → j ≡ 0 → lead good of j i rs ≡ []
  unfolding lead
  lead-full zero i rs e = refl
  lead-full (suc j) i rs e = absurd (omega arith)

  pub lead-none : (j i : ℕ) → lead good of j i [] ≡ []
  unfolding lead
  lead-none zero i = refl
  lead-none (suc j) i = refl

  pub lead-bad : (j i : ℕ) (r : List (List ℕ)) (rs : List (List (List ℕ))) → good i r ≡ false → lead good of j i (r ∷ rs) ≡ []
  unfolding lead pick
  lead-bad zero i r rs e = refl
  lead-bad (suc j) i r rs e = rw e

  pub lead-more : (j k i : ℕ) (r : List (List ℕ)) (rs : List (List (List ℕ))) → j ≡ suc k → good i r ≡ true → lead good of j i (r ∷ rs) ≡ of r ∷ lead good of k (suc i) rs
  unfolding lead pick
  lead-more j k i r rs q e = rw (q, e)

module _ (size : ℕ) (good : ℕ → List (List ℕ) → Bool) (of : List (List ℕ) → List ℕ) (b : List ℕ) (n : ℕ) where
  stop : (rs : List (List (List ℕ))) → lead good of (length b / size - n) (n + 1) rs ≡ [] → filled b n rs ≡ fill size good of b n rs
  unfolding fill flat
  stop rs e = let z : n + 0 ≡ n = omega arith in rw (e, z)

  pub fill-full : (rs : List (List (List ℕ))) → length b / size ≤ n → filled b n rs ≡ fill size good of b n rs
  fill-full rs h = stop rs (lead-full good of (length b / size - n) (n + 1) rs (omega arith))

  pub fill_none : filled b n [] ≡ fill size good of b n []
  fill_none = stop [] (lead-none good of (length b / size - n) (n + 1))

  pub fill-bad : (r : List (List ℕ)) (rs : List (List (List ℕ))) → good (n + 1) r ≡ false → filled b n (r ∷ rs) ≡ fill size good of b n (r ∷ rs)
  fill-bad r rs e = stop (r ∷ rs) (lead-bad good of (length b / size - n) (n + 1) r rs e)

  pub fill_more : (r : List (List ℕ)) (rs : List (List (List ℕ))) → n < length b / size → good (n + 1) r ≡ true → size * n + length (of r) ≡ size * (n + 1)
      → fill size good of (sets b (size * n) (of r)) (n + 1) rs ≡ fill size good of b n (r ∷ rs)
  unfolding fill flat
  fill_more r rs h e q =
      let j : length b / size - n ≡ suc (length b / size - (n + 1)) = omega arith in
      let l = lead-more good of (length b / size - n) (length b / size - (n + 1)) (n + 1) r rs j e in
      let c : suc (n + 1) ≡ n + 1 + 1 = omega arith in
      let k : (ls : List (List ℕ)) → n + 1 + length ls ≡ n + suc (length ls) = λ ls. omega arith in
      rw (l, length-sets b (size * n) (of r), c, sets-append (of r) _ b (size * n), q, k _)

  -- one line of a text, where its answer is as the code has it
  module _ (s : List ℕ) where
    pub line-bad : pick {A = Option (List ℕ × List ℕ)} (good (n + 1) (row s)) (Some (of (row s), rest s)) None ≡ None → filled b n (rows s) ≡ fill size good of b n (rows s)
    unfolding rows lines each_fields pick
    line-bad e = go s e
      where
        bad : (x : Bool) (p : List ℕ × List ℕ) → pick {A = Option (List ℕ × List ℕ)} x (Some p) None ≡ None → x ≡ false
        bad true p e = absurd (cc)
        bad false p e = refl

        go : (s : List ℕ) → pick {A = Option (List ℕ × List ℕ)} (good (n + 1) (row s)) (Some (of (row s), rest s)) None ≡ None → filled b n (rows s) ≡ fill size good of b n (rows s)
        go [] e = fill_none
        go (c ∷ cs) e = rw (rows_split c cs) (fill-bad (row (c ∷ cs)) (rows (rest (c ∷ cs))) (bad _ _ e))

    pub line-more : good (n + 1) (row []) ≡ false → (r t : List ℕ) → pick {A = Option (List ℕ × List ℕ)} (good (n + 1) (row s)) (Some (of (row s), rest s)) None ≡ Some (r, t)
        → n < length b / size → size * n + length r ≡ size * (n + 1) → fill size good of (sets b (size * n) r) (n + 1) (rows t) ≡ fill size good of b n (rows s)
    unfolding pick
    line-more z r t e h q = go s (got (good (n + 1) (row s)) refl e)
      where
        got : (x : Bool) → good (n + 1) (row s) ≡ x → pick {A = Option (List ℕ × List ℕ)} x (Some (of (row s), rest s)) None ≡ Some (r, t)
            → (good (n + 1) (row s) ≡ true) × (r ≡ of (row s)) × (t ≡ rest s)
        got true g e = let p = some_parts (of (row s), rest s) (r, t) e in (g, sym p.0, sym p.1)
        got false g e = absurd (cc)

        go : (s : List ℕ) → (good (n + 1) (row s) ≡ true) × (r ≡ of (row s)) × (t ≡ rest s) → fill size good of (sets b (size * n) r) (n + 1) (rows t) ≡ fill size good of b n (rows s)
        go [] g = absurd (let a = g.0 in let y : ◌≡◌ {A = ℕ} 0 1 = cc in omega arith)
        go (c ∷ cs) g = rw (rows_split c cs, g.1, g.2) (fill_more (row (c ∷ cs)) (rows (rest (c ∷ cs))) h g.0 (rw g.1 at q))

-- the records of the leading lines have room
module _ (good : ℕ → List (List ℕ) → Bool) (of : List (List ℕ) → List ℕ) (size : ℕ) (sized : (r : List (List ℕ)) → length (of r) ≡ size) where
  lead-length : (j i : ℕ) (rs : List (List (List ℕ))) → (length (flat (lead good of j i rs)) ≡ length (lead good of j i rs) * size) × (length (lead good of j i rs) ≤ j)
  unfolding lead flat pick
  lead-length zero i rs = (omega arith, omega arith)
  lead-length (suc j) i [] = (omega arith, omega arith)
  lead-length (suc j) i (r ∷ rs) = go (good i r) (lead good of j (suc i) rs) (lead-length j (suc i) rs)
    where
      go : (b : Bool) (ls : List (List ℕ)) → (length (flat ls) ≡ length ls * size) × (length ls ≤ j) → (length (flat (pick b (of r ∷ ls) [])) ≡ length (pick b (of r ∷ ls) []) * size) × (length (pick b (of r ∷ ls) []) ≤ suc j)
      go true ls h = (rw (length-append (of r) (flat ls), sized r) (omega arith), omega arith)
      go false ls h = (omega arith, omega arith)

  -- from an empty buffer on
  pub fill-first : (b c : List ℕ) (m : ℕ) (rs qs : List (List (List ℕ))) → ((n : ℕ) → n ≤ length b / size → n * size ≤ length b) → filled c m qs ≡ fill size good of b 0 rs
      → (c ≡ over (flat (lead good of (length b / size) 1 rs)) b) × (m ≡ length (lead good of (length b / size) 1 rs)) × (qs ≡ drop (length (lead good of (length b / size) 1 rs)) rs)
  unfolding fill
  fill-first b c m rs qs room e =
      let z : size * 0 ≡ 0 = mul-zero size in
      let y : length b / size - 0 ≡ length b / size = omega arith in
      let ls : List (List ℕ) = lead good of (length b / size) 1 rs in
      let w : 0 + length ls ≡ length ls = omega arith in
      let v : 0 + length (flat ls) ≡ length (flat ls) = omega arith in
      let q : filled c m qs ≡ filled (sets b 0 (flat ls)) (length ls) (drop (length ls) rs) = rw (z, y, w) at e in
      let l = lead-length (length b / size) 1 rs in
      let k : length (flat ls) ≤ length b = omega (arith, l.0, room (length ls) l.1) in
      let s : c ≡ sets b 0 (flat ls) = cc in
      (s ∙ rw v at (sets-eq (flat ls) b 0 (omega arith)), cc, cc)
