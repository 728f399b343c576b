-- Cutting a text and joining the pieces again.
use mathlib.Core.Path.{◌≡◌, refl, ap, sym, ◌∙◌}
use mathlib.Core.List.{List, [], ◌∷◌, ◌++◌}
use mathlib.Core.Bool.{Bool, true, false}
use Prim.Native.Nat.{ℕ, ◌≤◌}
use native.Mathlib.Omega.{arith}
use lib.Dec.{eqb}
use lib.ListN.{length}
use borrow.Author.Tests.{eqb-true}
use Rattle.loops.specs.Loop.{pick}
use Rattle.text.specs.Rows.{onto, lines, fields, each_fields, rows}
use Rattle.text.specs.TableText.{joined, text_of, ended}

onto-joined : (c : ℕ) (l : List ℕ) (f : List (List ℕ)) → 1 ≤ length f → joined f ≡ l → joined (onto c f) ≡ c ∷ l
unfolding onto joined
onto-joined c l [] h e = absurd (omega arith)
onto-joined c l (g ∷ []) h e = ap (λ (t : List ℕ). c ∷ t) e
onto-joined c l (g ∷ k ∷ f) h e = ap (λ (t : List ℕ). c ∷ t) e

tab-joined : (l : List ℕ) (f : List (List ℕ)) → 1 ≤ length f → joined f ≡ l → joined ([] ∷ f) ≡ 9 ∷ l
unfolding joined
tab-joined l [] h e = absurd (omega arith)
tab-joined l (g ∷ f) h e = ap (λ (t : List ℕ). 9 ∷ t) e

some-onto : (c : ℕ) (f : List (List ℕ)) → 1 ≤ length (onto c f)
unfolding onto
some-onto c [] = omega arith
some-onto c (g ∷ f) = omega arith

some-fields : (l : List ℕ) → 1 ≤ length (fields l)
unfolding fields pick
some-fields [] = omega arith
some-fields (c ∷ cs) = go (eqb c 9)
  where
    go : (x : Bool) → 1 ≤ length (pick x ([] ∷ fields cs) (onto c (fields cs)))
    go true = omega arith
    go false = some-onto c (fields cs)

joined-fields : (l : List ℕ) → joined (fields l) ≡ l
unfolding fields joined pick
joined-fields [] = refl
joined-fields (c ∷ cs) = go (eqb c 9) refl (joined-fields cs)
  where
    go : (x : Bool) → eqb c 9 ≡ x → joined (fields cs) ≡ cs → joined (pick x ([] ∷ fields cs) (onto c (fields cs))) ≡ c ∷ cs
    go true e q = tab-joined cs (fields cs) (some-fields cs) q ∙ ap (λ (n : ℕ). n ∷ cs) (sym (eqb-true c 9 e))
    go false e q = onto-joined c cs (fields cs) (some-fields cs) q

-- lines ended by newlines
unlines : List (List ℕ) → List ℕ
unlines [] = []
unlines (l ∷ ls) = l ++ (10 ∷ unlines ls)

text-lines : (ls : List (List ℕ)) → text_of (each_fields ls) ≡ unlines ls
unfolding text_of each_fields unlines
text-lines [] = refl
text-lines (l ∷ ls) = rw (joined-fields l, text-lines ls)

onto-lines : (c : ℕ) (L : List (List ℕ)) → 1 ≤ length L → unlines (onto c L) ≡ c ∷ unlines L
unfolding onto unlines
onto-lines c [] h = absurd (omega arith)
onto-lines c (l ∷ ls) h = refl

some-lines : (c : ℕ) (cs : List ℕ) → 1 ≤ length (lines (c ∷ cs))
unfolding lines pick
some-lines c cs = go (eqb c 10)
  where
    go : (x : Bool) → 1 ≤ length (pick x ([] ∷ lines cs) (onto c (lines cs)))
    go true = omega arith
    go false = some-onto c (lines cs)

ended-lines : (x : List ℕ) → unlines (lines x) ≡ ended x
unfolding lines ended unlines pick onto
ended-lines [] = refl
ended-lines (c ∷ []) = go (eqb c 10) refl
  where
    go : (x : Bool) → eqb c 10 ≡ x → unlines (pick x ([] ∷ []) ((c ∷ []) ∷ [])) ≡ pick x (c ∷ []) (c ∷ 10 ∷ [])
    go true e = ap (λ (n : ℕ). n ∷ []) (sym (eqb-true c 10 e))
    go false e = refl
ended-lines (c ∷ d ∷ cs) = go (eqb c 10) refl (lines (d ∷ cs)) (some-lines d cs) (ended-lines (d ∷ cs))
  where
    go : (x : Bool) → eqb c 10 ≡ x → (L : List (List ℕ)) → 1 ≤ length L → unlines L ≡ ended (d ∷ cs) → unlines (pick x ([] ∷ L) (onto c L)) ≡ c ∷ ended (d ∷ cs)
    go true e L h q = rw (q, eqb-true c 10 e)
    go false e L h q = onto-lines c L h ∙ ap (λ (t : List ℕ). c ∷ t) q

-- the rows of a text, joined again, are the text with its last newline
pub joined-rows : (x : List ℕ) → text_of (rows x) ≡ ended x
unfolding rows
joined-rows x = text-lines (lines x) ∙ ended-lines x

lines-ended : (x : List ℕ) → lines (ended x) ≡ lines x
unfolding lines ended pick onto
lines-ended [] = refl
lines-ended (c ∷ []) = go (eqb c 10) refl
  where
    go : (x : Bool) → eqb c 10 ≡ x → lines (pick x (c ∷ []) (c ∷ 10 ∷ [])) ≡ pick x ([] ∷ []) ((c ∷ []) ∷ [])
    go true e = rw e
    go false e = rw e
lines-ended (c ∷ d ∷ cs) = rw (lines-ended (d ∷ cs))

-- a missing last newline changes nothing
pub rows-ended : (x : List ℕ) → rows (ended x) ≡ rows x
unfolding rows
rows-ended x = ap each_fields (lines-ended x)
