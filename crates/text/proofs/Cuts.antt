-- A text's first line, cut into its fields one after the other.
use mathlib.Core.Path.{◌≡◌, refl}
use mathlib.Core.List.{List, [], ◌∷◌}
use mathlib.Core.Bool.{Bool, true, false}
use Prim.Native.Nat.{ℕ, suc, ◌≤◌}
use native.Mathlib.Omega.{arith}
use lib.Dec.{eqb}
use lib.ListN.{length, take, drop}
use borrow.Author.Tests.{eqb-true}
use Rattle.std.specs.Prelude.{Some, None}
use Rattle.loops.specs.Loop.{pick}
use Rattle.text.specs.Rows.{onto, lines, fields, each_fields, rows}
use Rattle.text.specs.Field.{parts, span, if_tab, if_end, inner, last}

-- of a text: the first field, whether a tab follows it, and what follows that
unfoldable pub field : List ℕ → List ℕ
field s = take (span s) s

unfoldable pub tabbed : List ℕ → Bool
tabbed [] = false
tabbed (c ∷ cs) = pick (parts c) (eqb c 9) (tabbed cs)

unfoldable pub after : List ℕ → List ℕ
after [] = []
after (c ∷ cs) = pick (parts c) cs (after cs)

-- the fields of the first line, and what follows the line
unfoldable pub row : List ℕ → List (List ℕ)
row [] = [] ∷ []
row (c ∷ cs) = pick (eqb c 10) ([] ∷ []) (pick (eqb c 9) ([] ∷ row cs) (onto c (row cs)))

unfoldable pub rest : List ℕ → List ℕ
rest [] = []
rest (c ∷ cs) = pick (eqb c 10) cs (rest cs)

onto-row : (c : ℕ) (L : List (List ℕ)) (R : List (List ℕ)) (RS : List (List (List ℕ))) → each_fields L ≡ R ∷ RS → each_fields (onto c L) ≡ pick (eqb c 9) ([] ∷ R) (onto c R) ∷ RS
unfolding each_fields onto fields
onto-row c [] R RS e = absurd (let z : ◌≡◌ {A = ℕ} 0 1 = cc in omega arith)
onto-row c (l ∷ ls) R RS e =
    let p : fields l ≡ R = cc in
    let q : each_fields ls ≡ RS = cc in
    rw (p, q)

split-last : (c : ℕ) (x : Bool) → each_fields (pick x ([] ∷ []) (onto c [])) ≡ pick x ([] ∷ []) (pick (eqb c 9) ([] ∷ row []) (onto c (row []))) ∷ rows (pick x [] (rest []))
unfolding rows lines row rest each_fields fields onto pick
split-last c true = refl
split-last c false = refl

split_step : (c : ℕ) (s : List ℕ) (x : Bool) → rows s ≡ row s ∷ rows (rest s) → each_fields (pick x ([] ∷ lines s) (onto c (lines s))) ≡ pick x ([] ∷ []) (pick (eqb c 9) ([] ∷ row s) (onto c (row s))) ∷ rows (pick x s (rest s))
unfolding rows each_fields fields pick
split_step c s true e = refl
split_step c s false e = onto-row c (lines s) (row s) (rows (rest s)) e

-- the rows of a text are those of its first line and of what follows
pub rows_split : (c : ℕ) (cs : List ℕ) → rows (c ∷ cs) ≡ row (c ∷ cs) ∷ rows (rest (c ∷ cs))
unfolding rows lines row rest
rows_split c [] = split-last c (eqb c 10)
rows_split c (d ∷ cs) = split_step c (d ∷ cs) (eqb c 10) (rows_split d cs)

-- a field, and the fields after it
not-both : (c : ℕ) → eqb c 9 ≡ true → eqb c 10 ≡ true → ⊥
not-both c p q = let a = eqb-true c 9 p in let b = eqb-true c 10 q in omega arith

abbrev Cut : List ℕ → Type 0
Cut s = (row s ≡ field s ∷ pick (tabbed s) (row (after s)) []) × (rest s ≡ pick (tabbed s) (rest (after s)) (after s))

cut_step : (c : ℕ) (cs : List ℕ) (x y : Bool) → eqb c 9 ≡ x → eqb c 10 ≡ y → Cut cs → Cut (c ∷ cs)
unfolding row rest field span tabbed after parts pick onto
cut_step c cs true true p q h = absurd (not-both c p q)
cut_step c cs true false p q h = rw (p, q) (refl, refl)
cut_step c cs false true p q h = rw (p, q) (refl, refl)
cut_step c cs false false p q h = rw (p, q, h.0) (refl, h.1)

cut : (s : List ℕ) → Cut s
unfolding row rest field span tabbed after pick
cut [] = (refl, refl)
cut (c ∷ cs) = cut_step c cs (eqb c 9) (eqb c 10) refl refl (cut cs)

module _ (s : List ℕ) where
  pub row-tab : tabbed s ≡ true → (row s ≡ field s ∷ row (after s)) × (rest s ≡ rest (after s))
  unfolding pick
  row-tab t = (rw t at (cut s).0, rw t at (cut s).1)

  pub row-end : tabbed s ≡ false → (row s ≡ field s ∷ []) × (rest s ≡ after s)
  unfolding pick
  row-end t = (rw t at (cut s).0, rw t at (cut s).1)

  row-long : (x : Bool) → tabbed s ≡ x → (k : ℕ) → length (row s) ≡ suc (suc k) → (tabbed s ≡ true) × (length (row (after s)) ≡ suc k)
  row-long true t k e = (t, let q = rw (row-tab t).0 at e in omega arith)
  row-long false t k e = absurd (let q = rw (row-end t).0 at e in omega arith)

  -- a line of one field more
  pub row_more : (k : ℕ) → length (row s) ≡ suc (suc k) → (tabbed s ≡ true) × (length (row (after s)) ≡ suc k)
  row_more k e = row-long (tabbed s) refl k e

  row-short : (x : Bool) → tabbed s ≡ x → 1 ≤ length (row (after s)) → length (row s) ≡ 1 → tabbed s ≡ false
  row-short true t h e = absurd (let q = rw (row-tab t).0 at e in omega arith)
  row-short false t h e = t

row-some : (s : List ℕ) → 1 ≤ length (row s)
row-some s = rw (cut s).0 (omega arith)

-- a line of one field
pub row_one : (s : List ℕ) → length (row s) ≡ 1 → tabbed s ≡ false
row_one s e = row-short s (tabbed s) refl (row-some (after s)) e

-- what the code finds: a field that a tab follows, and a line's last field
tab-after : (f s : List ℕ) → if_tab f (drop (span s) s) ≡ pick (tabbed s) (Some (f, after s)) None
unfolding if_tab span tabbed after pick
tab-after f [] = refl
tab-after f (c ∷ cs) = go (parts c) (tab-after f cs)
  where
    go : (x : Bool) → if_tab f (drop (span cs) cs) ≡ pick (tabbed cs) (Some (f, after cs)) None
        → if_tab f (drop (pick x 0 (suc (span cs))) (c ∷ cs)) ≡ pick (pick x (eqb c 9) (tabbed cs)) (Some (f, pick x cs (after cs))) None
    go true e = refl
    go false e = e

end-after : (f s : List ℕ) → if_end f (drop (span s) s) ≡ pick (tabbed s) None (Some (f, after s))
unfolding if_end span tabbed after pick
end-after f [] = refl
end-after f (c ∷ cs) = go (parts c) (end-after f cs)
  where
    go : (x : Bool) → if_end f (drop (span cs) cs) ≡ pick (tabbed cs) None (Some (f, after cs))
        → if_end f (drop (pick x 0 (suc (span cs))) (c ∷ cs)) ≡ pick (pick x (eqb c 9) (tabbed cs)) None (Some (f, pick x cs (after cs)))
    go true e = refl
    go false e = e

pub inner-is : (s : List ℕ) → inner s ≡ pick (tabbed s) (Some (field s, after s)) None
unfolding inner field
inner-is s = tab-after (take (span s) s) s

pub last-is : (s : List ℕ) → last s ≡ pick (tabbed s) None (Some (field s, after s))
unfolding last field
last-is s = end-after (take (span s) s) s
