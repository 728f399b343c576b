-- Fields that hold no tab and no newline are found again where they were written.
use mathlib.Core.Path.{◌≡◌, refl, ap, ◌∙◌}
use mathlib.Core.List.{List, [], ◌∷◌, ◌++◌}
use mathlib.Core.Bool.{Bool, true, false, not, ◌&&◌}
use Prim.Native.Nat.{ℕ, zero, suc, ◌+◌, ◌/◌, ◌%◌, ◌≤◌, ◌<◌}
use native.Mathlib.Omega.{arith}
use native.Mathlib.Decide.{dec_lt}
use lib.Dec.{eqb}
use lib.ListN.{length, get_or}
use borrow.Author.Tests.{ne_eqb, not-true}
use Rattle.loops.specs.Loop.{pick}
use Rattle.loops.proofs.Loop.{both}
use Rattle.text.specs.Number.{digits, decimal}
use Rattle.text.specs.Rows.{onto, lines, fields, each_fields, rows}
use Rattle.text.specs.TableText.{joined, text_of}
use Rattle.text.proofs.Decimals.{small-digits, large-digits}

-- no byte b
abbrev pub Lacks : ℕ → List ℕ → Type 0
Lacks b [] = Unit {0}
Lacks b (c ∷ cs) = (eqb c b ≡ false) × Lacks b cs

abbrev pub Clean : List ℕ → Type 0
Clean s = Lacks 9 s × Lacks 10 s

-- as a test
unfoldable pub lacks : ℕ → List ℕ → Bool
lacks b [] = true
lacks b (c ∷ cs) = not (eqb c b) && lacks b cs

lacks-all : (b : ℕ) (s : List ℕ) → lacks b s ≡ true → Lacks b s
unfolding lacks
lacks-all b [] e = tt
lacks-all b (c ∷ cs) e = let p = both (not (eqb c b)) (lacks b cs) e in (not-true (eqb c b) p.0, lacks-all b cs p.1)

unfoldable pub cleans : List (List ℕ) → Bool
cleans [] = true
cleans (n ∷ ns) = (lacks 9 n && lacks 10 n) && cleans ns

pub clean_at : (ns : List (List ℕ)) → cleans ns ≡ true → (i : ℕ) → Clean (get_or ns i [])
unfolding cleans
clean_at [] e i = (tt, tt)
clean_at (n ∷ ns) e zero =
    let p = both (lacks 9 n && lacks 10 n) (cleans ns) e in
    let q = both (lacks 9 n) (lacks 10 n) p.0 in
    (lacks-all 9 n q.0, lacks-all 10 n q.1)
clean_at (n ∷ ns) e (suc i) = clean_at ns (both (lacks 9 n && lacks 10 n) (cleans ns) e).1 i

lacks-append : (b : ℕ) (s t : List ℕ) → Lacks b s → Lacks b t → Lacks b (s ++ t)
lacks-append b [] t h k = k
lacks-append b (c ∷ s) t h k = (h.0, lacks-append b s t h.1 k)

-- digits are neither tabs nor newlines
digits-lack : (b : ℕ) → b < 48 → (f n : ℕ) → Lacks b (digits f n)
unfolding digits
digits-lack b l zero n = tt
digits-lack b l (suc f) n = step b l f n (digits-lack b l f (n / 10)) (dec_lt n 10)
  where
    step : (b : ℕ) → b < 48 → (f n : ℕ) → Lacks b (digits f (n / 10)) → Dec (n < 10) → Lacks b (digits (suc f) n)
    step b l f n r (yes h) = rw (small-digits f n h) (ne_eqb (48 + n) b (λ e. omega arith), tt)
    step b l f n r (no h) =
        rw (large-digits f n (omega arith)) (lacks-append b (digits f (n / 10)) ((48 + n % 10) ∷ []) r (ne_eqb (48 + n % 10) b (λ e. omega arith), tt))

pub decimal-clean : (n : ℕ) → Clean (decimal n)
unfolding decimal
decimal-clean n = (digits-lack 9 (omega arith) (suc n) n, digits-lack 10 (omega arith) (suc n) n)

-- one field, and a field before others
field-alone : (f : List ℕ) → Lacks 9 f → fields f ≡ f ∷ []
unfolding fields pick onto
field-alone [] h = refl
field-alone (c ∷ f) h = rw (h.0, field-alone f h.1)

field-before : (f t : List ℕ) → Lacks 9 f → fields (f ++ (9 ∷ t)) ≡ f ∷ fields t
unfolding fields pick onto
field-before [] t h = refl
field-before (c ∷ f) t h = rw (h.0, field-before f t h.1)

line_before : (l t : List ℕ) → Lacks 10 l → lines (l ++ (10 ∷ t)) ≡ l ∷ lines t
unfolding lines pick onto
line_before [] t h = refl
line_before (c ∷ l) t h = rw (h.0, line_before l t h.1)

-- a row of clean fields, at least one
abbrev pub Fields : List (List ℕ) → Type 0
Fields [] = Unit {0}
Fields (f ∷ fs) = Clean f × Fields fs

fields-joined : (f : List ℕ) (fs : List (List ℕ)) → Fields (f ∷ fs) → fields (joined (f ∷ fs)) ≡ f ∷ fs
unfolding joined
fields-joined f [] h = field-alone f h.0.0
fields-joined f (g ∷ fs) h = field-before f (joined (g ∷ fs)) h.0.0 ∙ ap (λ (t : List (List ℕ)). f ∷ t) (fields-joined g fs h.1)

joined-lacks : (f : List ℕ) (fs : List (List ℕ)) → Fields (f ∷ fs) → Lacks 10 (joined (f ∷ fs))
unfolding joined
joined-lacks f [] h = h.0.1
joined-lacks f (g ∷ fs) h = lacks-append 10 f (9 ∷ joined (g ∷ fs)) h.0.1 (refl, joined-lacks g fs h.1)

abbrev pub Row : List (List ℕ) → Type 0
Row r = (1 ≤ length r) × Fields r

abbrev pub Rows : List (List (List ℕ)) → Type 0
Rows [] = Unit {0}
Rows (r ∷ rs) = Row r × Rows rs

row_first : (r : List (List ℕ)) (rs : List (List (List ℕ))) → Row r → rows (text_of (r ∷ rs)) ≡ r ∷ rows (text_of rs)
unfolding rows text_of each_fields
row_first [] rs h = absurd (omega (arith, h.0))
row_first (f ∷ fs) rs h = rw (line_before (joined (f ∷ fs)) (text_of rs) (joined-lacks f fs h.1), fields-joined f fs h.1)

-- rows that are written are found again
pub rows_written : (rs : List (List (List ℕ))) → Rows rs → rows (text_of rs) ≡ rs
unfolding text_of rows lines each_fields
rows_written [] h = refl
rows_written (r ∷ rs) h = row_first r rs h.0 ∙ ap (λ (t : List (List (List ℕ))). r ∷ t) (rows_written rs h.1)
