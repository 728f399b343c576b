-- What the code that takes a text apart field by field comes to.
use mathlib.Core.Path.{◌≡◌, refl, ap, sym, ◌∙◌}
use mathlib.Core.List.{List, [], ◌∷◌}
use mathlib.Core.Bool.{Bool, true, false, ◌&&◌}
use Prim.Native.Nat.{ℕ, suc, ◌+◌, ◌-◌, ◌≤◌, ◌<◌}
use native.Mathlib.Omega.{arith}
use native.Mathlib.Numerals.{add-one}
use lib.Dec.{eqb}
use lib.ListN.{length, get_or, take, drop}
use lib.Seq.{take_all}
use denote.Ref.{Bor}
use borrow.Author.Tests.{eq-eqb, ne_eqb}
use Rattle.std.specs.Prelude.{Option, Some, None, option_map, option_and_then}
use Rattle.std.specs.Option.{MatchOption, unwrap_or}
use Rattle.std.specs.List.{AllWithin, HoldsAt}
use Rattle.std.proofs.lemmas.Iterator.{index_from_first}
use Rattle.std.specs.Cmp.Lexicographic.{pointwise}
use Rattle.loops.specs.Loop.{pick}
use Rattle.loops.proofs.Loop.{both}
use Rattle.text.specs.declared.line.Node.{Node}
use Rattle.text.specs.Name.{same, node_name}
use Rattle.text.specs.Field.{parts, span, if_tab, if_end, inner, last, name_field, valued, last_number, number_field, pair_line}
use Rattle.text.specs.NodeLine.{numbers_of, node_fields, node_line}

-- the first byte that parts
span-hit : (c : ℕ) (cs : List ℕ) → parts c ≡ true → span (c ∷ cs) ≡ 0
unfolding span pick
span-hit c cs e = rw e

span-miss : (c : ℕ) (cs : List ℕ) → parts c ≡ false → span (c ∷ cs) ≡ span cs + 1
unfolding span pick
span-miss c cs e = rw (e, add-one)

pub span-is : (s : List ℕ) (r : Option ℕ)
    → MatchOption r (AllWithin (λ b. parts b ≡ false) s 0 (length s)) (λ i. (i < length s) × HoldsAt (λ b. parts b ≡ true) s i × AllWithin (λ b. parts b ≡ false) s 0 i)
    → unwrap_or r (length s) ≡ span s
unfolding span
span-is s r h = sym (index_from_first span (λ b. parts b ≡ true) (λ b. parts b ≡ false) refl span-hit span-miss s r h)

-- the head of what is behind a field
module _ (f : List ℕ) where
  pub tab-head : (r next : List ℕ) → pointwise eqb (take 1 r) (9 ∷ []) ≡ true → next ≡ drop 1 r → Some (f, next) ≡ if_tab f r
  unfolding if_tab pick
  tab-head [] next h e = absurd (let z : ◌≡◌ {A = ℕ} 0 1 = cc in omega arith)
  tab-head (c ∷ cs) next h e = rw ((both (eqb c 9) true h).0, e)

  pub no_tab : (r : List ℕ) → pointwise eqb (take 1 r) (9 ∷ []) ≡ false → None ≡ if_tab f r
  unfolding if_tab pick
  no_tab [] h = refl
  no_tab (c ∷ cs) h = go (eqb c 9) h
    where
      go : (b : Bool) → (b && true) ≡ false → ◌≡◌ {A = Option (List ℕ × List ℕ)} None (pick b (Some (f, cs)) None)
      go true e = absurd (let z : ◌≡◌ {A = ℕ} 0 1 = cc in omega arith)
      go false e = refl

  pub end-none : (r : List ℕ) → length r ≤ 0 → Some (f, r) ≡ if_end f r
  unfolding if_end
  end-none [] h = refl
  end-none (c ∷ cs) h = absurd (omega arith)

  pub end-tab : (r : List ℕ) → 1 ≤ length r → get_or r 0 0 ≡ 9 → None ≡ if_end f r
  unfolding if_end pick
  end-tab [] h e = absurd (omega arith)
  end-tab (c ∷ cs) h e = rw (eq-eqb c 9 e)

  pub end-line : (r : List ℕ) → 1 ≤ length r → (get_or r 0 0 ≡ 9 → ⊥) → Some (f, take (length r - 1) (drop 1 r)) ≡ if_end f r
  unfolding if_end pick
  end-line [] h e = absurd (omega arith)
  end-line (c ∷ cs) h e = let z : suc (length cs) - 1 ≡ length cs = omega arith in rw (ne_eqb c 9 e, z, take_all (length cs) cs (omega arith))

module _ (s : List ℕ) (n : ℕ) (e : n ≡ span s) (f r : List ℕ) (p : f ≡ take n s) (q : r ≡ drop n s) (x : Option (List ℕ × List ℕ)) where
  pub inner_by : x ≡ if_tab f r → x ≡ inner s
  unfolding inner
  inner_by h = rw (← e, ← p, ← q) h

  pub last_by : x ≡ if_end f r → x ≡ last s
  unfolding last
  last_by h = rw (← e, ← p, ← q) h

-- what is known of lent parts
abbrev pub Parted : Type 0
Parted = Option (Bor (List ℕ) × Bor (List ℕ))

abbrev pub parted : Parted → Option (List ℕ × List ℕ)
parted o = option_map (λ (p : Bor (List ℕ) × Bor (List ℕ)). (p.0.now, p.1.now)) o

abbrev pub Valued : Type 0
Valued = Option (ℕ × Bor (List ℕ))

abbrev pub counted : Valued → Option (ℕ × List ℕ)
counted o = option_map (λ (p : ℕ × Bor (List ℕ)). (p.0, p.1.now)) o

abbrev pub rested : Option (Bor (List ℕ)) → Option (List ℕ)
rested o = option_map (λ (r : Bor (List ℕ)). r.now) o

abbrev pub recorded : Option (Node × Bor (List ℕ)) → Option (List ℕ × List ℕ)
recorded o = option_map (λ (p : Node × Bor (List ℕ)). (numbers_of p.0, p.1.now)) o

-- `?` after such a call: what its definition gives
pub rest-none : (o : Option (Bor (List ℕ))) (y : Option (List ℕ)) → rested o ≡ y → o ≡ None → y ≡ None
rest-none o y e h = sym e ∙ ap rested h

pub rest-some : (o : Option (Bor (List ℕ))) (y : Option (List ℕ)) (r : Bor (List ℕ)) → rested o ≡ y → o ≡ Some r → y ≡ Some r.now
rest-some o y r e h = sym e ∙ ap rested h

pub count-none : (o : Valued) (y : Option (ℕ × List ℕ)) → counted o ≡ y → o ≡ None → y ≡ None
count-none o y e h = sym e ∙ ap counted h

pub count-some : (o : Valued) (y : Option (ℕ × List ℕ)) (v : ℕ) (r : Bor (List ℕ)) → counted o ≡ y → o ≡ Some (v, r) → y ≡ Some (v, r.now)
count-some o y v r e h = sym e ∙ ap counted h

module _ (o : Parted) (y : Option (List ℕ × List ℕ)) (e : parted o ≡ y) where
  pub valued-none : (of : List ℕ → Option ℕ) → o ≡ None → None ≡ valued of y
  valued-none of h = ap (valued of) (sym (ap parted h) ∙ e)

  pub named-none : (name : List ℕ) → o ≡ None → None ≡ option_and_then (λ (p : List ℕ × List ℕ). pick (same p.0 name) (Some p.1) None) y
  named-none name h = let q : y ≡ None = sym e ∙ ap parted h in rw q

  module _ (f r : Bor (List ℕ)) (h : o ≡ Some (f, r)) where
    found : y ≡ Some (f.now, r.now)
    found = sym e ∙ ap parted h

    pub valued-stops : (of : List ℕ → Option ℕ) (v : Option ℕ) → v ≡ of f.now → v ≡ None → None ≡ valued of y
    valued-stops of v g k = let q : of f.now ≡ None = sym g ∙ k in rw (found, q)

    pub valued-some : (of : List ℕ → Option ℕ) (v : Option ℕ) (n : ℕ) → v ≡ of f.now → v ≡ Some n → Some (n, r.now) ≡ valued of y
    valued-some of v n g k = let q : of f.now ≡ Some n = sym g ∙ k in rw (found, q)

    pub named-some : (name : List ℕ) → same f.now name ≡ true → Some r.now ≡ option_and_then (λ (p : List ℕ × List ℕ). pick (same p.0 name) (Some p.1) None) y
    unfolding pick
    named-some name g = rw (found, g)

    pub named-other : (name : List ℕ) → same f.now name ≡ false → None ≡ option_and_then (λ (p : List ℕ × List ℕ). pick (same p.0 name) (Some p.1) None) y
    unfolding pick
    named-other name g = rw (found, g)

-- a line of a name and a number
module _ (name s : List ℕ) where
  pub pair-none : name_field name s ≡ None → None ≡ pair_line name s
  unfolding pair_line
  pair-none e = rw e

  pub pair-some : (r : List ℕ) (x : Option (ℕ × List ℕ)) → name_field name s ≡ Some r → x ≡ last_number r → x ≡ pair_line name s
  unfolding pair_line
  pair-some r x e h = rw e h

-- a node's line
module _ (i : ℕ) (s : List ℕ) where
  pub node-none : name_field node_name s ≡ None → None ≡ node_line i s
  unfolding node_line
  node-none e = rw e

  module _ (r : List ℕ) (e : name_field node_name s ≡ Some r) where
    pub number-none : number_field r ≡ None → None ≡ node_line i s
    unfolding node_line
    number-none h = rw (e, h)

    module _ (n : ℕ) (t : List ℕ) (h : number_field r ≡ Some (n, t)) where
      pub node-other : (n ≡ i → ⊥) → None ≡ node_line i s
      unfolding node_line pick
      node-other q = rw (e, h, ne_eqb n i q)

      pub node-whole : n ≡ i → (x : Option (List ℕ × List ℕ)) → x ≡ node_fields t → x ≡ node_line i s
      unfolding node_line pick
      node-whole q x k = rw (e, h, eq-eqb n i q) k

pub record-none : (o : Option (Node × Bor (List ℕ))) (y : Option (List ℕ × List ℕ)) → recorded o ≡ y → o ≡ None → y ≡ None
record-none o y e h = sym e ∙ ap recorded h

pub record-some : (o : Option (Node × Bor (List ℕ))) (y : Option (List ℕ × List ℕ)) (m : Node) (r : Bor (List ℕ)) → recorded o ≡ y → o ≡ Some (m, r) → y ≡ Some (numbers_of m, r.now)
record-some o y m r e h = sym e ∙ ap recorded h
