-- The whole text read.
use mathlib.Core.Path.{◌≡◌, refl, ap, sym, ◌∙◌}
use mathlib.Core.List.{List, [], ◌∷◌}
use mathlib.Core.Bool.{Bool, true, false}
use Prim.Native.Nat.{ℕ, ◌+◌, ◌-◌, ◌/◌, ◌≤◌, ◌<◌}
use native.Mathlib.Omega.{arith}
use lib.Dec.{leb}
use lib.ListN.{length, drop, length-drop}
use Rattle.text.specs.Over.{over}
use borrow.Author.Tests.{le-leb, lt-leb}
use Rattle.loops.specs.Loop.{pick}
use Rattle.std.specs.Prelude.{Option, Some, None}
use Rattle.text.specs.Rows.{rows, lines, each_fields}
use Rattle.text.specs.Name.{word_name}
use Rattle.text.specs.Plain.{is_pair, pair_of, is_addr, addr_of, is_node, node_of, lead, after_word, plain_rows, plain_text}
use Rattle.text.specs.Plain.Plain.{plain}
use Rattle.text.specs.Field.{pair_line}
use Rattle.text.specs.Read.{addr_size, node_size, flat, answer_of, stored_of, read_text}
use Rattle.text.specs.Read.Stored.{stored}
use Rattle.text.specs.Read.Filled.{filled}
use Rattle.text.proofs.Cuts.{row, rest, rows_split}
use Rattle.text.proofs.Pairs.{pair-row}
use Rattle.text.proofs.Fills.{some_parts, fill-first}
use Rattle.text.proofs.Readings.{Addrs, Nodes, addr-one, node-six}

no_word : (j k : ℕ) (x : List ℕ) → is_pair word_name (row x) ≡ false → plain_text j k x ≡ plain false 0 [] []
unfolding plain_text plain_rows rows lines each_fields pick
no_word j k [] e = refl
no_word j k (c ∷ cs) e = rw (rows_split c cs) (step (is_pair word_name (row (c ∷ cs))) e)
  where
    step : (b : Bool) → b ≡ false → pick b (after_word j k (pair_of (row (c ∷ cs))) (rows (rest (c ∷ cs)))) (plain false 0 [] []) ≡ plain false 0 [] []
    step b e = rw e

no_row : is_pair word_name (row []) ≡ false
unfolding is_pair row
no_row = refl

a_word : (j k : ℕ) (x : List ℕ) → is_pair word_name (row x) ≡ true → plain_text j k x ≡ after_word j k (pair_of (row x)) (rows (rest x))
unfolding plain_text plain_rows pick
a_word j k [] e = absurd (let f = no_row in let z : ◌≡◌ {A = ℕ} 0 1 = cc in omega arith)
a_word j k (c ∷ cs) e = rw (rows_split c cs, e)

-- whether a line is left
module _ (t : List ℕ) (rs : List (List (List ℕ))) (m n : ℕ) (e : rows t ≡ drop n (drop m rs)) where
  left : length (rows t) ≡ length rs - m - n
  left = ap length e ∙ length-drop n (drop m rs) ∙ ap (λ (k : ℕ). k - n) (length-drop m rs)

  some-rows : (s : List ℕ) → 0 < length s → 0 < length (rows s)
  some-rows [] h = absurd (omega arith)
  some-rows (c ∷ cs) h = rw (rows_split c cs) (omega arith)

  some_left : 0 < length t → leb (length rs) (m + n) ≡ false
  some_left h = lt-leb (length rs) (m + n) (omega (arith, left, some-rows t h))

  no-rows : (s : List ℕ) → length s ≤ 0 → length (rows s) ≡ 0
  unfolding rows lines each_fields
  no-rows [] h = refl
  no-rows (c ∷ cs) h = absurd (omega arith)

  none_left : length t ≤ 0 → leb (length rs) (m + n) ≡ true
  none_left h = le-leb (length rs) (m + n) (omega (arith, left, no-rows t h))

module _ (x a b : List ℕ) where
  word-bad : (o : Option (ℕ × List ℕ)) → pair_line word_name x ≡ o → o ≡ None → is_pair word_name (row x) ≡ false
  unfolding pick
  word-bad o e h = go (is_pair word_name (row x)) refl (sym (pair-row word_name x) ∙ e ∙ h)
    where
      go : (d : Bool) → is_pair word_name (row x) ≡ d → pick {A = Option (ℕ × List ℕ)} d (Some (pair_of (row x), rest x)) None ≡ None → is_pair word_name (row x) ≡ false
      go true t q = absurd (cc)
      go false t q = t

  pub read-no-word : pair_line word_name x ≡ None → stored None a b ≡ read_text x a b
  unfolding read_text stored_of answer_of flat
  read-no-word e = rw (no_word (length a / addr_size) (length b / node_size) x (word-bad None e refl))

  module _ (v : ℕ) (t : List ℕ) (e : pair_line word_name x ≡ Some (v, t)) (a' : List ℕ) (n : ℕ) (p : List ℕ) (b' : List ℕ) (m : ℕ) (q : List ℕ)
      (e₁ : filled a' n (rows p) ≡ Addrs a 0 (rows t)) (e₂ : filled b' m (rows q) ≡ Nodes b 0 (rows p)) where
    abbrev rs : List (List (List ℕ))
    rs = rows (rest x)

    abbrev xs : List (List ℕ)
    xs = lead is_addr addr_of (length a / addr_size) 1 rs

    abbrev ns : List (List ℕ)
    ns = lead is_node node_of (length b / node_size) 1 (drop (length xs) rs)

    word_is : (is_pair word_name (row x) ≡ true) × (v ≡ pair_of (row x)) × (t ≡ rest x)
    unfolding pick
    word_is = go (is_pair word_name (row x)) refl (sym (pair-row word_name x) ∙ e)
      where
        go : (d : Bool) → is_pair word_name (row x) ≡ d → pick {A = Option (ℕ × List ℕ)} d (Some (pair_of (row x), rest x)) None ≡ Some (v, t)
            → (is_pair word_name (row x) ≡ true) × (v ≡ pair_of (row x)) × (t ≡ rest x)
        go true g q = let h = some_parts (pair_of (row x), rest x) (v, t) q in (g, sym h.0, sym h.1)
        go false g q = absurd (cc)

    addrs-first : (a' ≡ over (flat xs) a) × (n ≡ length xs) × (rows p ≡ drop (length xs) rs)
    addrs-first = fill-first is_addr addr_of addr_size addr-one a a' n rs (rows p) (λ k h. omega arith) (rw word_is.2 at e₁)

    nodes-first : (b' ≡ over (flat ns) b) × (m ≡ length ns) × (rows q ≡ drop (length ns) (drop (length xs) rs))
    nodes-first = fill-first is_node node_of node_size node-six b b' m (drop (length xs) rs) (rows q) (λ k h. omega arith) (rw addrs-first.2 at e₂)

    whole : read_text x a b ≡ stored_of a b (plain (leb (length rs) (length xs + length ns)) (pair_of (row x)) xs ns)
    unfolding read_text after_word
    whole = ap (stored_of a b) (a_word (length a / addr_size) (length b / node_size) x word_is.0)

    pub read_left : 0 < length q → stored None a' b' ≡ read_text x a b
    unfolding stored_of answer_of
    read_left h =
        let s = some_left q rs (length xs) (length ns) nodes-first.2 h in
        rw (whole, s, addrs-first.0, nodes-first.0)

    pub read_all : length q ≤ 0 → stored (Some (record { word = v; addrs = n; nodes = m })) a' b' ≡ read_text x a b
    unfolding stored_of answer_of
    read_all h =
        let s = none_left q rs (length xs) (length ns) nodes-first.2 h in
        rw (whole, s, addrs-first.0, nodes-first.0, addrs-first.1, nodes-first.1, word_is.1)
