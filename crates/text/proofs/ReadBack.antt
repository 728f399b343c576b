-- A table that is written is read back.
use mathlib.Core.Path.{◌≡◌, refl, ap, sym, ◌∙◌}
use mathlib.Core.List.{List, [], ◌∷◌, ◌++◌, append-nil}
use mathlib.Core.Bool.{Bool, true}
use Prim.Native.Nat.{ℕ, zero, suc, ◌+◌, ◌-◌, ◌^◌, ◌≤◌, ◌<◌}
use native.Mathlib.Omega.{arith}
use lib.Dec.{leb}
use lib.ListN.{length, get_or, drop, length-append}
use lib.Seq.{drop-append_seam}
use borrow.Author.Tests.{eq-eqb, lt-ltb, le-leb}
use Rattle.loops.specs.Loop.{pick}
use Rattle.text.specs.Name.{word_name, addr_name, node_name, kind_names, kind_count}
use Rattle.text.specs.Rows.{rows}
use Rattle.text.specs.Plain.{number_at, kind_at, is_pair, pair_of, is_addr, addr_of, is_node, node_of, lead, after_word, plain_rows, plain_text}
use Rattle.text.specs.Plain.Plain.{plain}
use Rattle.text.specs.TableText.{ended, pair_row, addr_row, node_row, rows_of, table_rows, table_text, AddrRecord, NodeRecord, All, IsTable}
use Rattle.text.proofs.Names.{same_refl, kind-place}
use Rattle.text.proofs.Numbers.{number-decimal}
use Rattle.text.proofs.Joins.{rows-ended}
use Rattle.text.proofs.Fills.{lead-none, lead-bad, lead-more}
use Rattle.text.proofs.Clean.{Clean, lacks, cleans, clean_at, decimal-clean, Row, Rows, rows_written}

-- the rows of a table are clean
line-names-clean : cleans (word_name ∷ addr_name ∷ node_name ∷ []) ≡ true
unfolding cleans lacks word_name addr_name node_name
line-names-clean = refl

kind-names-clean : cleans kind_names ≡ true
unfolding cleans lacks kind_names
kind-names-clean = refl

name-clean : (i : ℕ) → Clean (get_or (word_name ∷ addr_name ∷ node_name ∷ []) i [])
name-clean i = clean_at (word_name ∷ addr_name ∷ node_name ∷ []) line-names-clean i

pair-clean : (name : List ℕ) (v : ℕ) → Clean name → Row (pair_row name v)
unfolding pair_row
pair-clean name v h = (omega arith, (h, (decimal-clean v, tt)))

addr-clean : (i : ℕ) (r : List ℕ) → Row (addr_row i r)
unfolding addr_row
addr-clean i r = pair-clean addr_name (get_or r 0 0) (name-clean 1)

node-clean : (i : ℕ) (r : List ℕ) → Row (node_row i r)
unfolding node_row
node-clean i r = (
  omega arith,
  (name-clean 2, (decimal-clean i, (clean_at kind_names kind-names-clean (get_or r 0 0 - 1), (decimal-clean (get_or r 1 0), (decimal-clean (get_or r 2 0), (decimal-clean (get_or r 3 0), (decimal-clean (get_or r 4 0), (decimal-clean (get_or r 5 0), tt)))))))),
)

rows-clean : (line : ℕ → List ℕ → List (List ℕ)) → ((i : ℕ) (r : List ℕ) → Row (line i r)) → (i : ℕ) (ls : List (List ℕ)) (rs : List (List (List ℕ))) → Rows rs → Rows (rows_of line i ls ++ rs)
unfolding rows_of
rows-clean line c i [] rs h = h
rows-clean line c i (r ∷ ls) rs h = (c i r, rows-clean line c (suc i) ls rs h)

table-clean : (w : ℕ) (xs ns : List (List ℕ)) → Rows (table_rows w xs ns)
unfolding table_rows
table-clean w xs ns = (
  pair-clean word_name w (name-clean 0),
  rows-clean addr_row addr-clean 1 xs (rows_of node_row 1 ns) (rw (append-nil (rows_of node_row 1 ns)) at (rows-clean node_row node-clean 1 ns [] tt)),
)

-- each is a line of its kind, with its record
pair-back : (name : List ℕ) (v : ℕ) → v < 2 ^ 64 → (is_pair name (pair_row name v) ≡ true) × (pair_of (pair_row name v) ≡ v)
unfolding is_pair pair_of pair_row number_at
pair-back name v h = (rw (same_refl name, number-decimal v h), rw (number-decimal v h))

one : (r : List ℕ) → length r ≡ 1 → get_or r 0 0 ∷ [] ≡ r
one [] e = absurd (omega arith)
one (a ∷ []) e = refl
one (a ∷ b ∷ r) e = absurd (omega arith)

six : (r : List ℕ) → length r ≡ 6 → get_or r 0 0 ∷ get_or r 1 0 ∷ get_or r 2 0 ∷ get_or r 3 0 ∷ get_or r 4 0 ∷ get_or r 5 0 ∷ [] ≡ r
six [] e = absurd (omega arith)
six (a ∷ []) e = absurd (omega arith)
six (a ∷ b ∷ []) e = absurd (omega arith)
six (a ∷ b ∷ c ∷ []) e = absurd (omega arith)
six (a ∷ b ∷ c ∷ d ∷ []) e = absurd (omega arith)
six (a ∷ b ∷ c ∷ d ∷ f ∷ []) e = absurd (omega arith)
six (a ∷ b ∷ c ∷ d ∷ f ∷ g ∷ []) e = refl
six (a ∷ b ∷ c ∷ d ∷ f ∷ g ∷ h ∷ r) e = absurd (omega arith)

addr_back : (i : ℕ) (r : List ℕ) → AddrRecord r → (is_addr i (addr_row i r) ≡ true) × (addr_of (addr_row i r) ≡ r)
unfolding is_addr addr_of addr_row
addr_back i r h = let p = pair-back addr_name (get_or r 0 0) h.1 in (p.0, ap (λ (v : ℕ). v ∷ []) p.1 ∙ one r h.0)

node-back : (i : ℕ) (r : List ℕ) → i < 2 ^ 64 → NodeRecord r → (is_node i (node_row i r) ≡ true) × (node_of (node_row i r) ≡ r)
unfolding is_node node_of node_row number_at kind_at
node-back i r l n =
    let k : get_or r 0 0 - 1 < kind_count = omega (arith, n.kind.0, n.kind.1) in
    let p = kind-place (get_or r 0 0 - 1) k in
    let z : get_or r 0 0 - 1 + 1 ≡ get_or r 0 0 = omega (arith, n.kind.0) in (
      rw (same_refl node_name, number-decimal i l, eq-eqb i i refl, p, lt-ltb (get_or r 0 0 - 1) kind_count k, number-decimal (get_or r 1 0) n.width, number-decimal (get_or r 2 0) n.a, number-decimal (get_or r 3 0) n.b, number-decimal (get_or r 4 0) n.c, number-decimal (get_or r 5 0) n.imm),
      rw (p, z, number-decimal (get_or r 1 0) n.width, number-decimal (get_or r 2 0) n.a, number-decimal (get_or r 3 0) n.b, number-decimal (get_or r 4 0) n.c, number-decimal (get_or r 5 0) n.imm) (six r n.six),
    )

-- the leading lines are found again
module _ (good : ℕ → List (List ℕ) → Bool) (of : List (List ℕ) → List ℕ) (line : ℕ → List ℕ → List (List ℕ)) (P : List ℕ → Type 0) (top : ℕ)
    (back : (i : ℕ) (r : List ℕ) → i < top → P r → (good i (line i r) ≡ true) × (of (line i r) ≡ r)) (rs : List (List (List ℕ))) (stop : (j i : ℕ) → lead good of j i rs ≡ []) where
  lead-back : (j i : ℕ) (ls : List (List ℕ)) → length ls ≤ j → i + length ls ≤ top → All P ls → lead good of j i (rows_of line i ls ++ rs) ≡ ls
  unfolding rows_of
  lead-back j i [] h t a = stop j i
  lead-back zero i (r ∷ ls) h t a = absurd (omega arith)
  lead-back (suc j) i (r ∷ ls) h t a =
      let b = back i r (omega arith) a.0 in
      let m = lead-back j (suc i) ls (omega arith) (omega arith) a.1 in
      lead-more good of (suc j) j i (line i r) (rows_of line (suc i) ls ++ rs) refl b.0 ∙ rw (b.1, m)

rows-count : (line : ℕ → List ℕ → List (List ℕ)) (i : ℕ) (ls : List (List ℕ)) → length (rows_of line i ls) ≡ length ls
unfolding rows_of
rows-count line i [] = refl
rows-count line i (r ∷ ls) = ap suc (rows-count line (suc i) ls)

-- no node's line is an address
node-no-addr : (ns : List (List ℕ)) (n j i : ℕ) → lead is_addr addr_of j i (rows_of node_row n ns) ≡ []
unfolding rows_of is_addr is_pair node_row
node-no-addr [] n j i = lead-none is_addr addr_of j i
node-no-addr (r ∷ ns) n j i = lead-bad is_addr addr_of j i (node_row n r) (rows_of node_row (suc n) ns) refl

module _ (j k w : ℕ) (xs ns : List (List ℕ)) (h : k < 2 ^ 64 - 1) (t : IsTable j k w xs ns) where
  abbrev rs : List (List (List ℕ))
  rs = rows_of addr_row 1 xs ++ rows_of node_row 1 ns

  addrs-back : lead is_addr addr_of j 1 rs ≡ xs
  addrs-back = lead-back is_addr addr_of addr_row AddrRecord (1 + length xs) (λ i r l. addr_back i r) (rows_of node_row 1 ns) (node-no-addr ns 1) j 1 xs t.few (omega arith) t.addrs

  nodes-back : lead is_node node_of k 1 (rows_of node_row 1 ns) ≡ ns
  nodes-back =
      rw (append-nil (rows_of node_row 1 ns)) at
      (lead-back is_node node_of node_row NodeRecord (2 ^ 64) (λ i r l. node-back i r l) [] (lead-none is_node node_of) k 1 ns t.some (omega (arith, t.some)) t.nodes)

  rest_back : drop (length xs) rs ≡ rows_of node_row 1 ns
  rest_back = rw (rows-count addr_row 1 xs) at (drop-append_seam (rows_of addr_row 1 xs) (rows_of node_row 1 ns))

  all-used : leb (length rs) (length xs + length ns) ≡ true
  all-used = le-leb (length rs) (length xs + length ns) (rw (length-append (rows_of addr_row 1 xs) (rows_of node_row 1 ns), rows-count addr_row 1 xs, rows-count node_row 1 ns) (omega arith))

  rows_back : plain_rows j k (table_rows w xs ns) ≡ plain true w xs ns
  unfolding plain_rows table_rows after_word pick
  rows_back = let p = pair-back word_name w t.word in rw (p.0, p.1, addrs-back, rest_back, nodes-back, all-used)

  -- the text of a table is accepted as that table, with or without its last newline
  pub read_back : (x : List ℕ) → ended x ≡ table_text w xs ns → plain_text j k x ≡ plain true w xs ns
  unfolding plain_text table_text
  read_back x e =
      let q : rows x ≡ table_rows w xs ns = sym (rows-ended x) ∙ ap rows e ∙ rows_written (table_rows w xs ns) (table-clean w xs ns) in
      rw q rows_back
