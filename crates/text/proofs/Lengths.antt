-- No accepted text is longer than `longest`.
use mathlib.Core.Path.{◌≡◌, refl, ap}
use mathlib.Core.List.{List, [], ◌∷◌, ◌++◌, append-nil}
use mathlib.Core.Bool.{Bool, true, false}
use Prim.Native.Nat.{ℕ, suc, ◌+◌, ◌-◌, ◌*◌, ◌^◌, ◌≤◌, ◌<◌}
use native.Mathlib.Omega.{arith}
use lib.Dec.{eqb}
use lib.ListN.{length, get_or, length-append}
use Rattle.loops.specs.Loop.{pick}
use Rattle.std.specs.Prelude.{None}
use Rattle.text.specs.Number.{decimal}
use Rattle.text.specs.Name.{word_name, addr_name, node_name, kind_names}
use Rattle.text.specs.Plain.{Plain, plain_text}
use Rattle.text.specs.Plain.Plain.{plain}
use Rattle.text.specs.Read.{answer_of}
use Rattle.text.specs.TableText.{joined, text_of, ended, pair_row, addr_row, node_row, rows_of, table_rows, table_text, AddrRecord, NodeRecord, All, IsTable, longest}
use Rattle.text.proofs.Decimals.{decimal-length}
use Rattle.text.proofs.Names.{kind-short}
use Rattle.text.proofs.Accepted.{accepted}

ended-longer : (x : List ℕ) → length x ≤ length (ended x)
unfolding ended pick
ended-longer [] = omega arith
ended-longer (c ∷ []) = go (eqb c 10)
  where
    go : (b : Bool) → 1 ≤ length (pick b (c ∷ []) (c ∷ 10 ∷ []))
    go true = omega arith
    go false = omega arith
ended-longer (c ∷ d ∷ cs) = omega (arith, ended-longer (d ∷ cs))

pair-length : (name : List ℕ) (v : ℕ) → v < 2 ^ 64 → length (joined (pair_row name v)) ≤ length name + 21
unfolding joined pair_row
pair-length name v h = let d : length (decimal v) ≤ 20 = decimal-length 19 v (omega arith) in rw (length-append name (9 ∷ decimal v)) (omega arith)

addr-length : (i : ℕ) (r : List ℕ) → AddrRecord r → length (joined (addr_row i r)) ≤ 25
unfolding addr_row addr_name
addr-length i r a = omega (arith, pair-length addr_name (get_or r 0 0) a.1)

node-length : (i : ℕ) (r : List ℕ) → i < 2 ^ 64 → NodeRecord r → length (joined (node_row i r)) ≤ 138
unfolding joined node_row node_name
node-length i r h n =
    let d₁ : length (decimal i) ≤ 20 = decimal-length 19 i (omega arith) in
    let d₂ : length (get_or kind_names (get_or r 0 0 - 1) []) ≤ 7 = kind-short (get_or r 0 0 - 1) in
    let d₃ : length (decimal (get_or r 1 0)) ≤ 20 = decimal-length 19 (get_or r 1 0) (omega (arith, n.width)) in
    let d₄ : length (decimal (get_or r 2 0)) ≤ 20 = decimal-length 19 (get_or r 2 0) (omega (arith, n.a)) in
    let d₅ : length (decimal (get_or r 3 0)) ≤ 20 = decimal-length 19 (get_or r 3 0) (omega (arith, n.b)) in
    let d₆ : length (decimal (get_or r 4 0)) ≤ 20 = decimal-length 19 (get_or r 4 0) (omega (arith, n.c)) in
    let d₇ : length (decimal (get_or r 5 0)) ≤ 20 = decimal-length 19 (get_or r 5 0) (omega (arith, n.imm)) in
    simp length-append (omega arith)

module _ (line : ℕ → List ℕ → List (List ℕ)) (P : List ℕ → Type 0) (c top : ℕ) (short : (i : ℕ) (r : List ℕ) → i < top → P r → length (joined (line i r)) ≤ c) where
  rows-length : (i : ℕ) (ls : List (List ℕ)) (rs : List (List (List ℕ))) → i + length ls ≤ top → All P ls → length (text_of (rows_of line i ls ++ rs)) ≤ length ls * suc c + length (text_of rs)
  unfolding rows_of text_of
  rows-length i [] rs h a = omega arith
  rows-length i (r ∷ ls) rs h a =
      let p = short i r (omega arith) a.0 in
      let q = rows-length (suc i) ls rs (omega arith) a.1 in
      rw (length-append (joined (line i r)) (10 ∷ text_of (rows_of line (suc i) ls ++ rs))) (omega arith)

table-length : (j k w : ℕ) (xs ns : List (List ℕ)) → k < 2 ^ 64 - 1 → IsTable j k w xs ns → length (table_text w xs ns) ≤ longest j k
unfolding table_text table_rows text_of word_name
table-length j k w xs ns h t =
    let p = pair-length word_name w t.word in
    let a = rows-length addr_row AddrRecord 25 (1 + length xs) (λ i r l. addr-length i r) 1 xs (rows_of node_row 1 ns) (omega arith) t.addrs in
    let n = rows-length node_row NodeRecord 138 (2 ^ 64) (λ i r l. node-length i r l) 1 ns [] (omega (arith, t.some)) t.nodes in
    let m : length (text_of (rows_of node_row 1 ns)) ≤ length ns * 139 + 0 = rw (append-nil (rows_of node_row 1 ns)) at n in
    rw (length-append (joined (pair_row word_name w)) (10 ∷ text_of (rows_of addr_row 1 xs ++ rows_of node_row 1 ns))) (omega (arith, t.few, t.some))

-- a text that is longer is refused, whatever it is
pub too_long : (j k : ℕ) (x : List ℕ) → k < 2 ^ 64 - 1 → longest j k < length x → answer_of (plain_text j k x) ≡ None
unfolding answer_of
too_long j k x h l = go (plain_text j k x) refl
  where
    go : (p : Plain) → plain_text j k x ≡ p → answer_of p ≡ None
    go (plain false w xs ns) e = refl
    go (plain true w xs ns) e =
        let a = accepted j k x w xs ns e in
        let t = table-length j k w xs ns h a.1 in
        let q : length (ended x) ≡ length (table_text w xs ns) = ap length a.0 in
        absurd (omega (arith, ended-longer x))
