-- The text of a table, written: proofs/Accepted.antt has that the texts that `plain_text` accepts are these and no others.
use Rattle.std.specs.Prelude.{List, [], ◌∷◌, ◌++◌, ℕ, suc, ◌+◌, ◌-◌, ◌*◌, ◌^◌, ◌≤◌, ◌<◌, ◌≡◌, eqb, length, get_or}
use Rattle.loops.specs.Loop.{pick}
use Rattle.text.specs.Number.{decimal}
use Rattle.text.specs.Name.{word_name, addr_name, node_name, kind_names, kind_count}

-- fields parted by tabs
unfoldable pub joined : List (List ℕ) → List ℕ
joined [] = []
joined (f ∷ []) = f
joined (f ∷ g ∷ fs) = f ++ (9 ∷ joined (g ∷ fs))

-- lines ended by newlines
unfoldable pub text_of : List (List (List ℕ)) → List ℕ
text_of [] = []
text_of (r ∷ rs) = joined r ++ (10 ∷ text_of rs)

-- a name and a number
unfoldable pub pair_row : List ℕ → ℕ → List (List ℕ)
pair_row name v = name ∷ decimal v ∷ []

-- an address, of its record
unfoldable pub addr_row : ℕ → List ℕ → List (List ℕ)
addr_row i r = pair_row addr_name (get_or r 0 0)

-- node i, of its record: kind, width, a, b, c, imm
unfoldable pub node_row : ℕ → List ℕ → List (List ℕ)
node_row i r =
    node_name ∷ decimal i ∷ get_or kind_names (get_or r 0 0 - 1) [] ∷ decimal (get_or r 1 0) ∷ decimal (get_or r 2 0) ∷ decimal (get_or r 3 0)
    ∷ decimal (get_or r 4 0) ∷ decimal (get_or r 5 0) ∷ []

-- the lines of records, the first of which is number i
unfoldable pub rows_of : (ℕ → List ℕ → List (List ℕ)) → ℕ → List (List ℕ) → List (List (List ℕ))
rows_of line i [] = []
rows_of line i (r ∷ rs) = line i r ∷ rows_of line (suc i) rs

-- the word width, the addresses, the nodes
unfoldable pub table_rows : ℕ → List (List ℕ) → List (List ℕ) → List (List (List ℕ))
table_rows w xs ns = pair_row word_name w ∷ (rows_of addr_row 1 xs ++ rows_of node_row 1 ns)

unfoldable pub table_text : ℕ → List (List ℕ) → List (List ℕ) → List ℕ
table_text w xs ns = text_of (table_rows w xs ns)

-- a text with its last newline, where that is missing
unfoldable pub ended : List ℕ → List ℕ
ended [] = []
ended (c ∷ []) = pick (eqb c 10) (c ∷ []) (c ∷ 10 ∷ [])
ended (c ∷ d ∷ cs) = c ∷ ended (d ∷ cs)

-- records as they are read: an address below 2^64; a kind that has a name and five numbers below 2^64
abbrev pub AddrRecord : List ℕ → Type 0
AddrRecord r = (length r ≡ 1) × (get_or r 0 0 < 2 ^ 64)

pub record NodeRecord (r : List ℕ) : Type 0 where
  pub six : length r ≡ 6
  pub kind : (1 ≤ get_or r 0 0) × (get_or r 0 0 ≤ kind_count)
  pub width : get_or r 1 0 < 2 ^ 64
  pub a : get_or r 2 0 < 2 ^ 64
  pub b : get_or r 3 0 < 2 ^ 64
  pub c : get_or r 4 0 < 2 ^ 64
  pub imm : get_or r 5 0 < 2 ^ 64

abbrev pub All : (List ℕ → Type 0) → List (List ℕ) → Type 0
All P [] = Unit {0}
All P (r ∷ rs) = P r × All P rs

-- a word width, at most j addresses, at most k nodes
pub record IsTable (j k w : ℕ) (xs ns : List (List ℕ)) : Type 0 where
  pub word : w < 2 ^ 64
  pub few : length xs ≤ j
  pub addrs : All AddrRecord xs
  pub some : length ns ≤ k
  pub nodes : All NodeRecord ns

-- no text of at most j addresses and k nodes is longer: a line of a name and a number has at most 26 bytes, a node's line 139
abbrev pub longest : ℕ → ℕ → ℕ
longest j k = 26 + j * 26 + k * 139
