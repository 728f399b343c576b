-- The text of a table, as document 01's "The program" has it: "tab-parted lines"; "one `word`, first; `addr` lines, each with one address, follow
-- it"; "nodes come in order from 1, kinds by the names above". `rows` are a text's lines, each cut into its fields; the last line's newline
-- may be missing. An empty line has one field, which is no name; carriage returns and blanks are bytes like others. So each is refused.
use Rattle.std.specs.Prelude.{List, [], ◌∷◌, Bool, false, ◌&&◌, ℕ, zero, suc, ◌+◌, Option, eqb, ltb, leb, length, get_or, drop}
use Rattle.loops.specs.Loop.{pick}
use Rattle.text.specs.Number.{number, valid, value}
use Rattle.text.specs.Name.{same, word_name, addr_name, node_name, kind_count, place_of}
use Rattle.text.specs.Rows.{rows}

unfoldable pub number_at : List (List ℕ) → ℕ → Option ℕ
number_at row k = number (get_or row k [])

unfoldable pub kind_at : List (List ℕ) → ℕ → ℕ
kind_at row k = place_of (get_or row k [])

-- a line of a name and one number
unfoldable pub is_pair : List ℕ → List (List ℕ) → Bool
is_pair name row = eqb (length row) 2 && same name (get_or row 0 []) && valid (number_at row 1)

unfoldable pub pair_of : List (List ℕ) → ℕ
pair_of row = value (number_at row 1)

-- an address line; its record is the address
unfoldable pub is_addr : ℕ → List (List ℕ) → Bool
is_addr i row = is_pair addr_name row

unfoldable pub addr_of : List (List ℕ) → List ℕ
addr_of row = pair_of row ∷ []

-- the line of node i: its number, its kind's name, width, a, b, c, imm
unfoldable pub is_node : ℕ → List (List ℕ) → Bool
is_node i row =
    eqb (length row) 8 && same node_name (get_or row 0 []) && valid (number_at row 1) && eqb (value (number_at row 1)) i
    && ltb (kind_at row 2) kind_count && valid (number_at row 3) && valid (number_at row 4) && valid (number_at row 5)
    && valid (number_at row 6) && valid (number_at row 7)

-- its record: kind, width, a, b, c, imm
unfoldable pub node_of : List (List ℕ) → List ℕ
node_of row =
    (kind_at row 2 + 1) ∷ value (number_at row 3) ∷ value (number_at row 4) ∷ value (number_at row 5)
    ∷ value (number_at row 6) ∷ value (number_at row 7) ∷ []

-- the records of the leading lines that are good, at most j of them; i is the first one's number
unfoldable pub lead : (ℕ → List (List ℕ) → Bool) → (List (List ℕ) → List ℕ) → ℕ → ℕ → List (List (List ℕ)) → List (List ℕ)
lead good of zero i rs = []
lead good of (suc j) i [] = []
lead good of (suc j) i (r ∷ rs) = pick (good i r) (of r ∷ lead good of j (suc i) rs) []

-- whether the text is a table's; the word width, the addresses' records, the nodes' records
pub data Plain : Type 0 where
  plain : Bool → ℕ → List (List ℕ) → List (List ℕ) → Plain

-- the address lines, then the node lines, and no line is left
unfoldable pub after_word : ℕ → ℕ → ℕ → List (List (List ℕ)) → Plain
after_word j k w rs =
    let xs : List (List ℕ) = lead is_addr addr_of j 1 rs in
    let ns : List (List ℕ) = lead is_node node_of k 1 (drop (length xs) rs) in
    plain (leb (length rs) (length xs + length ns)) w xs ns

unfoldable pub plain_rows : ℕ → ℕ → List (List (List ℕ)) → Plain
plain_rows j k [] = plain false 0 [] []
plain_rows j k (r ∷ rs) = pick (is_pair word_name r) (after_word j k (pair_of r) rs) (plain false 0 [] [])

-- a text of at most j addresses and k nodes
unfoldable pub plain_text : ℕ → ℕ → List ℕ → Plain
plain_text j k x = plain_rows j k (rows x)
