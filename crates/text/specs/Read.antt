-- A table's text read into two lent buffers: `plain_text`, stored.
use Rattle.std.specs.Prelude.{List, [], ◌∷◌, ◌++◌, Bool, true, false, ℕ, ◌+◌, ◌-◌, ◌*◌, ◌/◌, Option, Some, None, length, drop}
use Rattle.std.proofs.lemmas.List.Edits.{sets}
use Rattle.text.specs.declared.read.Table.{Table}
use Rattle.text.specs.Over.{over}
use Rattle.text.specs.Plain.{Plain, lead, plain_text}
use Rattle.text.specs.Plain.Plain.{plain}

-- numbers of an address's record, and of a node's
abbrev pub addr_size : ℕ
addr_size = 1

abbrev pub node_size : ℕ
node_size = 6

unfoldable pub flat : List (List ℕ) → List ℕ
flat [] = []
flat (r ∷ rs) = r ++ flat rs

-- the answer
unfoldable pub answer_of : Plain → Option Table
answer_of (plain true w xs ns) = Some (record { word = w; addrs = length xs; nodes = length ns })
answer_of (plain false w xs ns) = None

-- the answer, the addresses and the nodes
pub data Stored : Type 0 where
  stored : Option Table → List ℕ → List ℕ → Stored

-- the records from the buffers' beginnings on; where the text is no table's, those of the lines before the first that is at fault
unfoldable pub stored_of : List ℕ → List ℕ → Plain → Stored
stored_of a b (plain g w xs ns) = stored (answer_of (plain g w xs ns)) (over (flat xs) a) (over (flat ns) b)

-- as many addresses and nodes as the buffers have room for
unfoldable pub read_text : List ℕ → List ℕ → List ℕ → Stored
read_text x a b = stored_of a b (plain_text (length a / addr_size) (length b / node_size) x)

-- a buffer, the records in it, the lines that are left
pub data Filled : Type 0 where
  filled : List ℕ → ℕ → List (List (List ℕ)) → Filled

-- records of the leading good lines, into a buffer that has n of them already
unfoldable pub fill : ℕ → (ℕ → List (List ℕ) → Bool) → (List (List ℕ) → List ℕ) → List ℕ → ℕ → List (List (List ℕ)) → Filled
fill size good of b n rs =
    let ls : List (List ℕ) = lead good of (length b / size - n) (n + 1) rs in
    filled (sets b (size * n) (flat ls)) (n + length ls) (drop (length ls) rs)

-- of an accepted text: the list of addresses, and the table, six numbers a node
abbrev pub addr_list : Plain → List ℕ
addr_list (plain g w xs ns) = flat xs

abbrev pub node_table : Plain → List ℕ
node_table (plain g w xs ns) = flat ns

abbrev pub word_width : Plain → ℕ
word_width (plain g w xs ns) = w
