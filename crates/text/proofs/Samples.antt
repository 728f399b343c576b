-- The definitions computed: document 01's lines, and texts that are refused.
use mathlib.Core.Path.{◌≡◌, refl}
use mathlib.Core.List.{List, [], ◌∷◌}
use mathlib.Core.Bool.{Bool, true, not, ◌&&◌}
use Prim.Native.Nat.{ℕ}
use Rattle.loops.specs.Loop.{pick, first}
use Rattle.text.specs.Number.{digits, decimal, add_digit, digit, number_from, number}
use Rattle.text.specs.Name.{same, word_name, addr_name, node_name, kind_names, is_named, place_of}
use Rattle.text.specs.Line.{numbers, rest, line}
use Rattle.text.specs.Rows.{onto, lines, fields, each_fields, rows}
use Rattle.text.specs.Plain.{Plain, number_at, kind_at, is_pair, pair_of, is_addr, addr_of, is_node, node_of, lead, after_word, plain_rows, plain_text}
use Rattle.text.specs.Plain.Plain.{plain}
use Rattle.text.specs.Write.{gate_name, bits_name, constraint_name, done_name, gate_line, bits_line, next_bits, constraint_line, done_line, each, output}

-- document 01's text
abbrev pub document_text : List ℕ
document_text = 119 ∷ 111 ∷ 114 ∷ 100 ∷ 9 ∷ 50 ∷ 10 ∷ 110 ∷ 111 ∷ 100 ∷ 101 ∷ 9 ∷ 49 ∷ 9 ∷ 105 ∷ 110 ∷ 112 ∷ 117 ∷ 116 ∷ 9 ∷ 49 ∷ 9 ∷ 48 ∷ 9 ∷ 48 ∷ 9 ∷ 48 ∷ 9 ∷ 48 ∷ 10 ∷ 110 ∷ 111 ∷ 100 ∷ 101 ∷ 9 ∷ 50 ∷ 9 ∷ 110 ∷ 111 ∷ 116 ∷ 9 ∷ 49 ∷ 9 ∷ 49 ∷ 9 ∷ 48 ∷ 9 ∷ 48 ∷ 9 ∷ 48 ∷ 10 ∷ 110 ∷ 111 ∷ 100 ∷ 101 ∷ 9 ∷ 51 ∷ 9 ∷ 98 ∷ 97 ∷ 100 ∷ 9 ∷ 49 ∷ 9 ∷ 50 ∷ 9 ∷ 48 ∷ 9 ∷ 48 ∷ 9 ∷ 48 ∷ 10 ∷ []

pub document-read : plain_text 64 512 document_text ≡ plain true 2 [] ((2 ∷ 1 ∷ 0 ∷ 0 ∷ 0 ∷ 0 ∷ []) ∷ (4 ∷ 1 ∷ 1 ∷ 0 ∷ 0 ∷ 0 ∷ []) ∷ (5 ∷ 1 ∷ 2 ∷ 0 ∷ 0 ∷ 0 ∷ []) ∷ [])
unfolding plain_text plain_rows after_word lead is_pair pair_of is_addr addr_of is_node node_of number_at kind_at rows each_fields lines fields onto number number_from digit add_digit same word_name addr_name node_name kind_names is_named place_of first pick
document-read = refl

-- what it prints
abbrev pub document_output : List ℕ
document_output = 103 ∷ 97 ∷ 116 ∷ 101 ∷ 9 ∷ 48 ∷ 9 ∷ 48 ∷ 9 ∷ 48 ∷ 9 ∷ 48 ∷ 9 ∷ 48 ∷ 10 ∷ 103 ∷ 97 ∷ 116 ∷ 101 ∷ 9 ∷ 49 ∷ 9 ∷ 49 ∷ 9 ∷ 48 ∷ 9 ∷ 48 ∷ 9 ∷ 48 ∷ 10 ∷ 103 ∷ 97 ∷ 116 ∷ 101 ∷ 9 ∷ 50 ∷ 9 ∷ 50 ∷ 9 ∷ 49 ∷ 9 ∷ 48 ∷ 9 ∷ 48 ∷ 10 ∷ 103 ∷ 97 ∷ 116 ∷ 101 ∷ 9 ∷ 51 ∷ 9 ∷ 51 ∷ 9 ∷ 50 ∷ 9 ∷ 48 ∷ 9 ∷ 48 ∷ 10 ∷ 98 ∷ 105 ∷ 116 ∷ 115 ∷ 9 ∷ 49 ∷ 9 ∷ 50 ∷ 10 ∷ 98 ∷ 105 ∷ 116 ∷ 115 ∷ 9 ∷ 50 ∷ 9 ∷ 51 ∷ 10 ∷ 98 ∷ 105 ∷ 116 ∷ 115 ∷ 9 ∷ 51 ∷ 9 ∷ 51 ∷ 10 ∷ 100 ∷ 111 ∷ 110 ∷ 101 ∷ 9 ∷ 52 ∷ 9 ∷ 48 ∷ 10 ∷ []

pub document-written : output (0 ∷ 0 ∷ 0 ∷ 0 ∷ 1 ∷ 0 ∷ 0 ∷ 0 ∷ 2 ∷ 1 ∷ 0 ∷ 0 ∷ 3 ∷ 2 ∷ 0 ∷ 0 ∷ []) (2 ∷ 3 ∷ 3 ∷ []) (0 ∷ 0 ∷ 1 ∷ 2 ∷ 3 ∷ []) (0 ∷ 1 ∷ 1 ∷ 1 ∷ []) [] ≡ document_output
unfolding output each gate_line next_bits bits_line constraint_line done_line gate_name bits_name constraint_name done_name line rest numbers decimal digits pick
document-written = refl

-- a reached memory with no bits, a node that is not reached
pub empty-bits : each 2 (next_bits [] (0 ∷ 0 ∷ 0 ∷ 0 ∷ []) (0 ∷ 1 ∷ 0 ∷ [])) ≡ 98 ∷ 105 ∷ 116 ∷ 115 ∷ 9 ∷ 49 ∷ 10 ∷ []
unfolding each next_bits bits_line bits_name line rest numbers decimal digits pick
empty-bits = refl

abbrev pub refused : Plain → Bool
refused (plain good w xs ns) = not good

unfoldable pub all_refused : List (List ℕ) → Bool
all_refused [] = true
all_refused (x ∷ xs) = refused (plain_text 2 2 x) && all_refused xs

abbrev pub refused_texts : List (List ℕ)
refused_texts =
    -- an empty text
    ([])
    -- a newline alone
    ∷ (10 ∷ [])
    -- an empty line
    ∷ (119 ∷ 111 ∷ 114 ∷ 100 ∷ 9 ∷ 50 ∷ 10 ∷ 10 ∷ [])
    -- a carriage return
    ∷ (119 ∷ 111 ∷ 114 ∷ 100 ∷ 9 ∷ 50 ∷ 13 ∷ 10 ∷ [])
    -- a blank
    ∷ (119 ∷ 111 ∷ 114 ∷ 100 ∷ 9 ∷ 32 ∷ 50 ∷ 10 ∷ [])
    -- a leading zero
    ∷ (119 ∷ 111 ∷ 114 ∷ 100 ∷ 9 ∷ 48 ∷ 50 ∷ 10 ∷ [])
    -- a sign
    ∷ (119 ∷ 111 ∷ 114 ∷ 100 ∷ 9 ∷ 43 ∷ 50 ∷ 10 ∷ [])
    -- no number
    ∷ (119 ∷ 111 ∷ 114 ∷ 100 ∷ 9 ∷ 10 ∷ [])
    -- one field too many
    ∷ (119 ∷ 111 ∷ 114 ∷ 100 ∷ 9 ∷ 50 ∷ 9 ∷ 51 ∷ 10 ∷ [])
    -- no word
    ∷ (97 ∷ 100 ∷ 100 ∷ 114 ∷ 9 ∷ 49 ∷ 10 ∷ [])
    -- word twice
    ∷ (119 ∷ 111 ∷ 114 ∷ 100 ∷ 9 ∷ 50 ∷ 10 ∷ 119 ∷ 111 ∷ 114 ∷ 100 ∷ 9 ∷ 50 ∷ 10 ∷ [])
    -- a number of 2^64
    ∷ (119 ∷ 111 ∷ 114 ∷ 100 ∷ 9 ∷ 49 ∷ 56 ∷ 52 ∷ 52 ∷ 54 ∷ 55 ∷ 52 ∷ 52 ∷ 48 ∷ 55 ∷ 51 ∷ 55 ∷ 48 ∷ 57 ∷ 53 ∷ 53 ∷ 49 ∷ 54 ∷ 49 ∷ 54 ∷ 10 ∷ [])
    -- an address after a node
    ∷ (119 ∷ 111 ∷ 114 ∷ 100 ∷ 9 ∷ 50 ∷ 10 ∷ 110 ∷ 111 ∷ 100 ∷ 101 ∷ 9 ∷ 49 ∷ 9 ∷ 105 ∷ 110 ∷ 112 ∷ 117 ∷ 116 ∷ 9 ∷ 49 ∷ 9 ∷ 48 ∷ 9 ∷ 48 ∷ 9 ∷ 48 ∷ 9 ∷ 48 ∷ 10 ∷ 97 ∷ 100 ∷ 100 ∷ 114 ∷ 9 ∷ 49 ∷ 10 ∷ [])
    -- a node out of order
    ∷ (119 ∷ 111 ∷ 114 ∷ 100 ∷ 9 ∷ 50 ∷ 10 ∷ 110 ∷ 111 ∷ 100 ∷ 101 ∷ 9 ∷ 50 ∷ 9 ∷ 105 ∷ 110 ∷ 112 ∷ 117 ∷ 116 ∷ 9 ∷ 49 ∷ 9 ∷ 48 ∷ 9 ∷ 48 ∷ 9 ∷ 48 ∷ 9 ∷ 48 ∷ 10 ∷ [])
    -- a name that is no kind
    ∷ (119 ∷ 111 ∷ 114 ∷ 100 ∷ 9 ∷ 50 ∷ 10 ∷ 110 ∷ 111 ∷ 100 ∷ 101 ∷ 9 ∷ 49 ∷ 9 ∷ 105 ∷ 110 ∷ 112 ∷ 117 ∷ 116 ∷ 115 ∷ 9 ∷ 49 ∷ 9 ∷ 48 ∷ 9 ∷ 48 ∷ 9 ∷ 48 ∷ 9 ∷ 48 ∷ 10 ∷ [])
    -- a node's line too short
    ∷ (119 ∷ 111 ∷ 114 ∷ 100 ∷ 9 ∷ 50 ∷ 10 ∷ 110 ∷ 111 ∷ 100 ∷ 101 ∷ 9 ∷ 49 ∷ 9 ∷ 105 ∷ 110 ∷ 112 ∷ 117 ∷ 116 ∷ 9 ∷ 49 ∷ 9 ∷ 48 ∷ 9 ∷ 48 ∷ 9 ∷ 48 ∷ 10 ∷ [])
    -- a node's line too long
    ∷ (119 ∷ 111 ∷ 114 ∷ 100 ∷ 9 ∷ 50 ∷ 10 ∷ 110 ∷ 111 ∷ 100 ∷ 101 ∷ 9 ∷ 49 ∷ 9 ∷ 105 ∷ 110 ∷ 112 ∷ 117 ∷ 116 ∷ 9 ∷ 49 ∷ 9 ∷ 48 ∷ 9 ∷ 48 ∷ 9 ∷ 48 ∷ 9 ∷ 48 ∷ 9 ∷ 48 ∷ 10 ∷ [])
    -- three addresses, where two are allowed
    ∷ (119 ∷ 111 ∷ 114 ∷ 100 ∷ 9 ∷ 50 ∷ 10 ∷ 97 ∷ 100 ∷ 100 ∷ 114 ∷ 9 ∷ 48 ∷ 10 ∷ 97 ∷ 100 ∷ 100 ∷ 114 ∷ 9 ∷ 49 ∷ 10 ∷ 97 ∷ 100 ∷ 100 ∷ 114 ∷ 9 ∷ 50 ∷ 10 ∷ [])
    ∷ []

pub texts-refused : all_refused refused_texts ≡ true
unfolding all_refused plain_text plain_rows after_word lead is_pair pair_of is_addr addr_of is_node node_of number_at kind_at rows each_fields lines fields onto number number_from digit add_digit same word_name addr_name node_name kind_names is_named place_of first pick
texts-refused = refl
