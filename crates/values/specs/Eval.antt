-- The word evaluator: one slot a word, n a memory, in node order.
use Rattle.std.specs.Prelude.{ℕ, ◌+◌, ◌^◌, Bool, not, ◌&&◌, List, length, ◌==◌, nat_lt, slice_index, slice_set, Option, Result, Ok, Err}
use Rattle.loops.specs.Loop.{pick, first, iter}
use Rattle.netlist.specs.Sheet.{told}
use Rattle.table.specs.declared.Node.{Node}
use Rattle.table.specs.declared.Unit.TheVariants.{Slot}
use Rattle.table.specs.Node.{width_of, a_of, b_of, c_of, node_at, nodes, given, Fine}
use Rattle.table.specs.Sheet as sheet
use Rattle.table.specs.Sheet.{table_fault, by_fault}
use Rattle.table.specs.Size.{node_size, offset_of, size_sum, Offsets}
use Rattle.values.specs.declared.Refusal.{Refusal}
use Rattle.values.specs.declared.Refusal.TheVariants.{Table, ValueRoom, Input}
use Rattle.values.specs.Value.{place_at, slot_at}

-- the sheet's number of a refusal, and the node beside it
abbrev pub number_of : Refusal → ℕ
number_of (Table f) = sheet.number_of f
number_of ValueRoom = 12
number_of (Input i) = 13

abbrev pub place_of : Refusal → ℕ
place_of (Table f) = sheet.place_of f
place_of ValueRoom = 0
place_of (Input i) = i

-- of an answer; 0 is no refusal
abbrev pub number : Result Unit Refusal → ℕ
number r = told number_of r

abbrev pub node : Result Unit Refusal → ℕ
node r = told place_of r

-- the slots of node i + 1, where those of node i begin, and all of them; a word width does not matter
abbrev pub slots : List ℕ → List ℕ → ℕ → ℕ
slots t l i = node_size Slot t (length l) 0 i

abbrev pub offset : List ℕ → List ℕ → ℕ → ℕ
offset t l i = offset_of Slot t (length l) 0 i

abbrev pub total : List ℕ → List ℕ → ℕ
total t l = size_sum Slot t (length l) 0

-- a table without fault, whose nodes' slots begin at o
pub record Ready (t l o : List ℕ) : Type 0 where
  pub fine : Fine t l
  pub offsets : Offsets Slot t (length l) 0 o

-- inputs and uninitialised states are given
abbrev pub node_given : List ℕ → ℕ → Bool
node_given t i = given (node_at t (i + 1))

-- 13 INPUT: a given value out of range, a word's at 2^width, a memory's words at 2^W
unfoldable pub slot_width : ℕ → Node → ℕ
slot_width w d = pick (d.width == 0) w d.width

unfoldable pub slot_bad : ℕ → List ℕ → ℕ → ℕ → Bool
slot_bad u vals o j = not (nat_lt (slice_index vals (o + j)) (2 ^ u))

unfoldable pub input_bad : List ℕ → List ℕ → ℕ → List ℕ → ℕ → Bool
input_bad t l w vals i = node_given t i && nat_lt (first (slots t l i) (slot_bad (slot_width w (node_at t (i + 1))) vals (offset t l (i + 1)))) (slots t l i)

-- a node d is worked out slot by slot, from o on; its operands' slots begin at a, b and c, the first is v wide, and its address stands at place p of the list l
unfoldable pub slot_step : List ℕ → Node → ℕ → ℕ → ℕ → ℕ → ℕ → Option ℕ → ℕ → List ℕ → List ℕ
slot_step l d v o a b c p j vals = slice_set vals (o + j) (slot_at l d v vals a b c p j)

-- node i + 1
unfoldable pub node_step : List ℕ → List ℕ → ℕ → List ℕ → List ℕ
node_step t l i vals =
    pick (node_given t i) vals
    (iter (slots t l i)
    (slot_step l (node_at t (i + 1)) (width_of t (a_of t (i + 1))) (offset t l (i + 1)) (offset t l (a_of t (i + 1))) (offset t l (b_of t (i + 1))) (offset t l (c_of t (i + 1)))
    (place_at l (node_at t (i + 1)) vals (offset t l (b_of t (i + 1)))))
    vals)

-- an answer, and the values with it
pub record Run : Type 0 where
  pub answer : Result Unit Refusal
  pub values : List ℕ

abbrev pub run : Result Unit Refusal → List ℕ → Run
run a v = record { answer = a; values = v }

-- 12, then 13, then the values
unfoldable pub eval_clear : List ℕ → List ℕ → ℕ → List ℕ → Run
eval_clear t l w v =
    pick (nat_lt (length v) (total t l)) (run (Err ValueRoom) v)
    (pick (nat_lt (first (nodes t) (input_bad t l w v)) (nodes t)) (run (Err (Input (first (nodes t) (input_bad t l w v) + 1))) v)
    (run (Ok tt) (iter (nodes t) (node_step t l) v)))

-- 1 to 6 first
unfoldable pub eval_words : List ℕ → List ℕ → ℕ → List ℕ → Run
eval_words t l w v = by_fault (table_fault t l w) (eval_clear t l w v) (λ f. run (Err (Table f)) v)
