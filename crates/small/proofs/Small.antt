-- Document 01's small table: one table, one theorem, over words, ceilings and gates.
use mathlib.Core.Path.{◌≡◌, refl}
use mathlib.Core.List.{List, [], ◌∷◌}
use mathlib.Core.Bool.{Bool, true, ◌&&◌}
use Prim.Native.Nat.{ℕ, ◌+◌, ◌-◌, ◌*◌, ◌/◌, ◌%◌, ◌^◌}
use lib.Dec.{eqb}
use lib.ListN.{get_or, take, replicate}
use Rattle.loops.specs.Loop.{pick, iter, first, found, sum}
use Rattle.table.specs.Ceiling.{div_gates, div_constraints, memory_gates, ite_gates, plain_gates, ceiling, constraint_ceiling, node_gates, node_constraints, sums_of}
use Rattle.table.specs.Op.{by_op}
use Rattle.table.specs.Node.{field_at}
use Rattle.table.specs.Sheet.{size_good, is_at, address_bad, addresses_bad, operands_good, sort_good, sorts_good, fault_of, node_fault, node_bad, nodes_fault, table_fault, asks_at, asks}
use Rattle.table.specs.Size.{node_size, offset_of, size_sum}
use Rattle.values.specs.Eval as word
use Rattle.values.specs.Eval.{slot_width, slot_bad, input_bad, slot_step, node_step, eval_clear, eval_words, offset}
use Rattle.values.specs.Value.{not_word, add_word, sub_word, mul_word, div_word, rem_word, word_value, read_value, write_value, ite_value, place_at, slot_at}
use Rattle.netlist.specs.Bit.{is_known, known_of, by_known}
use Rattle.netlist.specs.Check.{field_good, const_good, later_good, faulty, list_fault}
use Rattle.netlist.specs.Eval.{gate_value, eval_step, out_of_range, eval_sound, eval_gates}
use Rattle.netlist.specs.Kind.{free, uses_y, uses_z, value_of}
use Rattle.netlist.specs.Record.{gate_at, put, used}
use Rattle.gates.specs.Adder.{two_known, one_known, none_known, adder_bit}
use Rattle.gates.specs.Choice.{true_side, false_side, both_sides, choice_bit, mux_bit}
use Rattle.gates.specs.Fold.{not_bit, and_bit, or_bit, xnor_bit}
use Rattle.gates.specs.Made.{added}
use Rattle.digits.specs.Digits as digits
use Rattle.digits.specs.Digits.{digit_step, unknown_at, all_known}
use Rattle.words.specs.Add.{add_step}
use Rattle.words.specs.Each.{bitwise, each_step, copy_step}
use Rattle.words.specs.Eq.{eq_words}
use Rattle.words.specs.Join.{join_step}
use Rattle.words.specs.Mul.{mul_step}
use Rattle.words.specs.Num.{filled}
use Rattle.words.specs.Op.{op_into}
use Rattle.digits.specs.Op.{op_value, op_gates}
use Rattle.words.specs.Sub.{sub_words, ult_words}
use Rattle.division.specs.Check.{sum_words, check_words}
use Rattle.division.specs.Constraint.{put_con, constrain, con_step}
use Rattle.division.specs.Divide.{div_words, free_word, divide_words}
use Rattle.division.specs.Pair.{pair_step}
use Rattle.division.specs.Rows.{row_step}
use Rattle.memory.specs.Address.{at_listed}
use Rattle.memory.specs.Read.{read_known, read_one, read_step, read_words}
use Rattle.memory.specs.Write.{write_known, write_step, write_words}
use Rattle.visits.specs.Flow.{owned, enter, mark, visit_to, root_step, lower_to}
use Rattle.visits.specs.Stored.{stored}
use Rattle.lowering.specs.Lower.{Run, number, counts_of, start, ended, lower_clear, lower_asked, lower_all}
use Rattle.nodes.specs.Own.{word_step, input_step, input_word, share_word, above_of, choose_word, read_word, plain_word, word_own, write_own, divide_own, ite_own, own_step}
use Rattle.nodes.specs.Source.{source, off_of, words_of, wide_of, bits_of, gates_of, asks_of, second_of, third_of}

-- W = 2, addresses 0 and 2
abbrev pub table : List ℕ
table =
    1 ∷ 4 ∷ 0 ∷ 0 ∷ 0 ∷ 10 ∷
    1 ∷ 4 ∷ 0 ∷ 0 ∷ 0 ∷ 15 ∷
    1 ∷ 4 ∷ 0 ∷ 0 ∷ 0 ∷ 1 ∷
    9 ∷ 4 ∷ 2 ∷ 3 ∷ 0 ∷ 0 ∷
    1 ∷ 4 ∷ 0 ∷ 0 ∷ 0 ∷ 0 ∷
    11 ∷ 4 ∷ 5 ∷ 3 ∷ 0 ∷ 0 ∷
    1 ∷ 4 ∷ 0 ∷ 0 ∷ 0 ∷ 3 ∷
    1 ∷ 4 ∷ 0 ∷ 0 ∷ 0 ∷ 5 ∷
    12 ∷ 1 ∷ 7 ∷ 8 ∷ 0 ∷ 0 ∷
    12 ∷ 1 ∷ 8 ∷ 8 ∷ 0 ∷ 0 ∷
    1 ∷ 4 ∷ 0 ∷ 0 ∷ 0 ∷ 7 ∷
    13 ∷ 4 ∷ 11 ∷ 7 ∷ 0 ∷ 0 ∷
    1 ∷ 4 ∷ 0 ∷ 0 ∷ 0 ∷ 13 ∷
    14 ∷ 4 ∷ 13 ∷ 7 ∷ 0 ∷ 0 ∷
    15 ∷ 4 ∷ 13 ∷ 7 ∷ 0 ∷ 0 ∷
    14 ∷ 4 ∷ 13 ∷ 5 ∷ 0 ∷ 0 ∷
    15 ∷ 4 ∷ 13 ∷ 5 ∷ 0 ∷ 0 ∷
    1 ∷ 4 ∷ 0 ∷ 0 ∷ 0 ∷ 9 ∷
    7 ∷ 64 ∷ 18 ∷ 0 ∷ 0 ∷ 0 ∷
    2 ∷ 0 ∷ 0 ∷ 0 ∷ 0 ∷ 0 ∷
    1 ∷ 2 ∷ 0 ∷ 0 ∷ 0 ∷ 2 ∷
    16 ∷ 2 ∷ 20 ∷ 21 ∷ 0 ∷ 0 ∷
    1 ∷ 2 ∷ 0 ∷ 0 ∷ 0 ∷ 1 ∷
    16 ∷ 2 ∷ 20 ∷ 23 ∷ 0 ∷ 0 ∷
    17 ∷ 0 ∷ 20 ∷ 23 ∷ 21 ∷ 0 ∷
    1 ∷ 2 ∷ 0 ∷ 0 ∷ 0 ∷ 0 ∷
    17 ∷ 0 ∷ 20 ∷ 26 ∷ 21 ∷ 0 ∷
    -- what reaches each of them: first the memory, then the words
    8 ∷ 1 ∷ 22 ∷ 23 ∷ 0 ∷ 0 ∷
    5 ∷ 1 ∷ 28 ∷ 0 ∷ 0 ∷ 0 ∷
    8 ∷ 1 ∷ 24 ∷ 26 ∷ 0 ∷ 0 ∷
    5 ∷ 1 ∷ 30 ∷ 0 ∷ 0 ∷ 0 ∷
    16 ∷ 2 ∷ 25 ∷ 26 ∷ 0 ∷ 0 ∷
    16 ∷ 2 ∷ 27 ∷ 21 ∷ 0 ∷ 0 ∷
    8 ∷ 1 ∷ 32 ∷ 33 ∷ 0 ∷ 0 ∷
    5 ∷ 1 ∷ 34 ∷ 0 ∷ 0 ∷ 0 ∷
    8 ∷ 1 ∷ 1 ∷ 1 ∷ 0 ∷ 0 ∷
    5 ∷ 1 ∷ 36 ∷ 0 ∷ 0 ∷ 0 ∷
    8 ∷ 1 ∷ 4 ∷ 6 ∷ 0 ∷ 0 ∷
    5 ∷ 1 ∷ 38 ∷ 0 ∷ 0 ∷ 0 ∷
    5 ∷ 1 ∷ 9 ∷ 0 ∷ 0 ∷ 0 ∷
    5 ∷ 1 ∷ 10 ∷ 0 ∷ 0 ∷ 0 ∷
    8 ∷ 1 ∷ 12 ∷ 14 ∷ 0 ∷ 0 ∷
    5 ∷ 1 ∷ 42 ∷ 0 ∷ 0 ∷ 0 ∷
    8 ∷ 1 ∷ 15 ∷ 15 ∷ 0 ∷ 0 ∷
    5 ∷ 1 ∷ 44 ∷ 0 ∷ 0 ∷ 0 ∷
    8 ∷ 1 ∷ 19 ∷ 19 ∷ 0 ∷ 0 ∷
    5 ∷ 1 ∷ 46 ∷ 0 ∷ 0 ∷ 0 ∷
    8 ∷ 1 ∷ 16 ∷ 17 ∷ 0 ∷ 0 ∷
    5 ∷ 1 ∷ 48 ∷ 0 ∷ 0 ∷ 0 ∷
    []

abbrev pub addresses : List ℕ
addresses = 0 ∷ 2 ∷ []

-- the memory of node 20 holds 3 and 1; one slot more is not touched
abbrev pub before : List ℕ
before = 7 ∷ 7 ∷ 7 ∷ 7 ∷ 7 ∷ 7 ∷ 7 ∷ 7 ∷ 7 ∷ 7 ∷ 7 ∷ 7 ∷ 7 ∷ 7 ∷ 7 ∷ 7 ∷ 7 ∷ 7 ∷ 7 ∷ 3 ∷ 1 ∷ 7 ∷ 7 ∷ 7 ∷ 7 ∷ 7 ∷ 7 ∷ 7 ∷ 7 ∷ 7 ∷ 7 ∷ 7 ∷ 7 ∷ 7 ∷ 7 ∷ 7 ∷ 7 ∷ 7 ∷ 7 ∷ 7 ∷ 7 ∷ 7 ∷ 7 ∷ 7 ∷ 7 ∷ 7 ∷ 7 ∷ 7 ∷ 7 ∷ 7 ∷ 7 ∷ 7 ∷ 99 ∷ []

-- the memory of node 20 holds 3 and 1: its InputBits are the first gates after the two constants
abbrev pub given : List ℕ
given = 0 ∷ 0 ∷ 1 ∷ 1 ∷ 1 ∷ 0 ∷ 9 ∷ 9 ∷ 9 ∷ 9 ∷ 9 ∷ 9 ∷ 9 ∷ []

-- what a row asks. Of the words: the refusal, digit k of a node's value, a slot, the slot beyond. Of the ceilings: a node's gates and constraints.
-- Of the gates: the refusal, how many gates and constraints there are, a bit of a node, and the number that the bits of a node's word say
pub data Ask : Type 0 where
  refusal : Ask
  digit : ℕ → ℕ → Ask
  slot : ℕ → ℕ → Ask
  beyond : Ask
  gates : ℕ → Ask
  constraints : ℕ → Ask
  lowers : Ask
  made : Ask
  recorded : Ask
  bit_of : ℕ → ℕ → Ask
  says : ℕ → ℕ → ℕ → Ask

pub record Row : Type 0 where
  pub ask : Ask
  pub answer : ℕ

abbrev pub row : Ask → ℕ → Row
row q a = record { ask = q; answer = a }

-- document 01's answers, in its order; a division's ceiling has request 04's 5w more
abbrev pub rows : List Row
rows =
    row refusal 0
    -- const 10 is 0, 1, 0, 1 from bit 0
    ∷ row (digit 1 0) 0 ∷ row (digit 1 1) 1 ∷ row (digit 1 2) 0 ∷ row (digit 1 3) 1
    -- 15 + 1 = 0; 0 - 1 = 15; 3 < 5 yes, 5 < 5 no; 7 * 3 = 5
    ∷ row (slot 4 0) 0 ∷ row (slot 6 0) 15 ∷ row (slot 9 0) 1 ∷ row (slot 10 0) 0 ∷ row (slot 12 0) 5
    -- 13 / 3 = 4 rem 1; 13 / 0 = 15 rem 13; ext 9 is 9
    ∷ row (slot 14 0) 4 ∷ row (slot 15 0) 1 ∷ row (slot 16 0) 15 ∷ row (slot 17 0) 13 ∷ row (slot 19 0) 9
    -- the memory holds 3 and 1: read 2 gives 1, read 1 gives 0; write 2 at 1 leaves 3, 1; at 0 gives 2, 1
    ∷ row (slot 20 0) 3 ∷ row (slot 20 1) 1 ∷ row (slot 22 0) 1 ∷ row (slot 24 0) 0
    ∷ row (slot 25 0) 3 ∷ row (slot 25 1) 1 ∷ row (slot 27 0) 2 ∷ row (slot 27 1) 1 ∷ row beyond 99
    -- ceilings: mul 4 is 40, divu 4 is 111 with 16 constraints
    ∷ row (gates 12) 40 ∷ row (gates 14) 111 ∷ row (constraints 14) 16
    -- and by gates: the same numbers
    ∷ row lowers 0 ∷ row made 13 ∷ row recorded 0
    ∷ row (bit_of 1 0) 0 ∷ row (bit_of 1 1) 1 ∷ row (bit_of 1 2) 0 ∷ row (bit_of 1 3) 1
    ∷ row (says 4 0 4) 0 ∷ row (says 6 0 4) 15 ∷ row (says 9 0 1) 1 ∷ row (says 10 0 1) 0 ∷ row (says 12 0 4) 5
    ∷ row (says 14 0 4) 4 ∷ row (says 15 0 4) 1 ∷ row (says 16 0 4) 15 ∷ row (says 17 0 4) 13 ∷ row (says 19 0 64) 9
    ∷ row (says 20 0 2) 3 ∷ row (says 20 1 2) 1 ∷ row (says 22 0 2) 1 ∷ row (says 24 0 2) 0
    ∷ row (says 25 0 2) 3 ∷ row (says 25 1 2) 1 ∷ row (says 27 0 2) 2 ∷ row (says 27 1 2) 1
    ∷ []

abbrev pub place : ℕ → ℕ → ℕ
place i k = off_of (source table addresses 2) i + k

pub asked : word.Run → Run → List ℕ → Ask → ℕ
asked r l v refusal = word.number r.answer
asked r l v (digit i k) = get_or r.values (offset table addresses i) 0 / 2 ^ k % 2
asked r l v (slot i j) = get_or r.values (offset table addresses i + j) 0
asked r l v beyond = get_or r.values 52 0
asked r l v (gates i) = node_gates table 2 2 (i - 1)
asked r l v (constraints i) = node_constraints table (i - 1)
asked r l v lowers = number l.answer
asked r l v made = (counts_of l.answer).gates
asked r l v recorded = (counts_of l.answer).constraints
asked r l v (bit_of i k) = get_or l.map (place i k) 0
asked r l v (says i j w) = digits.number (λ k. eqb (get_or v (get_or l.map (place i (j * w + k)) 0) 0) 1) w

pub all_right : word.Run → Run → List ℕ → List Row → Bool
all_right r l v [] = true
all_right r l v (q ∷ qs) = eqb (asked r l v q.ask) q.answer && all_right r l v qs

pub right : word.Run → Run → Bool
right r l = all_right r l (eval_gates (take (used 13) l.gates) given).values rows

-- lent: 1,000 gates, 64 constraints, 1,000 places
pub small : right (eval_words table addresses 2 before) (lower_all (source table addresses 2) (replicate 4000 0) (replicate 128 0) (replicate 1000 0)) ≡ true
unfolding right all_right asked pick iter first found sum div_gates div_constraints memory_gates ite_gates plain_gates ceiling constraint_ceiling node_gates node_constraints sums_of field_at size_good is_at address_bad addresses_bad operands_good sort_good sorts_good fault_of node_fault node_bad nodes_fault table_fault asks_at asks node_size offset_of size_sum slot_width slot_bad input_bad slot_step node_step eval_clear eval_words not_word add_word sub_word mul_word div_word rem_word word_value read_value write_value ite_value place_at slot_at is_known known_of by_known field_good const_good later_good faulty list_fault gate_value eval_step out_of_range eval_sound eval_gates free uses_y uses_z value_of gate_at put two_known one_known none_known adder_bit true_side false_side both_sides choice_bit mux_bit not_bit and_bit or_bit xnor_bit added digits.digit digits.number digit_step unknown_at all_known add_step bitwise each_step copy_step join_step eq_words mul_step filled sub_words ult_words sum_words check_words put_con constrain con_step div_words free_word divide_words pair_step row_step at_listed read_known read_one read_step read_words write_known write_step write_words owned enter mark visit_to root_step lower_to stored start ended lower_clear lower_asked lower_all word_step input_step input_word share_word above_of choose_word read_word plain_word by_op op_into op_value op_gates word_own write_own divide_own ite_own own_step words_of wide_of bits_of gates_of asks_of second_of third_of
small = refl
