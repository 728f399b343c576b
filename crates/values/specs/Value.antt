-- Word values, as BTOR2 and SMT-LIB's FixedSizeBitVectors: what a node's kind makes of the values of its operands.
use Rattle.std.specs.Prelude.{ℕ, ◌+◌, ◌-◌, ◌/◌, ◌%◌, ◌^◌, List, length, ◌==◌, nat_lt, slice_index, Option, Some, None}
use Rattle.loops.specs.Loop.{pick, found}
use Rattle.digits.specs.Op.{op_value}
unfoldable pub use Rattle.digits.specs.Op.{not_word, add_word, sub_word, mul_word, sll_word, srl_word}
use Rattle.table.specs.declared.Node.{Node}
use Rattle.table.specs.Kind.{CONST, STATE, ITE, DIVU, REM, READ, WRITE, SEXT, accesses}
use Rattle.table.specs.Op.{by_op}
use Rattle.table.specs.Sheet.{is_at}

-- divu by 0 is all ones, rem by 0 is the dividend
unfoldable pub div_word : ℕ → ℕ → ℕ → ℕ
div_word v x y = pick (y == 0) (2 ^ v - 1) (x / y)

unfoldable pub rem_word : ℕ → ℕ → ℕ
rem_word x y = pick (y == 0) x (x % y)

-- a signed extension from v to w bits: the upper bits are copies of the top bit
unfoldable pub sext_word : ℕ → ℕ → ℕ → ℕ
sext_word v w x = pick (nat_lt x (2 ^ (v - 1))) x ((x + (2 ^ w - 2 ^ v)) % 2 ^ w)

-- a word, over the values x of its first operand, which is v wide, and y of its second; bad and ext have their operand's
unfoldable pub word_value : Node → ℕ → ℕ → ℕ → ℕ
word_value d v x y =
    pick (d.kind == CONST) d.imm
    (pick (d.kind == DIVU) (div_word d.width x y)
    (pick (d.kind == REM) (rem_word x y)
    (pick (d.kind == SEXT) (sext_word v d.width x)
    (by_op d.kind x (λ o. op_value o d.width x y)))))

-- the place of an address among the listed ones, if it is listed
abbrev pub listed : List ℕ → ℕ → Option ℕ
listed l x = found (length l) (is_at l x)

-- a read of the memory at o, where the address stands at place p of the list l: 0 where it is not listed, and where the list ends before p
unfoldable pub read_value : List ℕ → List ℕ → ℕ → Option ℕ → ℕ
read_value l vals o (Some p) = pick (nat_lt p (length l)) (slice_index vals (o + p)) 0
read_value l vals o None = 0

-- word j of the memory at o after a write of y, where the address stands at place p: nothing changes where it is not listed
unfoldable pub write_value : List ℕ → ℕ → Option ℕ → ℕ → ℕ → ℕ
write_value vals o (Some p) y j = pick (j == p) y (slice_index vals (o + j))
write_value vals o None y j = slice_index vals (o + j)

-- slot j of a choice
unfoldable pub ite_value : List ℕ → ℕ → ℕ → ℕ → ℕ → ℕ
ite_value vals a b c j = pick (slice_index vals a == 1) (slice_index vals (b + j)) (slice_index vals (c + j))

-- the place of the address that a read or write has in slot b
unfoldable pub place_at : List ℕ → Node → List ℕ → ℕ → Option ℕ
place_at l d vals b = pick (accesses d.kind) (listed l (slice_index vals b)) None

-- slot j of a node, over operands whose slots begin at a, b and c, of which the first is v wide, with its address at place p of the list l: a word has slot 0
-- alone, a memory one for each listed address
unfoldable pub slot_at : List ℕ → Node → ℕ → List ℕ → ℕ → ℕ → ℕ → Option ℕ → ℕ → ℕ
slot_at l d v vals a b c p j =
    pick (d.kind == STATE) (slice_index vals (a + j))
    (pick (d.kind == ITE) (ite_value vals a b c j)
    (pick (d.kind == READ) (read_value l vals a p)
    (pick (d.kind == WRITE) (write_value vals a p (slice_index vals c) j)
    (word_value d v (slice_index vals a) (slice_index vals b)))))

abbrev pub slot_value : List ℕ → Node → ℕ → List ℕ → ℕ → ℕ → ℕ → ℕ → ℕ
slot_value l d v vals a b c j = slot_at l d v vals a b c (place_at l d vals b) j
