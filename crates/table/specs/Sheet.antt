-- The refusal sheet, 1 to 6, and whether a table asks anything.
use Rattle.std.specs.Prelude.{List, Bool, not, ◌&&◌, ◌||◌, ℕ, ◌+◌, ◌%◌, ◌^◌, eqb, ltb, leb, get_or, length, Result, Ok, Err}
use Rattle.loops.specs.Loop.{pick, first}
use Rattle.netlist.specs.Sheet.{told}
use Rattle.table.specs.declared.Fault.{Fault}
use Rattle.table.specs.declared.Fault.TheVariants.{Size, Address, Kind, NotLowered, Operand, Sort}
use Rattle.table.specs.declared.Node.{Node}
use Rattle.table.specs.Kind.{CONST, INPUT, STATE, NOT, BAD, ITE, READ, WRITE, named, lowered, may_use_a, uses_a, uses_b, uses_c, uses_imm, evenly, extends, compares}
use Rattle.table.specs.Node.{kind_of, width_of, node_at, nodes}

-- the sheet's number of a fault, and the node beside it
abbrev pub number_of : Fault → ℕ
number_of Size = 1
number_of Address = 2
number_of (Kind i) = 3
number_of (NotLowered i) = 4
number_of (Operand i) = 5
number_of (Sort i) = 6

abbrev pub place_of : Fault → ℕ
place_of Size = 0
place_of Address = 0
place_of (Kind i) = i
place_of (NotLowered i) = i
place_of (Operand i) = i
place_of (Sort i) = i

-- of a check; 0 is no fault
abbrev pub number : Result Unit Fault → ℕ
number r = told number_of r

abbrev pub node : Result Unit Fault → ℕ
node r = told place_of r

-- what follows a check: a where there is no fault, else f of the fault
abbrev pub by_fault : {A : Type 0} → Result Unit Fault → A → (Fault → A) → A
by_fault (Ok u) a f = a
by_fault (Err e) a f = f e

abbrev pub is_clear : Result Unit Fault → Bool
is_clear r = eqb (number r) 0

-- 1 SIZE: length not a multiple of 6, or a count or W outside its range
unfoldable pub size_good : List ℕ → List ℕ → ℕ → Bool
size_good t l w = eqb (length t % 6) 0 && leb (nodes t) 512 && leb (length l) 64 && leb 1 w && leb w 64

-- 2 ADDRESS: an address repeated, or not below 2^W
unfoldable pub is_at : List ℕ → ℕ → ℕ → Bool
is_at l x j = eqb (get_or l j 0) x

unfoldable pub address_bad : List ℕ → ℕ → ℕ → Bool
address_bad l w i = ltb (first i (is_at l (get_or l i 0))) i || not (ltb (get_or l i 0) (2 ^ w))

unfoldable pub addresses_bad : List ℕ → ℕ → Bool
addresses_bad l w = ltb (first (length l) (address_bad l w)) (length l)

-- 5 OPERAND: missing, not smaller, or an unused operand or imm not 0
abbrev pub operand : Bool → Bool → ℕ → ℕ → Bool
operand must may i x = (not must && eqb x 0) || (may && leb 1 x && ltb x i)

unfoldable pub operands_good : ℕ → Node → Bool
operands_good i d =
    operand (uses_a d.kind) (may_use_a d.kind) i d.a
    && operand (uses_b d.kind) (uses_b d.kind) i d.b
    && operand (uses_c d.kind) (uses_c d.kind) i d.c
    && (uses_imm d.kind || eqb d.imm 0)

-- 6 SORT: a sort rule broken. va, vb and vc are the widths of the operands; the lines are document 01's, in its order
unfoldable pub sort_good : ℕ → Node → ℕ → ℕ → ℕ → Bool
sort_good w d va vb vc =
    leb d.width 64
    -- const is a word with imm below 2^width
    && ((eqb d.kind CONST && leb 1 d.width && ltb d.imm (2 ^ d.width))
    -- input and state are words or memories; an initial node has the state's sort
    || (eqb d.kind INPUT) || (eqb d.kind STATE && (eqb d.a 0 || eqb va d.width))
    -- not, and, or, add, sub, mul, divu, rem, sll and srl are words with all widths equal
    || (eqb d.kind NOT && leb 1 d.width && eqb va d.width) || (evenly d.kind && leb 1 d.width && eqb va d.width && eqb vb d.width)
    -- bad is 1 wide over 1
    || (eqb d.kind BAD && eqb d.width 1 && eqb va 1)
    -- ext and sext take a word and are at least as wide
    || (extends d.kind && leb 1 va && leb va d.width)
    -- eq and ult are 1 wide over two words of one width
    || (compares d.kind && eqb d.width 1 && leb 1 va && eqb vb va)
    -- ite has a condition 1 wide and one sort, word or memory, for the rest
    || (eqb d.kind ITE && eqb va 1 && eqb vb d.width && eqb vc d.width)
    -- addresses, values and reads are W wide
    || (eqb d.kind READ && eqb d.width w && eqb va 0 && eqb vb w) || (eqb d.kind WRITE && eqb d.width 0 && eqb va 0 && eqb vb w && eqb vc w))

unfoldable pub sorts_good : List ℕ → ℕ → Node → Bool
sorts_good t w d = sort_good w d (width_of t d.a) (width_of t d.b) (width_of t d.c)

-- 3 KIND, 4 NOT LOWERED, 5 and 6 at node i, which is d: the first that applies
unfoldable pub fault_of : List ℕ → ℕ → ℕ → Node → Result Unit Fault
fault_of t w i d =
    pick (not (named d.kind)) (Err (Kind i))
    (pick (not (lowered d.kind)) (Err (NotLowered i))
    (pick (not (operands_good i d)) (Err (Operand i))
    (pick (not (sorts_good t w d)) (Err (Sort i))
    (Ok tt))))

unfoldable pub node_fault : List ℕ → ℕ → ℕ → Result Unit Fault
node_fault t w i = fault_of t w i (node_at t i)

unfoldable pub node_bad : List ℕ → ℕ → ℕ → Bool
node_bad t w i = not (is_clear (node_fault t w (i + 1)))

-- nodes upwards
unfoldable pub nodes_fault : List ℕ → ℕ → Result Unit Fault
nodes_fault t w =
    pick (ltb (first (nodes t) (node_bad t w)) (nodes t)) (node_fault t w (first (nodes t) (node_bad t w) + 1))
    (Ok tt)

-- 1 and 2 first
unfoldable pub table_fault : List ℕ → List ℕ → ℕ → Result Unit Fault
table_fault t l w =
    pick (not (size_good t l w)) (Err Size)
    (pick (addresses_bad l w) (Err Address)
    (nodes_fault t w))

-- a table asks by its bad nodes: one is enough. A record cut off at the end is no node
unfoldable pub asks_at : List ℕ → ℕ → Bool
asks_at t i = eqb (kind_of t (i + 1)) BAD

unfoldable pub asks : List ℕ → Bool
asks t = ltb (first (nodes t) (asks_at t)) (nodes t)
