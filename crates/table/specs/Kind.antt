-- The kinds of nodes: their numbers in document 01, and what is a matter of the kind alone. A new kind is added here.
use Rattle.std.specs.Prelude.{Bool, not, ◌&&◌, ◌||◌, ℕ, eqb, leb}

abbrev pub CONST : ℕ
CONST = 1

abbrev pub INPUT : ℕ
INPUT = 2

abbrev pub STATE : ℕ
STATE = 3

abbrev pub NOT : ℕ
NOT = 4

abbrev pub BAD : ℕ
BAD = 5

abbrev pub AND : ℕ
AND = 6

abbrev pub EXT : ℕ
EXT = 7

abbrev pub EQ : ℕ
EQ = 8

abbrev pub ADD : ℕ
ADD = 9

abbrev pub ITE : ℕ
ITE = 10

abbrev pub SUB : ℕ
SUB = 11

abbrev pub ULT : ℕ
ULT = 12

abbrev pub MUL : ℕ
MUL = 13

abbrev pub DIVU : ℕ
DIVU = 14

abbrev pub REM : ℕ
REM = 15

abbrev pub READ : ℕ
READ = 16

abbrev pub WRITE : ℕ
WRITE = 17

abbrev pub OR : ℕ
OR = 18

abbrev pub SLL : ℕ
SLL = 20

abbrev pub SRL : ℕ
SRL = 21

abbrev pub SEXT : ℕ
SEXT = 24

-- a number that names a kind, and a kind that is lowered
abbrev pub named : ℕ → Bool
named k = leb 1 k && leb k SEXT

abbrev pub lowered : ℕ → Bool
lowered k = leb k WRITE || eqb k OR || eqb k SLL || eqb k SRL || eqb k SEXT

-- the operands that a kind uses: const, input and state have none, but a state may have an initial node as its a
abbrev pub may_use_a : ℕ → Bool
may_use_a k = leb STATE k

abbrev pub uses_a : ℕ → Bool
uses_a k = leb NOT k

abbrev pub uses_b : ℕ → Bool
uses_b k = eqb k AND || (leb EQ k && not (eqb k SEXT))

abbrev pub uses_c : ℕ → Bool
uses_c k = eqb k ITE || eqb k WRITE

abbrev pub uses_imm : ℕ → Bool
uses_imm k = eqb k CONST

-- two operands, and all widths equal
abbrev pub evenly : ℕ → Bool
evenly k = eqb k AND || eqb k ADD || eqb k SUB || eqb k MUL || eqb k DIVU || eqb k REM || eqb k OR || eqb k SLL || eqb k SRL

abbrev pub compares : ℕ → Bool
compares k = eqb k EQ || eqb k ULT

abbrev pub divides : ℕ → Bool
divides k = eqb k DIVU || eqb k REM

-- the two extensions
abbrev pub extends : ℕ → Bool
extends k = eqb k EXT || eqb k SEXT

-- read and write have an address
abbrev pub accesses : ℕ → Bool
accesses k = eqb k READ || eqb k WRITE
