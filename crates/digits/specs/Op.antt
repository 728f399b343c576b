-- The plain operations on words: what each makes of numbers, how wide a word it makes, and how many gates it may take. A new one is added here.
use Rattle.std.specs.Prelude.{Bool, true, false, ℕ, ◌+◌, ◌-◌, ◌*◌, ◌/◌, ◌%◌, ◌^◌, eqb, ltb}
use Rattle.std.specs.Int.Bits.{bit_and, bit_or}
use Rattle.loops.specs.Loop.{pick, bit}
use Rattle.digits.specs.Digits.{powers_below}

-- modulo 2^v
unfoldable pub not_word : ℕ → ℕ → ℕ
not_word v x = 2 ^ v - 1 - x % 2 ^ v

unfoldable pub add_word : ℕ → ℕ → ℕ → ℕ
add_word v x y = (x + y) % 2 ^ v

unfoldable pub sub_word : ℕ → ℕ → ℕ → ℕ
sub_word v x y = (x + (2 ^ v - y % 2 ^ v)) % 2 ^ v

unfoldable pub mul_word : ℕ → ℕ → ℕ → ℕ
mul_word v x y = x * y % 2 ^ v

-- a shift by y places; an amount of width or more gives zero
unfoldable pub sll_word : ℕ → ℕ → ℕ → ℕ
sll_word v x y = pick (ltb y v) (x * 2 ^ y % 2 ^ v) 0

unfoldable pub srl_word : ℕ → ℕ → ℕ → ℕ
srl_word v x y = pick (ltb y v) (x / 2 ^ y) 0

pub data Op : Type 0 where
  op_not : Op
  op_and : Op
  op_or : Op
  op_eq : Op
  op_add : Op
  op_sub : Op
  op_ult : Op
  op_mul : Op
  op_sll : Op
  op_srl : Op

-- it has two operands
unfoldable pub op_two : Op → Bool
op_two op_not = false
op_two op_and = true
op_two op_or = true
op_two op_eq = true
op_two op_add = true
op_two op_sub = true
op_two op_ult = true
op_two op_mul = true
op_two op_sll = true
op_two op_srl = true

-- it says one bit of its operands
unfoldable pub op_one : Op → Bool
op_one op_not = false
op_one op_and = false
op_one op_or = false
op_one op_eq = true
op_one op_add = false
op_one op_sub = false
op_one op_ult = true
op_one op_mul = false
op_one op_sll = false
op_one op_srl = false

-- how wide its word is, over operands v wide
abbrev pub op_wide : Op → ℕ → ℕ
op_wide o v = pick (op_one o) 1 v

-- what it makes of the numbers x and y of v digits
unfoldable pub op_value : Op → ℕ → ℕ → ℕ → ℕ
op_value op_not v x y = not_word v x
op_value op_and v x y = bit_and x y
op_value op_or v x y = bit_or x y
op_value op_eq v x y = bit (eqb x y)
op_value op_add v x y = add_word v x y
op_value op_sub v x y = sub_word v x y
op_value op_ult v x y = bit (ltb x y)
op_value op_mul v x y = mul_word v x y
op_value op_sll v x y = sll_word v x y
op_value op_srl v x y = srl_word v x y

-- a shift: a stage for each power of two below the width
unfoldable pub shift_gates : ℕ → ℕ
shift_gates v = 3 * v * powers_below v + 2 * v - powers_below v - 1

-- how many gates are enough for it, over operands v wide
unfoldable pub op_gates : Op → ℕ → ℕ
op_gates op_not v = v
op_gates op_and v = v
op_gates op_or v = v
op_gates op_eq v = 3 * v - 1
op_gates op_add v = 3 * v
op_gates op_sub v = 4 * v
op_gates op_ult v = 4 * v + 1
op_gates op_mul v = 2 * v * (v + 1)
op_gates op_sll v = shift_gates v
op_gates op_srl v = shift_gates v
