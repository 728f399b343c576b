-- The kinds of gates, 0 to 13, in document 01's order.
use Rattle.std.specs.Prelude.{Bool, true, false, not, ◌&&◌, ◌||◌, ℕ, eqb}
use Rattle.std.specs.Bool.{beq}
use Rattle.loops.specs.Loop.{pick}

abbrev pub xor : Bool → Bool → Bool
xor a b = not (beq a b)

abbrev pub maj : Bool → Bool → Bool → Bool
maj a b c = (a && b) || (a && c) || (b && c)

-- 2 InputBit, 12 Quotient, 13 Remainder: given from outside
unfoldable pub free : ℕ → Bool
free k = eqb k 2 || eqb k 12 || eqb k 13

-- of a kind that is not free x is an operand; y is one but for Not, z is one for CarryFull and ResultFull
unfoldable pub uses_y : ℕ → Bool
uses_y k = not (eqb k 3)

unfoldable pub uses_z : ℕ → Bool
uses_z k = eqb k 10 || eqb k 11

-- what a kind that is not free makes of the values of its operands
unfoldable pub value_of : ℕ → Bool → Bool → Bool → Bool
value_of k x y z =
    -- 1 ConstTrue
    pick (eqb k 1) true
    -- 3 Not, 4 And, 5 Nand, 6 Or
    (pick (eqb k 3) (not x)
    (pick (eqb k 4) (x && y)
    (pick (eqb k 5) (not (x && y))
    (pick (eqb k 6) (x || y)
    -- 7 Matriarch1: not the condition, and the right
    (pick (eqb k 7) (not x && y)
    -- 8 CarryHalf, 9 ResultHalf, 10 CarryFull, 11 ResultFull
    (pick (eqb k 8) (x && y)
    (pick (eqb k 9) (xor x y)
    (pick (eqb k 10) (maj x y z)
    (pick (eqb k 11) (xor (xor x y) z)
    -- 0 ConstFalse
    false)))))))))
