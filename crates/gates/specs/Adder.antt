-- Adder on (left, right, carry), result first, then carry.
use Rattle.std.specs.Prelude.{◌&&◌, ℕ, eqb}
use Rattle.loops.specs.Loop.{pick}
use Rattle.netlist.specs.Net.{Net}
use Rattle.netlist.specs.Bit.{is_known}
use Rattle.gates.specs.Made.{MadeBit, MadeSum, kept, added, gate_carry_half, gate_result_half, gate_carry_full, gate_result_full}
use Rattle.gates.specs.Fold.{not_bit, or_bit}

abbrev pub summed : MadeBit → ℕ → MadeSum
summed m c = record { net = m.net; sum = m.bit; carry = c }

abbrev pub carried : MadeBit → ℕ → MadeSum
carried m s = record { net = m.net; sum = s; carry = m.bit }

-- two are known, a and b. Equal: result is the third, carry is that constant. Different: result is Not of the third, carry is the third
unfoldable pub two_known : Net → ℕ → ℕ → ℕ → MadeSum
two_known s a b t = pick (eqb a b) (summed (kept s t) a) (summed (not_bit s t) t)

-- one is known, k. False: ResultHalf, CarryHalf of the others. True: ResultHalf, Not of it, Or
unfoldable pub one_known : Net → ℕ → ℕ → ℕ → MadeSum
one_known s k a b =
    let r : MadeBit = added s (gate_result_half a b) in
    let t : MadeBit = not_bit r.net r.bit in
    pick (eqb k 0)
    (carried (added r.net (gate_carry_half a b)) r.bit)
    (carried (or_bit t.net a b) t.bit)

-- none known: ResultFull, CarryFull
unfoldable pub none_known : Net → ℕ → ℕ → ℕ → MadeSum
none_known s a b c =
    let r : MadeBit = added s (gate_result_full a b c) in
    carried (added r.net (gate_carry_full a b c)) r.bit

-- all known is a case of two known: then the third's Not makes no gate
unfoldable pub adder_bit : Net → ℕ → ℕ → ℕ → MadeSum
adder_bit s l r c =
    pick (is_known l)
    (pick (is_known r) (two_known s l r c) (pick (is_known c) (two_known s l c r) (one_known s l r c)))
    (pick (is_known r)
    (pick (is_known c) (two_known s r c l) (one_known s r l c))
    (pick (is_known c) (one_known s c l r) (none_known s l r c)))

-- how many gates it makes at most, by its left and right bits: with both known, the Not of the carry
unfoldable pub adder_cost : ℕ → ℕ → ℕ
adder_cost l r = pick (is_known l && is_known r) 1 3
