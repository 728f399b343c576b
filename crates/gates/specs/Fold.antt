-- Not, And, Or fold a known operand away. Xnor: known true gives the other bit, known false its Not; none known gives ResultHalf, then Not.
use Rattle.std.specs.Prelude.{◌||◌, ℕ}
use Rattle.loops.specs.Loop.{pick}
use Rattle.netlist.specs.Net.{Net}
use Rattle.netlist.specs.Bit.{is_known, known_of, by_known}
use Rattle.gates.specs.Made.{MadeBit, kept, added, gate_not, gate_and, gate_or, gate_result_half}

unfoldable pub not_bit : Net → ℕ → MadeBit
not_bit s a = by_known (known_of a) (kept s 1) (kept s 0) (added s (gate_not a))

unfoldable pub and_bit : Net → ℕ → ℕ → MadeBit
and_bit s a b =
    by_known (known_of a) (kept s 0) (kept s b)
    (by_known (known_of b) (kept s 0) (kept s a)
    (added s (gate_and a b)))

unfoldable pub or_bit : Net → ℕ → ℕ → MadeBit
or_bit s a b =
    by_known (known_of a) (kept s b) (kept s 1)
    (by_known (known_of b) (kept s a) (kept s 1)
    (added s (gate_or a b)))

unfoldable pub xnor_bit : Net → ℕ → ℕ → MadeBit
xnor_bit s a b =
    let r : MadeBit = added s (gate_result_half a b) in
    by_known (known_of a) (not_bit s b) (kept s b)
    (by_known (known_of b) (not_bit s a) (kept s a)
    (not_bit r.net r.bit))

-- how many gates are made at most: none for a Not of a known bit, one for an Xnor with one
unfoldable pub not_cost : ℕ → ℕ
not_cost a = pick (is_known a) 0 1

unfoldable pub xnor_cost : ℕ → ℕ → ℕ
xnor_cost a b = pick (is_known a || is_known b) 1 2
