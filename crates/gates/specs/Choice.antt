-- Choice of t or f by a condition c.
use Rattle.std.specs.Prelude.{◌&&◌, ℕ, eqb}
use Rattle.loops.specs.Loop.{pick}
use Rattle.netlist.specs.Net.{Net}
use Rattle.netlist.specs.Bit.{is_known, known_of, by_known}
use Rattle.gates.specs.Made.{MadeBit, kept, added, gate_matriarch1}
use Rattle.gates.specs.Fold.{not_bit, and_bit, or_bit}

-- the true side. t known: c or false; else And(t, c)
unfoldable pub true_side : Net → ℕ → ℕ → MadeBit
true_side s c t = by_known (known_of t) (kept s 0) (kept s c) (and_bit s t c)

-- the false side. f known: Not c or false; else Matriarch1(c, f)
unfoldable pub false_side : Net → ℕ → ℕ → MadeBit
false_side s c f = by_known (known_of f) (kept s 0) (not_bit s c) (added s (gate_matriarch1 c f))

-- then Or
unfoldable pub both_sides : Net → ℕ → ℕ → ℕ → MadeBit
both_sides s c t f =
    let x : MadeBit = true_side s c t in
    let y : MadeBit = false_side x.net c f in
    or_bit y.net x.bit y.bit

-- c is not known. Both known and equal, that constant; both known otherwise, c or Not c
unfoldable pub choice_bit : Net → ℕ → ℕ → ℕ → MadeBit
choice_bit s c t f =
    pick (is_known t && is_known f)
    (pick (eqb t f) (kept s t) (pick (eqb t 1) (kept s c) (not_bit s c)))
    (both_sides s c t f)

-- a known condition picks without gates
unfoldable pub mux_bit : Net → ℕ → ℕ → ℕ → MadeBit
mux_bit s c t f = by_known (known_of c) (kept s f) (kept s t) (choice_bit s c t f)
