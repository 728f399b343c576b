-- Refusal 11, GATE LIST.
use Rattle.std.specs.Prelude.{Result, Ok, Err, List, Bool, not, ◌&&◌, ◌||◌, ℕ, eqb, ltb, leb}
use Rattle.netlist.specs.declared.record.Gate.{Gate}
use Rattle.netlist.specs.declared.check.Refusal.{Refusal}
use Rattle.netlist.specs.declared.check.Refusal.TheVariants.{GateList, ValueRoom, Input}
use Rattle.loops.specs.Loop.{pick, first}
use Rattle.netlist.specs.Sheet.{told}
use Rattle.netlist.specs.Record.{gate_at, records, whole_records}
use Rattle.netlist.specs.Kind.{free, uses_y, uses_z}

-- a refusal's number on the sheet, and the gate beside it
abbrev pub number_of : Refusal → ℕ
number_of (GateList i) = 11
number_of ValueRoom = 12
number_of (Input i) = 13

abbrev pub place_of : Refusal → ℕ
place_of (GateList i) = i
place_of ValueRoom = 0
place_of (Input i) = i

-- the same of an answer; 0 is no refusal
abbrev pub number : Result (Unit {0}) Refusal → ℕ
number a = told number_of a

abbrev pub place : Result (Unit {0}) Refusal → ℕ
place a = told place_of a

-- operand not earlier, unused field not 0
unfoldable pub field_good : Bool → ℕ → ℕ → Bool
field_good used i v = (used && ltb v i) || (not used && eqb v 0)

-- gate 0 not ConstFalse, gate 1 not ConstTrue
unfoldable pub const_good : ℕ → Gate → Bool
const_good i g = eqb g.kind i && eqb g.x 0 && eqb g.y 0 && eqb g.z 0

-- unknown kind, a constant later; node and bit of a free gate are any numbers
unfoldable pub later_good : ℕ → Gate → Bool
later_good i g =
    (free g.kind && eqb g.z 0)
    || (leb 3 g.kind && leb g.kind 11 && ltb g.x i && field_good (uses_y g.kind) i g.y && field_good (uses_z g.kind) i g.z)

unfoldable pub faulty : List ℕ → ℕ → Bool
faulty l i = not (pick (ltb i 2) (const_good i (gate_at l i)) (later_good i (gate_at l i)))

-- length no multiple of a record or below two of them: gate 0; else the first faulty gate
unfoldable pub list_fault : List ℕ → Result (Unit {0}) Refusal
list_fault l =
    pick (whole_records l && leb 2 (records l))
    (pick (ltb (first (records l) (faulty l)) (records l)) (Err (GateList (first (records l) (faulty l)))) (Ok tt))
    (Err (GateList 0))
