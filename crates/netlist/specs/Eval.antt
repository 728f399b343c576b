-- The gate evaluator: refusals 11, 12, 13; one byte a gate, free gates given as 0 or 1.
use Rattle.std.specs.Prelude.{Result, Ok, Err, List, Bool, ◌&&◌, ℕ, eqb, ltb, leb, get_or, set, length}
use Rattle.std.specs.Result.{is_ok}
use Rattle.netlist.specs.declared.record.Gate.{Gate}
use Rattle.netlist.specs.declared.check.Refusal.{Refusal}
use Rattle.netlist.specs.declared.check.Refusal.TheVariants.{ValueRoom, Input}
use Rattle.loops.specs.Loop.{pick, first, iter, bit}
use Rattle.netlist.specs.Record.{gate_at, records}
use Rattle.netlist.specs.Kind.{free, value_of}
use Rattle.netlist.specs.Check.{list_fault}

-- the value of gate i in a list of bytes
abbrev pub truth : List ℕ → ℕ → Bool
truth v i = eqb (get_or v i 0) 1

unfoldable pub gate_value : Gate → List ℕ → ℕ
gate_value g v = bit (value_of g.kind (truth v g.x) (truth v g.y) (truth v g.z))

-- free gates stay as given, the others are overwritten
unfoldable pub eval_step : List ℕ → ℕ → List ℕ → List ℕ
eval_step l i v = pick (free (gate_at l i).kind) v (set v i (gate_value (gate_at l i) v))

-- 13: a given value that is neither 0 nor 1
unfoldable pub out_of_range : List ℕ → List ℕ → ℕ → Bool
out_of_range l v i = free (gate_at l i).kind && leb 2 (get_or v i 0)

-- what is answered, and what the value buffer then holds
pub record Run : Type 0 where
  pub answer : Result (Unit {0}) Refusal
  pub values : List ℕ

abbrev pub run : Result (Unit {0}) Refusal → List ℕ → Run
run a v = record { answer = a; values = v }

-- 12: value buffer too short; then 13; then the values, nothing beyond
unfoldable pub eval_sound : List ℕ → List ℕ → Run
eval_sound l v =
    pick (ltb (length v) (records l)) (run (Err ValueRoom) v)
    (pick (ltb (first (records l) (out_of_range l v)) (records l)) (run (Err (Input (first (records l) (out_of_range l v)))) v)
    (run (Ok tt) (iter (records l) (eval_step l) v)))

-- 11 first
unfoldable pub eval_gates : List ℕ → List ℕ → Run
eval_gates l v = pick (is_ok (list_fault l)) (eval_sound l v) (run (list_fault l) v)
