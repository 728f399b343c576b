-- The lowering: refusals 1 to 6, then 14, then 7, 8, 9; on success gates, constraints and bit map.
use Rattle.std.specs.Prelude.{◌≡◌, List, ◌++◌, true, ℕ, ◌+◌, ◌/◌, ◌≤◌, ltb, length, drop, replicate, Result, Ok, Err}
use Rattle.loops.specs.Loop.{pick}
use Rattle.table.specs.Node.{nodes}
use Rattle.table.specs.declared.Sums.{Sums}
use Rattle.table.specs.Sheet as sheet
use Rattle.table.specs.Sheet.{table_fault, by_fault, asks}
use Rattle.table.specs.Ceiling.{sums_of}
use Rattle.netlist.specs.Sheet.{told}
use Rattle.netlist.specs.Record.{gate, put, records}
use Rattle.visits.specs.Flow.{Low, lower_to}
use Rattle.lowering.specs.declared.lower.Done.{Done}
use Rattle.lowering.specs.declared.lower.Refusal.{Refusal}
use Rattle.lowering.specs.declared.lower.Refusal.TheVariants.{Table, NothingAsked, GateRoom, BitRoom, ConstraintRoom}
use Rattle.nodes.specs.Source.{Source, listed, total_of}
use Rattle.nodes.specs.Recipe.{recipe}

-- what is answered: how many gates and constraints are made, or a refusal
abbrev pub Answer : Type 0
Answer = Result Done Refusal

abbrev pub counted : ℕ → ℕ → Done
counted n k = record { gates = n; constraints = k }

-- how many gates and constraints an answer has: none beside a refusal
abbrev pub counts_of : Answer → Done
counts_of (Ok d) = d
counts_of (Err e) = counted 0 0

-- a refusal's number on the sheet, and the node beside it
abbrev pub number_of : Refusal → ℕ
number_of (Table f) = sheet.number_of f
number_of NothingAsked = 14
number_of GateRoom = 7
number_of BitRoom = 8
number_of ConstraintRoom = 9

abbrev pub place_of : Refusal → ℕ
place_of (Table f) = sheet.place_of f
place_of NothingAsked = 0
place_of GateRoom = 0
place_of BitRoom = 0
place_of ConstraintRoom = 0

-- the same of an answer; 0 is no refusal
abbrev pub number : Answer → ℕ
number a = told number_of a

abbrev pub node : Answer → ℕ
node a = told place_of a

-- what is answered, and what the three lent buffers then hold
pub record Run : Type 0 where
  pub answer : Answer
  pub gates : List ℕ
  pub cons : List ℕ
  pub map : List ℕ

abbrev pub run : Answer → List ℕ → List ℕ → List ℕ → Run
run a g c m = record { answer = a; gates = g; cons = c; map = m }

-- unreached nodes' places hold this
abbrev pub UNREACHED : ℕ
UNREACHED = 4294967295

-- two constants, no constraint, no bits, nothing seen
unfoldable pub start : Source → List ℕ → List ℕ → Low
start S g c =
    record {
      core =
          record {
            net = record { gates = put (put g 0 (gate 0 0 0 0)) 1 (gate 1 0 0 0); n = 2 };
            cons = c;
            nc = 0;
            map = replicate (total_of S) UNREACHED;
          };
      seen = replicate (nodes S.table + 1) 0;
    }

-- what the visits make of it
abbrev pub lowered : Source → List ℕ → List ℕ → Low
lowered S g c = lower_to (recipe S) (start S g c)

-- what the code has of it, as these definitions have it
abbrev pub made_low : Done → List ℕ → List ℕ → List ℕ → List ℕ → Low
made_low d g c m z = record { core = record { net = record { gates = g; n = d.gates }; cons = c; nc = d.constraints; map = m }; seen = z }

-- done: beyond the used part the map is as before
unfoldable pub ended : Source → List ℕ → Low → Run
ended S m t = run (Ok (counted t.core.net.n t.core.nc)) t.core.net.gates t.core.cons (t.core.map ++ drop (total_of S) m)

-- whole constraints lent
abbrev pub con_records : List ℕ → ℕ
con_records c = length c / 2

-- the sums of the ceilings
abbrev pub sums : Source → Sums
sums S = sums_of S.table (listed S) S.word

-- 7 GATE ROOM, 8 BIT ROOM, 9 CONSTRAINT ROOM: whole records lent below the sum; then the lowering
unfoldable pub lower_clear : Source → List ℕ → List ℕ → List ℕ → Run
lower_clear S g c m =
    pick (ltb (records g) (sums S).gates) (run (Err GateRoom) g c m)
    (pick (ltb (length m) (sums S).map) (run (Err BitRoom) g c m)
    (pick (ltb (con_records c) (sums S).constraints) (run (Err ConstraintRoom) g c m)
    (ended S m (lowered S g c))))

-- 14 NOTHING ASKED: no node is bad
unfoldable pub lower_asked : Source → List ℕ → List ℕ → List ℕ → Run
lower_asked S g c m = pick (asks S.table) (lower_clear S g c m) (run (Err NothingAsked) g c m)

-- 1 to 6 first; no refusal changes anything
unfoldable pub lower_all : Source → List ℕ → List ℕ → List ℕ → Run
lower_all S g c m = by_fault (table_fault S.table S.addrs S.word) (lower_asked S g c m) (λ f. run (Err (Table f)) g c m)

-- the lent marks after an answer: where nodes were visited, 1 at each that was reached
unfoldable pub marked : Source → List ℕ → List ℕ → List ℕ → Answer → List ℕ
marked S g c z (Ok d) = (lowered S g c).seen ++ drop (nodes S.table + 1) z
marked S g c z (Err e) = z

-- a table is accepted and asks something, and the lent buffers have room for the sums
pub record Accepted (S : Source) (g c m : List ℕ) : Type 0 where
  pub clear : table_fault S.table S.addrs S.word ≡ Ok tt
  pub asked : asks S.table ≡ true
  pub gates : (sums S).gates ≤ records g
  pub map : (sums S).map ≤ length m
  pub constraints : (sums S).constraints ≤ con_records c
