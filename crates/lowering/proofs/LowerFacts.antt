-- What the proof of the entry point cites: refusal by refusal, and where the lowering ended.
use Rattle.std.specs.Prelude.{Result, Ok, Err}
use mathlib.Core.Path.{◌≡◌, refl, ap, sym, ◌∙◌}
use mathlib.Core.List.{List, ◌++◌}
use mathlib.Core.Bool.{Bool, true, false, not}
use Prim.Native.Nat.{ℕ, ◌+◌, ◌≤◌, ◌<◌}
use native.Mathlib.Omega.{arith}
use lib.ListN.{length, take, drop}
use lib.Seq.{length-take-le}
use borrow.Author.Tests.{lt-ltb, le-ltb}
use Rattle.loops.proofs.Loop.{pick_true, pick-false}
use Rattle.table.specs.declared.Fault.{Fault}
use Rattle.table.specs.declared.Unit.TheVariants.{Bit}
use Rattle.table.specs.declared.Sums.{Sums}
use Rattle.table.specs.Node.{nodes, Narrow}
use Rattle.table.specs.Size.{size_sum, offsets_into}
use Rattle.table.specs.Sheet.{table_fault, is_clear, asks}
use Rattle.table.specs.Ceiling.{sums_of}
use Rattle.table.proofs.Whole.{within, fine, is-clear}
use Rattle.table.proofs.size.Laws as size
use Rattle.netlist.specs.Record.{records}
use Rattle.lowering.specs.declared.lower.Done.{Done}
use Rattle.visits.specs.Flow.{Low}
use Rattle.lowering.specs.declared.lower.Refusal.TheVariants.{Table, NothingAsked, GateRoom, BitRoom, ConstraintRoom}
use Rattle.nodes.specs.Source.{Source, listed, total_of}
use Rattle.lowering.specs.Lower.{Run, run, made_low, sums, con_records, lowered, ended, lower_clear, lower_asked, lower_all, marked, Accepted}
use Rattle.lowering.specs.Visit.{Begins}

pub map-sum : (S : Source) → (sums S).map ≡ total_of S
unfolding sums_of
map-sum S = refl

-- what is asked of the offsets, and where the lowering begins
module _ (S : Source) (g c m : List ℕ) (h : Accepted S g c m) (o z : List ℕ) (long : 514 ≤ length o) (wide : 513 ≤ length z) where
  pub offsets-asks : ((listed S ≤ 64) × (S.word ≤ 64) × (nodes S.table ≤ 512) × Narrow S.table) × (nodes S.table + 2 ≤ length o)
  offsets-asks = let f = fine S.table S.addrs S.word h.clear in ((f.short, (within S.table S.addrs S.word h.clear).4, f.few, f.narrow), omega (arith, f.few))

  pub marks-room : nodes S.table + 1 ≤ length z
  marks-room = omega (arith, (fine S.table S.addrs S.word h.clear).few)

  pub map-room : (total : ℕ) → total ≡ size_sum Bit S.table (listed S) S.word → total ≤ length m
  map-room total e = omega (arith, h.map, map-sum S, e)

  pub begins : (total : ℕ) (x : List ℕ) → (total ≡ size_sum Bit S.table (listed S) S.word) × (x ≡ offsets_into Bit S.table (listed S) S.word o)
      → Begins S x g c (take total m) (take (nodes S.table + 1) z)
  begins total x e =
      record {
        clear = h.clear;
        offsets = size.stored Bit S.table (listed S) S.word o x offsets-asks.1 e.1;
        gates = h.gates;
        constraints = h.constraints;
        mapped = length-take-le total m (map-room total e.0) ∙ e.0;
        marked = length-take-le (nodes S.table + 1) z marks-room;
      }

-- where the lowering ended
module _ (S : Source) (g c m z g1 c1 m1 z1 : List ℕ) (d : Done) (e : made_low d g1 c1 m1 z1 ≡ lowered S g c) where
  pub ended-done : (total : ℕ) → total ≡ total_of S
      → (run (Ok d) g1 c1 (m1 ++ drop total m) ≡ ended S m (lowered S g c))
      × (z1 ++ drop (nodes S.table + 1) z ≡ marked S g c z (Ok d))
  unfolding ended marked
  ended-done total t = (rw t (ap (ended S m) e), ap (λ (x : Low). x.seen ++ drop (nodes S.table + 1) z) e)

-- room first: 7, 8, 9
module _ (S : Source) (g c m z : List ℕ) (s : Sums) (e : s ≡ sums S) where
  pub no-gate-room : (n : ℕ) → n ≡ records g → n < s.gates → (run (Err GateRoom) g c m ≡ lower_clear S g c m) × (z ≡ marked S g c z (Err GateRoom))
  unfolding lower_clear marked
  no-gate-room n q l = (sym (pick_true _ _ _ (lt-ltb (records g) (sums S).gates (rw (e, q) at l))), refl)

  module _ (n : ℕ) (q : n ≡ records g) (le : s.gates ≤ n) where
    enough : (sums S).gates ≤ records g
    enough = rw (e, q) at le

    pub no-bit-room : length m < s.map → (run (Err BitRoom) g c m ≡ lower_clear S g c m) × (z ≡ marked S g c z (Err BitRoom))
    unfolding lower_clear marked
    no-bit-room l = (sym (pick-false _ _ _ (le-ltb (records g) (sums S).gates enough) ∙ pick_true _ _ _ (lt-ltb (length m) (sums S).map (rw e at l))), refl)

    module _ (le2 : s.map ≤ length m) where
      places : (sums S).map ≤ length m
      places = rw e at le2

      pub no-constraint-room : con_records c < s.constraints → (run (Err ConstraintRoom) g c m ≡ lower_clear S g c m) × (z ≡ marked S g c z (Err ConstraintRoom))
      unfolding lower_clear marked
      no-constraint-room l = (
        sym
            (pick-false _ _ _ (le-ltb (records g) (sums S).gates enough)
            ∙ (pick-false _ _ _ (le-ltb (length m) (sums S).map places) ∙ pick_true _ _ _ (lt-ltb (con_records c) (sums S).constraints (rw e at l)))),
        refl,
      )

      module _ (le3 : s.constraints ≤ con_records c) where
        pairs : (sums S).constraints ≤ con_records c
        pairs = rw e at le3

        pub accepted : (table_fault S.table S.addrs S.word ≡ Ok tt) × (asks S.table ≡ true) → Accepted S g c m
        accepted h = record { clear = h.0; asked = h.1; gates = enough; map = places; constraints = pairs }

        pub roomy : (r : Run) → r ≡ ended S m (lowered S g c) → r ≡ lower_clear S g c m
        unfolding lower_clear
        roomy r h =
            h
            ∙ sym
            (pick-false _ _ _ (le-ltb (records g) (sums S).gates enough)
            ∙ (pick-false _ _ _ (le-ltb (length m) (sums S).map places) ∙ pick-false _ _ _ (le-ltb (con_records c) (sums S).constraints pairs)))

-- what a table's answer says when it is clear
module _ (S : Source) (f : Result Unit Fault) (e : f ≡ table_fault S.table S.addrs S.word) (b : Bool) (k : b ≡ is_clear f) where
  pub clear-table : b ≡ true → table_fault S.table S.addrs S.word ≡ Ok tt
  clear-table h = sym e ∙ is-clear f (ap not (sym k ∙ h))

-- the table first: 1 to 6, then 14
module _ (S : Source) (g c m : List ℕ) where
  pub faulty : (f : Fault) → Err f ≡ table_fault S.table S.addrs S.word → run (Err (Table f)) g c m ≡ lower_all S g c m
  unfolding lower_all
  faulty f e = rw (← e)

  module _ (e : Ok tt ≡ table_fault S.table S.addrs S.word) (s : Bool) (q : s ≡ asks S.table) where
    past : lower_all S g c m ≡ lower_asked S g c m
    unfolding lower_all
    past = rw (← e)

    pub unasked : s ≡ false → run (Err NothingAsked) g c m ≡ lower_all S g c m
    unfolding lower_asked
    unasked n = sym (past ∙ pick-false _ _ _ (sym q ∙ n))

    pub clear-asked : s ≡ true → (table_fault S.table S.addrs S.word ≡ Ok tt) × (asks S.table ≡ true)
    clear-asked y = (sym e, sym q ∙ y)

    pub clear-all : s ≡ true → (r : Run) → r ≡ lower_clear S g c m → r ≡ lower_all S g c m
    unfolding lower_asked
    clear-all y r x = x ∙ sym (past ∙ pick_true _ _ _ (sym q ∙ y))

pub faulty-marks : (S : Source) (g c z : List ℕ) (f : Fault) → z ≡ marked S g c z (Err (Table f))
unfolding marked
faulty-marks S g c z f = refl

pub unasked-marks : (S : Source) (g c z : List ℕ) → z ≡ marked S g c z (Err NothingAsked)
unfolding marked
unasked-marks S g c z = refl
