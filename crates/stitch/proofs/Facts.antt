-- What the proofs of the code cite, path by path.
use mathlib.Core.Path.{◌≡◌, refl, ap, sym, ◌∙◌, subst}
use mathlib.Core.List.{List}
use mathlib.Core.Bool.{true, false}
use Prim.Native.Nat.{ℕ, ◌+◌, ◌-◌, ◌*◌, ◌/◌, ◌≤◌}
use native.Mathlib.Omega.{arith}
use lib.ListN.{length, get_or, set, take, drop, length-replicate, length-set, length-take}
use lib.Seq.{length-take-le, get_or-take, ext_get_or, take_at}
use Rattle.loops.proofs.Loop.{iter-inv}
use Rattle.table.specs.declared.Unit.TheVariants.{Bit}
use Rattle.table.specs.Node.{nodes, Narrow}
use Rattle.table.specs.Size as size
use Rattle.table.specs.Size.{offset_of, size_sum, offset_step, offsets_into}
use Rattle.table.proofs.Whole.{within, fine}
use Rattle.table.proofs.size.Laws.{stored, sum_mono, offset-end}
use Rattle.netlist.specs.Record.{used, Room}
use Rattle.text.specs.Plain.{Plain, plain_text}
use Rattle.text.specs.Plain.Plain.{plain}
use Rattle.std.specs.Prelude.{Option, Some, None, Ok, Err, is_ok}
use Rattle.text.specs.declared.read.Table as reads
use Rattle.text.specs.Read.{addr_size, node_size, answer_of, read_text, addr_list, node_table, word_width}
use Rattle.text.specs.Read.Stored.{stored as kept}
use Rattle.text.specs.Write.{Offsets, constraint_size, gate_count, node_count, constraint_count, output_room, refused_room, refused_line, output, Written}
use Rattle.text.proofs.Answers.{TableRead, table-read, refused-read, table, plain_of}
use Rattle.text.proofs.Sizes.{room}
use Rattle.lowering.specs.declared.lower.Done.{Done}
use Rattle.lowering.specs.declared.lower.Refusal.{Refusal}
use Rattle.nodes.specs.Source.{Source, source, listed, total_of}
use Rattle.lowering.specs.Lower.{Answer, counted, Run, run, number_of, place_of, counts_of, lowered, lower_all, marked, Accepted}
use Rattle.lowering.specs.Promise.{Promise}
use Rattle.lowering.proofs.LowerFacts.{map-sum}
use Rattle.lowering.proofs.Answers.{Made, made}
use Rattle.stitch.specs.Printed.{GATES, PLACES, CONSTRAINTS, ADDRS, NODES, cleared, gate_buffer, constraint_buffer, bit_map, offset_list, done_lines, refusal, answer_lines, run_lines, table_lines, plain_lines, printed, ROOM}
use Rattle.stitch.specs.Lent as lent
use Rattle.stitch.specs.Lent.{TextRoom}

-- a refusal's line fits
pub refused-fits : (l : ℕ) → ROOM ≤ l → refused_room ≤ l
unfolding refused_room
refused-fits l h = omega arith

-- what is written is what is to be printed
as-printed : (l m : List ℕ) (r : ℕ) (x y : List ℕ) → x ≡ y → Written l x m r → Written l y m r
as-printed l m r x y e w = subst (λ (v : List ℕ). Written l v m r) e w

cleared-long : (n : ℕ) → length (cleared n) ≡ n
unfolding cleared
cleared-long n = length-replicate n 0

-- ---- a lowering that is done

module _ (S : Source) where
  abbrev N : ℕ
  N = nodes S.table

  abbrev Held : List ℕ → Type 0
  Held x = size.Offsets Bit S.table (listed S) S.word x

  abbrev into : List ℕ → List ℕ
  into o = offsets_into Bit S.table (listed S) S.word o

  abbrev offset : ℕ → ℕ
  offset i = offset_of Bit S.table (listed S) S.word i

  into-long : (o : List ℕ) → length (into o) ≡ length o
  unfolding offsets_into offset_step
  into-long o = iter-inv (λ _ (x : List ℕ). length x ≡ length o) _ (set o 0 0) (N + 1) (length-set o 0 0) (λ i x h e. length-set x (i + 1) _ ∙ e)

  held : (o : List ℕ) → N + 2 ≤ length o → Held (into o)
  held o h = stored Bit S.table (listed S) S.word o (into o) h refl

  up : (i k : ℕ) → i ≤ k → offset i ≤ offset k
  unfolding offset_of
  up i k h = sum_mono (size.node_size Bit S.table (listed S) S.word) (i - 1) (k - 1) (omega arith)

  -- the offsets in front of a longer list are those of the definition
  front : (o : List ℕ) → N + 2 ≤ length o → take (N + 1 + 1) (into o) ≡ offset_list S
  unfolding offset_list
  front o h =
      let z : List ℕ = cleared (N + 2) in
      let q : N + 2 ≤ length z = omega (arith, cleared-long (N + 2)) in
      let a : length (take (N + 1 + 1) (into o)) ≡ N + 1 + 1 = length-take-le (N + 1 + 1) (into o) (omega (arith, into-long o)) in
      let b : length (into z) ≡ N + 2 = into-long z ∙ cleared-long (N + 2) in
      ext_get_or 0 (take (N + 1 + 1) (into o)) (into z) (omega arith)
      (λ i lt. get_or-take (N + 1 + 1) (into o) i 0 (omega arith) ∙ ((held o h).at i (omega arith) ∙ sym ((held z q).at i (omega arith))))

module _ (S : Source) (g c m z : List ℕ) (l : lent.Done S g c m z) where
  pub few : nodes S.table ≤ NODES
  few = (fine S.table S.addrs S.word l.clear).few

  pub offsets-asks : (o : List ℕ) → length o ≡ NODES + 2 → ((listed S ≤ 64) × (S.word ≤ 64) × (nodes S.table ≤ 512) × Narrow S.table) × (nodes S.table + 2 ≤ length o)
  offsets-asks o e = let f = fine S.table S.addrs S.word l.clear in ((f.short, (within S.table S.addrs S.word l.clear).4, f.few, f.narrow), omega (arith, few))

  module _ (o : List ℕ) (long : length o ≡ NODES + 2) (total : ℕ) (x : List ℕ) (e : (total ≡ size_sum Bit S.table (listed S) S.word) × (x ≡ into S o)) where
    pub total-fits : total ≤ length m
    total-fits = omega (arith, l.mapped, e.0)

    offsets-fine : Offsets (take (nodes S.table + 1 + 1) x) (take total m) (length (take (nodes S.table + 1) z))
    offsets-fine =
        let n : ℕ = nodes S.table in
        let lz : length (take (n + 1) z) ≡ n + 1 = length-take-le (n + 1) z (omega (arith, l.marks, few)) in
        let lm : length (take total m) ≡ total = length-take-le total m total-fits in
        let lx : length x ≡ length o = ap length e.1 ∙ into-long S o in
        let lt : length (take (n + 1 + 1) x) ≡ n + 1 + 1 = length-take-le (n + 1 + 1) x (omega (arith, few)) in
        record {
          all = omega arith;
          up = λ i q.
              let a : get_or (take (n + 1 + 1) x) i 0 ≡ offset S i = at i (omega arith) in
              let b : get_or (take (n + 1 + 1) x) (i + 1) 0 ≡ offset S (i + 1) = at (i + 1) (omega arith) in
              let u : offset S i ≤ offset S (i + 1) = up S i (i + 1) (omega arith) in
              let v : offset S (i + 1) ≤ offset S (n + 1) = up S (i + 1) (n + 1) (omega arith) in
              let w : offset S (n + 1) ≡ total = offset-end Bit S.table (listed S) S.word ∙ sym e.0 in
              (omega arith, omega arith);
        }
      where
        at : (i : ℕ) → i ≤ nodes S.table + 1 → get_or (take (nodes S.table + 1 + 1) x) i 0 ≡ offset S i
        at i q =
            get_or-take (nodes S.table + 1 + 1) x i 0 (omega arith)
            ∙ (ap (λ (y : List ℕ). get_or y i 0) e.1 ∙ (held S o (omega (arith, few))).at i q)

    pub write-asks : (out : List ℕ) → ROOM ≤ length out
        → Offsets (take (nodes S.table + 1 + 1) x) (take total m) (length (take (nodes S.table + 1) z))
        × (output_room (gate_count g) (node_count (take (nodes S.table + 1) z)) (length (take total m)) (constraint_count c) ≤ length out)
    write-asks out r =
        let b : length (take (nodes S.table + 1) z) ≡ nodes S.table + 1 = length-take-le (nodes S.table + 1) z (omega (arith, l.marks, few)) in
        let d : length (take total m) ≡ total = length-take-le total m total-fits in (
          offsets-fine,
          omega (
            arith,
            room (gate_count g) (node_count (take (nodes S.table + 1) z)) (length (take total m)) (constraint_count c)
                (omega (arith, l.gates)) (omega (arith, few)) (omega (arith, l.map, total-fits)) (omega (arith, l.constraints)),
          ),
        )

    pub done-written : (out after : List ℕ) (r : ℕ) → Written out (output g (take total m) (take (nodes S.table + 1 + 1) x) (take (nodes S.table + 1) z) c) after r
        → Written out (output g (take (total_of S) m) (offset_list S) (take (nodes S.table + 1) z) c) after r
    done-written out after r w =
        let t : take (nodes S.table + 1 + 1) x ≡ offset_list S = ap (take (nodes S.table + 1 + 1)) e.1 ∙ front S o (omega (arith, few)) in
        rw (e.0, t) at w

-- ---- a table

run-lines : (S : Source) (g c m : List ℕ) (a : Answer) (g' c' m' : List ℕ) → run a g' c' m' ≡ lower_all S g c m
    → answer_lines S g' c' m' (lowered S g c).seen a ≡ run_lines S (lowered S g c).seen (lower_all S g c m)
unfolding run_lines
run-lines S g c m a g' c' m' e = ap (λ (r : Run). answer_lines S r.gates r.cons r.map (lowered S g c).seen r.answer) e

lines_clear : (S : Source) (g c m : List ℕ) → g ≡ gate_buffer → c ≡ constraint_buffer → m ≡ bit_map → run_lines S (lowered S g c).seen (lower_all S g c m) ≡ table_lines S
unfolding table_lines
lines_clear S g c m eg ec em = rw (eg, ec, em)

refused-lines : (S : Source) (g c m z : List ℕ) (a : Answer) (f : Refusal) → a ≡ Err f → answer_lines S g c m z a ≡ refused_line (number_of f) (place_of f)
unfolding answer_lines refusal
refused-lines S g c m z a f e = ap (answer_lines S g c m z) e

-- an answer that is no refusal holds its counts
is-done : (a : Answer) → is_ok a ≡ true → a ≡ Ok (counts_of a)
is-done (Ok d) h = refl
is-done (Err f) h = absurd (grind arith)

done-lines : (S : Source) (g c m z : List ℕ) (a : Answer) (n k : ℕ) → a ≡ Ok (counted n k) → done_lines S n k g c m z ≡ answer_lines S g c m z a
unfolding answer_lines
done-lines S g c m z a n k e = sym (ap (answer_lines S g c m z) e)

-- the front of the marks
front-marks : (S : Source) (g c z z' : List ℕ) (n k : ℕ) → length (lowered S g c).seen ≡ nodes S.table + 1 → z' ≡ marked S g c z (Ok (counted n k)) → take (nodes S.table + 1) z' ≡ (lowered S g c).seen
unfolding marked
front-marks S g c z z' n k long e = ap (take (nodes S.table + 1)) e ∙ take_at (lowered S g c).seen (drop (nodes S.table + 1) z) (nodes S.table + 1) long

-- from the cleared buffers (g1, c1, m1) and the marks z0 to what the lowering left (g, c, m, z)
module _ (S : Source) (g1 c1 m1 z0 : List ℕ) (eg : g1 ≡ gate_buffer) (ec : c1 ≡ constraint_buffer) (em : m1 ≡ bit_map) (ez : length z0 ≡ NODES + 1) (a : Answer) (g c m z : List ℕ)
    (p : Promise S g1 c1 m1 a g c m × (z ≡ marked S g1 c1 z0 a)) where
  lines : answer_lines S g c m (lowered S g1 c1).seen a ≡ table_lines S
  lines = run-lines S g1 c1 m1 a g c m p.0.answer ∙ lines_clear S g1 c1 m1 eg ec em

  pub table-refused : (f : Refusal) → a ≡ Err f → (u v : ℕ) → u ≡ number_of f → v ≡ place_of f → (out after : List ℕ) (r : ℕ) → Written out (refused_line u v) after r → Written out (table_lines S) after r
  table-refused f h u v eu ev out after r w = as-printed out after r _ _ (sym (refused-lines S g c m (lowered S g1 c1).seen a f h) ∙ lines) (rw (eu, ev) at w)

  module _ (b : Done) (is : a ≡ Ok b) where
    of : Made S g1 c1 m1 b.gates b.constraints
    of = made S g1 c1 m1 b.gates b.constraints a g c m p.0.answer is

    module _ (lg : length g ≡ length g1) (lc : length c ≡ length c1) (lm : length m ≡ length m1) (lz : length z ≡ length z0) where
      kg : length g ≡ used GATES
      kg = lg ∙ (ap length eg ∙ cleared-long (used GATES))

      kc : length c ≡ constraint_size * CONSTRAINTS
      kc = lc ∙ (ap length ec ∙ cleared-long (constraint_size * CONSTRAINTS))

      km : length m ≡ PLACES
      km = lm ∙ (ap length em ∙ cleared-long PLACES)

      -- the used parts lie in the buffers
      pub used-fits : Room g b.gates × (constraint_size * b.constraints ≤ constraint_size * CONSTRAINTS) × (constraint_size * b.constraints ≤ length c) × (length g ≡ used GATES)
      used-fits = (omega (arith, of.gates), omega (arith, of.constraints, kc), omega (arith, of.constraints), kg)

      pub done-asks : (k : ℕ) (mg : List ℕ) → mg ≡ take k g
          → Accepted S g c m × (Room g b.gates × (constraint_size * b.constraints ≤ length c)) × ((length g ≡ used GATES) × (length c ≡ constraint_size * CONSTRAINTS)) × lent.Done S mg (take (constraint_size * b.constraints) c) m z
      done-asks k mg e =
          let x : length mg ≤ length g = rw (e, length-take k g) (omega arith) in
          let y : length (take (constraint_size * b.constraints) c) ≡ constraint_size * b.constraints = length-take-le (constraint_size * b.constraints) c used-fits.2 in (
            record { clear = of.accepted.clear; asked = of.accepted.asked; gates = omega (arith, of.accepted.gates); map = omega (arith, of.accepted.map); constraints = omega (arith, of.accepted.constraints) },
            (used-fits.0, used-fits.2),
            (kg, kc),
            record {
              clear = of.accepted.clear;
              gates = omega (arith, kg);
              constraints = omega (arith, used-fits.1);
              map = km;
              mapped = omega (arith, of.accepted.map, map-sum S);
              marks = lz ∙ ez;
            },
          )

    pub table_done : (mg : List ℕ) → mg ≡ take (used b.gates) g → (out after : List ℕ) (r : ℕ)
        → Written out (output mg (take (total_of S) m) (offset_list S) (take (nodes S.table + 1) z) (take (constraint_size * b.constraints) c)) after r → Written out (table_lines S) after r
    unfolding done_lines
    table_done mg e out after r w =
        let f : take (nodes S.table + 1) z ≡ (lowered S g1 c1).seen = front-marks S g1 c1 z0 z b.gates b.constraints of.marks (subst (λ (x : Answer). z ≡ marked S g1 c1 z0 x) is p.1) in
        as-printed out after r _ _ (done-lines S g c m (lowered S g1 c1).seen a b.gates b.constraints is ∙ lines) (rw (e, f) at w)

-- ---- a text

plain-refused : (p : Plain) → answer_of p ≡ None → refused_line 1 0 ≡ plain_lines p
unfolding answer_of plain_lines
plain-refused (plain true w xs ns) e = absurd (let i : ◌≡◌ {A = ℕ} 0 1 = cc in omega arith)
plain-refused (plain false w xs ns) e = refl

plain-table : (p : Plain) (w n m : ℕ) → answer_of p ≡ Some (table w n m) → table_lines (source (node_table p) (addr_list p) (word_width p)) ≡ plain_lines p
unfolding answer_of plain_lines
plain-table (plain true v xs ns) w n m e = refl
plain-table (plain false v xs ns) w n m e = absurd (let i : ◌≡◌ {A = ℕ} 0 1 = cc in omega arith)

module _ (x a b c d : List ℕ) (l : TextRoom a b) (r : Option reads.Table) (e : kept r c d ≡ read_text x a b) where
  same-plain : plain_of x a b ≡ plain_text ADDRS NODES x
  same-plain =
      let p : length a / addr_size ≡ ADDRS = omega (arith, l.addrs) in
      let q : length b / node_size ≡ NODES = omega (arith, l.nodes) in
      rw (p, q)

  pub text-refused : r ≡ None → (out after : List ℕ) (n : ℕ) → Written out (refused_line 1 0) after n → Written out (printed x) after n
  unfolding printed
  text-refused h out after n w =
      as-printed out after n _ _ (plain-refused (plain_of x a b) (refused-read x a b c d (rw h at e)) ∙ ap plain_lines same-plain) w

  module _ (w n m : ℕ) (h : r ≡ Some (table w n m)) where
    read_as : TableRead x a b c d w n m
    read_as = table-read x a b c d w n m (rw h at e)

    pub read_fits : (n ≤ ADDRS) × (node_size * m ≤ node_size * NODES)
    read_fits = (omega (arith, read_as.few, l.addrs), omega (arith, read_as.some, l.nodes))

    pub text-table : (out after : List ℕ) (k : ℕ) → Written out (table_lines (source (take (node_size * m) d) (take n c) w)) after k → Written out (printed x) after k
    unfolding printed
    text-table out after k q =
        as-printed out after k _ _ (plain-table (plain_of x a b) w n m read_as.good ∙ ap plain_lines same-plain) (rw (read_as.nodes, read_as.addrs, read_as.word) at q)
