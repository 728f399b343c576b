-- What a table without fault tells: of the whole, of each node's operands, and under which line of the sorts each node stands.
use mathlib.Core.Path.{◌≡◌, refl, ap, sym, ◌∙◌}
use mathlib.Core.List.{List}
use Rattle.std.specs.Prelude.{Result, Ok, Err}
use mathlib.Core.Logic.{◌⊎◌, inl, inr}
use mathlib.Core.Bool.{Bool, true, false, not, ◌&&◌, ◌||◌, false≢true}
use Prim.Native.Nat.{ℕ, zero, suc, ◌+◌, ◌%◌, ◌^◌, ◌≤◌, ◌<◌}
use native.Mathlib.Omega.{arith}
use native.Mathlib.Decide.{dec_lt}
use native.Mathlib.Numerals.{add-one}
use lib.Dec.{eqb, ltb, leb}
use lib.ListN.{length, get_or}
use borrow.Author.Tests.{lt-ltb, leb-true, ltb-true, ltb-false, eqb-true, eqb-false, eq-eqb, not-false}
use Rattle.loops.specs.Loop.{pick, first}
use Rattle.loops.proofs.Loop.{first-true, first_below, first_found, first-le, pick_true, both, either}
use Rattle.digits.specs.Op.{Op, op_not, op_and, op_or, op_eq, op_add, op_sub, op_ult, op_mul, op_sll, op_srl, op_two, op_one, op_wide}
use Rattle.table.specs.declared.Fault.{Fault}
use Rattle.table.specs.declared.Fault.TheVariants.{Size, Address, Kind, NotLowered, Operand, Sort}
use Rattle.table.specs.declared.Node.{Node}
use Rattle.table.specs.Kind.{CONST, INPUT, STATE, NOT, BAD, AND, EXT, EQ, ADD, ITE, SUB, ULT, MUL, DIVU, REM, READ, WRITE, OR, SLL, SRL, SEXT, named, lowered, may_use_a, uses_a, uses_b, uses_c, uses_imm, evenly, extends, compares}
use Rattle.table.specs.Op.{op_kind}
use Rattle.table.specs.Node.{field_at, nodes, node_at, kind_of, width_of, a_of, b_of, c_of, Narrow, Fine}
use Rattle.table.specs.Sheet.{is_clear, size_good, is_at, address_bad, addresses_bad, operand, operands_good, sort_good, sorts_good, fault_of, node_fault, node_bad, nodes_fault, table_fault, asks_at, asks}
use Rattle.table.proofs.field.Laws.{field_out}
use Rattle.table.proofs.sheet.Laws.{faulty}

-- a test that stands before a fault was passed
past : (g : Bool) (f : Fault) (y : Result Unit Fault) → pick (not g) (Err f) y ≡ Ok tt → (g ≡ true) × (y ≡ Ok tt)
unfolding pick
past true f y e = (refl, e)
past false f y e = absurd cc

pub is-clear : (r : Result Unit Fault) → not (is_clear r) ≡ false → r ≡ Ok tt
is-clear (Ok u) e = refl
is-clear (Err f) e = absurd (false≢true (sym e ∙ ap not (faulty f)))

-- an operand is a node before its user, or none where none must be
pub record Operands (i : ℕ) (d : Node) : Type 0 where
  pub a : d.a < i
  pub b : d.b < i
  pub c : d.c < i
  pub a-used : uses_a d.kind ≡ true → 1 ≤ d.a
  pub b-used : uses_b d.kind ≡ true → 1 ≤ d.b
  pub c-used : uses_c d.kind ≡ true → 1 ≤ d.c

operand-less : (must may : Bool) (i x : ℕ) → 1 ≤ i → operand must may i x ≡ true → x < i
operand-less must may i x h =
    either (not must && eqb x 0) (may && leb 1 x && ltb x i) (x < i)
    (λ p. omega (arith, eqb-true x 0 (both (not must) (eqb x 0) p).1))
    (λ p. ltb-true x i (both (may && leb 1 x) (ltb x i) p).1)

operand-used : (must may : Bool) (i x : ℕ) → operand must may i x ≡ true → must ≡ true → 1 ≤ x
operand-used must may i x e u =
    either (not must && eqb x 0) (may && leb 1 x && ltb x i) (1 ≤ x)
    (λ p. absurd (let z : ◌≡◌ {A = ℕ} 0 1 = cc (both (not must) (eqb x 0) p).0 in omega arith))
    (λ p. leb-true 1 x (both may (leb 1 x) (both (may && leb 1 x) (ltb x i) p).0).1)
    e

operands : (i : ℕ) (d : Node) → 1 ≤ i → operands_good i d ≡ true → Operands i d
unfolding operands_good
operands i d h e =
    let p = both _ (uses_imm d.kind || eqb d.imm 0) e in
    let q = both _ (operand (uses_c d.kind) (uses_c d.kind) i d.c) p.0 in
    let r = both (operand (uses_a d.kind) (may_use_a d.kind) i d.a) (operand (uses_b d.kind) (uses_b d.kind) i d.b) q.0 in
    record {
      a = operand-less (uses_a d.kind) (may_use_a d.kind) i d.a h r.0;
      b = operand-less (uses_b d.kind) (uses_b d.kind) i d.b h r.1;
      c = operand-less (uses_c d.kind) (uses_c d.kind) i d.c h q.1;
      a-used = operand-used (uses_a d.kind) (may_use_a d.kind) i d.a r.0;
      b-used = operand-used (uses_b d.kind) (uses_b d.kind) i d.b r.1;
      c-used = operand-used (uses_c d.kind) (uses_c d.kind) i d.c q.1;
    }

-- a word over two words, all of one width
pub record Even (v va vb : ℕ) : Type 0 where
  pub word : 1 ≤ v
  pub left : va ≡ v
  pub right : vb ≡ v

-- a plain operation, over words of one width
pub record OpSort (o : Op) (v va vb : ℕ) : Type 0 where
  pub word : 1 ≤ va
  pub wide : v ≡ op_wide o va
  pub same : op_two o ≡ true → vb ≡ va

-- over a word, and at least as wide
pub record Extended (v va : ℕ) : Type 0 where
  pub word : 1 ≤ va
  pub wide : va ≤ v

-- the kinds with what their sort rule says
pub data Rule (w : ℕ) (d : Node) (va vb vc : ℕ) : Type 0 where
  is-const : d.kind ≡ CONST → 1 ≤ d.width → d.imm < 2 ^ d.width → Rule w d va vb vc
  is-input : d.kind ≡ INPUT → Rule w d va vb vc
  is_state : d.kind ≡ STATE → (d.a ≡ 0) ⊎ (va ≡ d.width) → Rule w d va vb vc
  is-op : (o : Op) → d.kind ≡ op_kind o → OpSort o d.width va vb → Rule w d va vb vc
  is-bad : d.kind ≡ BAD → d.width ≡ 1 → va ≡ 1 → Rule w d va vb vc
  is-ext : d.kind ≡ EXT → Extended d.width va → Rule w d va vb vc
  is-ite : d.kind ≡ ITE → va ≡ 1 → vb ≡ d.width → vc ≡ d.width → Rule w d va vb vc
  is-divu : d.kind ≡ DIVU → Even d.width va vb → Rule w d va vb vc
  is-rem : d.kind ≡ REM → Even d.width va vb → Rule w d va vb vc
  is_read : d.kind ≡ READ → d.width ≡ w → va ≡ 0 → vb ≡ w → Rule w d va vb vc
  is-write : d.kind ≡ WRITE → d.width ≡ 0 → va ≡ 0 → vb ≡ w → vc ≡ w → Rule w d va vb vc
  is-sext : d.kind ≡ SEXT → Extended d.width va → Rule w d va vb vc

and3 : (a b c : Bool) → (a && b && c) ≡ true → (a ≡ true) × (b ≡ true) × (c ≡ true)
and3 a b c e = let p = both (a && b) c e in let q = both a b p.0 in (q.0, q.1, p.1)

and4 : (a b c d : Bool) → (a && b && c && d) ≡ true → (a ≡ true) × (b ≡ true) × (c ≡ true) × (d ≡ true)
and4 a b c d e = let p = both (a && b && c) d e in let q = and3 a b c p.0 in (q.0, q.1, q.2, p.1)

and5 : (a b c d f : Bool) → (a && b && c && d && f) ≡ true → (a ≡ true) × (b ≡ true) × (c ≡ true) × (d ≡ true) × (f ≡ true)
and5 a b c d f e = let p = both (a && b && c && d) f e in let q = and4 a b c d p.0 in (q.0, q.1, q.2, q.3, p.1)

module _ (w : ℕ) (d : Node) (va vb vc : ℕ) where
  abbrev R : Type 0
  R = Rule w d va vb vc

  one_of : (k : ℕ) → (evenly k ≡ true) → (k ≡ AND → R) → (k ≡ ADD → R) → (k ≡ SUB → R) → (k ≡ MUL → R) → (k ≡ DIVU → R) → (k ≡ REM → R)
      → (k ≡ OR → R) → (k ≡ SLL → R) → (k ≡ SRL → R) → R
  one_of k e f1 f2 f3 f4 f5 f6 f7 f8 f9 =
      either _ (eqb k SRL) R
      (either _ (eqb k SLL) R
      (either _ (eqb k OR) R
      (either _ (eqb k REM) R
      (either _ (eqb k DIVU) R
      (either _ (eqb k MUL) R
      (either _ (eqb k SUB) R
      (either (eqb k AND) (eqb k ADD) R
      (λ h. f1 (eqb-true k AND h))
      (λ h. f2 (eqb-true k ADD h)))
      (λ h. f3 (eqb-true k SUB h)))
      (λ h. f4 (eqb-true k MUL h)))
      (λ h. f5 (eqb-true k DIVU h)))
      (λ h. f6 (eqb-true k REM h)))
      (λ h. f7 (eqb-true k OR h)))
      (λ h. f8 (eqb-true k SLL h)))
      (λ h. f9 (eqb-true k SRL h))
      e

  even-op : (o : Op) → op_one o ≡ false → Even d.width va vb → d.kind ≡ op_kind o → R
  unfolding pick
  even-op o h s e = is-op o e (record { word = omega (arith, s.word, s.left); wide = rw h (sym s.left); same = λ _. s.right ∙ sym s.left })

  by-even : (evenly d.kind && leb 1 d.width && eqb va d.width && eqb vb d.width) ≡ true → R
  unfolding op_one
  by-even h =
      let p = and4 (evenly d.kind) (leb 1 d.width) (eqb va d.width) (eqb vb d.width) h in
      let s : Even d.width va vb = record { word = leb-true 1 d.width p.1; left = eqb-true va d.width p.2; right = eqb-true vb d.width p.3 } in
      one_of d.kind p.0 (even-op op_and refl s) (even-op op_add refl s) (even-op op_sub refl s) (even-op op_mul refl s) (λ e. is-divu e s) (λ e. is-rem e s) (even-op op_or refl s)
      (even-op op_sll refl s) (even-op op_srl refl s)

  by-compare : (compares d.kind && eqb d.width 1 && leb 1 va && eqb vb va) ≡ true → R
  unfolding op_one pick
  by-compare h =
      let p = and4 (compares d.kind) (eqb d.width 1) (leb 1 va) (eqb vb va) h in
      either (eqb d.kind EQ) (eqb d.kind ULT) R
      (λ e. is-op op_eq (eqb-true d.kind EQ e) (record { word = leb-true 1 va p.2; wide = eqb-true d.width 1 p.1; same = λ _. eqb-true vb va p.3 }))
      (λ e. is-op op_ult (eqb-true d.kind ULT e) (record { word = leb-true 1 va p.2; wide = eqb-true d.width 1 p.1; same = λ _. eqb-true vb va p.3 }))
      p.0

  by-const : (eqb d.kind CONST && leb 1 d.width && ltb d.imm (2 ^ d.width)) ≡ true → R
  by-const h = let p = and3 (eqb d.kind CONST) (leb 1 d.width) (ltb d.imm (2 ^ d.width)) h in is-const (eqb-true d.kind CONST p.0) (leb-true 1 d.width p.1) (ltb-true d.imm (2 ^ d.width) p.2)

  by_state : (eqb d.kind STATE && (eqb d.a 0 || eqb va d.width)) ≡ true → R
  by_state h =
      let p = both (eqb d.kind STATE) (eqb d.a 0 || eqb va d.width) h in
      is_state (eqb-true d.kind STATE p.0)
      (either (eqb d.a 0) (eqb va d.width) ((d.a ≡ 0) ⊎ (va ≡ d.width)) (λ e. inl (eqb-true d.a 0 e)) (λ e. inr (eqb-true va d.width e)) p.1)

  by-not : (eqb d.kind NOT && leb 1 d.width && eqb va d.width) ≡ true → R
  unfolding op_one op_two pick
  by-not h =
      let p = and3 (eqb d.kind NOT) (leb 1 d.width) (eqb va d.width) h in
      let e : va ≡ d.width = eqb-true va d.width p.2 in
      is-op op_not (eqb-true d.kind NOT p.0) (record { word = omega (arith, leb-true 1 d.width p.1); wide = sym e; same = λ z. absurd (false≢true z) })

  by-bad : (eqb d.kind BAD && eqb d.width 1 && eqb va 1) ≡ true → R
  by-bad h = let p = and3 (eqb d.kind BAD) (eqb d.width 1) (eqb va 1) h in is-bad (eqb-true d.kind BAD p.0) (eqb-true d.width 1 p.1) (eqb-true va 1 p.2)

  by-extend : (extends d.kind && leb 1 va && leb va d.width) ≡ true → R
  by-extend h =
      let p = and3 (extends d.kind) (leb 1 va) (leb va d.width) h in
      let s : Extended d.width va = record { word = leb-true 1 va p.1; wide = leb-true va d.width p.2 } in
      either (eqb d.kind EXT) (eqb d.kind SEXT) R (λ e. is-ext (eqb-true d.kind EXT e) s) (λ e. is-sext (eqb-true d.kind SEXT e) s) p.0

  by-ite : (eqb d.kind ITE && eqb va 1 && eqb vb d.width && eqb vc d.width) ≡ true → R
  by-ite h =
      let p = and4 (eqb d.kind ITE) (eqb va 1) (eqb vb d.width) (eqb vc d.width) h in
      is-ite (eqb-true d.kind ITE p.0) (eqb-true va 1 p.1) (eqb-true vb d.width p.2) (eqb-true vc d.width p.3)

  by_read : (eqb d.kind READ && eqb d.width w && eqb va 0 && eqb vb w) ≡ true → R
  by_read h =
      let p = and4 (eqb d.kind READ) (eqb d.width w) (eqb va 0) (eqb vb w) h in
      is_read (eqb-true d.kind READ p.0) (eqb-true d.width w p.1) (eqb-true va 0 p.2) (eqb-true vb w p.3)

  by-write : (eqb d.kind WRITE && eqb d.width 0 && eqb va 0 && eqb vb w && eqb vc w) ≡ true → R
  by-write h =
      let p = and5 (eqb d.kind WRITE) (eqb d.width 0) (eqb va 0) (eqb vb w) (eqb vc w) h in
      is-write (eqb-true d.kind WRITE p.0) (eqb-true d.width 0 p.1) (eqb-true va 0 p.2) (eqb-true vb w p.3) (eqb-true vc w p.4)

  pub rule : sort_good w d va vb vc ≡ true → (d.width ≤ 64) × Rule w d va vb vc
  unfolding sort_good
  rule e =
      let p = both (leb d.width 64) _ e in (
        leb-true d.width 64 p.0,
        either _ _ R (either _ _ R (either _ _ R (either _ _ R (either _ _ R (either _ _ R (either _ _ R (either _ _ R (either _ _ R (either _ _ R
            by-const (λ h. is-input (eqb-true d.kind INPUT h))) by_state) by-not) by-even) by-bad) by-extend) by-compare) by-ite) by_read) by-write p.1,
      )

-- a node without fault
pub record Sound (t : List ℕ) (w i : ℕ) : Type 0 where
  pub narrow : width_of t i ≤ 64
  pub operands : Operands i (node_at t i)
  pub sort : Rule w (node_at t i) (width_of t (a_of t i)) (width_of t (b_of t i)) (width_of t (c_of t i))

sound : (t : List ℕ) (w i : ℕ) → 1 ≤ i → node_fault t w i ≡ Ok tt → Sound t w i
unfolding node_fault fault_of sorts_good
sound t w i h e =
    let k : ℕ = kind_of t i in
    let p = past (named k) (Kind i) _ e in
    let q = past (lowered k) (NotLowered i) _ p.1 in
    let r = past (operands_good i (node_at t i)) (Operand i) _ q.1 in
    let s = past (sorts_good t w (node_at t i)) (Sort i) _ r.1 in
    let z = rule w (node_at t i) (width_of t (a_of t i)) (width_of t (b_of t i)) (width_of t (c_of t i)) s.0 in
    record {
      narrow = z.0;
      operands = operands i (node_at t i) h r.0;
      sort = z.1;
    }

neither : (p q : Bool) → (p || q) ≡ false → (p ≡ false) × (q ≡ false)
neither true q e = absurd (let z : ◌≡◌ {A = ℕ} 0 1 = cc in omega arith)
neither false q e = (refl, e)

module _ (t l : List ℕ) (w : ℕ) (e : table_fault t l w ≡ Ok tt) where
  sizes : (size_good t l w ≡ true) × (addresses_bad l w ≡ false) × (nodes_fault t w ≡ Ok tt)
  unfolding table_fault pick
  sizes =
      let p = past (size_good t l w) Size _ e in
      let q = go (addresses_bad l w) p.1 in
      (p.0, q.0, q.1)
    where
      go : (b : Bool) → pick b (Err Address) (nodes_fault t w) ≡ Ok tt → (b ≡ false) × (nodes_fault t w ≡ Ok tt)
      go true q = absurd cc
      go false q = (refl, q)

  -- the counts and W are within their ranges
  pub within : (length t % 6 ≡ 0) × (nodes t ≤ 512) × (length l ≤ 64) × (1 ≤ w) × (w ≤ 64)
  unfolding size_good
  within =
      let a = both _ (leb w 64) sizes.0 in
      let b = both _ (leb 1 w) a.0 in
      let c = both _ (leb (length l) 64) b.0 in
      let d = both (eqb (length t % 6) 0) (leb (nodes t) 512) c.0 in
      (eqb-true _ 0 d.0, leb-true _ 512 d.1, leb-true _ 64 c.1, leb-true 1 w b.1, leb-true w 64 a.1)

  -- each listed address is below 2^W, and stands in the list once
  address-good : (i : ℕ) → i < length l → (i ≤ first i (is_at l (get_or l i 0))) × (get_or l i 0 < 2 ^ w)
  unfolding addresses_bad address_bad
  address-good i h =
      let n : length l ≤ first (length l) (address_bad l w) = ltb-false (first (length l) (address_bad l w)) (length l) sizes.1 in
      let b : address_bad l w i ≡ false = first_below (address_bad l w) (length l) i (omega arith) in
      let q = neither (ltb (first i (is_at l (get_or l i 0))) i) (not (ltb (get_or l i 0) (2 ^ w))) b in
      (ltb-false _ i q.0, ltb-true (get_or l i 0) (2 ^ w) (not-false _ q.1))

  pub address-small : (i : ℕ) → i < length l → get_or l i 0 < 2 ^ w
  address-small i h = (address-good i h).1

  unequal : (i j : ℕ) → i < length l → j < i → get_or l j 0 ≡ get_or l i 0 → ⊥
  unfolding is_at
  unequal i j h k q =
      let n = (address-good i h).0 in
      let b : is_at l (get_or l i 0) j ≡ false = first_below (is_at l (get_or l i 0)) i j (omega arith) in
      eqb-false (get_or l j 0) (get_or l i 0) b q

  pub distinct : (i j : ℕ) → i < length l → j < length l → get_or l i 0 ≡ get_or l j 0 → i ≡ j
  distinct i j h k q = go (dec_lt i j) (dec_lt j i)
    where
      go : Dec (i < j) → Dec (j < i) → i ≡ j
      go (yes p) r = absurd (unequal j i k p q)
      go (no p) (yes r) = absurd (unequal i j h r (sym q))
      go (no p) (no r) = omega arith

  -- so a listed address is found at its own place
  pub found_at : (i : ℕ) → i < length l → first (length l) (is_at l (get_or l i 0)) ≡ i
  unfolding is_at
  found_at i h = sym (first_found (is_at l (get_or l i 0)) (length l) i true h (omega (arith, (address-good i h).0, first-le (is_at l (get_or l i 0)) i)) (sym (eq-eqb (get_or l i 0) (get_or l i 0) refl)) refl)

  none-bad : Dec (first (nodes t) (node_bad t w) < nodes t) → nodes t ≤ first (nodes t) (node_bad t w)
  unfolding nodes_fault node_bad
  none-bad (yes h) =
      let q : node_fault t w (first (nodes t) (node_bad t w) + 1) ≡ Ok tt = sym (pick_true _ _ (Ok tt) (lt-ltb _ _ h)) ∙ sizes.2 in
      let r : not (is_clear (node_fault t w (first (nodes t) (node_bad t w) + 1))) ≡ true = first-true (node_bad t w) (nodes t) h in
      absurd (let z : ◌≡◌ {A = ℕ} 0 1 = cc (ap (λ f. not (is_clear f)) q) in omega arith)
  none-bad (no h) = omega arith

  pub each-sound : (i : ℕ) → i < nodes t → Sound t w (i + 1)
  unfolding node_bad
  each-sound i h =
      sound t w (i + 1) (omega arith)
      (is-clear (node_fault t w (i + 1)) (first_below (node_bad t w) (nodes t) i (omega (arith, none-bad (dec_lt _ _)))))

  -- widths of any number, a node's or not
  every-width : Narrow t
  unfolding field_at pick
  every-width zero = omega arith
  every-width (suc j) = go (dec_lt j (nodes t))
    where
      go : Dec (j < nodes t) → width_of t (suc j) ≤ 64
      go (yes h) = let q : width_of t (j + 1) ≤ 64 = (each-sound j h).narrow in rw add-one at q
      go (no h) = omega (arith, field_out t (suc j) 1 (λ q. omega arith) (omega (arith, within.0)))

  pub fine : Fine t l
  fine =
      record {
        narrow = every-width;
        few = within.1;
        short = within.2;
        before = λ i h. let q = (each-sound i h).operands in (omega (arith, q.a), omega (arith, q.b), omega (arith, q.c));
      }

pub checked : (t l : List ℕ) (w : ℕ) → Ok tt ≡ table_fault t l w → Fine t l
checked t l w e = fine t l w (sym e)

-- a table asks exactly if one of its nodes is bad
pub asked : (t : List ℕ) → asks t ≡ true → (i : ℕ) × (i < nodes t) × (kind_of t (i + 1) ≡ BAD)
unfolding asks asks_at
asked t e =
    let h : first (nodes t) (asks_at t) < nodes t = ltb-true (first (nodes t) (asks_at t)) (nodes t) e in
    (first (nodes t) (asks_at t), h, eqb-true (kind_of t (first (nodes t) (asks_at t) + 1)) BAD (first-true (asks_at t) (nodes t) h))

pub unasked : (t : List ℕ) → asks t ≡ false → (i : ℕ) → i < nodes t → kind_of t (i + 1) ≡ BAD → ⊥
unfolding asks asks_at
unasked t e i h =
    let n : nodes t ≤ first (nodes t) (asks_at t) = ltb-false (first (nodes t) (asks_at t)) (nodes t) e in
    eqb-false (kind_of t (i + 1)) BAD (first_below (asks_at t) (nodes t) i (omega arith))
