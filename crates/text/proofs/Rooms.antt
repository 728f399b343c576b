-- How many bytes are written at most.
use mathlib.Core.Path.{◌≡◌, refl}
use mathlib.Core.List.{List, [], ◌∷◌, ◌++◌}
use mathlib.Core.Bool.{Bool, true, false}
use Prim.Native.Nat.{ℕ, zero, suc, ◌+◌, ◌-◌, ◌*◌, ◌^◌, ◌≤◌, ◌<◌}
use native.Mathlib.Omega.{arith}
use lib.Dec.{eqb}
use lib.ListN.{length, get_or, drop, length-append, length-take}
use Rattle.loops.specs.Loop.{pick}
use Rattle.netlist.specs.Record.{used}
use Rattle.text.specs.Number.{decimal}
use Rattle.text.specs.Line.{numbers, rest, line}
use Rattle.text.specs.Write.{part, constraint_size, gate_name, bits_name, constraint_name, done_name, refused_name, gate_count, constraint_count, gate_line, bits_line, next_bits, node_count, constraint_line, done_line, refused_line, each, output, Offsets, output_room, refused_room}
use Rattle.text.proofs.Elements.{Below, below_all, below-drop, below-take}
use Rattle.text.proofs.Decimals.{decimal-length}

-- numbers of 32 bits
abbrev Small : List ℕ → Type 0
Small l = Below (2 ^ 32) l

numbers-length : (ns : List ℕ) → Small ns → length (numbers ns) ≤ 11 * length ns
unfolding numbers
numbers-length [] h = omega arith
numbers-length (n ∷ ns) h =
    let d : length (decimal n) ≤ 10 = decimal-length 9 n (omega arith) in
    let r : length (numbers ns) ≤ 11 * length ns = numbers-length ns h.1 in
    rw (length-append (9 ∷ decimal n) (numbers ns)) (omega arith)

rest-length : (ns : List ℕ) → length (rest ns) ≡ length (numbers ns) + 1
unfolding rest
rest-length ns = rw (length-append (numbers ns) (10 ∷ []))

part_length : (o e : ℕ) (l : List ℕ) → length (part o e l) ≤ e - o
part_length o e l = rw (length-take (e - o) (drop o l)) (omega arith)

-- a line of k numbers of 32 bits
record-length : (name l : List ℕ) (o e : ℕ) → Small l → length (line name (part o e l)) ≤ length name + 11 * (e - o) + 1
unfolding line
record-length name l o e h =
    let n : length (numbers (part o e l)) ≤ 11 * length (part o e l) = numbers-length (part o e l) (below-take (2 ^ 32) (e - o) (drop o l) (below-drop (2 ^ 32) o l h)) in
    let p : length (part o e l) ≤ e - o = part_length o e l in
    rw (length-append name (rest (part o e l)), rest-length (part o e l)) (omega arith)

-- one number of 64 bits more
more-length : (name : List ℕ) (n : ℕ) (ns : List ℕ) → n < 2 ^ 64 → length (line name (n ∷ ns)) ≤ 21 + length (line name ns)
unfolding line rest numbers
more-length name n ns h =
    let d : length (decimal n) ≤ 20 = decimal-length 19 n (omega arith) in
    simp length-append (omega arith)

module _ (f : ℕ → List ℕ) (k : ℕ) where
  each-length : (n : ℕ) → ((i : ℕ) → i < n → length (f i) ≤ k) → length (each n f) ≤ n * k
  unfolding each
  each-length zero h = omega arith
  each-length (suc n) h =
      let r : length (each n f) ≤ n * k = each-length n (λ i l. h i (omega arith)) in
      let m : length (f n) ≤ k = h n (omega arith) in
      rw (length-append (each n f) (f n)) (omega arith)

gate-length : (gates : List ℕ) → Small gates → (i : ℕ) → i < 2 ^ 64 → length (gate_line gates i) ≤ 26 + 11 * used 1
unfolding gate_line gate_name
gate-length gates s i h =
    let m = more-length gate_name i (part (used i) (used (i + 1)) gates) h in
    let r = record-length gate_name gates (used i) (used (i + 1)) s in
    omega arith

constraint-length : (cs : List ℕ) → Small cs → (i : ℕ) → length (constraint_line cs i) ≤ 11 + 11 * constraint_size
unfolding constraint_line constraint_name
constraint-length cs s i =
    let r = record-length constraint_name cs (constraint_size * i) (constraint_size * i + constraint_size) s in
    omega arith

pair-length : (name : List ℕ) (n m : ℕ) → n < 2 ^ 64 → m < 2 ^ 64 → length (line name (n ∷ m ∷ [])) ≤ length name + 43
unfolding line rest numbers
pair-length name n m h g =
    let a = more-length name n (m ∷ []) h in
    let b = more-length name m [] g in
    let c : length (name ++ (10 ∷ [])) ≡ length name + 1 = length-append name (10 ∷ []) in
    omega arith

done-length : (n m : ℕ) → n < 2 ^ 64 → m < 2 ^ 64 → length (done_line n m) ≤ 47
unfolding done_line done_name
done-length n m h g = omega (arith, pair-length done_name n m h g)

pub refused-length : (n m : ℕ) → n < 2 ^ 64 → m < 2 ^ 64 → length (refused_line n m) ≤ refused_room
unfolding refused_line refused_name refused_room
refused-length n m h g = omega (arith, pair-length refused_name n m h g)

module _ (map offsets marks : List ℕ) (s : Small map) where
  bits-length : (i : ℕ) → i < 2 ^ 64 → length (bits_line map offsets marks i) ≤ 26 + 11 * (get_or offsets (i + 1) 0 - get_or offsets i 0)
  unfolding bits_line bits_name pick
  bits-length i h = by (eqb (get_or marks i 0) 0)
    where
      by : (x : Bool) → length (pick x [] (line bits_name (i ∷ part (get_or offsets i 0) (get_or offsets (i + 1) 0) map))) ≤ 26 + 11 * (get_or offsets (i + 1) 0 - get_or offsets i 0)
      by true = omega arith
      by false =
          let m = more-length bits_name i (part (get_or offsets i 0) (get_or offsets (i + 1) 0) map) h in
          let r = record-length bits_name map (get_or offsets i 0) (get_or offsets (i + 1) 0) s in
          omega arith

  module _ (n : ℕ) (h : n < 2 ^ 64) (o : Offsets offsets map n) where
    -- each place of the map is printed at most once, since the offsets go up
    some_bits : (k : ℕ) → k < n → length (each k (next_bits map offsets marks)) ≤ k * 26 + 11 * get_or offsets (k + 1) 0
    unfolding each next_bits
    some_bits zero l = omega arith
    some_bits (suc k) l =
        let r = some_bits k (omega arith) in
        let z : suc k ≡ k + 1 = omega arith in
        let m = bits-length (k + 1) (omega arith) in
        let u = (o.up (k + 1) (omega arith)).0 in
        rw (z, length-append (each k (next_bits map offsets marks)) (bits_line map offsets marks (k + 1))) (omega arith)

    all-bits : length (each (n - 1) (next_bits map offsets marks)) ≤ (n - 1) * 26 + 11 * length map
    unfolding each
    all-bits = go (n - 1) refl
      where
        go : (k : ℕ) → n - 1 ≡ k → length (each k (next_bits map offsets marks)) ≤ k * 26 + 11 * length map
        go zero e = omega arith
        go (suc k) e =
            let r = some_bits (suc k) (omega arith) in
            let m = (o.up (suc k) (omega arith)).1 in
            omega arith

-- the whole output
pub output-length : (gates map offsets marks cs : List ℕ) → ((i : ℕ) → get_or gates i 0 < 2 ^ 32) → ((i : ℕ) → get_or map i 0 < 2 ^ 32) → ((i : ℕ) → get_or cs i 0 < 2 ^ 32)
    → length gates < 2 ^ 64 → length marks < 2 ^ 64 → length cs < 2 ^ 64 → Offsets offsets map (length marks)
    → length (output gates map offsets marks cs) ≤ output_room (gate_count gates) (node_count marks) (length map) (constraint_count cs)
unfolding output output_room
output-length gates map offsets marks cs g m k a b c o =
    let e₁ = each-length (gate_line gates) (26 + 11 * used 1) (gate_count gates) (λ i h. gate-length gates (below_all (2 ^ 32) gates g) i (omega arith)) in
    let e₂ = all-bits map offsets marks (below_all (2 ^ 32) map m) (length marks) b o in
    let e₃ = each-length (constraint_line cs) (11 + 11 * constraint_size) (constraint_count cs) (λ i h. constraint-length cs (below_all (2 ^ 32) cs k) i) in
    let e₄ = done-length (gate_count gates) (constraint_count cs) (omega arith) (omega arith) in
    simp length-append (omega arith)
