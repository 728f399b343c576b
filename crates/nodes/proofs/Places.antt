-- Where a node's words stand in the bit map, how wide they are, and what their node's ceilings are.
use Rattle.std.specs.Prelude.{Ok}
use mathlib.Core.Path.{◌≡◌, refl, ◌∙◌}
use mathlib.Core.List.{List}
use mathlib.Core.Bool.{Bool, true, false}
use Prim.Native.Nat.{ℕ, zero, suc, ◌+◌, ◌-◌, ◌*◌, ◌≤◌, ◌<◌}
use native.Mathlib.Omega.{arith}
use native.Mathlib.Nat.{mul-le-mul_right}
use native.Mathlib.Numerals.{add-one}
use lib.Dec.{eqb}
use lib.ListN.{get_or, take, drop}
use lib.Seq.{get_or-take, get_or-drop}
use borrow.Author.Tests.{eq-eqb, ne_eqb}
use Rattle.loops.specs.Loop.{pick}
use Rattle.loops.proofs.Loop.{pick_true, pick-false}
use Rattle.table.specs.declared.Unit.TheVariants.{Bit}
use Rattle.table.specs.Node.{nodes, width_of}
use Rattle.table.specs.Size.{size_of, node_size}
use Rattle.table.specs.Ceiling.{ceiling, constraint_ceiling, node_gates, node_constraints}
use Rattle.table.specs.Sheet.{table_fault}
use Rattle.table.proofs.Whole.{Sound, each-sound}
use Rattle.table.proofs.size.Laws as size
use Rattle.digits.specs.Digits.{Below}
use Rattle.visits.specs.Claims.{Is, Under}
use Rattle.nodes.specs.Source.{Source, listed, node_of, words_of, wide_of, bits_of, off_of, total_of, gates_of, asks_of, word_at, all_at}
use Rattle.nodes.specs.Recipe.{recipe}

-- one part more of w is still within n parts
pub part-within : (i n w : ℕ) → i < n → i * w + w ≤ n * w
part-within i n w h = omega (arith, mul-le-mul_right {m = suc i} {n = n} w h)

-- a word is one word of its width, a memory one of W for each listed address
module _ (S : Source) (x : ℕ) where
  pub word-words : 1 ≤ width_of S.table x → words_of S x ≡ 1
  unfolding words_of
  word-words h = pick-false _ _ _ (ne_eqb (width_of S.table x) 0 (λ q. omega arith))

  pub word_wide : 1 ≤ width_of S.table x → wide_of S x ≡ width_of S.table x
  unfolding wide_of
  word_wide h = pick-false _ _ _ (ne_eqb (width_of S.table x) 0 (λ q. omega arith))

  pub memory-words : width_of S.table x ≡ 0 → words_of S x ≡ listed S
  unfolding words_of
  memory-words h = pick_true _ _ _ (eq-eqb (width_of S.table x) 0 h)

  pub memory-wide : width_of S.table x ≡ 0 → wide_of S x ≡ S.word
  unfolding wide_of
  memory-wide h = pick_true _ _ _ (eq-eqb (width_of S.table x) 0 h)

  parts : (b : Bool) (n w v : ℕ) → pick b (n * w) v ≡ pick b n 1 * pick b w v
  unfolding pick
  parts true n w v = refl
  parts false n w v = omega arith

  pub bits-size : 1 ≤ x → bits_of S x ≡ size_of Bit (listed S) S.word (width_of S.table x)
  unfolding bits_of
  bits-size h = pick-false _ _ _ (ne_eqb x 0 (λ q. omega arith))

  pub bits-words : 1 ≤ x → bits_of S x ≡ words_of S x * wide_of S x
  unfolding words_of wide_of
  bits-words h = bits-size h ∙ parts (eqb (width_of S.table x) 0) (listed S) S.word (width_of S.table x)

  -- its ceilings
  pub gates-of : 1 ≤ x → gates_of S x ≡ ceiling (listed S) S.word (node_of S x) (width_of S.table (node_of S x).a)
  unfolding gates_of node_gates
  gates-of h = let e : x - 1 + 1 ≡ x = omega arith in pick-false _ _ _ (ne_eqb x 0 (λ q. omega arith)) ∙ rw e

  pub asks_of_lem : 1 ≤ x → asks_of S x ≡ constraint_ceiling (node_of S x)
  unfolding asks_of node_constraints
  asks_of_lem h = let e : x - 1 + 1 ≡ x = omega arith in pick-false _ _ _ (ne_eqb x 0 (λ q. omega arith)) ∙ rw e

-- node 0 is none
pub no_bits : (S : Source) → bits_of S 0 ≡ 0
unfolding bits_of pick
no_bits S = refl

module _ (S : Source) where
  size-of : (i : ℕ) → bits_of S (i + 1) ≡ node_size Bit S.table (listed S) S.word i
  unfolding node_size
  size-of i = bits-size S (i + 1) (omega arith)

  -- a node's bits end where a later one's begin, at the latest
  pub off-apart : (x y : ℕ) → x < y → off_of S x + bits_of S x ≤ off_of S y
  off-apart zero y h = omega (arith, no_bits S, size.offset-none Bit S.table (listed S) S.word)
  off-apart (suc i) y h =
      let e : y - 1 + 1 ≡ y = omega arith in
      let p : off_of S (i + 1) + node_size Bit S.table (listed S) S.word i ≤ off_of S (y - 1 + 1) = size.apart Bit S.table (listed S) S.word i (y - 1) (omega arith) in
      let q : off_of S (i + 1) + bits_of S (i + 1) ≤ off_of S y = rw (← e) (omega (arith, size-of i)) in
      rw add-one at q

  -- and lie within the map
  pub off-inside : (k : ℕ) → 1 ≤ k → k < nodes S.table + 1 → off_of S k + bits_of S k ≤ total_of S
  off-inside k lo hi =
      let e : k - 1 + 1 ≡ k = omega arith in
      let p : off_of S (k - 1 + 1) + bits_of S (k - 1 + 1) ≤ total_of S = omega (arith, size-of (k - 1), size.size_room Bit S.table (listed S) S.word (k - 1) (omega arith)) in
      rw e at p

-- what a table without fault tells of the node k
pub sound-of : (S : Source) → table_fault S.table S.addrs S.word ≡ Ok tt → (k : ℕ) → Is (recipe S) k → Sound S.table S.word k
sound-of S clear k is =
    let e : k - 1 + 1 ≡ k = omega (arith, is.low) in
    rw e at (each-sound S.table S.addrs S.word clear (k - 1) (omega (arith, is.low, is.high)))

-- the maps m and t have the same bits below a place
abbrev pub Till : ℕ → List ℕ → List ℕ → Type 0
Till p m t = (i : ℕ) → i < p → get_or t i 0 ≡ get_or m i 0

pub part_at : (m : List ℕ) (p w j : ℕ) → j < w → get_or (take w (drop p m)) j 0 ≡ get_or m (p + j) 0
part_at m p w j h = get_or-take w (drop p m) j 0 h ∙ get_or-drop p m j 0

-- an operand x of the node k: its bits under b in the map m are under b where the map is grown above
module _ (S : Source) (x k b : ℕ) (m t : List ℕ) (some : 1 ≤ x) (less : x < k) (till : Till (off_of S k) m t) (under : Under (recipe S) b m x) where
  pub word_below : (i : ℕ) → i < words_of S x → Below b (word_at S t x i) (wide_of S x)
  word_below i l j h =
      let q : i * wide_of S x + j < bits_of S x = omega (arith, bits-words S x some, part-within i (words_of S x) (wide_of S x) l) in
      let r : off_of S x + (i * wide_of S x + j) ≡ off_of S x + i * wide_of S x + j = omega arith in
      let u : get_or m (off_of S x + i * wide_of S x + j) 0 < b = rw r at (under (i * wide_of S x + j) q) in
      rw (part_at t (off_of S x + i * wide_of S x) (wide_of S x) j h, till (off_of S x + i * wide_of S x + j) (omega (arith, off-apart S x k less))) u

  pub all-below : Below b (all_at S t x) (bits_of S x)
  all-below j h = rw (part_at t (off_of S x) (bits_of S x) j h, till (off_of S x + j) (omega (arith, off-apart S x k less))) (under j h)
