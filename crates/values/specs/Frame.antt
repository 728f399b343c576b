-- What the word evaluator promises of the values it leaves: what is kept, what is worked out, and their range.
use Rattle.std.specs.Prelude.{◌≡◌, ℕ, ◌+◌, ◌^◌, ◌<◌, ◌≤◌, true, false, List, length, slice_index}
use Rattle.table.specs.Node.{nodes, node_at, width_of, a_of, b_of, c_of}
use Rattle.values.specs.Value.{slot_value}
use Rattle.values.specs.Eval.{slots, offset, total, node_given, slot_width}

pub record Kept (t l v x : List ℕ) : Type 0 where
  pub long : length x ≡ length v
  -- given slots are read only
  pub given : (i j : ℕ) → i < nodes t → j < slots t l i → node_given t i ≡ true → slice_index x (offset t l (i + 1) + j) ≡ slice_index v (offset t l (i + 1) + j)
  -- nothing beyond changes
  pub beyond : (k : ℕ) → total t l ≤ k → slice_index x k ≡ slice_index v k

-- slot j of node i + 1, if it is not given, is what the node's kind makes of a list y
abbrev pub Made : List ℕ → List ℕ → List ℕ → List ℕ → ℕ → ℕ → Type 0
Made t l x y i j =
    slice_index x (offset t l (i + 1) + j)
    ≡ slot_value l (node_at t (i + 1)) (width_of t (a_of t (i + 1))) y (offset t l (a_of t (i + 1))) (offset t l (b_of t (i + 1))) (offset t l (c_of t (i + 1))) j

-- x is worked out: each such slot is made of x itself
pub record Valued (t l v x : List ℕ) : Type 0 where
  pub kept : Kept t l v x
  pub made : (i j : ℕ) → i < nodes t → j < slots t l i → node_given t i ≡ false → Made t l x x i j

-- each slot of a word is below 2^width, each word of a memory below 2^W
abbrev pub InRange : List ℕ → List ℕ → ℕ → List ℕ → Type 0
InRange t l w x = (i j : ℕ) → i < nodes t → j < slots t l i → slice_index x (offset t l (i + 1) + j) < 2 ^ slot_width w (node_at t (i + 1))
