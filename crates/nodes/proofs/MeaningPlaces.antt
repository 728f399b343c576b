-- Where a node's words stand in the bit map, and where among the evaluator's slots.
use Rattle.std.specs.Prelude.{Ok}
use mathlib.Core.Path.{◌≡◌, refl, ap, ◌∙◌}
use mathlib.Core.List.{List}
use mathlib.Core.Bool.{Bool, true, false}
use Prim.Native.Nat.{ℕ, zero, suc, ◌+◌, ◌-◌, ◌*◌, ◌≤◌, ◌<◌}
use native.Mathlib.Omega.{arith}
use lib.Dec.{eqb}
use lib.ListN.{get_or, drop}
use lib.Seq.{get_or-take, get_or-drop}
use Rattle.loops.specs.Loop.{pick}
use Rattle.table.specs.Node.{width_of}
use Rattle.table.specs.Sheet.{table_fault}
use Rattle.table.proofs.Whole.{address-small, distinct, within, fine}
use Rattle.memory.specs.Address.{Listed}
use Rattle.nodes.specs.Source.{Source, listed, wide_of, off_of, word_at}

-- a table without fault
abbrev pub Sheeted : Source → Type 0
Sheeted S = table_fault S.table S.addrs S.word ≡ Ok tt

-- bit j of word i of a node stands at its place in the map
pub word-bit : (S : Source) (m : List ℕ) (x i j : ℕ) → j < wide_of S x → get_or (word_at S m x i) j 0 ≡ get_or m (off_of S x + (i * wide_of S x + j)) 0
word-bit S m x i j h =
    let q : off_of S x + i * wide_of S x + j ≡ off_of S x + (i * wide_of S x + j) = omega arith in
    get_or-take (wide_of S x) (drop (off_of S x + i * wide_of S x) m) j 0 h ∙ (get_or-drop (off_of S x + i * wide_of S x) m j 0 ∙ ap (λ p. get_or m p 0) q)

-- place j of word i is within the node's bits
pub place_in : (w n i j : ℕ) → i < n → j < w → i * w + j < n * w
place_in w n i j h g =
    let r : suc i + (n - suc i) ≡ n = omega arith in
    rw (← r) (omega arith)

module _ (S : Source) (clear : Sheeted S) where
  by_width : (w : ℕ) → w ≤ 64 → (b : Bool) → eqb w 0 ≡ b → (1 ≤ pick b S.word w) × (pick b S.word w ≤ 64)
  unfolding pick
  by_width w h true e = let q = within S.table S.addrs S.word clear in (q.3, q.4)
  by_width zero h false e = absurd (let z : ◌≡◌ {A = ℕ} 0 1 = cc in omega arith)
  by_width (suc w) h false e = (omega arith, h)

  pub wide-range : (k : ℕ) → (1 ≤ wide_of S k) × (wide_of S k ≤ 64)
  unfolding wide_of
  wide-range k = by_width (width_of S.table k) ((fine S.table S.addrs S.word clear).narrow k) (eqb (width_of S.table k) 0) refl

  -- the listed addresses are as the memory's laws ask for them
  pub listed-good : Listed (listed S) S.word S.addrs
  listed-good = record { small = address-small S.table S.addrs S.word clear; distinct = distinct S.table S.addrs S.word clear }
