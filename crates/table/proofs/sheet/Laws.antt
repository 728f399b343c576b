-- The refusal sheet, path by path.
use mathlib.Core.Path.{◌≡◌, refl, sym}
use mathlib.Core.List.{List}
use Rattle.std.specs.Prelude.{Ok, Err}
use mathlib.Core.Bool.{Bool, true, false, not, ◌||◌}
use Prim.Native.Nat.{ℕ, ◌+◌, ◌*◌, ◌/◌, ◌^◌, ◌≤◌, ◌<◌}
use native.Mathlib.Omega.{arith}
use native.Mathlib.Nat.{div-eq_of_lt, div-lt_iff_lt-mul, lt_of_lt_of_le}
use native.Mathlib.Decide.{dec_lt}
use lib.Dec.{eqb, ltb}
use lib.Pow.{pow_pos, pow_mono}
use lib.ListN.{length, get_or, take}
use Rattle.std.specs.List.{IsAnyAnswer}
use Rattle.std.proofs.lemmas.List.{get_or-take, length-take-le}
use Rattle.table.proofs.Any.{any-some, any-none}
use borrow.Author.Tests.{lt-ltb, le-ltb, ne_eqb}
use Rattle.loops.specs.Loop.{pick, first}
use Rattle.loops.proofs.Loop.{first-none, first_more, first_found}
use Rattle.table.specs.declared.Fault.{Fault}
use Rattle.table.specs.declared.Fault.TheVariants.{Size, Address, Kind, NotLowered, Operand, Sort}
use Rattle.table.specs.Node.{nodes}
use Rattle.table.specs.Sheet.{is_clear, is_at, address_bad, node_fault, node_bad, nodes_fault}

-- a shift tests a bound
pub fits-small : (x k : ℕ) → eqb (x / 2 ^ k) 0 ≡ ltb x (2 ^ k)
fits-small x k = go (dec_lt x (2 ^ k))
  where
    go : Dec (x < 2 ^ k) → eqb (x / 2 ^ k) 0 ≡ ltb x (2 ^ k)
    go (yes h) = rw (lt-ltb x (2 ^ k) h, div-eq_of_lt h)
    go (no h) =
        rw (le-ltb x (2 ^ k) (omega arith))
        (ne_eqb (x / 2 ^ k) 0 (λ e. h (let q : x < 1 * 2 ^ k = (div-lt_iff_lt-mul (pow_pos k)).0 (omega arith) in omega arith)))

pub fits_all : (x k : ℕ) → x < 2 ^ 64 → 64 ≤ k → true ≡ ltb x (2 ^ k)
fits_all x k h l = sym (lt-ltb x (2 ^ k) (lt_of_lt_of_le h (pow_mono l)))

pub ruleset fits_rules = (fits-small, fits_all)

-- `contains` of the first i addresses
listed-before : (l : List ℕ) (x i : ℕ) (r : Bool) → i ≤ length l → IsAnyAnswer (λ y b. eqb y x ≡ b) (take i l) r → r ≡ ltb (first i (is_at l x)) i
unfolding is_at
listed-before l x i true h a =
    let k : a.0 < i = omega (arith, length-take-le i l h) in
    any-some (is_at l x) i a.0 k (rw (get_or-take i l a.0 0 k) at (a.2 0))
listed-before l x i false h a = any-none (is_at l x) i (λ k m. rw (get_or-take i l k 0 m) at (a k 0 (omega arith) (omega (arith, length-take-le i l h))))

pub address-path : (l : List ℕ) (w i : ℕ) (r s : Bool) → i < length l → IsAnyAnswer (λ y b. eqb y (get_or l i 0) ≡ b) (take i l) r → s ≡ ltb (get_or l i 0) (2 ^ w) → (r || not s) ≡ address_bad l w i
unfolding address_bad
address-path l w i r s h a q = rw (← listed-before l (get_or l i 0) i r (omega arith) a, ← q)

-- a fault is not clear
pub faulty : (f : Fault) → is_clear (Err f) ≡ false
faulty Size = refl
faulty Address = refl
faulty (Kind i) = refl
faulty (NotLowered i) = refl
faulty (Operand i) = refl
faulty (Sort i) = refl

module _ (t : List ℕ) (w i : ℕ) (e : i ≡ first i (node_bad t w)) where
  pub nodes-found : (f : Fault) → Err f ≡ node_fault t w (i + 1) → i < nodes t → Err f ≡ nodes_fault t w
  unfolding nodes_fault node_bad pick
  nodes-found f q h =
      rw (← first_found (node_bad t w) (nodes t) i true h e (rw (← q, faulty f) refl) refl, lt-ltb i (nodes t) h) q

  pub nodes-more : Ok tt ≡ node_fault t w (i + 1) → i + 1 ≡ first (i + 1) (node_bad t w)
  unfolding node_bad
  nodes-more q = first_more (node_bad t w) i false e (rw (← q) refl) refl

pub nodes-done : (t : List ℕ) (w : ℕ) → nodes t ≡ first (nodes t) (node_bad t w) → Ok tt ≡ nodes_fault t w
unfolding nodes_fault pick
nodes-done t w e = rw (← e, le-ltb (nodes t) (nodes t) (omega arith))

pub ruleset nodes_rules = (first-none, nodes-found, nodes-more, nodes-done)
