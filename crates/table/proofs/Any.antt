-- `(0..n).any(|i| test)`, said by `first`.
use Prim.Native.Nat.{ℕ, ◌+◌, ◌<◌}
use denote.Param.Members.{Mut}
use lib.Dec.{ltb}
use lib.ListN.{length, get_or}
use mathlib.Core.Bool.{Bool, true, false}
use mathlib.Core.List.{List}
use mathlib.Core.Path.{◌≡◌, refl, sym, ◌∙◌}
use native.Mathlib.Decide.{dec_lt}
use native.Mathlib.Omega.{arith}
use borrow.Author.Tests.{lt-ltb, le-ltb}
use Rattle.std.proofs.iter.Yields.{nat_range_steps}
use Rattle.std.proofs.lemmas.Iterator.{YieldsList-from_range, cases_from_any}
use Rattle.std.proofs.lemmas.List.FromFn.{length-range_with_len, get_or-range_with_len}
use Rattle.std.specs.declared.option.Option.{Option}
use Rattle.std.specs.declared.ops.Range.{Range}
use Rattle.std.specs.Bool.{MatchBool}
use Rattle.std.specs.Fn.{Called}
use Rattle.std.specs.Iterator.{YieldsThen}
use Rattle.std.specs.List.{FoldsTo, AllWithin, HoldsAt, range_with_len}
use Rattle.std.specs.Option.{MatchOption}
use Rattle.loops.specs.Loop.{first}
use Rattle.loops.proofs.Loop.{first-true, first_below}

module _ (p : ℕ → Bool) where
  pub any-some : (n k : ℕ) → k < n → p k ≡ true → true ≡ ltb (first n p) n
  any-some n k h e = go (dec_lt (first n p) n)
    where
      go : Dec (first n p < n) → true ≡ ltb (first n p) n
      go (yes l) = sym (lt-ltb (first n p) n l)
      go (no l) = absurd (let a = first_below p n k (omega arith) in let z : ◌≡◌ {A = ℕ} 0 1 = cc in omega arith)

  pub any-none : (n : ℕ) → ((k : ℕ) → k < n → p k ≡ false) → false ≡ ltb (first n p) n
  any-none n all = go (dec_lt (first n p) n)
    where
      go : Dec (first n p < n) → false ≡ ltb (first n p) n
      go (yes l) = absurd (let a = first-true p n l in let b = all (first n p) l in let z : ◌≡◌ {A = ℕ} 0 1 = cc in omega arith)
      go (no l) = sym (le-ltb (first n p) n (omega arith))

  at-range : (n k : ℕ) → k < n → get_or (range_with_len 0 n) k 0 ≡ k
  at-range n k l = let z : 0 + k ≡ k = omega arith in get_or-range_with_len 0 n k 0 l ∙ z

  any-from : (n : ℕ) (r : Bool) → MatchBool r ((k : ℕ) × (k < length (range_with_len 0 n)) × HoldsAt (λ x. p x ≡ true) (range_with_len 0 n) k) (AllWithin (λ x. p x ≡ false) (range_with_len 0 n) 0 (length (range_with_len 0 n)))
      → r ≡ ltb (first n p) n
  any-from n true h =
      let l : h.0 < n = omega (arith, length-range_with_len 0 n) in
      any-some n h.0 l (rw (at-range n h.0 l) at (h.2 0))
  any-from n false h = any-none n (λ k l. rw (at-range n k l) at (h k 0 (omega arith) (omega (arith, length-range_with_len 0 n))))

  -- the closure computes p
  pub by_any : {F : Type 0} {g : Mut F (ℕ × Unit {0}) Bool} (n : ℕ) (u : Range ℕ) (f : F) (r : Bool)
      → (xs : List ℕ) × (o : Option ℕ) × (j : F) × YieldsThen nat_range_steps (record { start = 0; end = n }) xs o u × FoldsTo (λ p x q. Called g p (x, tt) false q) f xs j
      × MatchOption o (r ≡ false) (λ x. (r ≡ true) × ((h : F) × Called g j (x, tt) true h))
      → ((x : ℕ) (b : Bool) (q : F) → Called g f (x, tt) b q → (q ≡ f) × (b ≡ p x)) → r ≡ ltb (first n p) n
  by_any n u f r ran call =
      any-from n r
      (cases_from_any u f r (λ x. p x ≡ true) (λ x. p x ≡ false) ran (YieldsList-from_range 0 n n refl (omega arith))
      (λ x q k. sym (call x true q k).1) (λ x q k. let a = call x false q k in (a.0, sym a.1)))
