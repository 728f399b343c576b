-- A bit that is known true made no gate: gates have numbers from 2 on, so a gate that was made is not the constant.
use mathlib.Core.Path.{◌≡◌, refl}
use Prim.Native.Nat.{ℕ, ◌≤◌}
use native.Mathlib.Omega.{arith}
use Rattle.netlist.specs.Net.{Net}
use Rattle.netlist.proofs.BitLaws.{by-known}
use Rattle.gates.specs.Made.{MadeBit, kept, added}
use Rattle.gates.specs.Fold.{not_bit, and_bit, xnor_bit}

module _ (s : Net) (two : 2 ≤ s.n) where
  -- what is claimed of a bit
  Same : MadeBit → Type 0
  Same m = m.bit ≡ 1 → m.net ≡ s

  not_same : (a : ℕ) → Same (not_bit s a)
  unfolding Same not_bit added
  not_same a = by-known Same a (kept s 1) (kept s 0) _ (λ h e. refl) (λ h e. refl) (λ h e. absurd (omega arith))

  pub xnor-same : (a b : ℕ) → (xnor_bit s a b).bit ≡ 1 → (xnor_bit s a b).net ≡ s
  unfolding Same xnor_bit not_bit added
  xnor-same a b =
      by-known Same a _ _ _ (λ h. not_same b) (λ h e. refl)
      (λ ha. by-known Same b _ _ _ (λ h. not_same a) (λ h e. refl)
      (λ hb. by-known Same s.n _ _ _ (λ h. absurd (omega arith)) (λ h. absurd (omega arith)) (λ h e. absurd (omega arith))))

  -- and both bits of an And are
  pub and_same : (a b : ℕ) → (and_bit s a b).bit ≡ 1 → ((and_bit s a b).net ≡ s) × (a ≡ 1) × (b ≡ 1)
  unfolding and_bit added
  and_same a b =
      by-known P a _ _ _ (λ h e. absurd (omega arith)) (λ h e. (refl, h, e))
      (λ h. by-known P b _ _ _ (λ z e. absurd (omega arith)) (λ z e. absurd (omega arith)) (λ z e. absurd (omega arith)))
    where
      P : MadeBit → Type 0
      P m = m.bit ≡ 1 → (m.net ≡ s) × (a ≡ 1) × (b ≡ 1)
