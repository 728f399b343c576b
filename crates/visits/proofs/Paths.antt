-- What the code's proof cites: a visit path by path.
use mathlib.Core.Path.{◌≡◌, refl, sym, ap, ◌∙◌}
use Prim.Native.Nat.{ℕ, zero, suc, ◌≤◌, ◌<◌}
use native.Mathlib.Omega.{arith}
use borrow.Author.Tests.{eq-eqb, ne_eqb}
use lib.ListN.{get_or, set}
use Rattle.loops.specs.Loop.{pick}
use Rattle.visits.specs.Flow.{Core, Low, Recipe, owned, enter, mark, visit_to}

module _ (R : Recipe) (k : ℕ) where
  pub visit-none : (f : ℕ) (s : Low) → k ≡ 0 → s ≡ visit_to f R k s
  unfolding visit_to pick
  visit-none zero s z = refl
  visit-none (suc f) s z = sym (simp (eq-eqb _ _ z))

  pub visit-seen : (f : ℕ) (s : Low) → (k ≡ 0 → ⊥) → get_or s.seen k 0 ≡ 1 → s ≡ visit_to f R k s
  unfolding visit_to pick
  visit-seen zero s z e = refl
  visit-seen (suc f) s z e = sym (simp (ne_eqb _ _ z, eq-eqb _ _ e))

  pub visit-goes : (f : ℕ) (s r : Low) → k < f → (k ≡ 0 → ⊥) → (get_or s.seen k 0 ≡ 1 → ⊥)
      → ((g : ℕ) → k ≤ g → r ≡ enter (visit_to g R) R k (record { core = s.core; seen = set s.seen k 1 })) → r ≡ visit_to f R k s
  unfolding visit_to mark pick
  visit-goes zero s r lt z e step = absurd (omega arith)
  visit-goes (suc f) s r lt z e step = step f (omega arith) ∙ sym (simp (ne_eqb _ _ z, ne_eqb _ _ e))

  -- the visits of a node's operands one by one, and then its own gates
  pub enter-done : (go : ℕ → Low → Low) (s s1 s2 s3 : Low) (r : Core) {a b c : ℕ} → a ≡ R.first k → s1 ≡ go a s → b ≡ R.second s1.core.map k → s2 ≡ go b s1
      → c ≡ R.third s2.core.map k → s3 ≡ go c s2 → r ≡ R.own k s3.core → ◌≡◌ {A = Low} (record { core = r; seen = s3.seen }) (enter go R k s)
  unfolding enter owned
  enter-done go s s1 s2 s3 r {a} {b} {c} ea e1 eb e2 ec e3 er =
      let p1 : s1 ≡ go (R.first k) s = e1 ∙ ap (λ (x : ℕ). go x s) ea in
      let S1 : Low = go (R.first k) s in
      let p2 : s2 ≡ go (R.second S1.core.map k) S1 = e2 ∙ ap (λ (x : ℕ). go x s1) eb ∙ ap (λ (x : Low). go (R.second x.core.map k) x) p1 in
      let S2 : Low = go (R.second S1.core.map k) S1 in
      let p3 : s3 ≡ go (R.third S2.core.map k) S2 = e3 ∙ ap (λ (x : ℕ). go x s2) ec ∙ ap (λ (x : Low). go (R.third x.core.map k) x) p2 in
      ap {B = Low} (λ (x : Core). record { core = x; seen = s3.seen }) er ∙ ap {B = Low} (λ (x : Low). record { core = R.own k x.core; seen = x.seen }) p3
