-- The contract of the entry point leaves no freedom: any two answers that it permits for one input, with every lent place, are equal.
use mathlib.Core.Path.{◌≡◌, ap, sym, ◌∙◌}
use mathlib.Core.List.{List}
use Prim.Native.Nat.{ℕ}
use Rattle.nodes.specs.Source.{Source}
use Rattle.lowering.specs.Lower.{Answer, Run, run, marked, number, node}
use Rattle.lowering.specs.Promise.{Promise}

module _ (S : Source) (g c m : List ℕ) (r s : Answer) (g1 c1 m1 g2 c2 m2 : List ℕ) (p : Promise S g c m r g1 c1 m1) (q : Promise S g c m s g2 c2 m2) where
  pub one-run : run r g1 c1 m1 ≡ run s g2 c2 m2
  one-run = p.answer ∙ sym q.answer

  -- lower
  pub one-lowering : (r ≡ s) × (number r ≡ number s) × (node r ≡ node s) × (g1 ≡ g2) × (c1 ≡ c2) × (m1 ≡ m2)
  one-lowering = (
    ap (λ (x : Run). x.answer) one-run,
    ap (λ (x : Run). number x.answer) one-run,
    ap (λ (x : Run). node x.answer) one-run,
    ap (λ (x : Run). x.gates) one-run,
    ap (λ (x : Run). x.cons) one-run,
    ap (λ (x : Run). x.map) one-run,
  )

  -- lower_marked: the marks too
  pub one-marked : (z z1 z2 : List ℕ) → z1 ≡ marked S g c z r → z2 ≡ marked S g c z s → z1 ≡ z2
  one-marked z z1 z2 e f = e ∙ (ap (λ (x : Run). marked S g c z x.answer) one-run ∙ sym f)
