-- Lists whose elements are all below a bound.
use mathlib.Core.List.{List, [], ◌∷◌}
use Prim.Native.Nat.{ℕ, zero, suc, ◌<◌}
use lib.ListN.{get_or, take, drop}

abbrev pub Below : ℕ → List ℕ → Type 0
Below b [] = Unit {0}
Below b (n ∷ ns) = (n < b) × Below b ns

module _ (b : ℕ) where
  pub below_all : (l : List ℕ) → ((i : ℕ) → get_or l i 0 < b) → Below b l
  below_all [] h = tt
  below_all (n ∷ ns) h = (h 0, below_all ns (λ i. h (suc i)))

  pub below-drop : (o : ℕ) (l : List ℕ) → Below b l → Below b (drop o l)
  below-drop zero l h = h
  below-drop (suc o) [] h = h
  below-drop (suc o) (n ∷ ns) h = below-drop o ns h.1

  pub below-take : (k : ℕ) (l : List ℕ) → Below b l → Below b (take k l)
  below-take zero l h = tt
  below-take (suc k) [] h = h
  below-take (suc k) (n ∷ ns) h = (h.0, below-take k ns h.1)
