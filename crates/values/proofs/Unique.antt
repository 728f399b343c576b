-- No freedom: any two answers of eval_words that its contract permits for one input are equal, each lent place with them, and so are number and node of a refusal.
use Rattle.std.proofs.Common.{◌≡◌, ℕ, List, Result, get_or, sym, ap, ◌∙◌}
use Rattle.values.specs.declared.Refusal.{Refusal}
use Rattle.values.specs.Eval.{run, number, node, eval_words}

pub one-run : (t l : List ℕ) (w : ℕ) (v : List ℕ) (r s : Result Unit Refusal) (x y : List ℕ) → run r x ≡ eval_words t l w v → run s y ≡ eval_words t l w v
    → (r ≡ s) × (number r ≡ number s) × (node r ≡ node s) × ((k : ℕ) → get_or x k 0 ≡ get_or y k 0) × (x ≡ y)
one-run t l w v r s x y p q =
    let e : run r x ≡ run s y = p ∙ sym q in
    (ap (λ z. z.answer) e, ap (λ z. number z.answer) e, ap (λ z. node z.answer) e, λ k. ap (λ z. get_or z.values k 0) e, ap (λ z. z.values) e)
