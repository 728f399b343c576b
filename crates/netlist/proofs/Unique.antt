-- No freedom: any two answers of check_gates, and of eval_gates, that the contract permits for one input are equal, each lent place with them, and
-- so are the number and the gate of a refusal.
use mathlib.Core.Path.{◌≡◌, ap, sym, ◌∙◌}
use mathlib.Core.List.{List}
use Prim.Native.Nat.{ℕ}
use Rattle.std.specs.declared.result.Result.{Result}
use Rattle.netlist.specs.declared.check.Refusal.{Refusal}
use Rattle.netlist.specs.Check.{number, place, list_fault}
use Rattle.netlist.specs.Eval.{run, eval_gates}

pub one-fault : (l : List ℕ) (r s : Result (Unit {0}) Refusal) → r ≡ list_fault l → s ≡ list_fault l → (r ≡ s) × (number r ≡ number s) × (place r ≡ place s)
one-fault l r s p q = let e : r ≡ s = p ∙ sym q in (e, ap number e, ap place e)

pub one-run : (l v : List ℕ) (r s : Result (Unit {0}) Refusal) (x y : List ℕ) → run r x ≡ eval_gates l v → run s y ≡ eval_gates l v
    → (r ≡ s) × (number r ≡ number s) × (place r ≡ place s) × (x ≡ y)
one-run l v r s x y p q =
    let e : run r x ≡ run s y = p ∙ sym q in
    (ap (λ z. z.answer) e, ap (λ z. number z.answer) e, ap (λ z. place z.answer) e, ap (λ z. z.values) e)
