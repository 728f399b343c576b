-- The law of values of a division with unknown operands.
use mathlib.Core.Path.{◌≡◌, refl, sym, ◌∙◌}
use mathlib.Core.Bool.{true}
use mathlib.Core.Logic.{◌⊎◌, inl, inr}
use Prim.Native.Nat.{ℕ, ◌≤◌, ◌<◌}
use Rattle.netlist.specs.Net.{Assign}
use Rattle.netlist.specs.Record.{gate, gate_at}
use Rattle.loops.specs.Loop.{pick}
use Rattle.netlist.specs.Kind.{free}
use Rattle.visits.specs.Flow.{Core, Recipe}
use Rattle.visits.specs.Claims.{Meaning, Right, free_value, Frees, Considered, Met, Operands, Fine, StepRight}
use Rattle.visits.specs.Divide.{Division, Divide}
use Rattle.digits.specs.Digits.{number}
use Rattle.digits.proofs.Numbers.{number_same, number-digit, parts-one}

quotient-value : (M : Meaning) (k j : ℕ) → free_value M (gate 12 k j 0) ≡ M.quotient k j
unfolding free_value pick
quotient-value M k j = refl

remainder-value : (M : Meaning) (k j : ℕ) → free_value M (gate 13 k j 0) ≡ M.remainder k j
unfolding free_value pick
remainder-value M k j = refl

quotient-free : (k j : ℕ) → free (gate 12 k j 0).kind ≡ true
unfolding free
quotient-free k j = refl

remainder-free : (k j : ℕ) → free (gate 13 k j 0).kind ≡ true
unfolding free
remainder-free k j = refl

module _ {R : Recipe} {M : Meaning} {k w a d : ℕ} {s t : Core} (quo rem : ℕ → ℕ) (means : Division M k w a d) (law : Divide R M k w a d s t quo rem) where
  divide-sound : (e : Assign) → Considered M t.net e → Operands R s.map k (Right R M e s.map) → Met t s.nc e → Fine R M k s t e
  divide-sound e ce o me =
      record { frees = λ g lo hi fr. at g (law.only ce.obeys.room g lo hi fr); right = law.right e ce o quos rems }
    where
      same : (number (λ j. e (quo j)) w ≡ number (M.quotient k) w) × (number (λ j. e (rem j)) w ≡ number (M.remainder k) w)
      same =
          let p = parts-one (number (λ j. e (quo j)) w) (number (λ j. e (rem j)) w) a d ((law.met e ce o).0 me) in
          let q = parts-one (number (M.quotient k) w) (number (M.remainder k) w) a d means in
          (p.0 ∙ sym q.0, p.1 ∙ sym q.1)

      quos : (j : ℕ) → j < w → e (quo j) ≡ M.quotient k j
      quos = number-digit (λ j. e (quo j)) (M.quotient k) w same.0

      rems : (j : ℕ) → j < w → e (rem j) ≡ M.remainder k j
      rems = number-digit (λ j. e (rem j)) (M.remainder k) w same.1

      either : (g j : ℕ) → j < w → (g ≡ quo j) ⊎ (g ≡ rem j) → e g ≡ free_value M (gate_at t.net.gates g)
      either g j lt (inl q) = rw (q, (law.quo_at ce.obeys.room j lt).2, quotient-value M k j) (quos j lt)
      either g j lt (inr q) = rw (q, (law.rem_at ce.obeys.room j lt).2, remainder-value M k j) (rems j lt)

      at : (g : ℕ) → (j : ℕ) × (j < w) × ((g ≡ quo j) ⊎ (g ≡ rem j)) → e g ≡ free_value M (gate_at t.net.gates g)
      at g x = either g x.0 x.1 x.2

  divide-complete : (e : Assign) → Considered M t.net e → Operands R s.map k (Right R M e s.map) → Frees M t.net s.net.n e → Met t s.nc e
  divide-complete e ce o fe = (law.met e ce o).1 (rw (number_same (λ j. e (quo j)) (M.quotient k) w quos, number_same (λ j. e (rem j)) (M.remainder k) w rems) means)
    where
      quos : (j : ℕ) → j < w → e (quo j) ≡ M.quotient k j
      quos j lt =
          let x : (s.net.n ≤ quo j) × (quo j < t.net.n) × (gate_at t.net.gates (quo j) ≡ gate 12 k j 0) = law.quo_at ce.obeys.room j lt in
          rw (x.2, quotient-value M k j) at (fe (quo j) x.0 x.1 (rw x.2 (quotient-free k j)))

      rems : (j : ℕ) → j < w → e (rem j) ≡ M.remainder k j
      rems j lt =
          let x : (s.net.n ≤ rem j) × (rem j < t.net.n) × (gate_at t.net.gates (rem j) ≡ gate 13 k j 0) = law.rem_at ce.obeys.room j lt in
          rw (x.2, remainder-value M k j) at (fe (rem j) x.0 x.1 (rw x.2 (remainder-free k j)))

  pub divide-right : StepRight R M k s t
  divide-right = record { sound = divide-sound; complete = divide-complete }
