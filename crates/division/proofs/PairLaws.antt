-- The law of the quotient and remainder gates.
use mathlib.Core.Path.{◌≡◌, refl, ◌∙◌}
use Prim.Native.Nat.{ℕ, suc, ◌+◌, ◌*◌, ◌≤◌, ◌<◌}
use native.Mathlib.Omega.{arith}
use native.Mathlib.Decide.{dec_lt}
use lib.ListN.{length, get_or, set, length-set}
use lib.Seq.{get_or-set_same, get_or-set_other}
use Rattle.loops.proofs.Loop.{iter-inv}
use Rattle.netlist.specs.Record.{gate_at, Room}
use Rattle.netlist.specs.Kind.{free}
use Rattle.gates.specs.Made.{MadeBit, added, gate_quotient, gate_remainder}
use Rattle.gates.specs.Law.{Grows}
use Rattle.gates.specs.Given.{GivenLaw}
use Rattle.gates.proofs.Laws.{grows-refl, grows-trans, grows-weaken, room_back}
use Rattle.gates.proofs.GivenLaws.{given-law}
use Rattle.division.specs.Pair.{Pair, pair_step, pair_words, PairLaw}

pair_step_lem : (node : ℕ) (s : Pair) (i : ℕ) (x : Pair) → i < length s.quot → i < length s.rem → PairLaw node s i x → PairLaw node s (suc i) (pair_step node i x)
unfolding pair_step free
pair_step_lem node s i x hq hr h =
    record {
      grows = grows-weaken s.net r.net (2 * i + (1 + 1)) (2 * suc i) (omega arith) (grows-trans s.net x.net r.net (2 * i) (1 + 1) h.grows two);
      count = omega (arith, h.count, ql.count, rl.count);
      long_quot = length-set x.quot i _ ∙ h.long_quot;
      long_rem = length-set x.rem i _ ∙ h.long_rem;
      quots = λ j l. qs j l (dec_lt j i);
      rems = λ j l. rs j l (dec_lt j i);
      gates = λ rm j l. gs rm j l (dec_lt j i);
      formed = λ rm f.
          let rm₁ : Room q.net.gates q.net.n = room_back q.net r.net 1 rl.grows rm in
          rl.formed rm (ql.formed rm₁ (h.formed (room_back x.net q.net 1 ql.grows rm₁) f));
    }
  where
    q : MadeBit
    q = added x.net (gate_quotient node i)

    ql : GivenLaw x.net (gate_quotient node i) q
    ql = given-law x.net 12 node i refl

    r : MadeBit
    r = added q.net (gate_remainder node i)

    rl : GivenLaw q.net (gate_remainder node i) r
    rl = given-law q.net 13 node i refl

    two : Grows x.net r.net (1 + 1)
    two = grows-trans x.net q.net r.net 1 1 ql.grows rl.grows

    qs : (j : ℕ) → j < suc i → Dec (j < i) → get_or (set x.quot i q.bit) j 0 ≡ s.net.n + 2 * j
    qs j l (yes y) = get_or-set_other x.quot i j _ 0 (omega arith) ∙ h.quots j y
    qs j l (no y) = let z : j ≡ i = omega arith in rw (z, get_or-set_same x.quot i q.bit 0 (omega (arith, h.long_quot))) (ql.bit ∙ h.count)

    rs : (j : ℕ) → j < suc i → Dec (j < i) → get_or (set x.rem i r.bit) j 0 ≡ s.net.n + 2 * j + 1
    rs j l (yes y) = get_or-set_other x.rem i j _ 0 (omega arith) ∙ h.rems j y
    rs j l (no y) = let z : j ≡ i = omega arith in rw (z, get_or-set_same x.rem i r.bit 0 (omega (arith, h.long_rem))) (omega (arith, rl.bit, ql.count, h.count))

    gs : Room r.net.gates r.net.n → (j : ℕ) → j < suc i → Dec (j < i)
        → (gate_at r.net.gates (s.net.n + 2 * j) ≡ gate_quotient node j) × (gate_at r.net.gates (s.net.n + 2 * j + 1) ≡ gate_remainder node j)
    gs rm j l (yes y) =
        let k = h.gates (room_back x.net r.net (1 + 1) two rm) j y in
        (two.same (s.net.n + 2 * j) (omega (arith, h.count)) ∙ k.0, two.same (s.net.n + 2 * j + 1) (omega (arith, h.count)) ∙ k.1)
    gs rm j l (no y) =
        let z : j ≡ i = omega arith in
        let a : s.net.n + 2 * i ≡ x.net.n = omega (arith, h.count) in
        let b : x.net.n + 1 ≡ q.net.n = omega (arith, ql.count) in
        rw (z, a) (rl.grows.same x.net.n (omega (arith, ql.count)) ∙ ql.there (room_back q.net r.net 1 rl.grows rm), rw b (rl.there rm))

pub pair-law : (node : ℕ) (s : Pair) (w : ℕ) → w ≤ length s.quot → w ≤ length s.rem → PairLaw node s w (pair_words w node s)
pair-law node s w hq hr =
    iter-inv (PairLaw node s) (pair_step node) s w
    (record {
      grows = grows-refl s.net 0;
      count = omega arith;
      long_quot = refl;
      long_rem = refl;
      quots = λ i l. absurd (omega arith);
      rems = λ i l. absurd (omega arith);
      gates = λ rm i l. absurd (omega arith);
      formed = λ rm f. f;
    })
    (λ i x lt h. pair_step_lem node s i x (omega arith) (omega arith) h)
