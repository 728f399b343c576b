-- The law of values of an input or uninitialised state: one InputBit a bit, in order.
use mathlib.Core.Path.{◌≡◌, refl, ap, ◌∙◌}
use mathlib.Core.List.{List}
use mathlib.Core.Bool.{true}
use Prim.Native.Nat.{ℕ, suc, ◌+◌, ◌-◌, ◌*◌, ◌≤◌, ◌<◌}
use native.Mathlib.Omega.{arith}
use native.Mathlib.Decide.{dec_lt}
use lib.ListN.{length, get_or, set, length-set}
use lib.Seq.{get_or-set_other, get_or-set_same}
use Rattle.loops.specs.Loop.{iter}
use Rattle.loops.proofs.Loop.{iter-inv}
use Rattle.netlist.specs.declared.record.Gate.{Gate}
use Rattle.netlist.specs.Record.{gate_at, Room}
use Rattle.netlist.specs.Kind.{free}
use Rattle.netlist.specs.Net.{Net}
use Rattle.gates.specs.Made.{MadeBit, added, gate_input_bit}
use Rattle.gates.specs.Given.{GivenLaw}
use Rattle.gates.specs.Law.{Grows}
use Rattle.gates.proofs.Laws.{grows-refl, grows-trans, grows-weaken, room_back}
use Rattle.gates.proofs.GivenLaws.{given-law}
use Rattle.words.specs.Each.{Word}
use Rattle.words.proofs.NumLaws.{blank-long}
use Rattle.visits.specs.Flow.{Core}
use Rattle.nodes.specs.Source.{Source, wide_of}
use Rattle.nodes.specs.Own.{fresh, input_step, input_word}
use Rattle.nodes.proofs.MeaningPlaces.{Sheeted, wide-range}
use Rattle.nodes.proofs.RightWords.{OwnWord}

-- the first j bits, from bit `from` of node k on
pub record InputsLaw (k from : ℕ) (s : Net) (j : ℕ) (y : Word) : Type 0 where
  pub grows : Grows s y.net j
  pub count : y.net.n ≡ s.n + j
  pub long : length y.out ≡ 65
  pub bits : (q : ℕ) → q < j → get_or y.out q 0 ≡ s.n + q
  pub gates : Room y.net.gates y.net.n → (q : ℕ) → q < j → gate_at y.net.gates (s.n + q) ≡ gate_input_bit k (from + q)

module _ (k from : ℕ) (s : Net) where
  input-free : free 2 ≡ true
  unfolding free
  input-free = refl

  inputs-next : (j : ℕ) (y : Word) → j < 65 → InputsLaw k from s j y → InputsLaw k from s (suc j) (input_step k from j y)
  unfolding input_step
  inputs-next j y lt h =
      record {
        grows = grows-weaken s z.net (j + 1) (suc j) (omega arith) (grows-trans s y.net z.net j 1 h.grows g.grows);
        count = omega (arith, g.count, h.count);
        long = length-set y.out j z.bit ∙ h.long;
        bits = λ q l. bit q l (dec_lt q j);
        gates = λ room q l. made room q l (dec_lt q j);
      }
    where
      z : MadeBit
      z = added y.net (gate_input_bit k (from + j))

      g : GivenLaw y.net (gate_input_bit k (from + j)) (added y.net (gate_input_bit k (from + j)))
      g = given-law y.net 2 k (from + j) input-free

      bit : (q : ℕ) → q < suc j → Dec (q < j) → get_or (set y.out j (added y.net (gate_input_bit k (from + j))).bit) q 0 ≡ s.n + q
      bit q l (yes p) = get_or-set_other y.out j q (added y.net (gate_input_bit k (from + j))).bit 0 (omega arith) ∙ h.bits q p
      bit q l (no p) =
          let n : q ≡ j = omega arith in
          rw n (get_or-set_same y.out j (added y.net (gate_input_bit k (from + j))).bit 0 (omega (arith, h.long)) ∙ (g.bit ∙ h.count))

      made : Room (added y.net (gate_input_bit k (from + j))).net.gates (added y.net (gate_input_bit k (from + j))).net.n → (q : ℕ) → q < suc j → Dec (q < j)
          → gate_at (added y.net (gate_input_bit k (from + j))).net.gates (s.n + q) ≡ gate_input_bit k (from + q)
      made room q l (yes p) =
          g.grows.same (s.n + q) (omega (arith, h.count))
          ∙ h.gates (room_back y.net (added y.net (gate_input_bit k (from + j))).net 1 g.grows room) q p
      made room q l (no p) =
          let n : q ≡ j = omega arith in
          let a : s.n + q ≡ y.net.n = omega (arith, h.count) in
          rw (a, n) (g.there room)

  inputs-law : (w : ℕ) → w ≤ 64 → InputsLaw k from s w (iter w (input_step k from) (fresh s))
  inputs-law w small =
      iter-inv (InputsLaw k from s) (input_step k from) (fresh s) w
      (record { grows = grows-refl s 0; count = omega arith; long = blank-long; bits = λ q l. absurd (omega arith); gates = λ room q l. absurd (omega arith) })
      (λ j y lt h. inputs-next j y (omega arith) h)

pub input-made : (S : Source) (x : List ℕ) (k : ℕ) (m : List ℕ) (i : ℕ) (t : Core) → Sheeted S → OwnWord S x k m i t (input_word S k i t)
unfolding input_word
input-made S x k m i t clear =
    let L = inputs-law k (i * wide_of S k) t.net (wide_of S k) (wide-range S clear k).1 in
    record {
      cost = wide_of S k;
      grows = L.grows;
      only = λ room g lo hi fr.
          let a : t.net.n + (g - t.net.n) ≡ g = omega arith in
          let p = L.gates room (g - t.net.n) (omega (arith, L.count)) in
          ap (λ (r : Gate). r.kind) (rw a at p);
      right = λ e ce before o j l.
          let p = L.gates ce.obeys.room j l in
          let r = ce.inputs (t.net.n + j) (omega (arith, L.count)) (ap (λ (r : Gate). r.kind) p) in
          ap e (L.bits j l) ∙ (rw p at r);
    }
