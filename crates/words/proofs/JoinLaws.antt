-- The law of a word's bits joined to one, over the width, once for every operation that joins two bits.
use mathlib.Core.Path.{◌≡◌, refl, ap, ◌∙◌}
use mathlib.Core.List.{List}
use mathlib.Core.Bool.{Bool}
use Prim.Native.Nat.{ℕ, zero, suc, ◌+◌, ◌-◌, ◌≤◌, ◌<◌}
use native.Mathlib.Omega.{arith}
use native.Mathlib.Numerals.{add-one}
use lib.ListN.{get_or}
use Rattle.loops.specs.Loop.{iter}
use Rattle.loops.proofs.Loop.{iter-inv}
use Rattle.netlist.specs.Net.{Net}
use Rattle.gates.specs.Made.{MadeBit, kept}
use Rattle.gates.specs.Law.{Ext, Formed, BitLaw, In2, Kn2}
use Rattle.gates.proofs.Laws.{ext_refl, ext_trans, ext-weaken, keeps, room_back, kept-law}
use Rattle.digits.specs.Digits.{Below}
use Rattle.words.specs.declared.each.Bitwise.{Bitwise}
use Rattle.words.specs.Each.{bitwise, bit_cost}
use Rattle.words.specs.Join.{Joins, join_step, join_all}
use Rattle.words.proofs.EachLaws.{bit-law}

-- the truth values 0 to i joined, from the lowest up
unfoldable pub joined : (Bool → Bool → Bool) → (ℕ → Bool) → ℕ → Bool
joined f v zero = v 0
joined f v (suc i) = f (joined f v i) (v (suc i))

module _ (op : Bitwise) (f : Bool → Bool → Bool) (one : (s : Net) (a b : ℕ) → BitLaw s (In2 s a b) (Kn2 a b) (λ e. f (e a) (e b)) 1 (bitwise op s a b)) (bits : List ℕ) (s : Net) where
  -- the bits after bit 0
  JoinLaw : ℕ → MadeBit → Type 0
  JoinLaw i m = BitLaw s (Below s.n bits (suc i)) (Below 2 bits (suc i)) (λ e. joined f (λ j. e (get_or bits j 0)) i) i m

  join_step_lem : (i : ℕ) (m : MadeBit) → JoinLaw i m → JoinLaw (suc i) (join_step op bits i m)
  unfolding join_step JoinLaw joined
  join_step_lem i m h =
      rw (add-one i)
      (record {
        ext = ext-weaken s t.net (i + 1) (suc i) (omega arith) (ext_trans s m.net t.net i 1 h.ext a.ext);
        value = λ e o. a.value e o ∙ ap (λ x. f x (e b)) (h.value e (keeps m.net t.net 1 e a.ext.grows o));
        formed = λ room inn fm.
            let q : Formed m.net × (m.bit < m.net.n) = h.formed (room_back m.net t.net 1 a.ext.grows room) (λ j l. inn j (omega arith)) fm in
            a.formed room (q.1, omega (arith, inn (suc i) (omega arith), h.ext.grows.from)) q.0;
        known = λ kn.
            let q : (m.net ≡ s) × (m.bit < 2) = h.known (λ j l. kn j (omega arith)) in
            let r : (t.net ≡ m.net) × (t.bit < 2) = a.known (q.1, kn (suc i) (omega arith)) in
            (r.0 ∙ q.0, r.1);
      })
    where
      b : ℕ
      b = get_or bits (suc i) 0

      t : MadeBit
      t = bitwise op m.net m.bit b

      a : BitLaw m.net (In2 m.net m.bit b) (Kn2 m.bit b) (λ e. f (e m.bit) (e b)) 1 t
      a = one m.net m.bit b

  pub joined-law : (w : ℕ) → 1 ≤ w → BitLaw s (Below s.n bits w) (Below 2 bits w) (λ e. joined f (λ i. e (get_or bits i 0)) (w - 1)) (w - 1) (join_all op w bits s)
  unfolding JoinLaw joined
  joined-law zero h = absurd (omega arith)
  joined-law (suc w) h =
      let q : suc w - 1 ≡ w = omega arith in
      rw q
      (iter-inv JoinLaw (join_step op bits) (kept s (get_or bits 0 0)) w
      (kept-law 0 (get_or bits 0 0) (λ e o. refl) (λ i l. i 0 (omega arith)) (λ k. k 0 (omega arith)))
      (λ i m lt h. join_step_lem i m h))

-- at any width, for the code's own proof
pub joins-ext : (op : Bitwise) (bits : List ℕ) (s : Net) (b i : ℕ) → Joins op → Ext s (iter i (join_step op bits) (kept s b)).net i
unfolding join_step
joins-ext op bits s b i h =
    iter-inv (λ j (m : MadeBit). Ext s m.net j) (join_step op bits) (kept s b) i (ext_refl s 0)
    (λ j m lt q. ext-weaken s _ (j + bit_cost op m.bit (get_or bits (j + 1) 0)) (suc j) (omega (arith, h m.bit (get_or bits (j + 1) 0)))
    (ext_trans s m.net _ j (bit_cost op m.bit (get_or bits (j + 1) 0)) q (bit-law op m.net m.bit (get_or bits (j + 1) 0)).ext))
