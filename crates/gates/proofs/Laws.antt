-- How laws of operations are made and put together.
use mathlib.Core.Path.{◌≡◌, refl, ap, ◌∙◌}
use mathlib.Core.Bool.{Bool, true, false, ◌&&◌}
use Prim.Native.Nat.{ℕ, zero, suc, ◌+◌, ◌*◌, ◌≤◌, ◌<◌}
use native.Mathlib.Omega.{arith}
use native.Mathlib.Decide.{dec_lt}
use lib.Dec.{leb}
use borrow.Author.Tests.{lt-ltb}
use Rattle.loops.specs.Loop.{bit}
use Rattle.netlist.specs.declared.record.Gate.{Gate}
use Rattle.netlist.specs.Record.{gate, gate_at, put, Room}
use Rattle.netlist.specs.Kind.{free, uses_y, uses_z}
use Rattle.netlist.specs.Net.{Net, Assign, Says, Obeys}
use Rattle.netlist.specs.Check.{field_good, later_good}
use Rattle.netlist.proofs.RecordLaws.{put-length, put_same, put_other, put_rest}
use Rattle.gates.specs.Made.{MadeBit, MadeSum, kept, added}
use Rattle.gates.specs.Adder.{carried}
use Rattle.gates.specs.Law.{Grows, Bound, Ext, Good, Formed, BitLaw, SumLaw, In2, Kn2}

-- ---- the longer net agrees with the shorter

pub grows-refl : (s : Net) (k : ℕ) → Grows s s k
grows-refl s k = record { from = omega arith; upto = omega arith; long = refl; same = λ i h. refl; rest = λ i h. refl }

pub grows-trans : (s t u : Net) (j k : ℕ) → Grows s t j → Grows t u k → Grows s u (j + k)
grows-trans s t u j k p q =
    record {
      from = omega arith;
      upto = omega arith;
      long = q.long ∙ p.long;
      same = λ i h. q.same i (omega arith) ∙ p.same i h;
      rest = λ i h. q.rest i h ∙ p.rest i (omega arith);
    }

pub grows-weaken : (s t : Net) (j k : ℕ) → j ≤ k → Grows s t j → Grows s t k
grows-weaken s t j k h p = record { from = p.from; upto = omega arith; long = p.long; same = p.same; rest = p.rest }

pub grows-added : (s : Net) (g : Gate) → Grows s (added s g).net 1
unfolding added
grows-added s g =
    record {
      from = omega arith;
      upto = omega arith;
      long = put-length s.gates s.n g;
      same = λ i h. put_other s.gates s.n g i h;
      rest = λ i h. put_rest s.gates s.n g i h;
    }

pub room_back : (s t : Net) (k : ℕ) → Grows s t k → Room t.gates t.n → Room s.gates s.n
room_back s t k x h = omega (arith, x.long, x.from)

-- what obeys the longer net obeys the shorter
pub keeps : (s t : Net) (k : ℕ) (e : Assign) → Grows s t k → Obeys t e → Obeys s e
keeps s t k e x o =
    record {
      low = o.low;
      high = o.high;
      room = room_back s t k x o.room;
      says = λ i h. rw (x.same i h) at (o.says i (omega (arith, x.from)));
    }

pub bound-trans : (s t u : Net) (k : ℕ) → Bound s t → Grows t u k → Bound t u → Bound s u
bound-trans s t u k p x q room i lo hi = go (dec_lt i t.n)
  where
    go : Dec (i < t.n) → free (gate_at u.gates i).kind ≡ false
    go (yes h) = rw (x.same i h) (p (room_back t u k x room) i lo h)
    go (no h) = q room i (omega arith) hi

pub ext_refl : (s : Net) (k : ℕ) → Ext s s k
ext_refl s k = record { grows = grows-refl s k; bound = λ room i lo hi. absurd (omega arith) }

pub ext_trans : (s t u : Net) (j k : ℕ) → Ext s t j → Ext t u k → Ext s u (j + k)
ext_trans s t u j k p q = record { grows = grows-trans s t u j k p.grows q.grows; bound = bound-trans s t u k p.bound q.grows q.bound }

pub ext-weaken : (s t : Net) (j k : ℕ) → j ≤ k → Ext s t j → Ext s t k
ext-weaken s t j k h p = record { grows = grows-weaken s t j k h p.grows; bound = p.bound }

-- ---- one gate more

-- the new record is read back
pub there-added : (s : Net) (g : Gate) → Room (added s g).net.gates (added s g).net.n → gate_at (added s g).net.gates s.n ≡ g
unfolding added
there-added s g room = put_same s.gates s.n g (omega (arith, put-length s.gates s.n g))

pub ext-added : (s : Net) (g : Gate) → free g.kind ≡ false → Ext s (added s g).net 1
unfolding added
ext-added s g f =
    record {
      grows = grows-added s g;
      bound = λ room i lo hi. let e : i ≡ s.n = omega arith in rw (e, there-added s g room) f;
    }

-- the new gate says what its kind says
pub says-added : (s : Net) (g : Gate) (e : Assign) → Obeys (added s g).net e → Says g e (e s.n)
unfolding added
says-added s g e o = rw (there-added s g o.room) at (o.says s.n (omega arith))

pub formed-added : (s : Net) (g : Gate) → Room (added s g).net.gates (added s g).net.n → Good s.n g → Formed s → Formed (added s g).net
unfolding added
formed-added s g room k f =
    record {
      two = omega (arith, f.two);
      low = put_other s.gates s.n g 0 (omega (arith, f.two)) ∙ f.low;
      high = put_other s.gates s.n g 1 (omega (arith, f.two)) ∙ f.high;
      good = λ i lo hi. at_one i lo hi (dec_lt i s.n);
    }
  where
    at_one : (i : ℕ) → 2 ≤ i → i < s.n + 1 → Dec (i < s.n) → Good i (gate_at (put s.gates s.n g) i)
    at_one i lo hi (yes h) = rw (put_other s.gates s.n g i h) (f.good i lo h)
    at_one i lo hi (no h) = let e : i ≡ s.n = omega arith in rw (e, there-added s g room) k

-- ---- an operation that keeps the net, and one that adds a gate

module _ {s : Net} {In Kn : Type 0} {v : Assign → Bool} where
  pub kept-law : (k b : ℕ) → ((e : Assign) → Obeys s e → e b ≡ v e) → (In → 2 ≤ s.n → b < s.n) → (Kn → b < 2) → BitLaw s In Kn v k (kept s b)
  kept-law k b val inn kn =
      record {
        ext = ext_refl s k;
        value = val;
        formed = λ room i f. (f, inn i f.two);
        known = λ h. (refl, kn h);
      }

  pub added-law : (g : Gate) → free g.kind ≡ false → ((e : Assign) → Says g e (e s.n) → e s.n ≡ v e) → (In → Good s.n g) → (Kn → ⊥)
      → BitLaw s In Kn v 1 (added s g)
  unfolding added
  added-law g fr val inn kn =
      record {
        ext = ext-added s g fr;
        value = λ e o. val e (says-added s g e o);
        formed = λ room i f. (formed-added s g room (inn i) f, omega arith);
        known = λ h. absurd (kn h);
      }

-- a record over earlier gates that are no constants is good: one, two or three operands
good_of : (i : ℕ) (g : Gate) → free g.kind ≡ false → (leb 3 g.kind && leb g.kind 11) ≡ true → (2 ≤ g.x) × (g.x < i)
    → field_good (uses_y g.kind) i g.y ≡ true → field_good (uses_z g.kind) i g.z ≡ true
    → (uses_y g.kind ≡ true → 2 ≤ g.y) → (uses_z g.kind ≡ true → 2 ≤ g.z) → Good i g
unfolding later_good
good_of i g f k hx y z hy hz =
    record { sound = rw (f, k, lt-ltb g.x i hx.1, y, z); high = λ q. (hx.0, hy, hz) }

module _ (k : ℕ) (f : free k ≡ false) (r : (leb 3 k && leb k 11) ≡ true) where
  pub good-one : uses_y k ≡ false → uses_z k ≡ false → (i a : ℕ) → 2 ≤ a → a < i → Good i (gate k a 0 0)
  unfolding field_good
  good-one uy uz i a ha la =
      good_of i (gate k a 0 0) f r (ha, la) (rw uy) (rw uz)
      (λ h. absurd (let z : ◌≡◌ {A = ℕ} 0 1 = cc in omega arith)) (λ h. absurd (let z : ◌≡◌ {A = ℕ} 0 1 = cc in omega arith))

  pub good-two : uses_y k ≡ true → uses_z k ≡ false → (i a b : ℕ) → 2 ≤ a → 2 ≤ b → a < i → b < i → Good i (gate k a b 0)
  unfolding field_good
  good-two uy uz i a b ha hb la lb =
      good_of i (gate k a b 0) f r (ha, la) (rw (uy, lt-ltb b i lb)) (rw uz) (λ h. hb) (λ h. absurd (let z : ◌≡◌ {A = ℕ} 0 1 = cc in omega arith))

  pub good-three : uses_y k ≡ true → uses_z k ≡ true → (i a b c : ℕ) → 2 ≤ a → 2 ≤ b → 2 ≤ c → a < i → b < i → c < i → Good i (gate k a b c)
  unfolding field_good
  good-three uy uz i a b c ha hb hc la lb lc =
      good_of i (gate k a b c) f r (ha, la) (rw (uy, lt-ltb b i lb)) (rw (uz, lt-ltb c i lc)) (λ h. hb) (λ h. hc)

-- ---- laws put together

-- the same operation, its operands and its value said otherwise, and more gates allowed
pub bit-map : {s : Net} {In Kn In' Kn' : Type 0} {v v' : Assign → Bool} {j k : ℕ} {m : MadeBit}
    → (In → In') → (Kn → Kn') → ((e : Assign) → Obeys s e → v' e ≡ v e) → j ≤ k → BitLaw s In' Kn' v' j m → BitLaw s In Kn v k m
bit-map {s} {j = j} {k = k} {m = m} inn kn val h a =
    record {
      ext = ext-weaken s m.net j k h a.ext;
      value = λ e o. a.value e o ∙ val e (keeps s m.net j e a.ext.grows o);
      formed = λ room i f. a.formed room (inn i) f;
      known = λ h. a.known (kn h);
    }

-- one operation after another
pub then-law : {s : Net} {In Kn In' Kn' : Type 0} {v v' : Assign → Bool} {j k : ℕ} {m m' : MadeBit} (v'' : Assign → Bool)
    → BitLaw s In Kn v j m → (In → s.n ≤ m.net.n → m.bit < m.net.n → In') → (Kn → m.bit < 2 → Kn')
    → BitLaw m.net In' Kn' v' k m' → ((e : Assign) → e m.bit ≡ v e → v' e ≡ v'' e)
    → BitLaw s In Kn v'' (j + k) m'
then-law {s} {j = j} {k = k} {m = m} {m' = m'} v'' a inn kn b val =
    record {
      ext = ext_trans s m.net m'.net j k a.ext b.ext;
      value = λ e o. b.value e o ∙ val e (a.value e (keeps m.net m'.net k e b.ext.grows o));
      formed = λ room i f.
          let q : Formed m.net × (m.bit < m.net.n) = a.formed (room_back m.net m'.net k b.ext.grows room) i f in
          b.formed room (inn i a.ext.grows.from q.1) q.0;
      known = λ h.
          let q : (m.net ≡ s) × (m.bit < 2) = a.known h in
          let r : (m'.net ≡ m.net) × (m'.bit < 2) = b.known (kn h q.1) in
          (r.0 ∙ q.0, r.1);
    }

-- two operations, and one on their results
pub join-law : {s : Net} {In Kn In' Kn' : Type 0} {v v' : Assign → Bool} {j k l : ℕ} {m m' m'' : MadeBit} (f : Bool → Bool → Bool)
    → BitLaw s In Kn v j m → (In → s.n ≤ m.net.n → In') → (Kn → Kn') → BitLaw m.net In' Kn' v' k m'
    → BitLaw m'.net (In2 m'.net m.bit m'.bit) (Kn2 m.bit m'.bit) (λ e. f (e m.bit) (e m'.bit)) l m''
    → BitLaw s In Kn (λ e. f (v e) (v' e)) (j + k + l) m''
join-law {s} {j = j} {k = k} {l = l} {m = m} {m' = m'} {m'' = m''} f a inn kn b c =
    record {
      ext = ext_trans s m'.net m''.net (j + k) l (ext_trans s m.net m'.net j k a.ext b.ext) c.ext;
      value = λ e o.
          let o' : Obeys m'.net e = keeps m'.net m''.net l e c.ext.grows o in
          rw (c.value e o, b.value e o', a.value e (keeps m.net m'.net k e b.ext.grows o'));
      formed = λ room i fm.
          let room' : Room m'.net.gates m'.net.n = room_back m'.net m''.net l c.ext.grows room in
          let q : Formed m.net × (m.bit < m.net.n) = a.formed (room_back m.net m'.net k b.ext.grows room') i fm in
          let r : Formed m'.net × (m'.bit < m'.net.n) = b.formed room' (inn i a.ext.grows.from) q.0 in
          c.formed room (omega (arith, q.1, b.ext.grows.from), r.1) r.0;
      known = λ h.
          let q : (m.net ≡ s) × (m.bit < 2) = a.known h in
          let r : (m'.net ≡ m.net) × (m'.bit < 2) = b.known (kn h) in
          let t : (m''.net ≡ m'.net) × (m''.bit < 2) = c.known (q.1, r.1) in
          (t.0 ∙ (r.0 ∙ q.0), t.1);
    }

-- the sum, and then the carry
pub pair-law : {s : Net} {In Kn In' Kn' : Type 0} {v v' : Assign → Bool} {j k : ℕ} {m m' : MadeBit} (total : Assign → ℕ)
    → BitLaw s In Kn v j m → (In → s.n ≤ m.net.n → In') → (Kn → Kn')
    → BitLaw m.net In' Kn' v' k m' → ((e : Assign) → Obeys s e → bit (v e) + 2 * bit (v' e) ≡ total e)
    → SumLaw s In Kn total (j + k) (carried m' m.bit)
pair-law {s} {j = j} {k = k} {m = m} {m' = m'} total a inn kn b val =
    record {
      ext = ext_trans s m.net m'.net j k a.ext b.ext;
      value = λ e o.
          let o₁ : Obeys m.net e = keeps m.net m'.net k e b.ext.grows o in
          rw (a.value e o₁, b.value e o) (val e (keeps s m.net j e a.ext.grows o₁));
      formed = λ room i f.
          let q : Formed m.net × (m.bit < m.net.n) = a.formed (room_back m.net m'.net k b.ext.grows room) i f in
          let r : Formed m'.net × (m'.bit < m'.net.n) = b.formed room (inn i a.ext.grows.from) q.0 in
          (r.0, omega (arith, q.1, b.ext.grows.from), r.1);
      known = λ h.
          let q : (m.net ≡ s) × (m.bit < 2) = a.known h in
          let r : (m'.net ≡ m.net) × (m'.bit < 2) = b.known (kn h) in
          (r.0 ∙ q.0, q.1, r.1);
    }

-- the operands in another order, and more gates allowed
pub sum-map : {s : Net} {In Kn In' Kn' : Type 0} {total total' : Assign → ℕ} {j k : ℕ} {m : MadeSum}
    → (In → In') → (Kn → Kn') → ((e : Assign) → total' e ≡ total e) → j ≤ k → SumLaw s In' Kn' total' j m → SumLaw s In Kn total k m
sum-map {s} {j = j} {k = k} {m = m} inn kn val h a =
    record {
      ext = ext-weaken s m.net j k h a.ext;
      value = λ e o. a.value e o ∙ val e;
      formed = λ room i f. a.formed room (inn i) f;
      known = λ h. a.known (kn h);
    }

-- a known bit is its number
pub bit-known : (s : Net) (e : Assign) (a : ℕ) → Obeys s e → a < 2 → bit (e a) ≡ a
bit-known s e zero o h = ap bit o.low
bit-known s e (suc zero) o h = ap bit o.high
bit-known s e (suc (suc a)) o h = absurd (omega arith)
