-- What the evaluator answers with Done obeys the list, and is the only assignment that does so with the given free values.
use mathlib.Core.Path.{◌≡◌, refl, ap, sym, ◌∙◌}
use mathlib.Core.List.{List}
use mathlib.Core.Bool.{Bool, true, false, not, ◌&&◌, false≢true}
use Prim.Native.Nat.{ℕ, zero, suc, ◌≤◌, ◌<◌}
use native.Mathlib.Omega.{arith}
use native.Mathlib.Decide.{dec_lt}
use lib.Dec.{eqb, ltb, leb}
use lib.ListN.{length, get_or, set, replicate, length-set, length-replicate}
use lib.Seq.{get_or-set_same, get_or-set_other}
use borrow.Author.Tests.{lt-ltb, le-ltb, le-leb, leb-true, ltb-true, eqb-true, not-false, ltb-false}
use Rattle.std.specs.declared.result.Result.{Result}
use Rattle.std.specs.declared.result.Result.TheVariants.{Ok, Err}
use Rattle.std.specs.Result.{is_ok}
use Rattle.loops.specs.Loop.{pick, iter, first, bit}
use Rattle.loops.proofs.Loop.{by-pick, iter-inv, both, either, first_below}
use Rattle.loops.proofs.Search.{first-is}
use Rattle.netlist.specs.declared.record.Gate.{Gate}
use Rattle.netlist.specs.declared.check.Refusal.{Refusal}
use Rattle.netlist.specs.declared.check.Refusal.TheVariants.{GateList, ValueRoom, Input}
use Rattle.netlist.specs.Record.{gate_at, Room, records, whole_records}
use Rattle.netlist.specs.Kind.{free, uses_y, uses_z, value_of}
use Rattle.netlist.specs.Net.{Net, Assign, Says, Obeys}
use Rattle.netlist.specs.Check.{field_good, const_good, later_good, faulty, list_fault}
use Rattle.netlist.specs.Eval.{truth, gate_value, eval_step, out_of_range, Run, run, eval_sound, eval_gates}
use Rattle.netlist.specs.Right.{Evaluated}

field-less : (u : Bool) (i x : ℕ) → 2 ≤ i → field_good u i x ≡ true → x < i
unfolding field_good
field-less u i x h e =
    either (u && ltb x i) (not u && eqb x 0) (x < i)
    (λ p. ltb-true x i (both u (ltb x i) p).1)
    (λ p. omega (arith, eqb-true x 0 (both (not u) (eqb x 0) p).1))
    e

-- the three numbers of a sound gate that is not free are earlier gates
pub later-less : (i : ℕ) (g : Gate) → 2 ≤ i → later_good i g ≡ true → free g.kind ≡ false → (g.x < i) × (g.y < i) × (g.z < i)
unfolding later_good
later-less i g h e f =
    either (free g.kind && eqb g.z 0)
    (leb 3 g.kind && leb g.kind 11 && ltb g.x i && field_good (uses_y g.kind) i g.y && field_good (uses_z g.kind) i g.z) _
    (λ p. absurd (let q : free g.kind ≡ true = (both (free g.kind) (eqb g.z 0) p).0 in false≢true cc))
    (λ p.
    let a = both (leb 3 g.kind && leb g.kind 11 && ltb g.x i && field_good (uses_y g.kind) i g.y) (field_good (uses_z g.kind) i g.z) p in
    let b = both (leb 3 g.kind && leb g.kind 11 && ltb g.x i) (field_good (uses_y g.kind) i g.y) a.0 in
    let c = both (leb 3 g.kind && leb g.kind 11) (ltb g.x i) b.0 in
    (ltb-true g.x i c.1, field-less (uses_y g.kind) i g.y h b.1, field-less (uses_z g.kind) i g.z h a.1))
    e

const-kind : (i : ℕ) (g : Gate) → const_good i g ≡ true → g.kind ≡ i
unfolding const_good
const-kind i g p =
    let r = both (eqb g.kind i && eqb g.x 0 && eqb g.y 0) (eqb g.z 0) p in
    let s = both (eqb g.kind i && eqb g.x 0) (eqb g.y 0) r.0 in
    eqb-true g.kind i (both (eqb g.kind i) (eqb g.x 0) s.0).0

-- a gate that is not faulty: a constant below 2, a sound gate above
module _ (l : List ℕ) (i : ℕ) (b : faulty l i ≡ false) where
  sound : pick (ltb i 2) (const_good i (gate_at l i)) (later_good i (gate_at l i)) ≡ true
  unfolding faulty
  sound = not-false _ b

  pub low-kind : i < 2 → (gate_at l i).kind ≡ i
  unfolding pick
  low-kind h = const-kind i (gate_at l i) (rw (lt-ltb i 2 h) at sound)

  pub high-good : 2 ≤ i → later_good i (gate_at l i) ≡ true
  unfolding pick
  high-good h = rw (le-ltb i 2 h) at sound

-- the constants look at no operand
consts : (k : ℕ) → k < 2 → (a b c d e f : Bool) → value_of k a b c ≡ value_of k d e f
unfolding value_of pick
consts zero h a b c d e f = refl
consts (suc zero) h a b c d e f = refl
consts (suc (suc k)) h a b c d e f = absurd (omega arith)

-- a gate's kind makes the same of two assignments that agree at all earlier gates
pub value_same : (l : List ℕ) (i : ℕ) → faulty l i ≡ false → free (gate_at l i).kind ≡ false → (d e : Assign) → ((j : ℕ) → j < i → d j ≡ e j)
    → value_of (gate_at l i).kind (d (gate_at l i).x) (d (gate_at l i).y) (d (gate_at l i).z) ≡ value_of (gate_at l i).kind (e (gate_at l i).x) (e (gate_at l i).y) (e (gate_at l i).z)
value_same l i b f d e same = go (dec_lt i 2)
  where
    g : Gate
    g = gate_at l i

    go : Dec (i < 2) → value_of g.kind (d g.x) (d g.y) (d g.z) ≡ value_of g.kind (e g.x) (e g.y) (e g.z)
    go (yes h) = consts g.kind (omega (arith, low-kind l i b h)) _ _ _ _ _ _
    go (no h) =
        let q = later-less i g (omega arith) (high-good l i b (omega arith)) f in
        rw (same g.x q.0, same g.y q.1, same g.z q.2)

module _ (l v : List ℕ) (n : ℕ) (good : (j : ℕ) → j < n → faulty l j ≡ false) (room : n ≤ length v) where
  -- after i gates
  record So (i : ℕ) (x : List ℕ) : Type 0 where
    long : length x ≡ length v
    obeys : (j : ℕ) → j < i → free (gate_at l j).kind ≡ false → get_or x j 0 ≡ gate_value (gate_at l j) x
    kept : (j : ℕ) → free (gate_at l j).kind ≡ true → get_or x j 0 ≡ get_or v j 0
    beyond : (j : ℕ) → i ≤ j → get_or x j 0 ≡ get_or v j 0

  -- a store at i does not change what gate j, at most i, makes of its operands
  keep : (x : List ℕ) (i y j : ℕ) → j ≤ i → j < n → free (gate_at l j).kind ≡ false → gate_value (gate_at l j) (set x i y) ≡ gate_value (gate_at l j) x
  unfolding gate_value
  keep x i y j h lt f = ap bit (value_same l j (good j lt) f (truth (set x i y)) (truth x) (λ k q. ap (λ m. eqb m 1) (get_or-set_other x i k y 0 (omega arith))))

  step : (i : ℕ) (x : List ℕ) → i < n → So i x → (b : Bool) → free (gate_at l i).kind ≡ b → So (suc i) (eval_step l i x)
  unfolding eval_step pick
  step i x h s true e =
      rw e
      (record {
        long = s.long;
        obeys = λ j q f. early j q f (dec_lt j i);
        kept = s.kept;
        beyond = λ j q. s.beyond j (omega arith);
      })
    where
      early : (j : ℕ) → j < suc i → free (gate_at l j).kind ≡ false → Dec (j < i) → get_or x j 0 ≡ gate_value (gate_at l j) x
      early j q f (yes p) = s.obeys j p f
      early j q f (no p) =
          let r : j ≡ i = omega arith in
          absurd (false≢true (cc (ap (λ m. free (gate_at l m).kind) r)))
  step i x h s false e =
      rw e
      (record {
        long = length-set x i _ ∙ s.long;
        obeys = λ j q f. early j q f (dec_lt j i);
        kept = λ j f. get_or-set_other x i j _ 0 (other j f) ∙ s.kept j f;
        beyond = λ j q. get_or-set_other x i j _ 0 (omega arith) ∙ s.beyond j (omega arith);
      })
    where
      other : (j : ℕ) → free (gate_at l j).kind ≡ true → j ≡ i → ⊥
      other j f q = false≢true (cc (ap (λ m. free (gate_at l m).kind) q))

      early : (j : ℕ) → j < suc i → free (gate_at l j).kind ≡ false → Dec (j < i)
          → get_or (set x i (gate_value (gate_at l i) x)) j 0 ≡ gate_value (gate_at l j) (set x i (gate_value (gate_at l i) x))
      early j q f (yes p) =
          get_or-set_other x i j _ 0 (omega arith) ∙ (s.obeys j p f ∙ sym (keep x i _ j (omega arith) (omega arith) f))
      early j q f (no p) =
          let r : j ≡ i = omega arith in
          rw r (get_or-set_same x i _ 0 (omega (arith, s.long)) ∙ sym (keep x i _ i (omega arith) h e))

  pub evaluated : Evaluated l n v (iter n (eval_step l) v)
  evaluated =
      let s : So n (iter n (eval_step l) v) = iter-inv So (eval_step l) v n none (λ i x h k. step i x h k (free (gate_at l i).kind) refl) in
      record { long = s.long; obeys = s.obeys; kept = s.kept; beyond = s.beyond }
    where
      none : So 0 v
      none = record { long = refl; obeys = λ j h f. absurd (omega arith); kept = λ j f. refl; beyond = λ j h. refl }

bit-truth : (b : Bool) (k : ℕ) → k ≡ bit b → eqb k 1 ≡ b
bit-truth true k e = rw e
bit-truth false k e = rw e

low_free : (k : ℕ) → k < 2 → free k ≡ false
unfolding free
low_free zero h = refl
low_free (suc zero) h = refl
low_free (suc (suc k)) h = absurd (omega arith)

const-value : (k i : ℕ) → i < 2 → k ≡ i → (x y z : Bool) → value_of k x y z ≡ eqb i 1
unfolding value_of pick
const-value k zero h e x y z = rw e
const-value k (suc zero) h e x y z = rw e
const-value k (suc (suc i)) h e x y z = absurd (omega arith)

-- the values obey the net
module _ (l v x : List ℕ) (n : ℕ) (good : (j : ℕ) → j < n → faulty l j ≡ false) (ev : Evaluated l n v x) where
  own : (i : ℕ) → i < n → free (gate_at l i).kind ≡ false → truth x i ≡ value_of (gate_at l i).kind (truth x (gate_at l i).x) (truth x (gate_at l i).y) (truth x (gate_at l i).z)
  unfolding gate_value
  own i h f = bit-truth _ (get_or x i 0) (ev.obeys i h f)

  const : (i : ℕ) → i < 2 → i < n → truth x i ≡ eqb i 1
  const i h lt =
      let k : (gate_at l i).kind ≡ i = low-kind l i (good i lt) h in
      own i lt (rw k (low_free i h)) ∙ const-value (gate_at l i).kind i h k _ _ _

  pub truth-obeys : 2 ≤ n → Room l n → Obeys (record { gates = l; n = n }) (truth x)
  unfolding Says
  truth-obeys two room = record { low = const 0 (omega arith) (omega arith); high = const 1 (omega arith) (omega arith); room = room; says = own }

-- two assignments that obey a sound net and agree at its free gates agree at all
module _ (s : Net) (good : (j : ℕ) → j < s.n → faulty s.gates j ≡ false) (e d : Assign) (oe : Obeys s e) (od : Obeys s d)
    (agree : (j : ℕ) → j < s.n → free (gate_at s.gates j).kind ≡ true → e j ≡ d j) where
  upto : (m : ℕ) → m ≤ s.n → (i : ℕ) → i < m → e i ≡ d i
  unfolding Says
  upto zero h i lt = absurd (omega arith)
  upto (suc m) h i lt = go (upto m (omega arith)) (dec_lt i m) (free (gate_at s.gates i).kind) refl
    where
      go : ((j : ℕ) → j < m → e j ≡ d j) → Dec (i < m) → (b : Bool) → free (gate_at s.gates i).kind ≡ b → e i ≡ d i
      go ih (yes p) b r = ih i p
      go ih (no p) true r = agree i (omega arith) r
      go ih (no p) false r =
          oe.says i (omega arith) r
          ∙ (value_same s.gates i (good i (omega arith)) r e d (λ j q. ih j (omega arith)) ∙ sym (od.says i (omega arith) r))

  pub one-assignment : (i : ℕ) → i < s.n → e i ≡ d i
  one-assignment i h = upto s.n (omega arith) i h

-- for each choice at the free gates of a sound net there is an assignment that obeys it
module _ (s : Net) (good : (j : ℕ) → j < s.n → faulty s.gates j ≡ false) (two : 2 ≤ s.n) (room : Room s.gates s.n) (given : Assign) where
  -- the given truth values as bytes
  byte_step : ℕ → List ℕ → List ℕ
  byte_step i v = set v i (bit (given i))

  bytes : ℕ → List ℕ
  bytes n = iter n byte_step (replicate n 0)

  record Bytes (m i : ℕ) (v : List ℕ) : Type 0 where
    long : length v ≡ m
    there : (j : ℕ) → j < i → get_or v j 0 ≡ bit (given j)

  bytes-law : (n : ℕ) → Bytes n n (bytes n)
  unfolding bytes byte_step
  bytes-law n =
      iter-inv (Bytes n) byte_step (replicate n 0) n (record { long = length-replicate n 0; there = λ j h. absurd (omega arith) })
      (λ i v h b. record { long = length-set v i _ ∙ b.long; there = λ j q. at i v h b j q (dec_lt j i) })
    where
      at : (i : ℕ) (v : List ℕ) → i < n → Bytes n i v → (j : ℕ) → j < suc i → Dec (j < i) → get_or (set v i (bit (given i))) j 0 ≡ bit (given j)
      at i v h b j q (yes p) = get_or-set_other v i j _ 0 (omega arith) ∙ b.there j p
      at i v h b j q (no p) = let r : j ≡ i = omega arith in rw r (get_or-set_same v i _ 0 (omega (arith, b.long)))

  pub solved : Assign
  solved = truth (iter s.n (eval_step s.gates) (bytes s.n))

  ev : Evaluated s.gates s.n (bytes s.n) (iter s.n (eval_step s.gates) (bytes s.n))
  ev = evaluated s.gates (bytes s.n) s.n good (omega (arith, (bytes-law s.n).long))

  pub solved-obeys : Obeys s solved
  unfolding solved
  solved-obeys = truth-obeys s.gates _ _ s.n good ev two room

  pub solved-given : (j : ℕ) → j < s.n → free (gate_at s.gates j).kind ≡ true → solved j ≡ given j
  unfolding solved
  solved-given j h f = bit-truth (given j) _ (ev.kept j f ∙ (bytes-law s.n).there j h)

module _ (l : List ℕ) where
  Good : Result (Unit {0}) Refusal → Type 0
  Good r = r ≡ Ok tt → (2 ≤ records l) × ((j : ℕ) → j < records l → faulty l j ≡ false)

  -- a list without fault has no faulty gate, and two at least
  pub each-good : list_fault l ≡ Ok tt → (2 ≤ records l) × ((j : ℕ) → j < records l → faulty l j ≡ false)
  unfolding list_fault Good
  each-good =
      by-pick Good (whole_records l && leb 2 (records l)) _ (Err (GateList 0))
      (λ p.
      by-pick Good (ltb (first (records l) (faulty l)) (records l)) (Err (GateList (first (records l) (faulty l)))) (Ok tt) (λ q e. absurd (grind arith))
      (λ q e. (
        leb-true 2 (records l) (both (whole_records l) (leb 2 (records l)) p).1,
        λ j h. first_below (faulty l) (records l) j (omega (arith, ltb-false (first (records l) (faulty l)) (records l) q)),
      )))
      (λ p e. absurd (grind arith))

-- a net all of whose records are good passes the check, as the list of its used part
pub passes : (l : List ℕ) → whole_records l ≡ true → 2 ≤ records l → ((j : ℕ) → j < records l → faulty l j ≡ false) → list_fault l ≡ Ok tt
unfolding list_fault pick
passes l w two good =
    let none : first (records l) (faulty l) ≡ records l = first-is (faulty l) (records l) (records l) (omega arith) good (λ h. absurd (omega arith)) in
    rw (w, le-leb 2 (records l) two, none, le-ltb (records l) (records l) (omega arith))

is-done : (a : Result (Unit {0}) Refusal) → is_ok a ≡ true → a ≡ Ok tt
is-done (Ok tt) e = refl
is-done (Err r) e = absurd (false≢true e)

-- what is answered where nothing is refused is what the list makes of what was given
module _ (l v : List ℕ) where
  Right : Run → Type 0
  Right r = r.answer ≡ Ok tt → Evaluated l (records l) v r.values

  right_sound : list_fault l ≡ Ok tt → Right (eval_sound l v)
  unfolding eval_sound Right
  right_sound d =
      by-pick Right (ltb (length v) (records l)) (run (Err ValueRoom) v) _ (λ b e. absurd (grind arith))
      (λ b.
      by-pick Right (ltb (first (records l) (out_of_range l v)) (records l)) (run (Err (Input (first (records l) (out_of_range l v)))) v) _ (λ c e. absurd (grind arith))
      (λ c e. evaluated l v (records l) (each-good l d).1 (ltb-false (length v) (records l) b)))

  pub done-right : (eval_gates l v).answer ≡ Ok tt → Evaluated l (records l) v (eval_gates l v).values
  unfolding eval_gates Right
  done-right =
      by-pick Right (is_ok (list_fault l)) (eval_sound l v) (run (list_fault l) v) (λ b. right_sound (is-done (list_fault l) b))
      (λ b e. absurd (false≢true (sym b ∙ ap is_ok e)))
