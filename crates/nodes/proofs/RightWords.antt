-- The law of values of a step that makes its node's words one after the other.
use mathlib.Core.Path.{◌≡◌, refl, ap, sym, ◌∙◌}
use mathlib.Core.List.{List}
use mathlib.Core.Bool.{Bool, true, ◌&&◌}
use Prim.Native.Nat.{ℕ, suc, ◌+◌, ◌-◌, ◌*◌, ◌≤◌, ◌<◌}
use native.Mathlib.Omega.{arith}
use native.Mathlib.Decide.{dec_lt}
use lib.Dec.{eqb}
use lib.ListN.{length, get_or}
use Rattle.loops.proofs.Loop.{by-pick, iter-inv}
use Rattle.table.specs.Kind.{ITE}
use Rattle.netlist.specs.Record.{gate_at, Room}
use Rattle.netlist.specs.Kind.{free}
use Rattle.netlist.specs.Bit.{is_known}
use Rattle.netlist.specs.Net.{Net, Assign}
use Rattle.gates.specs.Law.{Grows, Ext}
use Rattle.gates.proofs.Laws.{grows-refl, grows-trans, keeps, room_back}
use Rattle.words.specs.Each.{Word, put_bits, Put}
use Rattle.words.proofs.EachLaws.{put-law}
use Rattle.visits.specs.Flow.{Core}
use Rattle.visits.specs.Stored.{stored}
use Rattle.visits.specs.Claims.{Meaning, Is, Right, Considered, Operands, Ready, StepRight}
use Rattle.visits.proofs.Plain.{plain-right}
use Rattle.nodes.specs.Source.{Source, node_of, words_of, wide_of, bits_of, off_of, first_of, second_of, third_of, condition_of}
use Rattle.nodes.specs.Own.{word_step, each_word}
use Rattle.nodes.specs.Recipe.{recipe}
use Rattle.nodes.specs.Meaning.{value_of, meaning}
use Rattle.nodes.proofs.Places.{off-apart, off-inside, bits-words, sound-of}
use Rattle.nodes.proofs.MeaningPlaces.{Sheeted}

-- what is considered of a grown net was considered before
pub considered-back : (M : Meaning) (s t : Net) (c : ℕ) (e : Assign) → Grows s t c → Considered M t e → Considered M s e
considered-back M s t c e g ce =
    record {
      obeys = keeps s t c e g ce.obeys;
      inputs = λ i h k.
          let q : gate_at t.gates i ≡ gate_at s.gates i = g.same i h in
          rw q at (ce.inputs i (omega (arith, g.from)) (rw q k));
    }

-- of the gates from s to t only InputBits are free
abbrev pub Inputs : Net → Net → Type 0
Inputs s t = Room t.gates t.n → (g : ℕ) → s.n ≤ g → g < t.n → free (gate_at t.gates g).kind ≡ true → (gate_at t.gates g).kind ≡ 2

pub inputs-trans : (s t u : Net) (c : ℕ) → Grows t u c → Inputs s t → Inputs t u → Inputs s u
inputs-trans s t u c g a b room i lo hi = go (dec_lt i t.n)
  where
    go : Dec (i < t.n) → free (gate_at u.gates i).kind ≡ true → (gate_at u.gates i).kind ≡ 2
    go (yes h) = rw (g.same i h) (a (room_back t u c g room) i lo h)
    go (no h) = b room i (omega arith) hi

pub inputs-bound : (s t : Net) (c : ℕ) → Ext s t c → Inputs s t
inputs-bound s t c x room g lo hi fr = absurd (let z : ◌≡◌ {A = ℕ} 0 1 = cc (x.bound room g lo hi) in omega arith)

-- the operands that node k reads under the map m have their right bits in the map n
abbrev pub Operable : Source → List ℕ → ℕ → List ℕ → Assign → List ℕ → Type 0
Operable S x k m e n = Operands (recipe S) m k (Right (recipe S) (meaning S x) e n)

-- word i of node k, made at t: where the operands' bits are right, its bits are the truth values `val`
pub record WordSays (S : Source) (x : List ℕ) (k : ℕ) (val : ℕ → Bool) (m : List ℕ) (i : ℕ) (t : Core) (y : Word) : Type 0 where
  pub cost : ℕ
  pub grows : Grows t.net y.net cost
  pub only : Inputs t.net y.net
  pub right : (e : Assign) → Considered (meaning S x) y.net e → Operable S x k m e m → Operable S x k m e t.map → (j : ℕ) → j < wide_of S k → e (get_or y.out j 0) ≡ val (i * wide_of S k + j)

-- the node's own value
abbrev pub OwnWord : Source → List ℕ → ℕ → List ℕ → ℕ → Core → Word → Type 0
OwnWord S x k m i t y = WordSays S x k (value_of S x k) m i t y

module _ (S : Source) (x : List ℕ) (k : ℕ) (clear : Sheeted S) (is : Is (recipe S) k) where
  -- bits below a node's own are right where they were
  right_kept : (m n : List ℕ) (e : Assign) → ((p : ℕ) → p < off_of S k → get_or n p 0 ≡ get_or m p 0) → (y : ℕ) → y < k → Right (recipe S) (meaning S x) e m y → Right (recipe S) (meaning S x) e n y
  right_kept m n e same y lt r j h = ap e (same (off_of S y + j) (omega (arith, off-apart S y k lt))) ∙ r j h

  second-less : (m : List ℕ) → second_of S m k < k
  unfolding second_of
  second-less m = let q = (sound-of S clear k is).operands in by-pick (λ y. y < k) (eqb (node_of S k).kind ITE && eqb (condition_of S m k) 0) (node_of S k).c (node_of S k).b (λ e. q.c) (λ e. q.b)

  third-less : (m : List ℕ) → third_of S m k < k
  unfolding third_of
  third-less m = let q = (sound-of S clear k is).operands in by-pick (λ y. y < k) (eqb (node_of S k).kind ITE && is_known (condition_of S m k)) 0 (node_of S k).c (λ e. is.low) (λ e. q.c)

  pub operable-kept : (m p n : List ℕ) (e : Assign) → ((q : ℕ) → q < off_of S k → get_or n q 0 ≡ get_or p q 0) → Operable S x k m e p → Operable S x k m e n
  operable-kept m p n e same o =
      record {
        first = λ z. right_kept p n e same (first_of S k) (sound-of S clear k is).operands.a (o.first z);
        second = λ z. right_kept p n e same (second_of S m k) (second-less m) (o.second z);
        third = λ z. right_kept p n e same (third_of S m k) (third-less m) (o.third z);
      }

-- the first i words are made
pub record WordsSay (S : Source) (x : List ℕ) (k : ℕ) (val : ℕ → Bool) (s : Core) (i : ℕ) (t : Core) : Type 0 where
  pub cost : ℕ
  pub grows : Grows s.net t.net cost
  pub only : Inputs s.net t.net
  pub asks : t.nc ≡ s.nc
  pub long : length t.map ≡ length s.map
  pub below : (p : ℕ) → p < off_of S k → get_or t.map p 0 ≡ get_or s.map p 0
  pub right : (e : Assign) → Considered (meaning S x) t.net e → Operable S x k s.map e s.map → (j : ℕ) → j < i * wide_of S k → e (get_or t.map (off_of S k + j) 0) ≡ val j

module _ (S : Source) (x : List ℕ) (k : ℕ) (val : ℕ → Bool) (s : Core) (f : ℕ → Core → Word) (clear : Sheeted S) (ready : Ready (recipe S) k s)
    (each : (i : ℕ) (t : Core) → i < words_of S k → WordSays S x k val s.map i t (f i t)) where
  words-none : WordsSay S x k val s 0 s
  words-none =
      record {
        cost = 0;
        grows = grows-refl s.net 0;
        only = λ room g lo hi fr. absurd (omega arith);
        asks = refl;
        long = refl;
        below = λ p h. refl;
        right = λ e ce o j h. absurd (omega arith);
      }

  room : (i : ℕ) → i < words_of S k → off_of S k + i * wide_of S k + wide_of S k ≤ length s.map
  room i lt =
      let r : suc i + (words_of S k - suc i) ≡ words_of S k = omega arith in
      let b : bits_of S k ≡ (suc i + (words_of S k - suc i)) * wide_of S k = bits-words S k ready.is.low ∙ ap (λ n. n * wide_of S k) (sym r) in
      omega (arith, off-inside S k ready.is.low ready.is.high, ready.mapped)

  words-next : (i : ℕ) (t : Core) → i < words_of S k → WordsSay S x k val s i t → WordsSay S x k val s (suc i) (word_step S k f i t)
  unfolding word_step stored
  words-next i t lt h =
      record {
        cost = h.cost + m.cost;
        grows = grows-trans s.net t.net y.net h.cost m.cost h.grows m.grows;
        only = inputs-trans s.net t.net y.net m.cost m.grows h.only m.only;
        asks = h.asks;
        long = p.long ∙ h.long;
        below = λ q l. p.below q (omega arith) ∙ h.below q l;
        right = λ e ce o j l. at e ce o j l (dec_lt j (i * wide_of S k));
      }
    where
      y : Word
      y = f i t

      m : WordSays S x k val s.map i t (f i t)
      m = each i t lt

      p : Put (off_of S k + i * wide_of S k) (f i t).out t.map (wide_of S k) (put_bits (off_of S k + i * wide_of S k) (f i t).out (wide_of S k) t.map)
      p = put-law (off_of S k + i * wide_of S k) (f i t).out t.map (wide_of S k) (omega (arith, room i lt, h.long))

      at : (e : Assign) → Considered (meaning S x) (f i t).net e → Operable S x k s.map e s.map → (j : ℕ) → j < suc i * wide_of S k → Dec (j < i * wide_of S k)
          → e (get_or (put_bits (off_of S k + i * wide_of S k) (f i t).out (wide_of S k) t.map) (off_of S k + j) 0) ≡ val j
      at e ce o j l (yes q) = ap e (p.below (off_of S k + j) (omega arith)) ∙ h.right e (considered-back (meaning S x) t.net (f i t).net m.cost e m.grows ce) o j q
      at e ce o j l (no q) =
          let z : i * wide_of S k + (j - i * wide_of S k) ≡ j = omega arith in
          let n : off_of S k + i * wide_of S k + (j - i * wide_of S k) ≡ off_of S k + j = omega arith in
          let g : j - i * wide_of S k < wide_of S k = omega arith in
          let u : e (get_or (f i t).out (j - i * wide_of S k) 0) ≡ val (i * wide_of S k + (j - i * wide_of S k)) =
          m.right e ce o (operable-kept S x k clear ready.is s.map s.map t.map e h.below o) (j - i * wide_of S k) g in
          let a : get_or (put_bits (off_of S k + i * wide_of S k) (f i t).out (wide_of S k) t.map) (off_of S k + j) 0 ≡ get_or (f i t).out (j - i * wide_of S k) 0 = rw n at (p.there (j - i * wide_of S k) g) in
          ap e a ∙ (u ∙ ap val z)

  pub words-made : WordsSay S x k val s (words_of S k) (each_word S k f s)
  words-made = iter-inv (WordsSay S x k val s) (word_step S k f) s (words_of S k) words-none words-next

pub words_right : (S : Source) (x : List ℕ) (k : ℕ) (s : Core) (f : ℕ → Core → Word) → Sheeted S → Ready (recipe S) k s
    → ((i : ℕ) (t : Core) → i < words_of S k → OwnWord S x k s.map i t (f i t)) → StepRight (recipe S) (meaning S x) k s (each_word S k f s)
words_right S x k s f clear ready each =
    let w = words-made S x k (value_of S x k) s f clear ready each in
    plain-right
    (record {
      asks = w.asks;
      only = w.only;
      right = λ e ce o j l. w.right e ce o j (rw (bits-words S k ready.is.low) at l);
    })
