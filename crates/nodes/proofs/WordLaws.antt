-- From the law of each word of a node to the law of its step, once for every kind that makes its words one after the other.
use mathlib.Core.Path.{◌≡◌, refl, ap, ◌∙◌}
use mathlib.Core.List.{List}
use mathlib.Core.Bool.{false}
use Prim.Native.Nat.{ℕ, suc, ◌+◌, ◌-◌, ◌*◌, ◌≤◌, ◌<◌}
use native.Mathlib.Omega.{arith}
use native.Mathlib.Decide.{dec_lt}
use lib.ListN.{length, get_or}
use Rattle.loops.proofs.Loop.{iter-inv}
use Rattle.netlist.specs.Record.{Room}
use Rattle.netlist.specs.Net.{Net}
use Rattle.gates.specs.Law.{Grows, Formed}
use Rattle.gates.proofs.Laws.{grows-refl, grows-trans, grows-weaken, room_back}
use Rattle.digits.specs.Digits.{Below}
use Rattle.words.specs.Each.{Word, put_bits, Put}
use Rattle.words.proofs.EachLaws.{put-law}
use Rattle.visits.specs.Flow.{Core}
use Rattle.visits.specs.Stored.{stored}
use Rattle.visits.specs.Claims.{Operands, Under, Ready, Step}
use Rattle.visits.proofs.Stored.{room_after}
use Rattle.nodes.specs.Source.{Source, words_of, wide_of, bits_of, off_of, gates_of}
use Rattle.nodes.specs.Own.{word_step, each_word}
use Rattle.nodes.specs.Recipe.{recipe}
use Rattle.nodes.proofs.Places.{part-within, Till}

-- what is right of a word of w bits, made over the net s with at most c gates; In b is that what it is made of is below b
pub record WordMade (s : Net) (In : ℕ → Type 0) (w c : ℕ) (y : Word) : Type 0 where
  pub grows : Grows s y.net c
  pub formed : Room y.net.gates y.net.n → In s.n → Formed s → Formed y.net × Below y.net.n y.out w
  pub known : In 2 → (y.net.n ≡ s.n) × Below 2 y.out w

-- the bits that the node k reads are below b
abbrev pub Reads : Source → ℕ → Core → ℕ → Type 0
Reads S k s b = Operands (recipe S) s.map k (Under (recipe S) b s.map)

pub reads_up : (S : Source) (k : ℕ) (s : Core) (a b : ℕ) → a ≤ b → Reads S k s a → Reads S k s b
reads_up S k s a b h o =
    record {
      first = λ ne j l. omega (arith, o.first ne j l);
      second = λ ne j l. omega (arith, o.second ne j l);
      third = λ ne j l. omega (arith, o.third ne j l);
    }

-- what a word of the node k owes that is made when s has become x
pub record WordOwes (S : Source) (k : ℕ) (s x : Core) (c : ℕ) (y : Word) : Type 0 where
  pub grows : Grows x.net y.net c
  pub formed : Ready (recipe S) k s → s.net.n ≤ x.net.n → Room y.net.gates y.net.n → Formed x.net → Formed y.net × Below y.net.n y.out (wide_of S k)
  pub known : (recipe S).given k ≡ false → Reads S k s 2 → (y.net.n ≡ x.net.n) × Below 2 y.out (wide_of S k)

pub made-owes : {S : Source} {k : ℕ} {s x : Core} {c : ℕ} {y : Word} {In : ℕ → Type 0} → WordMade x.net In (wide_of S k) c y → ((b : ℕ) → Reads S k s b → In b) → WordOwes S k s x c y
made-owes {S} {k} {s} {x} law inn =
    record {
      grows = law.grows;
      formed = λ r up rm f. law.formed rm (inn x.net.n (reads_up S k s s.net.n x.net.n up r.below)) f;
      known = λ g o. law.known (inn 2 o);
    }

-- after i words of the node k, from s to x: c gates a word at most, and the words in their places
pub record Made (S : Source) (k c : ℕ) (s : Core) (i : ℕ) (x : Core) : Type 0 where
  pub grows : Grows s.net x.net (i * c)
  pub cons : x.cons ≡ s.cons
  pub count : x.nc ≡ s.nc
  pub long : length x.map ≡ length s.map
  pub below : Till (off_of S k) s.map x.map
  pub above : (p : ℕ) → off_of S k + i * wide_of S k ≤ p → get_or x.map p 0 ≡ get_or s.map p 0
  pub formed : Ready (recipe S) k s → Room x.net.gates x.net.n → Formed x.net × ((j : ℕ) → j < i * wide_of S k → get_or x.map (off_of S k + j) 0 < x.net.n)
  pub known : (recipe S).given k ≡ false → Reads S k s 2 → (x.net.n ≡ s.net.n) × ((j : ℕ) → j < i * wide_of S k → get_or x.map (off_of S k + j) 0 < 2)

-- one word more, y at its place, under a number b
module _ (off i w : ℕ) (m : List ℕ) (out : List ℕ) (b : ℕ) (fits : off + i * w + w ≤ length m) where
  put : Put (off + i * w) out m w (put_bits (off + i * w) out w m)
  put = put-law (off + i * w) out m w fits

  placed : ((j : ℕ) → j < i * w → get_or m (off + j) 0 < b) → Below b out w → (j : ℕ) → j < suc i * w → get_or (put_bits (off + i * w) out w m) (off + j) 0 < b
  placed old new j h = go (dec_lt j (i * w))
    where
      go : Dec (j < i * w) → get_or (put_bits (off + i * w) out w m) (off + j) 0 < b
      go (yes l) = rw (put.below (off + j) (omega arith)) (old j l)
      go (no l) =
          let e : off + j ≡ off + i * w + (j - i * w) = omega arith in
          rw (e, put.there (j - i * w) (omega arith)) (new (j - i * w) (omega arith))

module _ (S : Source) (k c : ℕ) (s : Core) (f : ℕ → Core → Word) (fits : off_of S k + words_of S k * wide_of S k ≤ length s.map)
    (each : (i : ℕ) (x : Core) → i < words_of S k → Till (off_of S k) s.map x.map → WordOwes S k s x c (f i x)) where
  one_more : (i : ℕ) (x : Core) → i < words_of S k → Made S k c s i x → Made S k c s (suc i) (word_step S k f i x)
  unfolding word_step stored
  one_more i x lt h =
      record {
        grows = grows-weaken s.net y.net (i * c + c) (suc i * c) (omega arith) (grows-trans s.net x.net y.net (i * c) c h.grows law.grows);
        cons = h.cons;
        count = h.count;
        long = p.long ∙ h.long;
        below = λ q l. p.below q (omega arith) ∙ h.below q l;
        above = λ q l. p.above q (omega arith) ∙ h.above q (omega arith);
        formed = λ r rm.
            let o : Formed x.net × ((j : ℕ) → j < i * w → get_or x.map (off_of S k + j) 0 < x.net.n) = h.formed r (room_back x.net y.net c law.grows rm) in
            let n : Formed y.net × Below y.net.n y.out w = law.formed r h.grows.from rm o.0 in
            (n.0, placed (off_of S k) i w x.map y.out y.net.n room (λ j l. omega (arith, o.1 j l, law.grows.from)) n.1);
        known = λ g o.
            let a : (x.net.n ≡ s.net.n) × ((j : ℕ) → j < i * w → get_or x.map (off_of S k + j) 0 < 2) = h.known g o in
            let n : (y.net.n ≡ x.net.n) × Below 2 y.out w = law.known g o in
            (n.0 ∙ a.0, placed (off_of S k) i w x.map y.out 2 room a.1 n.1);
      }
    where
      w : ℕ
      w = wide_of S k

      y : Word
      y = f i x

      law : WordOwes S k s x c y
      law = each i x lt h.below

      room : off_of S k + i * w + w ≤ length x.map
      room = omega (arith, part-within i (words_of S k) w lt, h.long)

      p : Put (off_of S k + i * w) y.out x.map w (put_bits (off_of S k + i * w) y.out w x.map)
      p = put-law (off_of S k + i * w) y.out x.map w room

  pub all_made : Made S k c s (words_of S k) (each_word S k f s)
  all_made =
      iter-inv (Made S k c s) (word_step S k f) s (words_of S k)
      (record {
        grows = grows-refl s.net (0 * c);
        cons = refl;
        count = refl;
        long = refl;
        below = λ q l. refl;
        above = λ q l. refl;
        formed = λ r rm. (r.formed, λ j l. absurd (omega arith));
        known = λ g o. (refl, λ j l. absurd (omega arith));
      })
      one_more

  pub each_step_lem : bits_of S k ≡ words_of S k * wide_of S k → words_of S k * c ≤ gates_of S k → Step (recipe S) k s (each_word S k f s)
  each_step_lem eb top =
      let h : Made S k c s (words_of S k) (each_word S k f s) = all_made in
      let g : Grows s.net (each_word S k f s).net (gates_of S k) = grows-weaken s.net _ (words_of S k * c) (gates_of S k) top h.grows in
      record {
        frame =
            record {
              grows = g;
              cons_long = ap length h.cons;
              cons_from = omega (arith, h.count);
              cons_upto = omega (arith, h.count);
              cons_same = λ i l. ap (λ (z : List ℕ). get_or z i 0) h.cons;
              cons_rest = λ i l. ap (λ (z : List ℕ). get_or z i 0) h.cons;
              map_long = h.long;
              map_below = h.below;
              map_above = λ i l. h.above i (omega arith);
            };
        formed = λ r. let o = h.formed r (room_after r g) in (o.0, λ j l. o.1 j (omega arith));
        known = λ r gv o. let a = h.known gv o in (a.0, h.count, λ j l. a.1 j (omega arith));
        asked = λ r i lo hi. absurd (omega (arith, h.count));
      }
