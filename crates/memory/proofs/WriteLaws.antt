-- The law of a write: a word is the value where its listed address is the number of the address, and otherwise the old word.
use mathlib.Core.Path.{◌≡◌, refl, ap, sym, ◌∙◌}
use mathlib.Core.List.{List}
use mathlib.Core.Bool.{Bool}
use Prim.Native.Nat.{ℕ, suc, ◌+◌, ◌*◌, ◌-◌, ◌^◌, ◌≤◌, ◌<◌}
use native.Mathlib.Omega.{arith}
use native.Mathlib.Decide.{dec_lt, ℕ_discrete}
use lib.Dec.{eqb, ltb}
use lib.ListN.{length, get_or, drop}
use lib.Seq.{get_or-drop}
use borrow.Author.Tests.{eq-eqb, ne_eqb, ltb-true, ltb-false}
use Rattle.loops.specs.Loop.{pick, iter}
use Rattle.loops.proofs.Loop.{by-pick, pick_true, pick-false, iter-inv}
use Rattle.netlist.specs.Record.{Room}
use Rattle.netlist.specs.Net.{Net, Assign, Obeys}
use Rattle.gates.specs.Made.{MadeBit}
use Rattle.gates.specs.Law.{Ext, Formed}
use Rattle.gates.proofs.Laws.{ext_refl, ext_trans, ext-weaken, keeps, room_back}
use Rattle.digits.specs.Digits.{Below, all_known, known_number}
use Rattle.digits.proofs.Words.{all_true, all-false}
use Rattle.words.specs.declared.each.Bitwise.TheVariants.{Choose}
use Rattle.words.specs.Num.{num, blank}
use Rattle.words.specs.Each.{bit_value, bit_below, Word, each_bit, each_cost, EachLaw, put_bits, Put}
use Rattle.words.proofs.NumLaws.{num-known, num-choose, blank-long}
use Rattle.words.proofs.EachLaws.{choose-cost, each-law, each-ext, below_more, put-law}
use Rattle.memory.specs.Address.{part, listed_at, at_listed, Listed, AtLaw, word_num}
use Rattle.memory.specs.Write.{write_known, write_step, write_words, WriteLaw}
use Rattle.memory.proofs.AddressLaws.{part_at, word_end, put_other, put-below, found-listed, none-listed, only-listed, at-ext, at-law}

-- a choice a place
-- five gates a place less one, at any address
pub step-ext : (w : ℕ) (addrs adr val : List ℕ) (i : ℕ) (s : Word) → 1 ≤ w → w ≤ 64 → Ext s.net (write_step w addrs adr val i s).net (5 * w - 1)
unfolding write_step
step-ext w addrs adr val i s big small =
    ext-weaken s.net _ (2 * w - 1 + each_cost (Choose q.bit) val (part i w s.out) w) (5 * w - 1)
    (omega (arith, choose-cost q.bit val (part i w s.out) w))
    (ext_trans s.net q.net _ _ _ (at-ext w (get_or addrs i 0) adr s.net big small) (each-ext (Choose q.bit) val (part i w s.out) (record { net = q.net; out = blank }) w))
  where
    q : MadeBit
    q = at_listed w (get_or addrs i 0) adr s.net

-- one listed address: word i of the memory
record OneLaw (w i a : ℕ) (adr val : List ℕ) (s t : Word) : Type 0 where
  ext : Ext s.net t.net (5 * w - 1)
  long : length t.out ≡ length s.out
  value : (e : Assign) → Obeys t.net e → (j : ℕ) → j < w → e (get_or t.out (i * w + j) 0) ≡ pick (eqb a (num e adr w)) (e (get_or val j 0)) (e (get_or s.out (i * w + j) 0))
  other : (p : ℕ) → ((j : ℕ) → j < w → p ≡ i * w + j → ⊥) → get_or t.out p 0 ≡ get_or s.out p 0
  formed : (m : ℕ) → i * w + w ≤ m → Room t.net.gates t.net.n → Below s.net.n s.out m → Below s.net.n adr w → Below s.net.n val w → Formed s.net
      → Formed t.net × Below t.net.n t.out m

module _ (w i : ℕ) (addrs adr val : List ℕ) (s : Word) (big : 1 ≤ w) (small : w ≤ 64) (fits : i * w + w ≤ length s.out) (below : get_or addrs i 0 < 2 ^ w) where
  q : MadeBit
  q = at_listed w (get_or addrs i 0) adr s.net

  ql : AtLaw w (get_or addrs i 0) adr s.net q
  unfolding q
  ql = at-law w (get_or addrs i 0) adr s.net big small below

  x : Word
  x = each_bit (Choose q.bit) val (part i w s.out) w (record { net = q.net; out = blank })

  xl : EachLaw (Choose q.bit) val (part i w s.out) (record { net = q.net; out = blank }) w x
  unfolding x
  xl = each-law (Choose q.bit) val (part i w s.out) (record { net = q.net; out = blank }) w (omega (arith, blank-long))

  one-law : OneLaw w i (get_or addrs i 0) adr val s (write_step w addrs adr val i s)
  unfolding write_step q x bit_value bit_below
  one-law =
      record {
        ext = step-ext w addrs adr val i s big small;
        long = put.long;
        value = λ e o j l.
            let o₁ : Obeys q.net e = keeps q.net x.net _ e xl.ext.grows o in
            rw (put.there j l, xl.value e o j l, ql.value e o₁, part_at i w s.out j l) refl;
        other = put_other (i * w) x.out s.out w fits;
        formed = λ m h room bo ba bv f.
            let fq : Formed q.net × (q.bit < q.net.n) = ql.formed (room_back q.net x.net _ xl.ext.grows room) (f.two, ba) f in
            let fx : Formed x.net × Below x.net.n x.out w =
            xl.formed room (λ j l. (fq.1, omega (arith, bv j l, ql.ext.grows.from), rw (part_at i w s.out j l) (omega (arith, bo (i * w + j) (omega arith), ql.ext.grows.from)))) fq.0 in
            let more : s.net.n ≤ x.net.n = omega (arith, ql.ext.grows.from, xl.ext.grows.from) in
            (fx.0, put-below (i * w) x.out s.out w fits x.net.n m fx.1 (below_more s.net.n x.net.n s.out m more bo));
      }
    where
      put : Put (i * w) x.out s.out w (put_bits (i * w) x.out w s.out)
      put = put-law (i * w) x.out s.out w fits

module _ (n w : ℕ) (addrs adr val mem : List ℕ) (listed : Listed n w addrs) (big : 1 ≤ w) (small : w ≤ 64) (fits : n * w ≤ length mem) where
  -- bit j of word k as it should be
  meant : Assign → ℕ → ℕ → Bool
  meant e k j = pick (eqb (get_or addrs k 0) (num e adr w)) (e (get_or val j 0)) (e (get_or mem (k * w + j) 0))

  -- the words below i are right
  Done : Assign → ℕ → List ℕ → Type 0
  Done e i out = (k : ℕ) → k < i → (j : ℕ) → j < w → e (get_or out (k * w + j) 0) ≡ meant e k j

  done-step : (e : Assign) (i : ℕ) (out out' : List ℕ) → Done e i out → ((p : ℕ) → i * w ≤ p → get_or out p 0 ≡ get_or mem p 0)
      → ((j : ℕ) → j < w → e (get_or out' (i * w + j) 0) ≡ pick (eqb (get_or addrs i 0) (num e adr w)) (e (get_or val j 0)) (e (get_or out (i * w + j) 0)))
      → ((p : ℕ) → ((j : ℕ) → j < w → p ≡ i * w + j → ⊥) → get_or out' p 0 ≡ get_or out p 0)
      → Done e (suc i) out'
  unfolding Done meant
  done-step e i out out' done rest here there k l j m = go (dec_lt k i)
    where
      go : Dec (k < i) → e (get_or out' (k * w + j) 0) ≡ meant e k j
      go (yes p) = let h : k * w + w ≤ i * w = word_end k i w p in ap e (there (k * w + j) (λ j' l'. omega arith)) ∙ done k p j m
      go (no p) =
          let z : k ≡ i = omega arith in
          rw (z, ← rest (i * w + j) (omega arith)) (here j m)

  -- at an address that is not wholly known
  record Writing (s : Net) (i : ℕ) (x : Word) : Type 0 where
    ext : Ext s x.net (i * (5 * w - 1))
    long : length x.out ≡ length mem
    done : (e : Assign) → Obeys x.net e → Done e i x.out
    rest : (p : ℕ) → i * w ≤ p → get_or x.out p 0 ≡ get_or mem p 0
    formed : Room x.net.gates x.net.n → Below s.n mem (n * w) → Below s.n adr w → Below s.n val w → Formed s → Formed x.net × Below x.net.n x.out (n * w)

  write_step_lem : (s : Net) (i : ℕ) (x : Word) → i < n → Writing s i x → Writing s (suc i) (write_step w addrs adr val i x)
  write_step_lem s i x lt h =
      record {
        ext = ext-weaken s t.net (i * (5 * w - 1) + (5 * w - 1)) (suc i * (5 * w - 1)) (omega arith) (ext_trans s x.net t.net (i * (5 * w - 1)) (5 * w - 1) h.ext law.ext);
        long = law.long ∙ h.long;
        done = λ e o. done-step e i x.out t.out (h.done e (keeps x.net t.net (5 * w - 1) e law.ext.grows o)) h.rest (law.value e o) law.other;
        rest = λ p l. law.other p (λ j m. omega arith) ∙ h.rest p (omega arith);
        formed = λ room bm ba bv f.
            let p : Formed x.net × Below x.net.n x.out (n * w) = h.formed (room_back x.net t.net (5 * w - 1) law.ext.grows room) bm ba bv f in
            law.formed (n * w) (word_end i n w lt) room p.1 (below_more s.n x.net.n adr w h.ext.grows.from ba) (below_more s.n x.net.n val w h.ext.grows.from bv) p.0;
      }
    where
      t : Word
      t = write_step w addrs adr val i x

      law : OneLaw w i (get_or addrs i 0) adr val x t
      law = one-law w i addrs adr val x big small (omega (arith, h.long, word_end i n w lt)) (listed.small i lt)

  writing : (s : Net) → Writing s n (iter n (write_step w addrs adr val) (record { net = s; out = mem }))
  unfolding Done
  writing s =
      iter-inv (Writing s) (write_step w addrs adr val) (record { net = s; out = mem }) n
      (record {
        ext = ext_refl s (0 * (5 * w - 1));
        long = refl;
        done = λ e o k l. absurd (omega arith);
        rest = λ p l. refl;
        formed = λ room bm ba bv f. (f, bm);
      })
      (λ i x lt h. write_step_lem s i x lt h)

  -- at a known address, a
  record Replaced (a : ℕ) (out : List ℕ) : Type 0 where
    long : length out ≡ length mem
    rest : (p : ℕ) → n * w ≤ p → get_or out p 0 ≡ get_or mem p 0
    done : (e : Assign) → num e adr w ≡ a → Done e n out
    below : (b : ℕ) → Below b mem (n * w) → Below b val w → Below b out (n * w)

  -- the word that is meant, and another
  new_word : (e : Assign) (k j : ℕ) → get_or addrs k 0 ≡ num e adr w → e (get_or val j 0) ≡ meant e k j
  unfolding meant
  new_word e k j h = sym (pick_true _ _ _ (eq-eqb (get_or addrs k 0) (num e adr w) h))

  kept_word : (e : Assign) (k j : ℕ) → (get_or addrs k 0 ≡ num e adr w → ⊥) → e (get_or mem (k * w + j) 0) ≡ meant e k j
  unfolding meant
  kept_word e k j h = sym (pick-false _ _ _ (ne_eqb (get_or addrs k 0) (num e adr w) h))

  replaced : (a : ℕ) → Replaced a (write_known n w addrs a val mem)
  unfolding write_known Done
  replaced a =
      by-pick (Replaced a) (ltb i n) (put_bits (i * w) val w mem) mem
      (λ t. let l : i < n = ltb-true i n t in
      record {
        long = (put-law (i * w) val mem w (within l)).long;
        rest = λ p h. (put-law (i * w) val mem w (within l)).above p (omega (arith, word_end i n w l));
        done = λ e z k m j r. at-word e z l k m j r (ℕ_discrete k i);
        below = λ b bm bv. put-below (i * w) val mem w (within l) b (n * w) bv bm;
      })
      (λ t. record {
        long = refl;
        rest = λ p h. refl;
        done = λ e z k m j r. kept_word e k j (λ h. none-listed n addrs a (ltb-false i n t) k m (h ∙ z));
        below = λ b bm bv. bm;
      })
    where
      i : ℕ
      i = listed_at n addrs a

      within : i < n → i * w + w ≤ length mem
      within l = omega (arith, word_end i n w l)

      -- words do not overlap
      apart : (k j j' : ℕ) → (k ≡ i → ⊥) → j < w → j' < w → k * w + j ≡ i * w + j' → ⊥
      apart k j j' d m m' h = go (dec_lt k i)
        where
          go : Dec (k < i) → ⊥
          go (yes l) = absurd (omega (arith, word_end k i w l))
          go (no l) = absurd (omega (arith, word_end i k w (omega arith)))

      at-word : (e : Assign) → num e adr w ≡ a → i < n → (k : ℕ) → k < n → (j : ℕ) → j < w → Dec (k ≡ i) → e (get_or (put_bits (i * w) val w mem) (k * w + j) 0) ≡ meant e k j
      at-word e z l k m j r (yes q) =
          rw (q, (put-law (i * w) val mem w (within l)).there j r) (new_word e i j (found-listed n addrs a l ∙ sym z))
      at-word e z l k m j r (no q) =
          ap e (put_other (i * w) val mem w (within l) (k * w + j) (λ j' l'. apart k j j' q r l')) ∙ kept_word e k j (λ h. q (only-listed n w addrs a listed l k m (h ∙ z)))

  done-num : (e : Assign) (out : List ℕ) → Done e n out
      → (i : ℕ) → i < n → word_num e out i w ≡ pick (eqb (get_or addrs i 0) (num e adr w)) (num e val w) (word_num e mem i w)
  unfolding meant Done
  done-num e out r i lt =
      num-choose e (eqb (get_or addrs i 0) (num e adr w)) (drop (i * w) out) val (drop (i * w) mem) w
      (λ j l. rw (get_or-drop (i * w) out j 0, get_or-drop (i * w) mem j 0) (r i lt j l))

  pub write-law : (s : Net) → WriteLaw n w addrs adr val (record { net = s; out = mem }) (write_words n w addrs adr val (record { net = s; out = mem }))
  unfolding write_words
  write-law s =
      by-pick (WriteLaw n w addrs adr val (record { net = s; out = mem })) (all_known w adr) (record { net = s; out = out }) t
      (λ k. let kn : Below 2 adr w = all_true adr w k in
      record {
        ext = ext_refl s (n * (5 * w - 1));
        long = u.long;
        rest = u.rest;
        value = λ e o. done-num e out (u.done e (num-known s e adr w o kn));
        formed = λ room bm ba bv f. (f, u.below s.n bm bv);
        known = λ _. (refl, u.below 2);
      })
      (λ k. record {
        ext = r.ext;
        long = r.long;
        rest = r.rest;
        value = λ e o. done-num e t.out (r.done e o);
        formed = r.formed;
        known = λ kn. absurd (all-false adr w k kn);
      })
    where
      out : List ℕ
      out = write_known n w addrs (known_number w adr) val mem

      t : Word
      t = iter n (write_step w addrs adr val) (record { net = s; out = mem })

      u : Replaced (known_number w adr) out
      u = replaced (known_number w adr)

      r : Writing s n t
      r = writing s
