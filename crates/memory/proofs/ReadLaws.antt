-- The law of a read: the word of the only listed address that is the number of the address, or 0.
use mathlib.Core.Path.{◌≡◌, refl, ap, sym, ◌∙◌}
use mathlib.Core.List.{List}
use mathlib.Core.Bool.{Bool, true, false, ◌&&◌, ◌||◌}
use Prim.Native.Nat.{ℕ, zero, suc, ◌+◌, ◌*◌, ◌-◌, ◌^◌, ◌≤◌, ◌<◌}
use native.Mathlib.Omega.{arith}
use native.Mathlib.Decide.{dec_lt}
use lib.Dec.{eqb, ltb}
use lib.ListN.{length, get_or, drop}
use lib.Seq.{get_or-drop}
use borrow.Author.Tests.{eq-eqb, ne_eqb, ltb-true, ltb-false}
use Rattle.loops.specs.Loop.{iter}
use Rattle.loops.proofs.Loop.{by-pick, iter-inv}
use Rattle.netlist.specs.Record.{Room}
use Rattle.netlist.specs.Net.{Assign, Obeys}
use Rattle.gates.specs.Made.{MadeBit}
use Rattle.gates.specs.Law.{Ext, Formed}
use Rattle.gates.proofs.Laws.{ext_refl, ext_trans, ext-weaken, keeps, room_back}
use Rattle.digits.specs.Digits.{number, Below, all_known, known_number}
use Rattle.digits.proofs.Numbers.{number_same}
use Rattle.digits.proofs.Words.{all_true, all-false}
use Rattle.words.specs.declared.each.Bitwise.TheVariants.{Or, AndWith}
use Rattle.words.specs.Num.{num, blank}
use Rattle.words.specs.Each.{bit_value, bit_below, Word, each_bit, each_cost, EachLaw, put_bits}
use Rattle.words.proofs.NumLaws.{num-known, blank-long, blank-at}
use Rattle.words.proofs.MulStep.{row-cost}
use Rattle.words.proofs.EachLaws.{ors-cost, each-law, each-ext, below_more, put-law}
use Rattle.memory.specs.Address.{part, listed_at, at_listed, Listed, AtLaw, word_num}
use Rattle.memory.specs.Read.{cleared, read_known, read_one, read_step, read_words, ReadLaw}
use Rattle.memory.proofs.AddressLaws.{part_at, part-below, found-listed, none-listed, only-listed, at-ext, at-law}

num-zero : (e : Assign) (xs : List ℕ) (w : ℕ) → ((j : ℕ) → j < w → e (get_or xs j 0) ≡ false) → num e xs w ≡ 0
unfolding number
num-zero e xs zero h = refl
num-zero e xs (suc w) h =
    let q : num e xs w ≡ 0 = num-zero e xs w (λ j lt. h j (omega arith)) in
    rw (q, h w (omega arith)) (omega arith)

-- a word put at the beginning
pub put_low : (bits out : List ℕ) (w : ℕ) → w ≤ length out → (j : ℕ) → j < w → get_or (put_bits 0 bits w out) j 0 ≡ get_or bits j 0
put_low bits out w h j l = let q : 0 + j ≡ j = omega arith in rw q at ((put-law 0 bits out w (omega arith)).there j l)

cleared_at : (w : ℕ) (out : List ℕ) → w ≤ length out → (j : ℕ) → j < w → get_or (cleared w out) j 0 ≡ 0
cleared_at w out h j l = put_low blank out w h j l ∙ blank-at j

-- four gates a place less one, at any address
pub one-ext : (w a : ℕ) (word adr : List ℕ) (s : Word) → 1 ≤ w → w ≤ 64 → Ext s.net (read_one w a word adr s).net (4 * w - 1)
unfolding read_one
one-ext w a word adr s big small =
    ext-weaken s.net _ (2 * w - 1 + each_cost (AndWith q.bit) word word w + each_cost Or s.out x.out w) (4 * w - 1)
    (omega (arith, row-cost word q.bit w, ors-cost s.out x.out w))
    (ext_trans s.net x.net _ _ _ (ext_trans s.net q.net x.net _ _ (at-ext w a adr s.net big small) (each-ext (AndWith q.bit) word word (record { net = q.net; out = blank }) w))
    (each-ext Or s.out x.out (record { net = x.net; out = s.out }) w))
  where
    q : MadeBit
    q = at_listed w a adr s.net

    x : Word
    x = each_bit (AndWith q.bit) word word w (record { net = q.net; out = blank })

-- one listed address
record OneLaw (w a : ℕ) (word adr : List ℕ) (s t : Word) : Type 0 where
  ext : Ext s.net t.net (4 * w - 1)
  long : length t.out ≡ length s.out
  rest : (j : ℕ) → w ≤ j → get_or t.out j 0 ≡ get_or s.out j 0
  value : (e : Assign) → Obeys t.net e → (j : ℕ) → j < w → e (get_or t.out j 0) ≡ (e (get_or s.out j 0) || (e (get_or word j 0) && eqb a (num e adr w)))
  formed : Room t.net.gates t.net.n → Below s.net.n word w → Below s.net.n adr w → Below s.net.n s.out w → Formed s.net
      → Formed t.net × Below t.net.n t.out w

module _ (w a : ℕ) (word adr : List ℕ) (s : Word) (big : 1 ≤ w) (small : w ≤ 64) (fits : w ≤ length s.out) (below : a < 2 ^ w) where
  q : MadeBit
  q = at_listed w a adr s.net

  ql : AtLaw w a adr s.net q
  unfolding q
  ql = at-law w a adr s.net big small below

  x : Word
  x = each_bit (AndWith q.bit) word word w (record { net = q.net; out = blank })

  xl : EachLaw (AndWith q.bit) word word (record { net = q.net; out = blank }) w x
  unfolding x
  xl = each-law (AndWith q.bit) word word (record { net = q.net; out = blank }) w (omega (arith, blank-long))

  y : Word
  y = each_bit Or s.out x.out w (record { net = x.net; out = s.out })

  yl : EachLaw Or s.out x.out (record { net = x.net; out = s.out }) w y
  unfolding y
  yl = each-law Or s.out x.out (record { net = x.net; out = s.out }) w fits

  one-law : OneLaw w a word adr s (read_one w a word adr s)
  unfolding read_one q x y bit_value bit_below
  one-law =
      record {
        ext = one-ext w a word adr s big small;
        long = yl.long;
        rest = yl.rest;
        value = λ e o j l.
            let o₁ : Obeys x.net e = keeps x.net y.net _ e yl.ext.grows o in
            let o₂ : Obeys q.net e = keeps q.net x.net _ e xl.ext.grows o₁ in
            rw (yl.value e o j l, xl.value e o₁ j l, ql.value e o₂) refl;
        formed = λ room bw ba bo f.
            let r₁ : Room x.net.gates x.net.n = room_back x.net y.net _ yl.ext.grows room in
            let fq : Formed q.net × (q.bit < q.net.n) = ql.formed (room_back q.net x.net _ xl.ext.grows r₁) (f.two, ba) f in
            let fx : Formed x.net × Below x.net.n x.out w = xl.formed r₁ (λ j l. (omega (arith, bw j l, ql.ext.grows.from), fq.1)) fq.0 in
            yl.formed room (λ j l. (omega (arith, bo j l, ql.ext.grows.from, xl.ext.grows.from), fx.1 j l)) fx.0;
      }

or-false : (b : Bool) → (b || false) ≡ b
or-false true = refl
or-false false = refl

and-true : (b : Bool) → (b && true) ≡ b
and-true true = refl
and-true false = refl

and-false : (b : Bool) → (b && false) ≡ false
and-false true = refl
and-false false = refl

module _ (n w : ℕ) (addrs mem adr : List ℕ) (listed : Listed n w addrs) (big : 1 ≤ w) (small : w ≤ 64) where
  -- after the first i listed addresses the result has the word of the one among them that is meant, if there is one
  record Found (e : Assign) (i : ℕ) (out : List ℕ) : Type 0 where
    hit : (k : ℕ) → k < i → get_or addrs k 0 ≡ num e adr w → (j : ℕ) → j < w → e (get_or out j 0) ≡ e (get_or mem (k * w + j) 0)
    miss : ((k : ℕ) → k < i → get_or addrs k 0 ≡ num e adr w → ⊥) → (j : ℕ) → j < w → e (get_or out j 0) ≡ false

  found-step : (e : Assign) (i : ℕ) (out out' : List ℕ) → i < n → Found e i out
      → ((j : ℕ) → j < w → e (get_or out' j 0) ≡ (e (get_or out j 0) || (e (get_or mem (i * w + j) 0) && eqb (get_or addrs i 0) (num e adr w))))
      → Found e (suc i) out'
  found-step e i out out' lt f val =
      record {
        hit = λ k l h. hit k l h (dec_lt k i);
        miss = λ no j l. there (no i (omega arith)) j l ∙ f.miss (λ k m. no k (omega arith)) j l;
      }
    where
      there : (get_or addrs i 0 ≡ num e adr w → ⊥) → (j : ℕ) → j < w → e (get_or out' j 0) ≡ e (get_or out j 0)
      there h j l = rw (val j l, ne_eqb (get_or addrs i 0) (num e adr w) h, and-false, or-false) refl

      here : get_or addrs i 0 ≡ num e adr w → ((j : ℕ) → j < w → e (get_or out j 0) ≡ false) → (j : ℕ) → j < w → e (get_or out' j 0) ≡ e (get_or mem (i * w + j) 0)
      here h none j l = rw (val j l, none j l, eq-eqb (get_or addrs i 0) (num e adr w) h, and-true) refl

      hit : (k : ℕ) → k < suc i → get_or addrs k 0 ≡ num e adr w → Dec (k < i) → (j : ℕ) → j < w → e (get_or out' j 0) ≡ e (get_or mem (k * w + j) 0)
      hit k l h (yes p) j m =
          there (λ h'. let z : k ≡ i = listed.distinct k i (omega arith) lt (h ∙ sym h') in omega arith) j m ∙ f.hit k p h j m
      hit k l h (no p) j m =
          let z : k ≡ i = omega arith in
          rw z (here (rw z at h) (f.miss (λ k' l' h'. let y : k' ≡ k = listed.distinct k' k (omega arith) (omega arith) (h' ∙ sym h) in omega arith)) j m)

  -- at an address that is not wholly known
  record Reading (s : Word) (i : ℕ) (x : Word) : Type 0 where
    ext : Ext s.net x.net (i * (4 * w - 1))
    long : length x.out ≡ length s.out
    rest : (j : ℕ) → w ≤ j → get_or x.out j 0 ≡ get_or s.out j 0
    found : (e : Assign) → Obeys x.net e → Found e i x.out
    formed : Room x.net.gates x.net.n → Below s.net.n mem (n * w) → Below s.net.n adr w → Formed s.net → Formed x.net × Below x.net.n x.out w

  read-step : (s : Word) → w ≤ length s.out → (i : ℕ) (x : Word) → i < n → Reading s i x → Reading s (suc i) (read_step w addrs mem adr i x)
  unfolding read_step
  read-step s fits i x lt h =
      record {
        ext = ext-weaken s.net t.net (i * (4 * w - 1) + (4 * w - 1)) (suc i * (4 * w - 1)) (omega arith) (ext_trans s.net x.net t.net (i * (4 * w - 1)) (4 * w - 1) h.ext law.ext);
        long = law.long ∙ h.long;
        rest = λ j l. law.rest j l ∙ h.rest j l;
        found = λ e o.
            found-step e i x.out t.out lt (h.found e (keeps x.net t.net (4 * w - 1) e law.ext.grows o))
            (λ j l. rw (← part_at i w mem j l) (law.value e o j l));
        formed = λ room bm ba f.
            let p : Formed x.net × Below x.net.n x.out w = h.formed (room_back x.net t.net (4 * w - 1) law.ext.grows room) bm ba f in
            law.formed room
            (part-below x.net.n i n w mem lt (below_more s.net.n x.net.n mem (n * w) h.ext.grows.from bm))
            (below_more s.net.n x.net.n adr w h.ext.grows.from ba) p.1 p.0;
      }
    where
      t : Word
      t = read_one w (get_or addrs i 0) (part i w mem) adr x

      law : OneLaw w (get_or addrs i 0) (part i w mem) adr x t
      law = one-law w (get_or addrs i 0) (part i w mem) adr x big small (omega (arith, h.long)) (listed.small i lt)

  reading : (s : Word) → w ≤ length s.out → Reading s n (iter n (read_step w addrs mem adr) (record { net = s.net; out = cleared w s.out }))
  reading s fits =
      iter-inv (Reading s) (read_step w addrs mem adr) (record { net = s.net; out = cleared w s.out }) n
      (record {
        ext = ext_refl s.net (0 * (4 * w - 1));
        long = (put-law 0 blank s.out w (omega arith)).long;
        rest = λ j l. (put-law 0 blank s.out w (omega arith)).above j (omega arith);
        found = λ e o. record { hit = λ k l. absurd (omega arith); miss = λ no j l. rw (cleared_at w s.out fits j l) o.low };
        formed = λ room bm ba f. (f, λ j l. rw (cleared_at w s.out fits j l) (omega (arith, f.two)));
      })
      (λ i x lt h. read-step s fits i x lt h)

  -- at a known address, a
  record Taken (s : Word) (a : ℕ) (out : List ℕ) : Type 0 where
    long : length out ≡ length s.out
    rest : (j : ℕ) → w ≤ j → get_or out j 0 ≡ get_or s.out j 0
    found : (e : Assign) → Obeys s.net e → num e adr w ≡ a → Found e n out
    below : (b : ℕ) → 0 < b → Below b mem (n * w) → Below b out w

  taken : (s : Word) (a : ℕ) → w ≤ length s.out → Taken s a (read_known n w addrs mem a s.out)
  unfolding read_known
  taken s a fits =
      by-pick (Taken s a) (ltb i n) (put_bits 0 (part i w mem) w s.out) (cleared w s.out)
      (λ t. let l : i < n = ltb-true i n t in
      record {
        long = (put-law 0 (part i w mem) s.out w (omega arith)).long;
        rest = λ j h. (put-law 0 (part i w mem) s.out w (omega arith)).above j (omega arith);
        found = λ e o z. record {
          hit = λ k m h j r. let q : k ≡ i = only-listed n w addrs a listed l k m (h ∙ z) in rw (q, put_low (part i w mem) s.out w fits j r, part_at i w mem j r) refl;
          miss = λ no. absurd (no i l (found-listed n addrs a l ∙ sym z));
        };
        below = λ b p bm j r. rw (put_low (part i w mem) s.out w fits j r) (part-below b i n w mem l bm j r);
      })
      (λ t. record {
        long = (put-law 0 blank s.out w (omega arith)).long;
        rest = λ j h. (put-law 0 blank s.out w (omega arith)).above j (omega arith);
        found = λ e o z. record {
          hit = λ k m h. absurd (none-listed n addrs a (ltb-false i n t) k m (h ∙ z));
          miss = λ no j r. rw (cleared_at w s.out fits j r) o.low;
        };
        below = λ b p bm j r. rw (cleared_at w s.out fits j r) p;
      })
    where
      i : ℕ
      i = listed_at n addrs a

  found-num : (e : Assign) (out : List ℕ) → Found e n out → (i : ℕ) → i < n → get_or addrs i 0 ≡ num e adr w → num e out w ≡ word_num e mem i w
  found-num e out f i lt q =
      number_same (λ j. e (get_or out j 0)) (λ j. e (get_or (drop (i * w) mem) j 0)) w (λ j l. f.hit i lt q j l ∙ ap e (sym (get_or-drop (i * w) mem j 0)))

  pub read-law : (s : Word) → w ≤ length s.out → ReadLaw n w addrs mem adr s (read_words n w addrs mem adr s)
  unfolding read_words
  read-law s fits =
      by-pick (ReadLaw n w addrs mem adr s) (all_known w adr) (record { net = s.net; out = out }) t
      (λ k. let kn : Below 2 adr w = all_true adr w k in
      record {
        ext = ext_refl s.net (n * (4 * w - 1));
        long = u.long;
        rest = u.rest;
        hit = λ e o. found-num e out (u.found e o (num-known s.net e adr w o kn));
        miss = λ e o no. num-zero e out w ((u.found e o (num-known s.net e adr w o kn)).miss no);
        formed = λ room bm ba f. (f, u.below s.net.n (omega (arith, f.two)) bm);
        known = λ _. (refl, u.below 2 (omega arith));
      })
      (λ k. record {
        ext = r.ext;
        long = r.long;
        rest = r.rest;
        hit = λ e o. found-num e t.out (r.found e o);
        miss = λ e o no. num-zero e t.out w ((r.found e o).miss no);
        formed = r.formed;
        known = λ kn. absurd (all-false adr w k kn);
      })
    where
      out : List ℕ
      out = read_known n w addrs mem (known_number w adr) s.out

      t : Word
      t = iter n (read_step w addrs mem adr) (record { net = s.net; out = cleared w s.out })

      u : Taken s (known_number w adr) out
      u = taken s (known_number w adr) fits

      r : Reading s n t
      r = reading s fits
