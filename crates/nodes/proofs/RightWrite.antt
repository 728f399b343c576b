-- The law of values of writes.
use mathlib.Core.Path.{◌≡◌, refl, ap, ap₂, sym, ◌∙◌}
use mathlib.Core.List.{List}
use Rattle.std.specs.Prelude.{Option, Some, None}
use mathlib.Core.Bool.{true}
use Prim.Native.Nat.{ℕ, ◌+◌, ◌-◌, ◌*◌, ◌/◌, ◌%◌, ◌≤◌, ◌<◌}
use native.Mathlib.Omega.{arith}
use native.Mathlib.Decide.{ℕ_discrete}
use native.Mathlib.Nat.{div-add-mod', mod-lt, div-lt_iff_lt-mul}
use lib.Dec.{eqb}
use lib.ListN.{length, get_or, take, drop, length-drop}
use lib.Seq.{get_or-drop, length-take-le}
use borrow.Author.Tests.{eq-eqb, ne_eqb}
use Rattle.loops.specs.Loop.{pick}
use Rattle.loops.proofs.Loop.{pick-false}
use Rattle.table.specs.Kind.{WRITE, uses_a, uses_b, uses_c}
use Rattle.table.specs.Node.{width_of}
use Rattle.table.proofs.Whole.{distinct}
use Rattle.values.specs.Value as word
use Rattle.values.specs.Value.{write_value}
use Rattle.values.proofs.ByKind.{at-write, place-access}
use Rattle.netlist.specs.Net.{Assign}
use Rattle.gates.proofs.Laws.{grows-refl}
use Rattle.words.specs.Num.{num}
use Rattle.words.specs.Each.{Word}
use Rattle.words.proofs.NumLaws.{right-num, num-right}
use Rattle.words.proofs.EachLaws.{put-law}
use Rattle.words.proofs.ExtendLaws.{extend-law}
use Rattle.memory.specs.Address.{word_num}
use Rattle.memory.specs.Write.{write_words, WriteLaw}
use Rattle.visits.specs.Flow.{Core}
use Rattle.visits.specs.Stored.{stored}
use Rattle.visits.specs.Claims.{Is, Considered, Ready, StepRight}
use Rattle.visits.proofs.Plain.{plain-right}
use Rattle.nodes.specs.Source.{Source, listed, node_of, words_of, wide_of, bits_of, off_of, word_at, all_at}
use Rattle.nodes.specs.Own.{share_word, each_word, write_own}
use Rattle.nodes.specs.Recipe.{recipe}
use Rattle.nodes.specs.Meaning.{slot_from, slot_of, value_of, meaning}
use Rattle.nodes.proofs.Places.{word_wide, memory-wide, memory-words, bits-words, off-inside}
use Rattle.nodes.proofs.ShareLaws.{same-wide, same-words}
use Rattle.nodes.proofs.MemoryLaws.{WritesOwed}
use Rattle.nodes.proofs.MeaningPlaces.{Sheeted, wide-range, place_in, word-bit}
use Rattle.nodes.proofs.Meaning.{Evaluated, value-at}
use Rattle.nodes.proofs.RightWords.{Operable, WordSays, WordsSay, words-made, considered-back, inputs-trans, inputs-bound}
use Rattle.nodes.proofs.RightOperands.{sound, a-is, c-is, a-right, c-right, word-says}
use Rattle.nodes.proofs.RightRead.{part-num, at_place, no_place, W-range, address-says}

-- the place of an address is i exactly if it is listed there
place_is : (S : Source) → Sheeted S → (x : List ℕ) (o y a i : ℕ) → i < listed S → (p : Option ℕ) → p ≡ word.listed S.addrs a
    → write_value x o p y i ≡ pick (eqb (get_or S.addrs i 0) a) y (get_or x (o + i) 0)
unfolding write_value
place_is S clear x o y a i lt (Some p) e = ap (λ b. pick b y (get_or x (o + i) 0)) (go (ℕ_discrete (get_or S.addrs i 0) a))
  where
    z : (p < listed S) × (get_or S.addrs p 0 ≡ a)
    z = at_place S.addrs a p e

    go : Dec (get_or S.addrs i 0 ≡ a) → eqb i p ≡ eqb (get_or S.addrs i 0) a
    go (yes q) = eq-eqb i p (distinct S.table S.addrs S.word clear i p lt z.0 (q ∙ sym z.1)) ∙ sym (eq-eqb (get_or S.addrs i 0) a q)
    go (no q) = ne_eqb i p (λ r. q (ap (λ n. get_or S.addrs n 0) r ∙ z.1)) ∙ sym (ne_eqb (get_or S.addrs i 0) a q)
place_is S clear x o y a i lt None e = sym (pick-false _ _ _ (ne_eqb (get_or S.addrs i 0) a (no_place S.addrs a e i lt)))

module _ {S : Source} {x : List ℕ} (v : Evaluated S x) {k : ℕ} (writes : WritesOwed S) (e : (node_of S k).kind ≡ WRITE) (hw : (node_of S k).width ≡ 0) (ha : width_of S.table (node_of S k).a ≡ 0)
    (hb : width_of S.table (node_of S k).b ≡ S.word) (hc : width_of S.table (node_of S k).c ≡ S.word) (s : Core) (ready : Ready (recipe S) k s) where
  abbrev W : ℕ
  W = S.word

  abbrev n : ℕ
  n = listed S

  is : Is (recipe S) k
  is = ready.is

  ua : 1 ≤ (node_of S k).a
  ua = (sound v is).operands.a-used (ap uses_a e)

  -- the old memory, shared into the node's place
  old-made : (i : ℕ) (t : Core) → i < words_of S k → WordSays S x k (value_of S x (node_of S k).a) s.map i t (share_word S 0 (node_of S k).a i t)
  unfolding share_word
  old-made i t lt =
      let same : width_of S.table (node_of S k).a ≡ (node_of S k).width = ha ∙ sym hw in
      let w : wide_of S k ≡ wide_of S (node_of S k).a = sym (same-wide S (node_of S k).a k same) in
      let u : words_of S k ≡ words_of S (node_of S k).a = sym (same-words S (node_of S k).a k same) in
      record {
        cost = 0;
        grows = grows-refl t.net 0;
        only = λ room g lo hi fr. absurd (omega arith);
        right = λ h ce before o. rw w
            (λ j l. ap h ((extend-law 0 (wide_of S (node_of S k).a) (word_at S t.map (node_of S k).a i) (omega (arith, (wide-range S v.clear (node_of S k).a).1))).there j l ∙ word-bit S t.map (node_of S k).a i j l)
            ∙ a-right v is s.map t.map h o ua (i * wide_of S (node_of S k).a + j) (rw (bits-words S (node_of S k).a ua) (place_in (wide_of S (node_of S k).a) (words_of S (node_of S k).a) i j (rw u at lt) l)));
      }

  abbrev t : Core
  t = each_word S k (share_word S 0 (node_of S k).a) s

  old : WordsSay S x k (value_of S x (node_of S k).a) s (words_of S k) t
  old = words-made S x k (value_of S x (node_of S k).a) s (share_word S 0 (node_of S k).a) v.clear ready old-made

  wk : wide_of S k ≡ W
  wk = memory-wide S k hw

  nk : words_of S k ≡ n
  nk = memory-words S k hw

  wka : wide_of S k ≡ wide_of S (node_of S k).a
  wka = wk ∙ sym (memory-wide S (node_of S k).a ha)

  nka : words_of S k ≡ words_of S (node_of S k).a
  nka = nk ∙ sym (memory-words S (node_of S k).a ha)

  abbrev mem : List ℕ
  mem = all_at S t.map k

  fits : off_of S k + bits_of S k ≤ length t.map
  fits = omega (arith, off-inside S k is.low is.high, ready.mapped, old.long)

  mem_long : n * W ≤ length mem
  mem_long =
      let b : bits_of S k ≡ n * W = bits-words S k is.low ∙ ap₂ ◌*◌ nk wk in
      let a : length (drop (off_of S k) t.map) ≡ length t.map - off_of S k = length-drop (off_of S k) t.map in
      let c : length (take (bits_of S k) (drop (off_of S k) t.map)) ≡ bits_of S k = length-take-le (bits_of S k) (drop (off_of S k) t.map) (omega (arith, fits)) in
      omega arith

  -- its words say the old values
  old-says : (h : Assign) → Considered (meaning S x) t.net h → Operable S x k s.map h s.map → (i : ℕ) → i < words_of S k → word_num h mem i W ≡ slot_of S x (node_of S k).a i
  old-says h ce o i lt =
      let p : word_num h mem i (wide_of S k) ≡ num h (word_at S t.map k i) (wide_of S k) = part-num S t.map k is.low i lt h in
      let q : num h (word_at S t.map k i) (wide_of S k) ≡ slot_of S x (node_of S k).a i =
      right-num h (word_at S t.map k i) (wide_of S k) (slot_of S x (node_of S k).a i) (rw wka (v.range (node_of S k).a i (a-is v is ua) (rw nka at lt)))
      (λ j l. ap h (word-bit S t.map k i j l)
      ∙ (old.right h ce o (i * wide_of S k + j) (place_in (wide_of S k) (words_of S k) i j lt l)
      ∙ rw wka (value-at S x (node_of S k).a i j (rw wka at l)))) in
      ap (λ z. word_num h mem i z) (sym wk) ∙ (p ∙ q)

  abbrev adr : List ℕ
  adr = word_at S s.map (node_of S k).b 0

  abbrev val : List ℕ
  val = word_at S s.map (node_of S k).c 0

  abbrev y : Word
  y = write_words n W S.addrs adr val (record { net = t.net; out = mem })

  L : WriteLaw n W S.addrs adr val (record { net = t.net; out = mem }) y
  L = writes adr val mem t.net mem_long

  abbrev oa : ℕ
  oa = slot_from S (node_of S k).a

  abbrev ob : ℕ
  ob = slot_from S (node_of S k).b

  abbrev oc : ℕ
  oc = slot_from S (node_of S k).c

  value-says : (h : Assign) → Operable S x k s.map h s.map → num h val W ≡ get_or x oc 0
  value-says h o =
      let u : uses_c (node_of S k).kind ≡ true = ap uses_c e in
      let l : 1 ≤ width_of S.table (node_of S k).c = omega (arith, (W-range v is).0) in
      let w : wide_of S (node_of S k).c ≡ W = word_wide S (node_of S k).c l ∙ hc in
      ap (λ z. num h val z) (sym w) ∙ word-says v is (c-is v is u) l h s.map (c-right v is s.map s.map h o (λ q. omega arith) u)

  written : (i : ℕ) → i < words_of S k → slot_of S x k i ≡ pick (eqb (get_or S.addrs i 0) (get_or x ob 0)) (get_or x oc 0) (slot_of S x (node_of S k).a i)
  written i lt =
      v.made k i is lt (rw e)
      ∙ (at-write S.addrs (node_of S k) (width_of S.table (node_of S k).a) x oa ob oc _ i e
      ∙ (ap (λ p. write_value x oa p (get_or x oc 0) i) (place-access S.addrs (node_of S k) x ob (rw e))
      ∙ place_is S v.clear x oa (get_or x oc 0) (get_or x ob 0) i (rw nk at lt) _ refl))

  -- and the written ones the node's
  new-says : (h : Assign) → Considered (meaning S x) y.net h → Operable S x k s.map h s.map → (i : ℕ) → i < words_of S k → word_num h y.out i (wide_of S k) ≡ slot_of S x k i
  new-says h ce o i lt =
      let ct : Considered (meaning S x) t.net h = considered-back (meaning S x) t.net y.net (n * (5 * W - 1)) h L.ext.grows ce in
      let a : num h adr W ≡ get_or x ob 0 = address-says v is (ap uses_b e) (λ q. omega arith) hb s.map s.map h o in
      let p : word_num h y.out i W ≡ pick (eqb (get_or S.addrs i 0) (num h adr W)) (num h val W) (word_num h mem i W) = L.value h ce.obeys i (rw nk at lt) in
      let q : word_num h y.out i W ≡ pick (eqb (get_or S.addrs i 0) (get_or x ob 0)) (get_or x oc 0) (slot_of S x (node_of S k).a i) = rw (a, value-says h o, old-says h ct o i lt) at p in
      ap (λ z. word_num h y.out i z) wk ∙ (q ∙ sym (written i lt))

  new-bits : (h : Assign) → Considered (meaning S x) y.net h → Operable S x k s.map h s.map → (j : ℕ) → j < bits_of S k → h (get_or y.out j 0) ≡ value_of S x k j
  unfolding value_of
  new-bits h ce o j l =
      let w : ℕ = wide_of S k in
      let pos : 0 < wide_of S k = (wide-range S v.clear k).0 in
      let lt : j / wide_of S k < words_of S k = (div-lt_iff_lt-mul pos).1 (rw (bits-words S k is.low) at l) in
      let q : j / wide_of S k * wide_of S k + j % wide_of S k ≡ j = div-add-mod' j (wide_of S k) in
      let r = num-right h (drop (j / wide_of S k * wide_of S k) y.out) (wide_of S k) (slot_of S x k (j / wide_of S k)) (v.range k (j / wide_of S k) is lt)
      (new-says h ce o (j / wide_of S k) lt) (j % wide_of S k) (mod-lt j pos) in
      ap (λ z. h (get_or y.out z 0)) (sym q) ∙ (ap h (sym (get_or-drop (j / wide_of S k * wide_of S k) y.out (j % wide_of S k) 0)) ∙ r)

  pub write-right : StepRight (recipe S) (meaning S x) k s (write_own S k s)
  unfolding write_own stored
  write-right =
      plain-right
      (record {
        asks = old.asks;
        only = inputs-trans s.net t.net y.net (n * (5 * W - 1)) L.ext.grows old.only (inputs-bound t.net y.net (n * (5 * W - 1)) L.ext);
        right = λ h ce o j l. ap h ((put-law (off_of S k) y.out t.map (bits_of S k) fits).there j l) ∙ new-bits h ce o j l;
      })
