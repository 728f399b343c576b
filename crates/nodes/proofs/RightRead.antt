-- The law of values of reads, and what a read's or write's address says.
use mathlib.Core.Path.{◌≡◌, refl, ap, sym, ◌∙◌}
use mathlib.Core.List.{List}
use Rattle.std.specs.Prelude.{Option, Some, None}
use mathlib.Core.Bool.{true}
use Prim.Native.Nat.{ℕ, ◌+◌, ◌-◌, ◌*◌, ◌≤◌, ◌<◌}
use native.Mathlib.Omega.{arith}
use lib.ListN.{length, get_or, drop}
use lib.Seq.{get_or-take, get_or-drop}
use borrow.Author.Tests.{eqb-true, eqb-false, lt-ltb}
use Rattle.loops.proofs.Loop.{pick_true, first-true, first_below}
use Rattle.loops.proofs.Search.{some_first, none_first}
use Rattle.table.specs.declared.Node.{Node}
use Rattle.table.specs.Kind.{ITE, READ, uses_a, uses_b}
use Rattle.table.specs.Node.{width_of}
use Rattle.table.specs.Sheet.{is_at}
use Rattle.table.proofs.Whole.{within}
use Rattle.values.specs.Value as word
use Rattle.values.specs.Value.{read_value}
use Rattle.values.proofs.ByKind.{at_read, place-access}
use Rattle.netlist.specs.Net.{Assign}
use Rattle.words.specs.Num.{num}
use Rattle.words.proofs.NumLaws.{num-same}
use Rattle.memory.specs.Address.{word_num}
use Rattle.memory.specs.Read.{read_words, ReadLaw}
use Rattle.visits.specs.Flow.{Core}
use Rattle.visits.specs.Claims.{Is, Considered}
use Rattle.nodes.specs.Source.{Source, listed, node_of, words_of, wide_of, bits_of, off_of, word_at, all_at}
use Rattle.nodes.specs.Own.{fresh, read_word}
use Rattle.nodes.specs.Recipe.{recipe}
use Rattle.nodes.specs.Meaning.{slot_from, slot_of, meaning}
use Rattle.nodes.proofs.Places.{word_wide, memory-wide, memory-words, bits-words}
use Rattle.nodes.proofs.MemoryLaws.{ReadsOwed}
use Rattle.nodes.proofs.MeaningPlaces.{place_in, word-bit}
use Rattle.nodes.proofs.Meaning.{Evaluated, right-says}
use Rattle.nodes.proofs.RightWords.{Operable, OwnWord}
use Rattle.nodes.proofs.RightOperands.{sound, a-is, b-is, a-right, b-right, word-says, word_made}

-- word i of a memory's bits, taken whole and as a word
pub part-num : (S : Source) (n : List ℕ) (y : ℕ) → 1 ≤ y → (i : ℕ) → i < words_of S y → (e : Assign) → word_num e (all_at S n y) i (wide_of S y) ≡ num e (word_at S n y i) (wide_of S y)
part-num S n y h i lt e =
    num-same e (drop (i * wide_of S y) (all_at S n y)) (word_at S n y i) (wide_of S y)
    (λ j l.
    let r : i * wide_of S y + j < bits_of S y = rw (bits-words S y h) (place_in (wide_of S y) (words_of S y) i j lt l) in
    get_or-drop (i * wide_of S y) (all_at S n y) j 0
    ∙ (get_or-take (bits_of S y) (drop (off_of S y) n) (i * wide_of S y + j) 0 r
    ∙ (get_or-drop (off_of S y) n (i * wide_of S y + j) 0
    ∙ sym (word-bit S n y i j l))))

-- the place of an address, and what is listed there
pub at_place : (l : List ℕ) (a p : ℕ) → Some p ≡ word.listed l a → (p < length l) × (get_or l p 0 ≡ a)
unfolding is_at
at_place l a p e =
    let z = some_first (is_at l a) (length l) p e in
    (z.1, eqb-true (get_or l p 0) a (rw (← z.0) at (first-true (is_at l a) (length l) (rw z.0 at z.1))))

pub no_place : (l : List ℕ) (a : ℕ) → None ≡ word.listed l a → (i : ℕ) → i < length l → get_or l i 0 ≡ a → ⊥
unfolding is_at
no_place l a e i lt = eqb-false (get_or l i 0) a (first_below (is_at l a) (length l) i (omega (arith, none_first (is_at l a) (length l) e)))

module _ {S : Source} {x : List ℕ} (v : Evaluated S x) {k : ℕ} (is : Is (recipe S) k) where
  abbrev d : Node
  d = node_of S k

  abbrev oa : ℕ
  oa = slot_from S d.a

  abbrev ob : ℕ
  ob = slot_from S d.b

  abbrev oc : ℕ
  oc = slot_from S d.c

  pub W-range : (1 ≤ S.word) × (S.word ≤ 64)
  W-range = let q = within S.table S.addrs S.word v.clear in (q.3, q.4)

  -- where the address stands
  abbrev place : Option ℕ
  place = word.listed S.addrs (get_or x ob 0)

  -- an address is a word of width W, and says its value
  pub address-says : uses_b d.kind ≡ true → (d.kind ≡ ITE → ⊥) → width_of S.table d.b ≡ S.word → (m n : List ℕ) (e : Assign) → Operable S x k m e n
      → num e (word_at S n d.b 0) S.word ≡ get_or x ob 0
  address-says ub ni q m n e o =
      let h : 1 ≤ width_of S.table d.b = omega (arith, W-range.0) in
      let w : wide_of S d.b ≡ S.word = word_wide S d.b h ∙ q in
      ap (λ z. num e (word_at S n d.b 0) z) (sym w) ∙ word-says v is (b-is v is ub) h e n (b-right v is m n e o ni ub)

  pub read_made : ReadsOwed S → d.kind ≡ READ → d.width ≡ S.word → width_of S.table d.a ≡ 0 → width_of S.table d.b ≡ S.word → (m : List ℕ) (i : ℕ) (t : Core) → i < words_of S k
      → OwnWord S x k m i t (read_word S k i t)
  unfolding read_word read_value
  read_made reads e hw ha hb m i t lt =
      word_made v is (listed S * (4 * S.word - 1)) lt (rw e) L.ext
      (λ h ce o.
      ap (λ z. num h out z) wk
      ∙ (said h ce o place refl ∙ sym (at_read S.addrs d (width_of S.table d.a) x oa ob oc _ i e ∙ ap (read_value S.addrs x oa) (place-access S.addrs d x ob (rw e)))))
    where
      mem : List ℕ
      mem = all_at S t.map d.a

      adr : List ℕ
      adr = word_at S t.map d.b 0

      out : List ℕ
      out = (read_words (listed S) S.word S.addrs mem adr (fresh t.net)).out

      L : ReadLaw (listed S) S.word S.addrs mem adr (fresh t.net) (read_words (listed S) S.word S.addrs mem adr (fresh t.net))
      L = reads mem adr t.net

      ua : 1 ≤ d.a
      ua = (sound v is).operands.a-used (ap uses_a e)

      wk : wide_of S k ≡ S.word
      wk = word_wide S k (omega (arith, W-range.0)) ∙ hw

      wa : wide_of S d.a ≡ S.word
      wa = memory-wide S d.a ha

      na : words_of S d.a ≡ listed S
      na = memory-words S d.a ha

      said : (h : Assign) → Considered (meaning S x) (read_words (listed S) S.word S.addrs mem adr (fresh t.net)).net h → Operable S x k m h t.map → (p : Option ℕ) → p ≡ place
          → num h out S.word ≡ read_value S.addrs x oa p
      said h ce o (Some p) ep =
          let z = at_place S.addrs (get_or x ob 0) p ep in
          let q : get_or S.addrs p 0 ≡ num h adr S.word = z.1 ∙ sym (address-says (ap uses_b e) (λ q. omega arith) hb m t.map h o) in
          let r : word_num h mem p (wide_of S d.a) ≡ slot_of S x d.a p =
          part-num S t.map d.a ua p (rw na z.0) h ∙ right-says v (a-is v is ua) {i = p} (rw na z.0) h t.map (a-right v is m t.map h o ua) in
          L.hit h ce.obeys p z.0 q ∙ ((rw wa at r) ∙ sym (pick_true _ _ _ (lt-ltb p (listed S) z.0)))
      said h ce o None ep = L.miss h ce.obeys (λ j l q. no_place S.addrs (get_or x ob 0) ep j l (q ∙ address-says (ap uses_b e) (λ q. omega arith) hb m t.map h o))
