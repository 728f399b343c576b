-- The steps of a read and a write, from the laws of both.
use Rattle.std.specs.Prelude.{Ok}
use mathlib.Core.Path.{◌≡◌, refl, ap, sym, ◌∙◌}
use mathlib.Core.List.{List}
use mathlib.Core.Bool.{false}
use Prim.Native.Nat.{ℕ, ◌+◌, ◌-◌, ◌*◌, ◌≤◌, ◌<◌}
use native.Mathlib.Omega.{arith}
use lib.ListN.{length, get_or, length-take, length-drop}
use Rattle.table.specs.Kind.{READ, WRITE}
use Rattle.table.specs.Node.{width_of}
use Rattle.table.specs.Ceiling.{memory_gates}
use Rattle.table.specs.Sheet.{table_fault}
use Rattle.table.proofs.Whole.{within}
use Rattle.table.proofs.ceiling.ByKind.{top_read, top-write}
use Rattle.netlist.specs.Record.{Room}
use Rattle.netlist.specs.Net.{Net}
use Rattle.gates.specs.Law.{Grows, Formed}
use Rattle.gates.proofs.Laws.{grows-trans, grows-weaken, room_back}
use Rattle.digits.specs.Digits.{Below}
use Rattle.words.specs.Each.{Word, put_bits, Put}
use Rattle.words.proofs.EachLaws.{put-law}
use Rattle.memory.specs.Read.{read_words, ReadLaw}
use Rattle.memory.specs.Write.{write_words, WriteLaw}
use Rattle.visits.specs.Flow.{Core}
use Rattle.visits.specs.Stored.{stored}
use Rattle.visits.specs.Claims.{Is, Under, Step, Ready}
use Rattle.visits.proofs.Stored.{room_after}
use Rattle.nodes.specs.Source.{Source, listed, node_of, words_of, wide_of, bits_of, off_of, total_of, gates_of, word_at, all_at}
use Rattle.nodes.specs.Own.{fresh, each_word, share_word, read_word, write_own}
use Rattle.nodes.specs.Recipe.{recipe}
use Rattle.nodes.proofs.Places.{Till, part_at, bits-words, off-inside, word-words, word_wide, memory-words, memory-wide, gates-of, all-below}
use Rattle.nodes.proofs.WordLaws.{WordOwes, Reads, reads_up, made-owes, Made, all_made}
use Rattle.nodes.proofs.KindLaws.{read_made}
use Rattle.nodes.proofs.StepLaws.{made_as, node, fits, by-words, word-b, word-c, reads-a}
use Rattle.nodes.proofs.ShareLaws.{same-words, share-word}

-- the laws of the memory, of the listed addresses
abbrev pub ReadsOwed : Source → Type 0
ReadsOwed S = (mem adr : List ℕ) (s : Net) → ReadLaw (listed S) S.word S.addrs mem adr (fresh s) (read_words (listed S) S.word S.addrs mem adr (fresh s))

abbrev pub WritesOwed : Source → Type 0
WritesOwed S = (adr val mem : List ℕ) (s : Net) → listed S * S.word ≤ length mem
    → WriteLaw (listed S) S.word S.addrs adr val (record { net = s; out = mem }) (write_words (listed S) S.word S.addrs adr val (record { net = s; out = mem }))

-- the bits of a memory
pub memory-bits : (S : Source) (x : ℕ) → 1 ≤ x → width_of S.table x ≡ 0 → bits_of S x ≡ listed S * S.word
memory-bits S x some v = bits-words S x some ∙ rw (memory-words S x v, memory-wide S x v)

-- the ceilings of a read and of a write
module _ (S : Source) (k : ℕ) (low : 1 ≤ k) where
  pub read-gates : (node_of S k).kind ≡ READ → gates_of S k ≡ listed S * (4 * S.word - 1)
  unfolding memory_gates
  read-gates e = gates-of S k low ∙ top_read (listed S) S.word (node_of S k) (width_of S.table (node_of S k).a) e

  pub write-gates : (node_of S k).kind ≡ WRITE → gates_of S k ≡ listed S * (5 * S.word - 1)
  unfolding memory_gates
  write-gates e = gates-of S k low ∙ top-write (listed S) S.word (node_of S k) (width_of S.table (node_of S k).a) e

module _ (S : Source) (clear : table_fault S.table S.addrs S.word ≡ Ok tt) (k : ℕ) (is : Is (recipe S) k) (s : Core)
    (mapped : length s.map ≡ total_of S) where
  abbrev A : ℕ
  A = (node_of S k).a

  abbrev B : ℕ
  B = (node_of S k).b

  abbrev C : ℕ
  C = (node_of S k).c

  big : 1 ≤ S.word
  big = (within S.table S.addrs S.word clear).3

  module _ (owed : ReadsOwed S) (e : (node_of S k).kind ≡ READ) (v : (node_of S k).width ≡ S.word) (va : width_of S.table A ≡ 0) (vb : width_of S.table B ≡ S.word) where
    some-a : 1 ≤ A
    some-a = (node S clear k is s mapped).operands.a-used (rw e)

    read_word_lem : (i : ℕ) (x : Core) → Till (off_of S k) s.map x.map → WordOwes S k s x (gates_of S k) (read_word S k i x)
    unfolding read_word
    read_word_lem i x till =
        made-owes {s = s} {In = λ b. Below b (all_at S x.map A) (listed S * S.word) × Below b (word_at S x.map B 0) S.word}
        (made_as (sym v ∙ sym (word_wide S k (omega (arith, big)))) (omega (arith, read-gates S k is.low e))
        (read_made x.net (listed S) S.word S.addrs (all_at S x.map A) (word_at S x.map B 0) (owed (all_at S x.map A) (word_at S x.map B 0) x.net)))
        (λ b o. (
          λ j l. all-below S A k b s.map x.map some-a (node S clear k is s mapped).operands.a till (reads-a S k s b o some-a) j (omega (arith, memory-bits S A some-a va)),
          λ j l. word-b S clear k is s mapped b x.map (rw e) (λ q. omega arith) (omega (arith, big)) till o j (omega (arith, word_wide S B (omega (arith, big)))),
        ))

    pub read-step : Step (recipe S) k s (each_word S k (read_word S k) s)
    read-step =
        by-words S clear k is s mapped (gates_of S k) (read_word S k)
        (let q : words_of S k * gates_of S k ≡ 1 * gates_of S k = ap (λ (n : ℕ). n * gates_of S k) (word-words S k (omega (arith, big))) in omega arith)
        (λ i x _ till. read_word_lem i x till)

  module _ (owed : WritesOwed S) (e : (node_of S k).kind ≡ WRITE) (v : (node_of S k).width ≡ 0) (va : width_of S.table A ≡ 0) (vb : width_of S.table B ≡ S.word)
      (vc : width_of S.table C ≡ S.word) where
    old-a : 1 ≤ A
    old-a = (node S clear k is s mapped).operands.a-used (rw e)

    -- the old memory is shared
    shared : Core
    shared = each_word S k (share_word S 0 A) s

    made : Made S k 0 s (words_of S k) shared
    unfolding shared
    made =
        all_made S k 0 s (share_word S 0 A) (fits S clear k is s mapped)
        (share-word S clear k is s mapped 0 A old-a (node S clear k is s mapped).operands.a (same-words S k A (v ∙ sym va)) (λ b o. reads-a S k s b o old-a)
        (λ b o two. omega arith))

    abbrev adr : List ℕ
    adr = word_at S s.map B 0

    abbrev val : List ℕ
    val = word_at S s.map C 0

    mem : List ℕ
    mem = all_at S shared.map k

    inside : off_of S k + bits_of S k ≤ length shared.map
    inside = omega (arith, off-inside S k is.low is.high, made.long)

    mem_long : length mem ≡ bits_of S k
    unfolding mem
    mem_long = let i = inside in simp (length-take, length-drop) (omega arith)

    bits : bits_of S k ≡ listed S * S.word
    bits = memory-bits S k is.low v

    written : Word
    written = write_words (listed S) S.word S.addrs adr val (record { net = shared.net; out = mem })

    law : WriteLaw (listed S) S.word S.addrs adr val (record { net = shared.net; out = mem }) written
    unfolding written
    law = owed adr val mem shared.net (omega (arith, mem_long, bits))

    grown : Grows s.net written.net (gates_of S k)
    grown =
        grows-weaken s.net written.net (words_of S k * 0 + listed S * (5 * S.word - 1)) (gates_of S k) (omega (arith, write-gates S k is.low e))
        (grows-trans s.net shared.net written.net (words_of S k * 0) (listed S * (5 * S.word - 1)) made.grows law.ext.grows)

    put : Put (off_of S k) written.out shared.map (bits_of S k) (put_bits (off_of S k) written.out (bits_of S k) shared.map)
    put = put-law (off_of S k) written.out shared.map (bits_of S k) inside

    mem_below : (b : ℕ) → ((j : ℕ) → j < words_of S k * wide_of S k → get_or shared.map (off_of S k + j) 0 < b) → Below b mem (listed S * S.word)
    unfolding mem
    mem_below b h j l = rw (part_at shared.map (off_of S k) (bits_of S k) j (omega (arith, bits))) (h j (omega (arith, bits, bits-words S k is.low)))

    adr-below : (b : ℕ) → Reads S k s b → Below b adr S.word
    adr-below b o j l =
        word-b S clear k is s mapped b s.map (rw e) (λ q. omega arith) (omega (arith, big)) (λ i h. refl) o j (omega (arith, word_wide S B (omega (arith, big))))

    val-below : (b : ℕ) → Reads S k s b → Below b val S.word
    val-below b o j l =
        word-c S clear k is s mapped b s.map (rw e) (λ q. omega arith) (omega (arith, big)) (λ i h. refl) o j (omega (arith, word_wide S C (omega (arith, big))))

    under : (b : ℕ) → Below b written.out (listed S * S.word) → Under (recipe S) b (put_bits (off_of S k) written.out (bits_of S k) shared.map) k
    under b h j l = rw (put.there j l) (h j (omega (arith, bits)))

    new-formed : Ready (recipe S) k s → Formed written.net × Below written.net.n written.out (listed S * S.word)
    new-formed r =
        let rm : Room written.net.gates written.net.n = room_after r grown in
        let o : Formed shared.net × ((j : ℕ) → j < words_of S k * wide_of S k → get_or shared.map (off_of S k + j) 0 < shared.net.n) =
        made.formed r (room_back shared.net written.net (listed S * (5 * S.word - 1)) law.ext.grows rm) in
        let u : Reads S k s shared.net.n = reads_up S k s s.net.n shared.net.n made.grows.from r.below in
        law.formed rm (mem_below shared.net.n o.1) (adr-below shared.net.n u) (val-below shared.net.n u) o.0

    new-known : (recipe S).given k ≡ false → Reads S k s 2 → (written.net.n ≡ s.net.n) × Below 2 written.out (listed S * S.word)
    new-known g o =
        let m : (shared.net.n ≡ s.net.n) × ((j : ℕ) → j < words_of S k * wide_of S k → get_or shared.map (off_of S k + j) 0 < 2) = made.known g o in
        let w : (written.net ≡ shared.net) × (Below 2 mem (listed S * S.word) → Below 2 val S.word → Below 2 written.out (listed S * S.word)) = law.known (adr-below 2 o) in
        (ap (λ (t : Net). t.n) w.0 ∙ m.0, w.1 (mem_below 2 m.1) (val-below 2 o))

    pub write_step_lem : Step (recipe S) k s (write_own S k s)
    unfolding write_own stored shared mem written
    write_step_lem =
        record {
          frame =
              record {
                grows = grown;
                cons_long = ap length made.cons;
                cons_from = omega (arith, made.count);
                cons_upto = omega (arith, made.count);
                cons_same = λ i l. ap (λ (z : List ℕ). get_or z i 0) made.cons;
                cons_rest = λ i l. ap (λ (z : List ℕ). get_or z i 0) made.cons;
                map_long = put.long ∙ made.long;
                map_below = λ i l. put.below i l ∙ made.below i l;
                map_above = λ i l. put.above i l ∙ made.above i (omega (arith, bits-words S k is.low));
              };
          formed = λ r. ((new-formed r).0, under written.net.n (new-formed r).1);
          known = λ r g o. ((new-known g o).0, made.count, under 2 (new-known g o).1);
          asked = λ r i lo hi. absurd (omega (arith, made.count));
        }
