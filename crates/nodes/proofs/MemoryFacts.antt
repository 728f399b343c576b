-- What a table without fault gives to the code of reads and writes, and what that code's calls come to.
use mathlib.Core.Path.{◌≡◌, refl, ap, sym, ◌∙◌}
use mathlib.Core.List.{List}
use mathlib.Core.Bool.{true}
use mathlib.Core.Logic.{◌⊎◌, inl, inr}
use Prim.Native.Nat.{ℕ, ◌+◌, ◌*◌, ◌-◌, ◌≤◌, ◌<◌}
use native.Mathlib.Omega.{arith}
use lib.ListN.{length, get_or, take, drop, length-drop}
use lib.Seq.{length-take-le, take_all, get_or-take, ext_get_or}
use borrow.Rule.Slice.PartMut.{put_mid}
use borrow.Author.Tests.{eqb-false}
use Rattle.loops.specs.Loop.{iter}
use Rattle.table.specs.declared.Node.{Node}
use Rattle.table.specs.Kind.{READ, WRITE, uses_a, uses_b, uses_c}
use Rattle.table.specs.Node.{width_of}
use Rattle.table.proofs.Whole.{within, Sound, Rule, is-const, is-input, is_state, is-op, is-bad, is-ext, is-ite, is-divu, is-rem, is_read, is-write, is-sext}
use Rattle.netlist.specs.Net.{Net}
use Rattle.gates.specs.declared.list.GateList.{GateList}
use Rattle.gates.specs.Made.{Fits}
use Rattle.words.specs.Num.{blank}
use Rattle.words.specs.Each.{Word, put_bits}
use Rattle.words.proofs.EachLaws.{put-law, put-mid}
use Rattle.words.proofs.NumLaws.{blank-long}
use Rattle.memory.specs.Write.{write_words}
use Rattle.memory.proofs.ReadLaws.{put_low}
use Rattle.visits.specs.Flow.{Core}
use Rattle.visits.specs.Stored.{stored}
use Rattle.nodes.specs.declared.place.Place.{Place}
use Rattle.nodes.specs.declared.place.Here.{Here}
use Rattle.nodes.specs.Laid.{source_of}
use Rattle.nodes.specs.Source.{Source, listed, node_of, words_of, wide_of, bits_of, off_of, gates_of, word_at, all_at}
use Rattle.nodes.specs.Own.{as_is, read_word, each_word, write_own}
use Rattle.nodes.specs.Place.{placed, reading, share_at, write_at}
use Rattle.nodes.specs.Asked.{Makes, place_of, core_at, Turned}
use Rattle.nodes.proofs.OpKinds.{op-plain}
use Rattle.nodes.proofs.Places.{word-words, word_wide, memory-words, memory-wide, sound-of}
use Rattle.nodes.proofs.MemoryLaws.{memory-bits, read-gates, write-gates}
use Rattle.nodes.proofs.Facts.{operands-in, place-within, offset, words-turn, share-turn, word_in, part-first}

-- a word of the map, copied to scratch
pub scratch-long : (w : ℕ) (bits scratch : List ℕ) → w ≤ 64 → scratch ≡ put_bits 0 bits w blank → w ≡ length (take w scratch)
scratch-long w bits scratch small e =
    let fits : 0 + w ≤ length blank = omega (arith, blank-long) in
    sym (length-take-le w scratch (omega (arith, ap length e, (put-law 0 bits blank w fits).long, blank-long)))

copied : (w from : ℕ) (map scratch : List ℕ) → w ≤ 64 → from + w ≤ length map → scratch ≡ put_bits 0 (take (from + w - from) (drop from map)) w blank → take w scratch ≡ take w (drop from map)
copied w from map scratch small fits e =
    let z : from + w - from ≡ w = omega arith in
    let bits : List ℕ = take w (drop from map) in
    let same : scratch ≡ put_bits 0 bits w blank = rw z at e in
    let long : w ≡ length (take w scratch) = scratch-long w bits scratch small same in
    ext_get_or 0 (take w scratch) bits (sym long ∙ sym (length-take-le w (drop from map) (omega (arith, length-drop from map))))
    (λ i l. get_or-take w scratch i 0 (omega (arith, long)) ∙ ap (λ (x : List ℕ). get_or x i 0) same ∙ put_low bits blank w (omega (arith, blank-long)) i (omega (arith, long)))

-- the path of a write
module _ (addrs : List ℕ) (old adr val to w : ℕ) (map : List ℕ) (small : w ≤ 64) (fa : adr + w ≤ length map) (fv : val + w ≤ length map) where
  pub write-path : (s s' : Net) (shared part address value : List ℕ) → to + length addrs * w ≤ length shared → address ≡ put_bits 0 (take (adr + w - adr) (drop adr map)) w blank
      → value ≡ put_bits 0 (take (val + w - val) (drop val map)) w blank → shared ≡ iter (length addrs) (share_at 0 old w to w) map
      → as_is s' part ≡ write_words (length addrs) w addrs (take w address) (take w value) (as_is s (take (to + length addrs * w - to) (drop to shared)))
      → length part ≡ to + length addrs * w - to → as_is s' (put_mid to (to + length addrs * w - to) shared part) ≡ write_at addrs old adr val to w (as_is s map)
  unfolding write_at
  write-path s s' shared part address value ft ea ev es e long =
      let n : ℕ = length addrs * w in
      let z : to + n - to ≡ n = omega arith in
      let q : as_is s' part ≡ write_words (length addrs) w addrs (take w (drop adr map)) (take w (drop val map)) (as_is s (take n (drop to shared))) =
      rw (z, copied w adr map address small fa ea, copied w val map value small fv ev) at e in
      let whole : length part ≡ n = long ∙ z in
      rw (put-mid to part shared part n (to + n - to) ft (omega (arith, whole)) z (sym (take_all n part (omega (arith, whole)))), ← es)
      (ap {B = Word} (λ (x : Word). as_is x.net (put_bits to x.out n shared)) q)

-- what the sort rule says of a read and of a write
record Access (w : ℕ) (d : Node) (va vb vc : ℕ) : Type 0 where
  reads : d.kind ≡ READ → (d.width ≡ w) × (va ≡ 0) × (vb ≡ w)
  writes : d.kind ≡ WRITE → (d.width ≡ 0) × (va ≡ 0) × (vb ≡ w) × (vc ≡ w)

neither : {w : ℕ} {d : Node} {va vb vc : ℕ} → (d.kind < READ) ⊎ (WRITE < d.kind) → Access w d va vb vc
neither (inl l) = record { reads = λ h. absurd (omega arith); writes = λ h. absurd (omega arith) }
neither (inr l) = record { reads = λ h. absurd (omega arith); writes = λ h. absurd (omega arith) }

access : {w : ℕ} {d : Node} {va vb vc : ℕ} → Rule w d va vb vc → Access w d va vb vc
access (is_read e a b c) = record { reads = λ _. (a, b, c); writes = λ h. absurd (omega arith) }
access (is-write e a b c f) = record { reads = λ h. absurd (omega arith); writes = λ _. (a, b, c, f) }
access {w} {d} (is-op o e s) = record { reads = λ h. absurd (eqb-false d.kind READ (op-plain o d e).reads h); writes = λ h. absurd (eqb-false d.kind WRITE (op-plain o d e).writes h) }
access (is-const e a b) = neither (inl (omega arith))
access (is-input e) = neither (inl (omega arith))
access (is_state e a) = neither (inl (omega arith))
access (is-bad e a b) = neither (inl (omega arith))
access (is-ext e s) = neither (inl (omega arith))
access (is-ite e a b c) = neither (inl (omega arith))
access (is-sext e s) = neither (inr (omega arith))
access (is-divu e s) = neither (inl (omega arith))
access (is-rem e s) = neither (inl (omega arith))

-- what both ask for, over a memory of n words from `mem` on and an address from `adr` on: a word's access costs so many gates a bit, less one
pub record Accesses (cost : ℕ) (t : GateList) (long n mem adr : ℕ) (p : Place) : Type 0 where
  pub room : Fits t (n * (cost * p.wide - 1))
  pub some : 1 ≤ p.wide
  pub small : p.wide ≤ 64
  pub mem-within : mem + n * p.wide ≤ long
  pub adr-within : adr + p.wide ≤ long

-- node n of a laid table
module _ (n : Here) (t : GateList) (long : ℕ) (h : Makes (source_of n.laid) n.laid.offs.now t long n.k) where
  abbrev S : Source
  S = source_of n.laid

  abbrev o : List ℕ
  o = n.laid.offs.now

  abbrev k : ℕ
  k = n.k

  node : Sound S.table S.word k
  node = sound-of S h.stands.clear k h.stands.is

  sorts : Access S.word (node_of S k) (width_of S.table (node_of S k).a) (width_of S.table (node_of S k).b) (width_of S.table (node_of S k).c)
  sorts = access node.sort

  -- the words of a memory are 1 to 64 wide
  range : (1 ≤ S.word) × (S.word ≤ 64)
  range = let q = within S.table S.addrs S.word h.stands.clear in (q.3, q.4)

  -- a memory and a word of a memory lie within the map
  memory-in : (x : ℕ) → 1 ≤ x → x ≤ k → width_of S.table x ≡ 0 → off_of S x + listed S * S.word ≤ long
  memory-in x some le v = rw (memory-words S x v, memory-wide S x v) at (place-within S o long k x h.stands some le)

  wide_is : (x : ℕ) → width_of S.table x ≡ S.word → wide_of S x ≡ S.word
  wide_is x v = word_wide S x (omega (arith, range)) ∙ v

  operand_in : (x : ℕ) → 1 ≤ x → x ≤ k → width_of S.table x ≡ S.word → off_of S x + S.word ≤ long
  operand_in x some le v = omega (arith, word_in S o long k x h.stands some le (omega (arith, range)), wide_is x v)

  operand_at : (m : List ℕ) (x : ℕ) → width_of S.table x ≡ S.word → take S.word (drop (off_of S x) m) ≡ word_at S m x 0
  operand_at m x v = ap (λ (w : ℕ). take w (drop (off_of S x) m)) (sym (wide_is x v)) ∙ part-first S m x

  accesses : (cost : ℕ) → gates_of S k ≡ listed S * (cost * S.word - 1) → wide_of S k ≡ S.word → uses_a (node_of S k).kind ≡ true → uses_b (node_of S k).kind ≡ true
      → width_of S.table (node_of S k).a ≡ 0 → width_of S.table (node_of S k).b ≡ S.word
      → Accesses cost t long (listed S) (off_of S (node_of S k).a) (off_of S (node_of S k).b) (place_of S k)
  accesses cost e v ua ub va vb =
      record {
        room = rw v (omega (arith, h.room, e));
        some = omega (arith, range, v);
        small = omega (arith, range, v);
        mem-within = rw v (memory-in (node_of S k).a (node.operands.a-used ua) (omega (arith, node.operands.a)) va);
        adr-within = rw v (operand_in (node_of S k).b (node.operands.b-used ub) (omega (arith, node.operands.b)) vb);
      }

  is-as : (x : ℕ) → n.node.kind ≡ x → (node_of S k).kind ≡ x
  is-as x e = ap (λ (y : Node). y.kind) (sym n.is) ∙ e

  -- its operands are nodes of the table
  pub a-inside : n.node.a < length o
  a-inside = omega (arith, operands-in S o long k h.stands n.node n.is)

  pub b-inside : n.node.b < length o
  b-inside = omega (arith, operands-in S o long k h.stands n.node n.is)

  pub c-inside : n.node.c < length o
  c-inside = omega (arith, operands-in S o long k h.stands n.node n.is)

  -- where the operands stand
  a_at : get_or o n.node.a 0 ≡ off_of S (node_of S k).a
  a_at = ap (λ (d : Node). get_or o d.a 0) n.is ∙ (offset S o long k h.stands (node_of S k).a (omega (arith, node.operands.a))).1

  b_at : get_or o n.node.b 0 ≡ off_of S (node_of S k).b
  b_at = ap (λ (d : Node). get_or o d.b 0) n.is ∙ (offset S o long k h.stands (node_of S k).b (omega (arith, node.operands.b))).1

  c-at : get_or o n.node.c 0 ≡ off_of S (node_of S k).c
  c-at = ap (λ (d : Node). get_or o d.c 0) n.is ∙ (offset S o long k h.stands (node_of S k).c (omega (arith, node.operands.c))).1

  -- a read
  module _ (e : n.node.kind ≡ READ) (p : Place) (q : p ≡ place_of S k) where
    rule : ((node_of S k).width ≡ S.word) × (width_of S.table (node_of S k).a ≡ 0) × (width_of S.table (node_of S k).b ≡ S.word)
    rule = sorts.reads (is-as READ e)

    pub read-asks : Accesses 4 t long (listed S) (get_or o n.node.a 0) (get_or o n.node.b 0) p × (p.off + p.wide ≤ long)
    read-asks =
        rw (q, a_at, b_at) (
          accesses 4 (read-gates S k h.stands.is.low (is-as READ e)) (wide_is k rule.0) (ap uses_a (is-as READ e)) (ap uses_b (is-as READ e)) rule.1 rule.2,
          word_in S o long k k h.stands h.stands.is.low (omega arith) (omega (arith, range, rule.0)),
        )

    pub read-room : Fits t (length n.laid.addrs.now * (4 * p.wide - 1))
    read-room = read-asks.0.room

    pub read-within : (1 ≤ p.wide) × (p.wide ≤ 64) × (get_or o n.node.a 0 + length n.laid.addrs.now * p.wide ≤ long)
        × (get_or o n.node.b 0 + p.wide ≤ long) × (p.off + p.wide ≤ long)
    read-within = let h = read-asks in (h.0.some, h.0.small, h.0.mem-within, h.0.adr-within, h.1)

    read_same : (i : ℕ) (x : Core) → reading S.addrs (off_of S (node_of S k).a) (off_of S (node_of S k).b) (wide_of S k) i (as_is x.net x.map) ≡ read_word S k i x
    unfolding reading read_word
    read_same i x =
        rw (wide_is k rule.0, operand_at x.map (node_of S k).b rule.2, ← memory-bits S (node_of S k).a (node.operands.a-used (ap uses_a (is-as READ e))) rule.1)

    pub read-turn : (s : Net) (m : List ℕ) (s' : Net) (m' : List ℕ) → as_is s' m' ≡ placed p.off p.wide (reading S.addrs (get_or o n.node.a 0) (get_or o n.node.b 0) p.wide) 0 (as_is s m)
        → Turned (each_word S k (read_word S k)) s m s' m'
    unfolding iter
    read-turn s m s' m' u =
        words-turn S k (reading S.addrs (off_of S (node_of S k).a) (off_of S (node_of S k).b) (wide_of S k)) (read_word S k) read_same (place_of S k) s m s' m' refl
        (rw (word-words S k (omega (arith, range, rule.0))) (rw (q, a_at, b_at) at u))

  -- a write
  module _ (e : n.node.kind ≡ WRITE) (p : Place) (q : p ≡ place_of S k) where
    ruled : ((node_of S k).width ≡ 0) × (width_of S.table (node_of S k).a ≡ 0) × (width_of S.table (node_of S k).b ≡ S.word) × (width_of S.table (node_of S k).c ≡ S.word)
    ruled = sorts.writes (is-as WRITE e)

    own-wide : wide_of S k ≡ S.word
    own-wide = memory-wide S k ruled.0

    pub write-asks : Accesses 5 t long (listed S) (get_or o n.node.a 0) (get_or o n.node.b 0) p × (get_or o n.node.c 0 + p.wide ≤ long) × (p.off + listed S * p.wide ≤ long)
    write-asks =
        rw (q, a_at, b_at, c-at) (
          accesses 5 (write-gates S k h.stands.is.low (is-as WRITE e)) own-wide (ap uses_a (is-as WRITE e)) (ap uses_b (is-as WRITE e)) ruled.1 ruled.2,
          rw own-wide (operand_in (node_of S k).c (node.operands.c-used (ap uses_c (is-as WRITE e))) (omega (arith, node.operands.c)) ruled.3),
          rw own-wide (memory-in k h.stands.is.low (omega arith) ruled.0),
        )

    pub write-room : Fits t (length n.laid.addrs.now * (5 * p.wide - 1))
    write-room = write-asks.0.room

    pub write-words : (get_or o n.node.b 0 + p.wide ≤ long) × (get_or o n.node.c 0 + p.wide ≤ long)
    write-words = (write-asks.0.adr-within, write-asks.1)

    pub write-memories : (get_or o n.node.a 0 + length n.laid.addrs.now * p.wide ≤ long) × (p.off + length n.laid.addrs.now * p.wide ≤ long)
    write-memories = (write-asks.0.mem-within, write-asks.2)

    pub write-wide : (1 ≤ p.wide) × (p.wide ≤ 64)
    write-wide = (write-asks.0.some, write-asks.0.small)

    -- the old memory, shared, is written
    written : List ℕ → Core → Core
    written m t =
        let x : Word =
        write_words (listed S) S.word S.addrs (word_at S m (node_of S k).b 0) (word_at S m (node_of S k).c 0) (record { net = t.net; out = all_at S t.map k }) in
        stored (off_of S k) (bits_of S k) t x.net x.out

    shared : List ℕ → List ℕ
    shared m = iter (words_of S k) (share_at 0 (off_of S (node_of S k).a) (wide_of S (node_of S k).a) (off_of S k) (wide_of S k)) m

    write_same : (s : Net) (m c : List ℕ) (nc : ℕ)
        → (let x : Word = write_at S.addrs (off_of S (node_of S k).a) (off_of S (node_of S k).b) (off_of S (node_of S k).c) (off_of S k) (wide_of S k) (as_is s m) in
        core_at x.net c nc x.out ≡ written m (core_at s c nc (shared m)))
    unfolding write_at written shared stored
    write_same s m c nc =
        rw (
          own-wide,
          memory-wide S (node_of S k).a ruled.1,
          memory-words S k ruled.0,
          memory-bits S k h.stands.is.low ruled.0,
          operand_at m (node_of S k).b ruled.2,
          operand_at m (node_of S k).c ruled.3,
        )

    pub write-turn : (s : Net) (m : List ℕ) (s' : Net) (m' : List ℕ)
        → as_is s' m' ≡ write_at S.addrs (get_or o n.node.a 0) (get_or o n.node.b 0) (get_or o n.node.c 0) p.off p.wide (as_is s m) → Turned (write_own S k) s m s' m'
    unfolding write_own written shared
    write-turn s m s' m' u = λ c nc.
        ap {B = Core} (λ (x : Word). core_at x.net c nc x.out) (rw (q, a_at, b_at, c-at) at u)
        ∙ write_same s m c nc
        ∙ ap (written m) (share-turn S k 0 (node_of S k).a (place_of S k) (place_of S (node_of S k).a) m (shared m) refl refl refl s c nc)

-- what `grind` has to know in a read's and in a write's own step
pub ruleset read_steps = (a-inside, b-inside, read-room, read-within)

pub ruleset write_steps = (a-inside, b-inside, c-inside, write-room, write-wide, write-words, write-memories)
