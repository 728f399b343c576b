-- What a table without fault gives to the code that makes a node's own step.
use mathlib.Core.Path.{◌≡◌, refl, ap, sym, ◌∙◌, subst}
use mathlib.Core.List.{List}
use mathlib.Core.Bool.{Bool, true, false, ◌&&◌}
use Prim.Native.Nat.{ℕ, zero, suc, ◌+◌, ◌*◌, ◌≤◌, ◌<◌}
use native.Mathlib.Omega.{arith}
use lib.Dec.{eqb}
use lib.ListN.{length, get_or, take, drop}
use borrow.Author.Tests.{eq-eqb, ne_eqb, eqb-true, eqb-false}
use Rattle.loops.specs.Loop.{pick, iter}
use Rattle.loops.proofs.Loop.{by-pick, pick_true, pick-false}
use Rattle.table.specs.declared.Unit.TheVariants.{Bit}
use Rattle.table.specs.Node.{nodes, width_of, given}
use Rattle.table.specs.Size.{Offsets}
use Rattle.table.specs.Ceiling.{ite_gates}
use Rattle.table.specs.declared.Node.{Node}
use Rattle.table.specs.Kind.{ITE}
use Rattle.table.proofs.Whole.{within, Sound}
use Rattle.netlist.specs.Bit.{is_known}
use Rattle.table.proofs.ceiling.ByKind.{top-given, top-ite}
use Rattle.netlist.specs.Net.{Net}
use Rattle.gates.specs.declared.list.GateList.{GateList}
use Rattle.gates.specs.Made.{Fits}
use Rattle.words.specs.Each.{Word, put_bits}
use Rattle.visits.specs.Flow.{Core}
use Rattle.visits.specs.Stored.{stored}
use Rattle.nodes.specs.declared.place.Place.{Place}
use Rattle.nodes.specs.Source.{Source, listed, node_of, words_of, wide_of, off_of, gates_of, word_at, condition_of, second_of, third_of}
use Rattle.nodes.specs.Own.{as_is, input_word, share_word, choose_word, word_step, each_word, ite_own}
use Rattle.nodes.specs.Place.{placed, inputs, choices, share_at}
use Rattle.nodes.specs.Asked.{Stands, Makes, place_of, core_at, Turned, Mapped}
use Rattle.nodes.proofs.Places.{word-words, word_wide, bits-size, bits-words, gates-of, off-inside, sound-of, part_at}
use Rattle.nodes.proofs.ShapeLaws.{chosen, second-else, third-else}
use Rattle.nodes.proofs.ShareLaws.{same-words, same-wide}
use Rattle.nodes.proofs.StepLaws.{wide-small}

-- the place of a node: a memory's, a word's
module _ (S : Source) (o : List ℕ) (x off width : ℕ) (h : Offsets Bit S.table (listed S) S.word o) (l : x ≤ nodes S.table) (e : off ≡ get_or o x 0) (v : width ≡ width_of S.table x) where
  at : off ≡ off_of S x
  at = e ∙ h.at x (omega arith)

  pub place-memory : width ≡ 0 → ◌≡◌ {A = Place} (record { off = off; words = listed S; wide = S.word }) (place_of S x)
  unfolding words_of wide_of pick
  place-memory z = rw (at, eq-eqb (width_of S.table x) 0 (sym v ∙ z))

  pub place-word : (width ≡ 0 → ⊥) → ◌≡◌ {A = Place} (record { off = off; words = 1; wide = width }) (place_of S x)
  unfolding words_of wide_of pick
  place-word z = rw (at, v, ne_eqb (width_of S.table x) 0 (λ q. z (v ∙ q)))

-- a step of a part of the state is a step of the whole, and so are several
along : {A B : Type 0} (g : A → B) (f : ℕ → A → A) (F : ℕ → B → B) → ((i : ℕ) (a : A) → g (f i a) ≡ F i (g a)) → (n : ℕ) (a : A) → g (iter n f a) ≡ iter n F (g a)
unfolding iter
along g f F h zero a = refl
along g f F h (suc n) a = h n (iter n f a) ∙ ap (F n) (along g f F h n a)

-- net and map put back among the constraints
put_back : List ℕ → ℕ → Word → Core
put_back c nc x = core_at x.net c nc x.out

module _ (S : Source) (k : ℕ) (f : ℕ → Word → Word) (F : ℕ → Core → Word) (same : (i : ℕ) (s : Core) → f i (as_is s.net s.map) ≡ F i s) where
  placed-word : (c : List ℕ) (nc i : ℕ) (x : Word) → put_back c nc (placed (off_of S k) (wide_of S k) f i x) ≡ word_step S k F i (put_back c nc x)
  unfolding put_back placed word_step stored
  placed-word c nc i x =
      ap {B = Core} (λ (y : Word). core_at y.net c nc (put_bits (off_of S k + i * wide_of S k) y.out (wide_of S k) x.out)) (same i (core_at x.net c nc x.out))

  pub words-turn : (p : Place) (s : Net) (m : List ℕ) (s' : Net) (m' : List ℕ) → p ≡ place_of S k → as_is s' m' ≡ iter p.words (placed p.off p.wide f) (as_is s m) → Turned (each_word S k F) s m s' m'
  unfolding put_back
  words-turn p s m s' m' h e = λ c nc.
      ap (put_back c nc) (e ∙ ap (λ (q : Place). iter q.words (placed q.off q.wide f) (as_is s m)) h)
      ∙ along (put_back c nc) (placed (off_of S k) (wide_of S k) f) (word_step S k F) (placed-word c nc) (words_of S k) (as_is s m)

-- a node's place is within the map
pub place-within : (S : Source) (o : List ℕ) (long k x : ℕ) → Stands S o long k → 1 ≤ x → x ≤ k → off_of S x + words_of S x * wide_of S x ≤ long
place-within S o long k x h some le = omega (arith, off-inside S x some (omega (arith, h.is.high)), bits-words S x some, h.mapped)

-- and so is a word
pub word_in : (S : Source) (o : List ℕ) (long k x : ℕ) → Stands S o long k → 1 ≤ x → x ≤ k → 1 ≤ width_of S.table x → off_of S x + wide_of S x ≤ long
word_in S o long k x h some le word = omega (arith, place-within S o long k x h some le, ap (λ (n : ℕ). n * wide_of S x) (word-words S x word))

-- the bits of a word, as its first word
pub part-first : (S : Source) (m : List ℕ) (x : ℕ) → take (wide_of S x) (drop (off_of S x) m) ≡ word_at S m x 0
part-first S m x = let z : off_of S x ≡ off_of S x + 0 * wide_of S x = omega arith in ap (λ (i : ℕ). take (wide_of S x) (drop i m)) z

-- inputs
pub record Inputs (list : GateList) (long k : ℕ) (p : Place) : Type 0 where
  pub room : Fits list (p.words * p.wide)
  pub small : p.wide ≤ 64
  pub node : k < 4294967296
  pub bits : p.words * p.wide < 4294967296
  pub within : p.off + p.words * p.wide ≤ long

pub input-asks : (S : Source) (o : List ℕ) (list : GateList) (long k : ℕ) (p : Place) → Makes S o list long k → given (node_of S k) ≡ true → p ≡ place_of S k → Inputs list long k p
input-asks S o list long k p h e q =
    let b : gates_of S k ≡ words_of S k * wide_of S k =
    gates-of S k h.stands.is.low ∙ top-given (listed S) S.word (node_of S k) (width_of S.table (node_of S k).a) e
    ∙ sym (bits-size S k h.stands.is.low) ∙ bits-words S k h.stands.is.low in
    let i : Inputs list long k (place_of S k) =
    record {
      room = omega (arith, h.room, b);
      small = wide-small S h.stands.clear k;
      node = omega (arith, within S.table S.addrs S.word h.stands.clear, h.stands.is.high);
      bits = omega (arith, h.room, b);
      within = place-within S o long k k h.stands h.stands.is.low (omega arith);
    } in
    subst (λ (y : Place). Inputs list long k y) (sym q) i

inputs-same : (S : Source) (k i : ℕ) (x : Core) → inputs k (wide_of S k) i (as_is x.net x.map) ≡ input_word S k i x
unfolding inputs input_word
inputs-same S k i x = refl

pub input-turn : (S : Source) (k : ℕ) (p : Place) (s : Net) (m : List ℕ) (s' : Net) (m' : List ℕ) → p ≡ place_of S k → as_is s' m' ≡ iter p.words (placed p.off p.wide (inputs k p.wide)) (as_is s m)
    → Turned (each_word S k (input_word S k)) s m s' m'
input-turn S k p s m s' m' h e = words-turn S k (inputs k (wide_of S k)) (input_word S k) (inputs-same S k) p s m s' m' h (e ∙ ap (λ (q : Place). iter p.words (placed p.off p.wide (inputs k q.wide)) (as_is s m)) h)

-- shared bits
pub record Shares (long : ℕ) (p q : Place) : Type 0 where
  pub from-small : q.wide ≤ 64
  pub small : p.wide ≤ 64
  pub from-within : q.off + p.words * q.wide ≤ long
  pub within : p.off + p.words * p.wide ≤ long

pub share-asks : (S : Source) (o : List ℕ) (long k x : ℕ) (p q : Place) → Stands S o long k → 1 ≤ x → x < k → words_of S k ≡ words_of S x → p ≡ place_of S k → q ≡ place_of S x → Shares long p q
share-asks S o long k x p q h some less same e f =
    let i : Shares long (place_of S k) (place_of S x) =
    record {
      from-small = wide-small S h.clear x;
      small = wide-small S h.clear k;
      from-within = rw same (place-within S o long k x h some (omega arith));
      within = place-within S o long k k h h.is.low (omega arith);
    } in
    rw (e, f) i

share-along : (S : Source) (k a x : ℕ) (s : Net) (c : List ℕ) (nc i : ℕ) (m : List ℕ)
    → ◌≡◌ {A = Core} (core_at s c nc (share_at a (off_of S x) (wide_of S x) (off_of S k) (wide_of S k) i m)) (word_step S k (share_word S a x) i (core_at s c nc m))
unfolding share_at word_step stored share_word
share-along S k a x s c nc i m = refl

pub share-turn : (S : Source) (k a x : ℕ) (p q : Place) (m m' : List ℕ) → p ≡ place_of S k → q ≡ place_of S x → m' ≡ iter p.words (share_at a q.off q.wide p.off p.wide) m
    → Mapped (each_word S k (share_word S a x)) m m'
share-turn S k a x p q m m' h j e = λ s c nc.
    ap {B = Core} (λ (l : List ℕ). core_at s c nc l) (rw (h, j) at e)
    ∙ along {B = Core} (λ (l : List ℕ). core_at s c nc l) (share_at a (off_of S x) (wide_of S x) (off_of S k) (wide_of S k)) (word_step S k (share_word S a x)) (share-along S k a x s c nc) (words_of S k) m

-- an ite's operands
pub record Sided (S : Source) (k : ℕ) : Type 0 where
  pub a-some : 1 ≤ (node_of S k).a
  pub a-less : (node_of S k).a < k
  pub b-some : 1 ≤ (node_of S k).b
  pub b-less : (node_of S k).b < k
  pub c-some : 1 ≤ (node_of S k).c
  pub c-less : (node_of S k).c < k
  pub one : width_of S.table (node_of S k).a ≡ 1
  pub left : width_of S.table (node_of S k).b ≡ width_of S.table k
  pub right : width_of S.table (node_of S k).c ≡ width_of S.table k

module _ (S : Source) (o : List ℕ) (long k : ℕ) (h : Stands S o long k) where
  node : Sound S.table S.word k
  node = sound-of S h.clear k h.is

  pub offset : (x : ℕ) → x ≤ k → (x < length o) × (get_or o x 0 ≡ off_of S x)
  offset x l = (omega (arith, h.offsets.long, h.is.high), h.offsets.at x (omega (arith, h.is.high)))

  sided : (node_of S k).kind ≡ ITE → Sided S k
  sided e =
      let q = chosen node.sort e in
      record {
        a-some = node.operands.a-used (rw e);
        a-less = node.operands.a;
        b-some = node.operands.b-used (rw e);
        b-less = node.operands.b;
        c-some = node.operands.c-used (rw e);
        c-less = node.operands.c;
        one = q.0;
        left = q.1;
        right = q.2;
      }

  -- where an ite's condition stands
  cond-in : (node_of S k).kind ≡ ITE → off_of S (node_of S k).a + 1 ≤ long
  cond-in e =
      let d = sided e in
      let w : wide_of S (node_of S k).a ≡ 1 = word_wide S (node_of S k).a (omega (arith, d.one)) ∙ d.one in
      let n : words_of S (node_of S k).a ≡ 1 = word-words S (node_of S k).a (omega (arith, d.one)) in
      let q : words_of S (node_of S k).a * wide_of S (node_of S k).a ≡ 1 = rw (w, n) in
      omega (arith, place-within S o long k (node_of S k).a h d.a-some (omega (arith, d.a-less)), q)

  cond-at : (m : List ℕ) → (node_of S k).kind ≡ ITE → condition_of S m k ≡ get_or m (off_of S (node_of S k).a) 0
  cond-at m e =
      let d = sided e in
      let w : 0 < wide_of S (node_of S k).a = omega (arith, word_wide S (node_of S k).a (omega (arith, d.one)), d.one) in
      let z : off_of S (node_of S k).a + 0 * wide_of S (node_of S k).a + 0 ≡ off_of S (node_of S k).a = omega arith in
      part_at m (off_of S (node_of S k).a + 0 * wide_of S (node_of S k).a) (wide_of S (node_of S k).a) 0 w ∙ rw z

  module _ (d : Node) (same : d ≡ node_of S k) where
    pub operands-in : (d.a < length o) × (d.b < length o) × (d.c < length o)
    operands-in =
        rw same (
          (offset (node_of S k).a (omega (arith, node.operands.a))).0,
          (offset (node_of S k).b (omega (arith, node.operands.b))).0,
          (offset (node_of S k).c (omega (arith, node.operands.c))).0,
        )

    pub a_in : d.a ≤ nodes S.table
    a_in = rw same (omega (arith, node.operands.a, h.is.high))

    pub cond-asks : d.kind ≡ ITE → (d.a < length o) × (get_or o d.a 0 < long)
    cond-asks = rw same (λ e. let q = offset (node_of S k).a (omega (arith, (sided e).a-less)) in (q.0, omega (arith, q.1, cond-in e)))

    module _ (m : List ℕ) (cond : ℕ) (c : cond ≡ pick (eqb d.kind ITE) (get_or m (get_or o d.a 0) 0) 0) where
      pub cond-path : d.kind ≡ ITE → cond ≡ condition_of S m k
      unfolding pick
      cond-path e =
          let f : (node_of S k).kind ≡ ITE = ap (λ (x : Node). x.kind) (sym same) ∙ e in
          let u : get_or o d.a 0 ≡ off_of S (node_of S k).a = rw same (offset (node_of S k).a (omega (arith, (sided f).a-less))).1 in
          c ∙ rw (e, u) (sym (cond-at m f))

      second-known : d.kind ≡ ITE → (r : ℕ) → r ≡ pick (eqb d.kind ITE && eqb cond 0) d.c d.b → r ≡ second_of S m k
      unfolding second_of
      second-known e r q = rw (same, cond-path e) at q

      second-other : (d.kind ≡ ITE → ⊥) → (r : ℕ) → r ≡ pick (eqb d.kind ITE && eqb cond 0) d.c d.b → r ≡ second_of S m k
      unfolding pick
      second-other e r q = (rw (ne_eqb d.kind ITE e) at q) ∙ ap (λ (x : Node). x.b) same ∙ sym (second-else S m k (λ z. e (ap (λ (x : Node). x.kind) same ∙ z)))

      third-known : d.kind ≡ ITE → (r : ℕ) → r ≡ pick (eqb d.kind ITE && is_known cond) 0 d.c → r ≡ third_of S m k
      unfolding third_of
      third-known e r q = rw (same, cond-path e) at q

      third-other : (d.kind ≡ ITE → ⊥) → (r : ℕ) → r ≡ pick (eqb d.kind ITE && is_known cond) 0 d.c → r ≡ third_of S m k
      unfolding pick
      third-other e r q = (rw (ne_eqb d.kind ITE e) at q) ∙ ap (λ (x : Node). x.c) same ∙ sym (third-else S m k (λ z. e (ap (λ (x : Node). x.kind) same ∙ z)))

      -- what is visited second and third
      pub second-path : (r : ℕ) → r ≡ pick (eqb d.kind ITE && eqb cond 0) d.c d.b → r ≡ second_of S m k
      second-path r q = go (eqb d.kind ITE) refl
        where
          go : (b : Bool) → eqb d.kind ITE ≡ b → r ≡ second_of S m k
          go true e = second-known (eqb-true d.kind ITE e) r q
          go false e = second-other (eqb-false d.kind ITE e) r q

      pub third-path : (r : ℕ) → r ≡ pick (eqb d.kind ITE && is_known cond) 0 d.c → r ≡ third_of S m k
      third-path r q = go (eqb d.kind ITE) refl
        where
          go : (b : Bool) → eqb d.kind ITE ≡ b → r ≡ third_of S m k
          go true e = third-known (eqb-true d.kind ITE e) r q
          go false e = third-other (eqb-false d.kind ITE e) r q

      -- the own step of an ite with a known condition
      pub side-asks : d.kind ≡ ITE → (r : ℕ) → r ≡ pick (eqb d.kind ITE && eqb cond 0) d.c d.b → (1 ≤ r) × (r < k) × (words_of S k ≡ words_of S r)
      side-asks e r q =
          let f : (node_of S k).kind ≡ ITE = ap (λ (x : Node). x.kind) (sym same) ∙ e in
          rw (q, same)
          (by-pick (λ (x : ℕ). (1 ≤ x) × (x < k) × (words_of S k ≡ words_of S x)) (eqb (node_of S k).kind ITE && eqb cond 0) (node_of S k).c (node_of S k).b
          (λ _. ((sided f).c-some, (sided f).c-less, sym (same-words S (node_of S k).c k (sided f).right)))
          (λ _. ((sided f).b-some, (sided f).b-less, sym (same-words S (node_of S k).b k (sided f).left))))

      pub ite-known : d.kind ≡ ITE → (r : ℕ) → r ≡ pick (eqb d.kind ITE && eqb cond 0) d.c d.b → (b : Bool) → b ≡ is_known cond → b ≡ true → (s : Net) (m' : List ℕ)
          → Mapped (each_word S k (share_word S 0 r)) m m' → Turned (ite_own S k) s m s m'
      unfolding ite_own
      ite-known e r q b u t s m' f = λ c nc.
          rw (second-path r q) at (f s c nc)
          ∙ sym (pick_true (is_known (condition_of S m k)) _ _ (rw (← cond-path e) (sym u ∙ t)))

      pub ite-open : d.kind ≡ ITE → (b : Bool) → b ≡ is_known cond → b ≡ false → (s s' : Net) (m' : List ℕ) → Turned (each_word S k (choose_word S k)) s m s' m' → Turned (ite_own S k) s m s' m'
      unfolding ite_own
      ite-open e b u t s s' m' f = λ c nc.
          f c nc
          ∙ sym (pick-false (is_known (condition_of S m k)) _ _ (rw (← cond-path e) (sym u ∙ t)))

-- and with an unknown one
pub record Chooses (list : GateList) (long cond left right : ℕ) (p : Place) : Type 0 where
  pub room : Fits list (3 * (p.words * p.wide))
  pub small : p.wide ≤ 64
  pub cond-within : cond < long
  pub left-within : left + p.words * p.wide ≤ long
  pub right-within : right + p.words * p.wide ≤ long
  pub within : p.off + p.words * p.wide ≤ long

module _ (S : Source) (o : List ℕ) (list : GateList) (long k : ℕ) (h : Makes S o list long k) (d : Node) (same : d ≡ node_of S k) (e : d.kind ≡ ITE) (p : Place) (q : p ≡ place_of S k) where
  ite : (node_of S k).kind ≡ ITE
  ite = ap (λ (x : Node). x.kind) (sym same) ∙ e

  sides : Sided S k
  sides = sided S o long k h.stands ite

  ite_room : gates_of S k ≡ 3 * (words_of S k * wide_of S k)
  unfolding ite_gates
  ite_room =
      gates-of S k h.stands.is.low ∙ top-ite (listed S) S.word (node_of S k) (width_of S.table (node_of S k).a) ite
      ∙ ap (λ (n : ℕ). 3 * n) (sym (bits-size S k h.stands.is.low) ∙ bits-words S k h.stands.is.low)

  at_of : (x : ℕ) → x < k → get_or o x 0 ≡ off_of S x
  at_of x l = (offset S o long k h.stands x (omega arith)).1

  choose-all : Chooses list long (off_of S (node_of S k).a) (off_of S (node_of S k).b) (off_of S (node_of S k).c) (place_of S k)
  choose-all =
      record {
        room = omega (arith, h.room, ite_room);
        small = wide-small S h.stands.clear k;
        cond-within = omega (arith, cond-in S o long k h.stands ite);
        left-within =
            rw (← same-words S (node_of S k).b k sides.left, ← same-wide S (node_of S k).b k sides.left)
            (place-within S o long k (node_of S k).b h.stands sides.b-some (omega (arith, sides.b-less)));
        right-within =
            rw (← same-words S (node_of S k).c k sides.right, ← same-wide S (node_of S k).c k sides.right)
            (place-within S o long k (node_of S k).c h.stands sides.c-some (omega (arith, sides.c-less)));
        within = place-within S o long k k h.stands h.stands.is.low (omega arith);
      }

  pub choose-asks : Chooses list long (get_or o d.a 0) (get_or o d.b 0) (get_or o d.c 0) p
  choose-asks = rw (q, same, at_of (node_of S k).a sides.a-less, at_of (node_of S k).b sides.b-less, at_of (node_of S k).c sides.c-less) choose-all

  choose-same : (i : ℕ) (x : Core)
      → choices (off_of S (node_of S k).a) (off_of S (node_of S k).b) (off_of S (node_of S k).c) (wide_of S k) i (as_is x.net x.map) ≡ choose_word S k i x
  unfolding choices choose_word
  choose-same i x = rw (cond-at S o long k h.stands x.map ite, same-wide S (node_of S k).b k sides.left, same-wide S (node_of S k).c k sides.right)

  pub choose-turn : (s : Net) (m : List ℕ) (s' : Net) (m' : List ℕ)
      → as_is s' m' ≡ iter p.words (placed p.off p.wide (choices (get_or o d.a 0) (get_or o d.b 0) (get_or o d.c 0) p.wide)) (as_is s m)
      → Turned (each_word S k (choose_word S k)) s m s' m'
  choose-turn s m s' m' u =
      words-turn S k (choices (off_of S (node_of S k).a) (off_of S (node_of S k).b) (off_of S (node_of S k).c) (wide_of S k)) (choose_word S k) choose-same (place_of S k) s m s' m' refl
      (rw (q, same, at_of (node_of S k).a sides.a-less, at_of (node_of S k).b sides.b-less, at_of (node_of S k).c sides.c-less) at u)
