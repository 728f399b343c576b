-- What a table without fault gives to the code of the plain words.
use mathlib.Core.Path.{◌≡◌, refl, ap, sym, ◌∙◌, subst}
use mathlib.Core.List.{List}
use mathlib.Core.Logic.{◌⊎◌, inl, inr}
use mathlib.Core.Bool.{Bool, true, false}
use Prim.Native.Nat.{ℕ, ◌+◌, ◌*◌, ◌≤◌, ◌<◌}
use native.Mathlib.Omega.{arith}
use lib.ListN.{length, get_or, take, drop}
use borrow.Author.Tests.{eq-eqb, ne_eqb}
use Rattle.loops.specs.Loop.{iter}
use Rattle.loops.proofs.Loop.{pick_true, pick-false}
use Rattle.table.specs.declared.Node.{Node}
use Rattle.table.specs.Kind.{CONST, NOT, uses_a, uses_b, compares}
use Rattle.table.specs.Node.{width_of}
use Rattle.table.specs.Ceiling.{ceiling}
use Rattle.table.proofs.Whole.{Sound, Rule, OpSort, is-const, is-input, is_state, is-op, is-bad, is-ext, is-ite, is-divu, is-rem, is_read, is-write, is-sext}
use Rattle.table.specs.Op.{op_kind}
use Rattle.table.proofs.Ops.{op-a, op-b, op-compares}
use Rattle.table.proofs.ceiling.ByKind.{top-op}
use Rattle.digits.specs.Op.{Op, op_not, op_two}
use Rattle.digits.proofs.Ops.{op-even, op-some}
use Rattle.words.specs.Op.{op_into}
use Rattle.netlist.specs.Net.{Net}
use Rattle.gates.specs.declared.list.GateList.{GateList}
use Rattle.gates.specs.Made.{Fits}
use Rattle.digits.specs.Digits.{put_digits}
use Rattle.words.specs.Num.{blank}
use Rattle.words.specs.Each.{Word, put_bits}
use Rattle.visits.specs.Flow.{Core}
use Rattle.visits.specs.Stored.{stored}
use Rattle.nodes.specs.declared.place.Place.{Place}
use Rattle.nodes.specs.Source.{Source, listed, node_of, words_of, wide_of, off_of, gates_of, word_at}
use Rattle.nodes.specs.Own.{as_is, plain_word, word_own, word_step, each_word}
use Rattle.nodes.specs.Place.{plain_at}
use Rattle.nodes.specs.Asked.{Makes, Plain, right_of, place_of, core_at, Turned}
use Rattle.nodes.proofs.Places.{word-words, word_wide, gates-of, sound-of}
use Rattle.nodes.proofs.StepLaws.{wide-small}
use Rattle.nodes.proofs.Paths.{plain-const}
use Rattle.nodes.proofs.OpKinds.{plain-is, only-not}
use Rattle.nodes.proofs.Facts.{word_in, part-first, offset}

-- one word of the whole state
module _ (S : Source) (k : ℕ) (F : ℕ → Core → Word) (one : words_of S k ≡ 1) where
  one-turn : (s : Net) (m : List ℕ) (s' : Net) (out m' : List ℕ) → ((c : List ℕ) (nc : ℕ) → as_is s' out ≡ F 0 (core_at s c nc m)) → m' ≡ put_bits (off_of S k) out (wide_of S k) m
      → Turned (each_word S k F) s m s' m'
  unfolding iter word_step stored
  one-turn s m s' out m' f e = λ c nc.
      let z : off_of S k + 0 * wide_of S k ≡ off_of S k = omega arith in
      rw (one, z, e) (ap {B = Core} (λ (y : Word). core_at y.net c nc (put_bits (off_of S k) y.out (wide_of S k) m)) (f c nc))

pub clash : {A : Type 0} → ◌≡◌ {A = Bool} true false → A
clash e = absurd (let z : ◌≡◌ {A = ℕ} 0 1 = cc e in omega arith)

-- what is made of operands' words: how wide they are, and what it may cost
pub record OfWords (d : Node) (n w va : ℕ) : Type 0 where
  pub own : 1 ≤ d.width
  pub word : 1 ≤ va
  pub uses : uses_a d.kind ≡ true
  pub cost : ceiling n w d va ≡ ceiling 0 0 d va
  pub even : compares d.kind ≡ false → d.width ≡ va

pub data Sort (d : Node) (n w va vb : ℕ) : Type 0 where
  number : d.kind ≡ CONST → 1 ≤ d.width → Sort d n w va vb
  of_one : d.kind ≡ NOT → OfWords d n w va → Sort d n w va vb
  of_two : (d.kind ≡ NOT → ⊥) → uses_b d.kind ≡ true → vb ≡ va → OfWords d n w va → Sort d n w va vb

of_words : (d : Node) (n : ℕ) {w va vb : ℕ} (o : Op) → d.kind ≡ op_kind o → OpSort o d.width va vb → OfWords d n w va
of_words d n o e z =
    record {
      own = omega (arith, z.wide, op-some o _ z.word);
      word = z.word;
      uses = ap uses_a e ∙ op-a o;
      cost = top-op _ _ d _ o e ∙ sym (top-op 0 0 d _ o e);
      even = λ c. op-even o z.wide (sym (op-compares o) ∙ (sym (ap compares e) ∙ c));
    }

sort-op : (d : Node) (n : ℕ) {w va vb : ℕ} (o : Op) → d.kind ≡ op_kind o → OpSort o d.width va vb → (b : Bool) → op_two o ≡ b → Sort d n w va vb
sort-op d n o e z true h =
    let u : uses_b d.kind ≡ true = ap uses_b e ∙ (op-b o ∙ h) in of_two (λ q. clash (sym u ∙ ap uses_b q)) u (z.same h) (of_words d n o e z)
sort-op d n o e z false h = of_one (e ∙ only-not o h) (of_words d n o e z)

sort : (d : Node) (n : ℕ) {w va vb vc : ℕ} → Plain d → Rule w d va vb vc → Sort d n w va vb
sort d n p (is-const e a b) = number e a
sort d n p (is-input e) = clash (rw e at p.given)
sort d n p (is_state e a) = clash (rw e at p.shares)
sort d n p (is-op o e z) = sort-op d n o e z (op_two o) refl
sort d n p (is-bad e a b) = clash (rw e at p.shares)
sort d n p (is-ext e s) = clash (rw e at p.shares)
sort d n p (is-ite e a b c) = clash (rw e at p.chooses)
sort d n p (is-sext e s) = clash (rw e at p.shares)
sort d n p (is-divu e s) = clash (rw e at p.divides)
sort d n p (is-rem e s) = clash (rw e at p.divides)
sort d n p (is_read e a b c) = clash (rw e at p.reads)
sort d n p (is-write e a b c f) = clash (rw e at p.writes)

-- a not looks at one word alone
not-any : (d : Node) (v : ℕ) (A B B' : List ℕ) (s : Net) → d.kind ≡ NOT → plain_word d v A B s ≡ plain_word d v A B' s
unfolding op_into
not-any d v A B B' s f = plain-is d v A B s op_not f ∙ sym (plain-is d v A B' s op_not f)

-- what plain_node is asked for, over the operand's word and that of `right`
pub record Asks (list : GateList) (long : ℕ) (d : Node) (left : Place) (right : ℕ) (p : Place) : Type 0 where
  pub room : Fits list (ceiling 0 0 d left.wide)
  pub even : compares d.kind ≡ false → d.width ≡ left.wide
  pub some : 1 ≤ left.wide
  pub small : left.wide ≤ 64
  pub own : d.width ≤ 64
  pub left-within : left.off + left.wide ≤ long
  pub right-within : right + left.wide ≤ long
  pub within : p.off + d.width ≤ long

module _ (S : Source) (o : List ℕ) (list : GateList) (long k : ℕ) (h : Makes S o list long k) where
  node : Sound S.table S.word k
  node = sound-of S h.stands.clear k h.stands.is

  kind_of : Plain (node_of S k) → Sort (node_of S k) (listed S) S.word (width_of S.table (node_of S k).a) (width_of S.table (node_of S k).b)
  kind_of p = sort (node_of S k) (listed S) p node.sort

  pub const-asks : (d : Node) → d ≡ node_of S k → Plain d → d.kind ≡ CONST → (p : Place) → p ≡ place_of S k → (p.wide ≤ 64) × (p.off + p.wide ≤ long)
  const-asks d same pl e p q = rw q (wide-small S h.stands.clear k, word_in S o long k k h.stands h.stands.is.low (omega arith) (go (kind_of (subst (λ (x : Node). Plain x) same pl))))
    where
      go : Sort (node_of S k) (listed S) S.word (width_of S.table (node_of S k).a) (width_of S.table (node_of S k).b) → 1 ≤ width_of S.table k
      go (number f w) = w
      go (of_one f w) = w.own
      go (of_two f u v w) = w.own

  own-word : Plain (node_of S k) → 1 ≤ width_of S.table k
  own-word pl = go (kind_of pl)
    where
      go : Sort (node_of S k) (listed S) S.word (width_of S.table (node_of S k).a) (width_of S.table (node_of S k).b) → 1 ≤ width_of S.table k
      go (number f w) = w
      go (of_one f w) = w.own
      go (of_two f u v w) = w.own

  module _ (d : Node) (same : d ≡ node_of S k) (pl : Plain d) (p : Place) (q : p ≡ place_of S k) where
    own-plain : 1 ≤ width_of S.table k
    own-plain = own-word (subst (λ (x : Node). Plain x) same pl)

    pub const-turn : d.kind ≡ CONST → (s : Net) (m m' : List ℕ) → m' ≡ put_bits p.off (put_digits d.imm p.wide blank) p.wide m → Turned (each_word S k (word_own S k)) s m s m'
    unfolding word_own
    const-turn e s m m' u =
        one-turn S k (word_own S k) (word-words S k own-plain) s m s (put_digits (node_of S k).imm (wide_of S k) blank) m'
        (λ c nc. plain-const (node_of S k) _ _ _ s _ blank refl (ap (λ (x : Node). x.kind) (sym same) ∙ e) (ap {B = Word} (λ (w : ℕ). as_is s (put_digits (node_of S k).imm w blank)) (word_wide S k own-plain)))
        (rw (q, same) at u)

  -- the operands of a node that is no const
  pub record Two (d : Node) : Type 0 where
    pub of : OfWords d (listed S) S.word (width_of S.table d.a)
    pub a-some : 1 ≤ d.a
    pub right-some : 1 ≤ right_of d
    pub right-less : right_of d < k
    pub right-wide : width_of S.table (right_of d) ≡ width_of S.table d.a
    pub reads : (right_of d ≡ d.b) ⊎ (d.kind ≡ NOT)

  one-two : (node_of S k).kind ≡ NOT → OfWords (node_of S k) (listed S) S.word (width_of S.table (node_of S k).a) → Two (node_of S k)
  one-two f w =
      let r : right_of (node_of S k) ≡ (node_of S k).a = pick_true _ _ _ (eq-eqb _ _ f) in
      record {
        of = w;
        a-some = node.operands.a-used w.uses;
        right-some = rw r (node.operands.a-used w.uses);
        right-less = rw r node.operands.a;
        right-wide = ap (λ (x : ℕ). width_of S.table x) r;
        reads = inr f;
      }

  two-two : ((node_of S k).kind ≡ NOT → ⊥) → uses_b (node_of S k).kind ≡ true → width_of S.table (node_of S k).b ≡ width_of S.table (node_of S k).a
      → OfWords (node_of S k) (listed S) S.word (width_of S.table (node_of S k).a) → Two (node_of S k)
  two-two f u v w =
      let r : right_of (node_of S k) ≡ (node_of S k).b = pick-false _ _ _ (ne_eqb _ _ f) in
      record {
        of = w;
        a-some = node.operands.a-used w.uses;
        right-some = rw r (node.operands.b-used u);
        right-less = rw r node.operands.b;
        right-wide = ap (λ (x : ℕ). width_of S.table x) r ∙ v;
        reads = inl r;
      }

  two : Plain (node_of S k) → ((node_of S k).kind ≡ CONST → ⊥) → Two (node_of S k)
  two pl ne = go (kind_of pl)
    where
      go : Sort (node_of S k) (listed S) S.word (width_of S.table (node_of S k).a) (width_of S.table (node_of S k).b) → Two (node_of S k)
      go (number f w) = absurd (ne f)
      go (of_one f w) = one-two f w
      go (of_two f u v w) = two-two f u v w

  module _ (t : Two (node_of S k)) where
    left-wide : wide_of S (node_of S k).a ≡ width_of S.table (node_of S k).a
    left-wide = word_wide S (node_of S k).a t.of.word

    right-same : wide_of S (right_of (node_of S k)) ≡ wide_of S (node_of S k).a
    right-same = word_wide S (right_of (node_of S k)) (omega (arith, t.right-wide, t.of.word)) ∙ t.right-wide ∙ sym left-wide

    all-asks : Asks list long (node_of S k) (place_of S (node_of S k).a) (off_of S (right_of (node_of S k))) (place_of S k)
    all-asks =
        let c : gates_of S k ≡ ceiling 0 0 (node_of S k) (wide_of S (node_of S k).a) = gates-of S k h.stands.is.low ∙ t.of.cost ∙ ap (λ (x : ℕ). ceiling 0 0 (node_of S k) x) (sym left-wide) in
        record {
          room = omega (arith, h.room, c);
          even = λ z. t.of.even z ∙ sym left-wide;
          some = omega (arith, left-wide, t.of.word);
          small = wide-small S h.stands.clear (node_of S k).a;
          own = node.narrow;
          left-within = word_in S o long k (node_of S k).a h.stands t.a-some (omega (arith, node.operands.a)) t.of.word;
          right-within =
              omega (arith, word_in S o long k (right_of (node_of S k)) h.stands t.right-some (omega (arith, t.right-less)) (omega (arith, t.right-wide, t.of.word)), right-same);
          within = omega (arith, word_in S o long k k h.stands h.stands.is.low (omega arith) t.of.own, word_wide S k t.of.own);
        }

    left-path : (s : Net) (m : List ℕ)
        → plain_word (node_of S k) (wide_of S (node_of S k).a) (take (wide_of S (node_of S k).a) (drop (off_of S (node_of S k).a) m)) (take (wide_of S (node_of S k).a) (drop (off_of S (right_of (node_of S k))) m)) s
        ≡ plain_word (node_of S k) (wide_of S (node_of S k).a) (word_at S m (node_of S k).a 0) (take (wide_of S (node_of S k).a) (drop (off_of S (right_of (node_of S k))) m)) s
    left-path s m =
        ap (λ (l : List ℕ). plain_word (node_of S k) (wide_of S (node_of S k).a) l (take (wide_of S (node_of S k).a) (drop (off_of S (right_of (node_of S k))) m)) s) (part-first S m (node_of S k).a)

    right-part : (m : List ℕ) → take (wide_of S (node_of S k).a) (drop (off_of S (right_of (node_of S k))) m) ≡ word_at S m (right_of (node_of S k)) 0
    right-part m = ap (λ (w : ℕ). take w (drop (off_of S (right_of (node_of S k))) m)) (sym right-same) ∙ part-first S m (right_of (node_of S k))

    all-path : (s : Net) (m : List ℕ) (c : List ℕ) (nc : ℕ)
        → plain_word (node_of S k) (wide_of S (node_of S k).a) (take (wide_of S (node_of S k).a) (drop (off_of S (node_of S k).a) m)) (take (wide_of S (node_of S k).a) (drop (off_of S (right_of (node_of S k))) m)) s
        ≡ word_own S k 0 (core_at s c nc m)
    unfolding word_own
    all-path s m c nc = go t.reads
      where
        go : (right_of (node_of S k) ≡ (node_of S k).b) ⊎ ((node_of S k).kind ≡ NOT)
            → plain_word (node_of S k) (wide_of S (node_of S k).a) (take (wide_of S (node_of S k).a) (drop (off_of S (node_of S k).a) m)) (take (wide_of S (node_of S k).a) (drop (off_of S (right_of (node_of S k))) m)) s
            ≡ plain_word (node_of S k) (wide_of S (node_of S k).a) (word_at S m (node_of S k).a 0) (word_at S m (node_of S k).b 0) s
        go (inl r) = left-path s m ∙ ap (λ (l : List ℕ). plain_word (node_of S k) (wide_of S (node_of S k).a) (word_at S m (node_of S k).a 0) l s) (right-part m ∙ ap (λ (x : ℕ). word_at S m x 0) r)
        go (inr f) = left-path s m ∙ not-any (node_of S k) (wide_of S (node_of S k).a) (word_at S m (node_of S k).a 0) _ (word_at S m (node_of S k).b 0) s f

    plain-goes : (s : Net) (m : List ℕ) (s' : Net) (m' : List ℕ)
        → as_is s' m' ≡ plain_at (node_of S k) (wide_of S (node_of S k).a) (off_of S (node_of S k).a) (off_of S (right_of (node_of S k))) (off_of S k) (as_is s m) → Turned (each_word S k (word_own S k)) s m s' m'
    unfolding plain_at
    plain-goes s m s' m' u = λ c nc.
        let y : Word =
        plain_word (node_of S k) (wide_of S (node_of S k).a) (take (wide_of S (node_of S k).a) (drop (off_of S (node_of S k).a) m)) (take (wide_of S (node_of S k).a) (drop (off_of S (right_of (node_of S k))) m)) s in
        ap {B = Core} (λ (x : Word). core_at x.net c nc x.out) u
        ∙ one-turn S k (word_own S k) (word-words S k t.of.own) s m y.net y.out (put_bits (off_of S k) y.out (node_of S k).width m) (all-path s m)
        (ap (λ (w : ℕ). put_bits (off_of S k) y.out w m) (sym (word_wide S k t.of.own))) c nc

  module _ (d : Node) (same : d ≡ node_of S k) (pl : Plain d) (ne : d.kind ≡ CONST → ⊥) (p : Place) (q : p ≡ place_of S k) (left : Place) (l : left ≡ place_of S d.a) (r : ℕ) (e : r ≡ right_of d) where
    pair : Two (node_of S k)
    pair = two (subst (λ (x : Node). Plain x) same pl) (λ z. ne (ap (λ (x : Node). x.kind) same ∙ z))

    right-off : get_or o (right_of (node_of S k)) 0 ≡ off_of S (right_of (node_of S k))
    right-off = (offset S o long k h.stands (right_of (node_of S k)) (omega (arith, pair.right-less))).1

    right-at : get_or o r 0 ≡ off_of S (right_of (node_of S k))
    right-at = ap (λ (x : ℕ). get_or o x 0) (e ∙ ap (λ (x : Node). right_of x) same) ∙ right-off

    left_at : left ≡ place_of S (node_of S k).a
    left_at = l ∙ ap (λ (x : Node). place_of S x.a) same

    pub right-in : r < length o
    right-in = rw (e, same) (offset S o long k h.stands (right_of (node_of S k)) (omega (arith, pair.right-less))).0

    pub plain-asks : Asks list long d left (get_or o r 0) p
    plain-asks = rw (q, left_at, right-at, same) (all-asks pair)

    pub plain_turn : (s : Net) (m : List ℕ) (s' : Net) (m' : List ℕ) → as_is s' m' ≡ plain_at d left.wide left.off (get_or o r 0) p.off (as_is s m) → Turned (each_word S k (word_own S k)) s m s' m'
    plain_turn s m s' m' u = plain-goes pair s m s' m' (rw (q, left_at, right-at, same) at u)
