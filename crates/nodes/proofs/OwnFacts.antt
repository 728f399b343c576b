-- What a table without fault gives to the code that tells a node's own step by its kind.
use mathlib.Core.Path.{◌≡◌, ap, sym, ◌∙◌, subst}
use mathlib.Core.List.{List}
use mathlib.Core.Logic.{inl, inr}
use mathlib.Core.Bool.{true, false}
use Prim.Native.Nat.{ℕ, ◌+◌, ◌-◌, ◌*◌, ◌≤◌, ◌<◌}
use native.Mathlib.Omega.{arith}
use lib.ListN.{length, get_or}
use borrow.Author.Tests.{eq-eqb, ne_eqb}
use Rattle.loops.proofs.Loop.{pick_true, pick-false}
use Rattle.table.specs.declared.Node.{Node}
use Rattle.table.specs.Kind.{ITE, READ, WRITE, SEXT, uses_a, divides}
use Rattle.table.specs.Node.{width_of, given}
use Rattle.table.proofs.Whole.{Sound, Rule, Extended, is-const, is-input, is_state, is-op, is-bad, is-ext, is-ite, is-divu, is-rem, is_read, is-write, is-sext}
use Rattle.values.proofs.Seen.{initial}
use Rattle.netlist.specs.Net.{Net}
use Rattle.visits.specs.Flow.{Core}
use Rattle.division.specs.declared.lists.Lists.{Lists}
use Rattle.nodes.specs.declared.place.Place.{Place}
use Rattle.nodes.specs.Source.{Source, node_of, words_of, wide_of, off_of}
use Rattle.nodes.specs.Own.{shares, each_word, input_word, share_word, above_of, read_word, word_own, ite_own, divide_own, write_own, own_step}
use Rattle.nodes.specs.Asked.{Stands, Makes, Owns, Plain, place_of, core_of, Turned, Mapped}
use Rattle.nodes.proofs.Places.{word-words, word_wide, sound-of, part_at}
use Rattle.nodes.proofs.ShareLaws.{same-words}
use Rattle.nodes.proofs.OpKinds.{op-plain}
use Rattle.nodes.proofs.OwnKinds.{by-input, by-share, by-ite, by-divide, by_read, by-write, by_word}
use Rattle.nodes.proofs.Facts.{word_in}
use Rattle.nodes.proofs.WordFacts.{clash}

-- the operand whose bits a node shares; a sext's has a top bit
pub record Shared (S : Source) (k x : ℕ) : Type 0 where
  pub some : 1 ≤ x
  pub less : x < k
  pub words : words_of S k ≡ words_of S x
  pub top : (node_of S k).kind ≡ SEXT → 1 ≤ width_of S.table x

module _ (S : Source) (k : ℕ) (node : Sound S.table S.word k) (g : given (node_of S k) ≡ false) (h : shares (node_of S k) ≡ true) where
  -- it is an initial node, or the operand of a bad or of an extension
  longer : uses_a (node_of S k).kind ≡ true → Extended (node_of S k).width (width_of S.table (node_of S k).a) → Shared S k (node_of S k).a
  longer u v =
      record {
        some = node.operands.a-used u;
        less = node.operands.a;
        words = word-words S k (omega (arith, v.word, v.wide)) ∙ sym (word-words S (node_of S k).a v.word);
        top = λ _. v.word;
      }

  shared : Rule S.word (node_of S k) (width_of S.table (node_of S k).a) (width_of S.table (node_of S k).b) (width_of S.table (node_of S k).c) → Shared S k (node_of S k).a
  shared (is_state e (inl z)) = absurd (omega (arith, initial (node_of S k) e g))
  shared (is_state e (inr v)) = record { some = initial (node_of S k) e g; less = node.operands.a; words = same-words S k (node_of S k).a (sym v); top = λ z. absurd (omega arith) }
  shared (is-bad e v va) = record { some = node.operands.a-used (rw e); less = node.operands.a; words = same-words S k (node_of S k).a (v ∙ sym va); top = λ z. omega arith }
  shared (is-ext e v) = longer (rw e) v
  shared (is-sext e v) = longer (rw e) v
  shared (is-op o e v) = clash (sym h ∙ (op-plain o (node_of S k) e).shares)
  shared (is-const e v i) = clash (sym h ∙ rw e)
  shared (is-input e) = clash (sym h ∙ rw e)
  shared (is-ite e va vb vc) = clash (sym h ∙ rw e)
  shared (is-divu e v) = clash (sym h ∙ rw e)
  shared (is-rem e v) = clash (sym h ∙ rw e)
  shared (is_read e v va vb) = clash (sym h ∙ rw e)
  shared (is-write e v va vb vc) = clash (sym h ∙ rw e)

-- a step that the kind comes to is the own step
as-made : (S : Source) (k : ℕ) (f : Core → Core) → ((s : Core) → own_step S k s ≡ f s) → (s : Net) (m : List ℕ) (s' : Net) (m' : List ℕ) → Turned f s m s' m' → Turned (own_step S k) s m s' m'
as-made S k f same s m s' m' t = λ c nc. t c nc ∙ sym (same _)

module _ (S : Source) (o : List ℕ) (long k : ℕ) (h : Stands S o long k) (d : Node) (same : d ≡ node_of S k) where
  kind : d.kind ≡ (node_of S k).kind
  kind = ap (λ (x : Node). x.kind) same

  pub given-asks : given d ≡ true → given (node_of S k) ≡ true
  given-asks g = rw same at g

  pub share-asks : given d ≡ false → shares d ≡ true → Shared S k d.a
  share-asks g e = rw same (shared S k (sound-of S h.clear k h.is) (rw same at g) (rw same at e) (sound-of S h.clear k h.is).sort)

  module _ (s : Net) (m : List ℕ) (s' : Net) (m' : List ℕ) where
    pub input-made : given d ≡ true → Turned (each_word S k (input_word S k)) s m s' m' → Turned (own_step S k) s m s' m'
    input-made g = as-made S k _ (λ t. by-input S k t (given-asks g)) s m s' m'

    pub ite-made : d.kind ≡ ITE → Turned (ite_own S k) s m s' m' → Turned (own_step S k) s m s' m'
    ite-made e = as-made S k _ (λ t. by-ite S k t (sym kind ∙ e)) s m s' m'

    pub read_made : d.kind ≡ READ → Turned (each_word S k (read_word S k)) s m s' m' → Turned (own_step S k) s m s' m'
    read_made e = as-made S k _ (λ t. by_read S k t (sym kind ∙ e)) s m s' m'

    pub write-made : d.kind ≡ WRITE → Turned (write_own S k) s m s' m' → Turned (own_step S k) s m s' m'
    write-made e = as-made S k _ (λ t. by-write S k t (sym kind ∙ e)) s m s' m'

    pub word_made : Plain d → Turned (each_word S k (word_own S k)) s m s' m' → Turned (own_step S k) s m s' m'
    word_made p = as-made S k _ (λ t. by_word S k t (subst (λ (x : Node). Plain x) same p)) s m s' m'

  -- what stands above the shared bits
  pub above-none : (d.kind ≡ SEXT → ⊥) → (m : List ℕ) → 0 ≡ above_of S m k
  unfolding above_of
  above-none ne m = sym (pick-false _ _ _ (ne_eqb (node_of S k).kind SEXT (λ z. ne (kind ∙ z))))

  module _ (e : d.kind ≡ SEXT) (p : Place) (at : p ≡ place_of S d.a) where
    signed : (node_of S k).kind ≡ SEXT
    signed = sym kind ∙ e

    below : Shared S k (node_of S k).a
    below = shared S k (sound-of S h.clear k h.is) (rw signed) (rw signed) (sound-of S h.clear k h.is).sort

    place : p ≡ place_of S (node_of S k).a
    place = at ∙ ap (λ (x : Node). place_of S x.a) same

    some-wide : 1 ≤ wide_of S (node_of S k).a
    some-wide = omega (arith, word_wide S (node_of S k).a (below.top signed), below.top signed)

    pub above_in : (1 ≤ p.wide) × (p.off + p.wide ≤ long)
    above_in = rw place (some-wide, word_in S o long k (node_of S k).a h below.some (omega (arith, below.less)) (below.top signed))

    above-top : (m : List ℕ) → get_or m (off_of S (node_of S k).a + wide_of S (node_of S k).a - 1) 0 ≡ above_of S m k
    unfolding above_of
    above-top m =
        let A : ℕ = (node_of S k).a in
        let z : off_of S A + 0 * wide_of S A + (wide_of S A - 1) ≡ off_of S A + wide_of S A - 1 = omega (arith, some-wide) in
        sym (pick_true _ _ _ (eq-eqb (node_of S k).kind SEXT signed) ∙ (part_at m (off_of S A + 0 * wide_of S A) (wide_of S A) (wide_of S A - 1) (omega (arith, some-wide)) ∙ ap (λ (i : ℕ). get_or m i 0) z))

    pub above-path : (m : List ℕ) → get_or m (p.off + p.wide - 1) 0 ≡ above_of S m k
    above-path m = rw place (above-top m)

  pub share-made : given d ≡ false → shares d ≡ true → (s : Net) (m m' : List ℕ) (a : ℕ) → a ≡ above_of S m k → Mapped (each_word S k (share_word S a d.a)) m m' → Turned (own_step S k) s m s m'
  share-made g e s m m' a q t =
      as-made S k (λ (u : Core). each_word S k (share_word S (above_of S u.map k) (node_of S k).a) u) (λ u. by-share S k u (rw same at g) (rw same at e)) s m s m'
      (λ c nc. rw (q, same) at (t s c nc))

-- none of the kinds that are told before
pub plainly : (d : Node) → given d ≡ false → shares d ≡ false → (d.kind ≡ ITE → ⊥) → divides d.kind ≡ false → (d.kind ≡ READ → ⊥) → (d.kind ≡ WRITE → ⊥) → Plain d
plainly d g h i v r w =
    record { given = g; shares = h; chooses = ne_eqb d.kind ITE i; divides = v; reads = ne_eqb d.kind READ r; writes = ne_eqb d.kind WRITE w }

-- the room of a node's own gates
pub makes : {S : Source} {o m : List ℕ} {k : ℕ} (l : Lists) → Owns S o k (core_of l m) → Makes S o l.gates (length m) k
makes l h = record { stands = h.stands; room = (h.room, h.cap) }

-- the own step of a division
pub own-divided : (S : Source) (k : ℕ) (s : Core) (d : Node) → d ≡ node_of S k → divides d.kind ≡ true → (r : Core) → r ≡ divide_own S k s → r ≡ own_step S k s
own-divided S k s d same v r e = e ∙ sym (by-divide S k s (rw same at v))
