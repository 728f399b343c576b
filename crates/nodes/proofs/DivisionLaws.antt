-- The step of a division, from its law.
use Rattle.std.specs.Prelude.{Ok}
use mathlib.Core.Path.{◌≡◌, refl, ap, sym, ◌∙◌, subst}
use mathlib.Core.List.{List}
use mathlib.Core.Logic.{inl, inr}
use mathlib.Core.Bool.{Bool, true, false≢true}
use Prim.Native.Nat.{ℕ, ◌+◌, ◌*◌, ◌/◌, ◌≤◌, ◌<◌}
use native.Mathlib.Omega.{arith}
use native.Mathlib.Decide.{dec_lt}
use lib.Dec.{eqb}
use lib.ListN.{length, get_or}
use borrow.Author.Tests.{eqb-true}
use Rattle.loops.proofs.Loop.{either}
use Rattle.table.specs.declared.Node.{Node}
use Rattle.table.specs.Kind.{DIVU, REM, divides}
use Rattle.table.specs.Node.{width_of}
use Rattle.table.specs.Ceiling.{ceiling, div_gates, div_constraints}
use Rattle.table.specs.Sheet.{table_fault}
use Rattle.table.proofs.Whole.{Even}
use Rattle.table.proofs.ceiling.ByKind.{top-divu, top-rem, constraints-divide}
use Rattle.netlist.specs.Record.{Room}
use Rattle.netlist.specs.Net.{Net}
use Rattle.gates.specs.Law.{Grows}
use Rattle.gates.proofs.Laws.{grows-weaken}
use Rattle.words.specs.Num.{blank}
use Rattle.words.specs.Each.{put_bits, Put}
use Rattle.words.proofs.NumLaws.{blank-long}
use Rattle.words.proofs.EachLaws.{put-law}
use Rattle.division.specs.Constraint.{cons_of, con_gate, con_value, ConRoom, Within}
use Rattle.division.specs.Rows.{Checked}
use Rattle.division.specs.Check.{con_count}
use Rattle.division.specs.Divide.{divide_words, divide_cost, PlainLaw, DividedLaw, DivideLaw}
use Rattle.division.proofs.DivideLaws.{divide-law}
use Rattle.visits.specs.Flow.{Core}
use Rattle.visits.specs.Stored.{stored}
use Rattle.visits.specs.Claims.{Is, Step, Ready}
use Rattle.visits.proofs.Stored.{word-step, room_after}
use Rattle.nodes.specs.Source.{Source, listed, node_of, wide_of, bits_of, off_of, total_of, gates_of, asks_of, word_at}
use Rattle.nodes.specs.Own.{divide_own}
use Rattle.nodes.specs.Recipe.{recipe}
use Rattle.nodes.proofs.Places.{bits-words, off-inside, word-words, word_wide, gates-of, asks_of_lem}
use Rattle.nodes.proofs.ShapeLaws.{divides-two}
use Rattle.nodes.proofs.WordLaws.{Reads}
use Rattle.nodes.proofs.KindLaws.{Both}
use Rattle.nodes.proofs.StepLaws.{wide-small, both_words}

-- the ceilings
top-divides : (n w : ℕ) (d : Node) (x : ℕ) → divides d.kind ≡ true → ceiling n w d x ≡ div_gates d.width
top-divides n w d x h =
    either (eqb d.kind DIVU) (eqb d.kind REM) (ceiling n w d x ≡ div_gates d.width) (λ e. top-divu n w d x (eqb-true d.kind DIVU e))
    (λ e. top-rem n w d x (eqb-true d.kind REM e)) h

gates-enough : (v : ℕ) → divide_cost v ≤ div_gates v
unfolding div_gates
gates-enough v = omega arith

asks-enough : (v : ℕ) → con_count v ≡ div_constraints v
unfolding div_constraints
asks-enough v = refl

-- a division has room for its gates and its constraints
module _ (S : Source) (k : ℕ) (low : 1 ≤ k) (h : divides (node_of S k).kind ≡ true) (word : 1 ≤ width_of S.table k) where
  pub gates-room : divide_cost (wide_of S k) ≤ gates_of S k
  gates-room =
      let c : divide_cost (wide_of S k) ≡ divide_cost (node_of S k).width = ap (λ (n : ℕ). divide_cost n) (word_wide S k word) in
      omega (arith, gates-enough (node_of S k).width, gates-of S k low, top-divides (listed S) S.word (node_of S k) (width_of S.table (node_of S k).a) h)

  pub asked-for : con_count (wide_of S k) ≡ asks_of S k
  asked-for = ap (λ (n : ℕ). con_count n) (word_wide S k word) ∙ asks-enough (node_of S k).width ∙ sym (asks_of_lem S k low ∙ constraints-divide (node_of S k) h)

-- what was constrained before is as it was
same-before : (l t : List ℕ) (n : ℕ) → ((j : ℕ) → j < n → (con_gate t j ≡ con_gate l j) × (con_value t j ≡ con_value l j)) → (i : ℕ) → i < 2 * n → get_or t i 0 ≡ get_or l i 0
unfolding con_gate con_value
same-before l t n h i lt = go (dec_lt (2 * (i / 2)) i)
  where
    go : Dec (2 * (i / 2) < i) → get_or t i 0 ≡ get_or l i 0
    go (yes q) = let e : i ≡ 2 * (i / 2) + 1 = omega arith in rw e (h (i / 2) (omega arith)).1
    go (no q) = let e : i ≡ 2 * (i / 2) = omega arith in rw e (h (i / 2) (omega arith)).0

module _ (S : Source) (clear : table_fault S.table S.addrs S.word ≡ Ok tt) (k : ℕ) (is : Is (recipe S) k) (s : Core)
    (mapped : length s.map ≡ total_of S)
    (h : divides (node_of S k).kind ≡ true) (v : Even (node_of S k).width (width_of S.table (node_of S k).a) (width_of S.table (node_of S k).b)) where
  abbrev w : ℕ
  w = wide_of S k

  abbrev num : List ℕ
  num = word_at S s.map (node_of S k).a 0

  abbrev den : List ℕ
  den = word_at S s.map (node_of S k).b 0

  abbrev quotient : Bool
  quotient = eqb (node_of S k).kind DIVU

  wide : w ≡ (node_of S k).width
  wide = word_wide S k v.word

  pub bits : bits_of S k ≡ w
  bits = bits-words S k is.low ∙ ap (λ (n : ℕ). n * w) (word-words S k v.word) ∙ one-times w
    where
      one-times : (n : ℕ) → 1 * n ≡ n
      one-times n = omega arith

  small : w ≤ 64
  small = wide-small S clear k

  inside : off_of S k + bits_of S k ≤ length s.map
  inside = omega (arith, off-inside S k is.low is.high)

  -- the operands' bits
  both_below : (b : ℕ) → Reads S k s b → Both num den w b
  both_below b o =
      let e : wide_of S (node_of S k).a ≡ w = word_wide S (node_of S k).a (omega (arith, v.word, v.left)) ∙ v.left ∙ sym wide in
      let q : Both num den (wide_of S (node_of S k).a) b =
      both_words S clear k is s mapped b s.map (divides-two (node_of S k).kind h) (λ z. false≢true (rw z at h)) (omega (arith, v.word, v.left)) (v.right ∙ sym v.left) (λ i l. refl) o in
      (λ i l. q.0 i (omega arith), λ i l. q.1 i (omega arith))

  abbrev start : Checked
  start = record { net = s.net; cons = cons_of s.cons s.nc; out = blank }

  pub law : DivideLaw quotient w k num den start (divide_words quotient w k num den start)
  law = divide-law quotient w k num den start (omega (arith, wide, v.word)) small (omega (arith, small, blank-long))

  module _ (x : Checked) where
    -- what a division makes, in its place
    ended : Core
    ended = record { net = x.net; cons = x.cons.list; nc = x.cons.m; map = put_bits (off_of S k) x.out w s.map }

    grown : Grows s.net x.net (divide_cost w) → Grows s.net x.net (gates_of S k)
    grown = grows-weaken s.net x.net (divide_cost w) (gates_of S k) (gates-room S k is.low h v.word)

    -- no gates and no constraints
    plain_step : PlainLaw quotient w num den start x → Step (recipe S) k s ended
    unfolding ended stored
    plain_step q =
        rw q.cons
        (subst (λ (n : ℕ). Step (recipe S) k s (stored (off_of S k) n s x.net x.out)) bits
        (word-step (recipe S) k s x.net x.out inside
        (record {
          grows = grown q.grows;
          formed = λ r.
              let e : x.net ≡ s.net = q.same r.formed.two in
              rw e (r.formed, λ j l. q.below s.net.n r.formed.two (both_below s.net.n r.below).0 j (omega (arith, bits)));
          known = λ r g o. (ap (λ (n : Net). n.n) (q.same r.formed.two), λ j l. q.below 2 (omega arith) (both_below 2 o).0 j (omega (arith, bits)));
        })))

    -- by gates and constraints
    module _ (q : DividedLaw quotient w k num den start x) where
      count : x.cons.m ≡ s.nc + asks_of S k
      count = q.more.count ∙ ap (λ (n : ℕ). s.nc + n) (asked-for S k is.low h v.word)

      pub con-room : Ready (recipe S) k s → ConRoom x.cons
      con-room r = omega (arith, r.room_asks, q.more.long, count)

      pub within : Ready (recipe S) k s → Room x.net.gates x.net.n → Within x.net.n x.cons.list s.nc x.cons.m
      within r room =
          let b : Both num den w s.net.n = both_below s.net.n r.below in
          q.within room (con-room r) b.0 b.1 r.formed

      put : Put (off_of S k) x.out s.map w (put_bits (off_of S k) x.out w s.map)
      put = put-law (off_of S k) x.out s.map w (omega (arith, inside, bits))

      divided-step : Step (recipe S) k s ended
      unfolding ended Within con_gate con_value
      divided-step =
          record {
            frame =
                record {
                  grows = grown q.grows;
                  cons_long = q.more.long;
                  cons_from = omega (arith, count);
                  cons_upto = omega (arith, count);
                  cons_same = same-before s.cons x.cons.list s.nc q.more.same;
                  cons_rest = q.more.rest;
                  map_long = put.long;
                  map_below = put.below;
                  map_above = λ i l. put.above i (omega (arith, bits));
                };
            formed = λ r.
                let b : Both num den w s.net.n = both_below s.net.n r.below in
                let f = q.formed (room_after r (grown q.grows)) b.0 b.1 r.formed in
                (f.0, λ j l. rw (put.there j (omega (arith, bits))) (f.1 j (omega (arith, bits))));
            known = λ r g o. let b : Both num den w 2 = both_below 2 o in absurd (q.unknown b.0 b.1);
            asked = λ r. within r (room_after r (grown q.grows));
          }

    by-law : DivideLaw quotient w k num den start x → Step (recipe S) k s ended
    by-law (inl q) = plain_step q
    by-law (inr q) = divided-step q

  pub divide-step : Step (recipe S) k s (divide_own S k s)
  unfolding divide_own ended
  divide-step = by-law (divide_words quotient w k num den start) law
