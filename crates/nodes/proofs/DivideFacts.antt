-- What a table without fault gives to the code of a division.
use mathlib.Core.Path.{◌≡◌, ap, sym, ◌∙◌}
use mathlib.Core.List.{List}
use mathlib.Core.Bool.{true}
use Prim.Native.Nat.{ℕ, ◌+◌, ◌≤◌, ◌<◌}
use native.Mathlib.Omega.{arith}
use lib.Dec.{eqb}
use lib.ListN.{length, get_or, take, drop}
use Rattle.table.specs.declared.Node.{Node}
use Rattle.table.specs.Kind.{DIVU, divides}
use Rattle.table.specs.Node.{width_of}
use Rattle.table.proofs.Whole.{within, Sound, Even}
use Rattle.netlist.specs.Record.{Room}
use Rattle.words.specs.Num.{blank}
use Rattle.words.specs.Each.{put_bits}
use Rattle.division.specs.declared.lists.Lists.{Lists}
use Rattle.division.specs.Constraint.{con_used, cons_of}
use Rattle.division.specs.Rows.{Checked}
use Rattle.division.specs.Check.{con_count}
use Rattle.division.specs.Divide.{divide_words, divide_cost}
use Rattle.visits.specs.Flow.{Core}
use Rattle.nodes.specs.declared.place.Here.{Here}
use Rattle.nodes.specs.declared.place.Place.{Place}
use Rattle.nodes.specs.Laid.{source_of}
use Rattle.nodes.specs.Source.{Source, node_of, wide_of, off_of, gates_of, word_at}
use Rattle.nodes.specs.Own.{divide_own}
use Rattle.nodes.specs.Place.{divide_at}
use Rattle.nodes.specs.Asked.{Stands, Owns, place_of, core_at, core_of}
use Rattle.nodes.proofs.Places.{word_wide, sound-of}
use Rattle.nodes.proofs.ShapeLaws.{divided, divides-two}
use Rattle.nodes.proofs.ShareLaws.{same-wide}
use Rattle.nodes.proofs.StepLaws.{wide-small, two-one}
use Rattle.nodes.proofs.DivisionLaws.{gates-room, asked-for}
use Rattle.nodes.proofs.Facts.{operands-in, word_in, part-first, offset}

-- where a division's words stand
pub record Sides (S : Source) (long k : ℕ) : Type 0 where
  pub word : 1 ≤ width_of S.table k
  pub left : wide_of S (node_of S k).a ≡ wide_of S k
  pub right : wide_of S (node_of S k).b ≡ wide_of S k
  pub left_in : off_of S (node_of S k).a + wide_of S k ≤ long
  pub right-in : off_of S (node_of S k).b + wide_of S k ≤ long
  pub own_in : off_of S k + wide_of S k ≤ long

module _ (S : Source) (o : List ℕ) (long k : ℕ) (h : Stands S o long k) where
  node : Sound S.table S.word k
  node = sound-of S h.clear k h.is

  sides : divides (node_of S k).kind ≡ true → Sides S long k
  sides e =
      let v : Even (node_of S k).width (width_of S.table (node_of S k).a) (width_of S.table (node_of S k).b) = divided node.sort e in
      let two = divides-two (node_of S k).kind e in
      let l : wide_of S (node_of S k).a ≡ wide_of S k = same-wide S (node_of S k).a k v.left in
      let r : wide_of S (node_of S k).b ≡ wide_of S k = same-wide S (node_of S k).b k v.right in
      record {
        word = v.word;
        left = l;
        right = r;
        left_in =
            omega (arith, word_in S o long k (node_of S k).a h (node.operands.a-used (two-one (node_of S k).kind two)) (omega (arith, node.operands.a)) (omega (arith, v.word, v.left)), l);
        right-in = omega (arith, word_in S o long k (node_of S k).b h (node.operands.b-used two) (omega (arith, node.operands.b)) (omega (arith, v.word, v.right)), r);
        own_in = word_in S o long k k h h.is.low (omega arith) v.word;
      }

-- what divide_places is asked for
pub record Asks (s : Core) (num den : ℕ) (p : Place) : Type 0 where
  pub room : Room s.net.gates (s.net.n + divide_cost p.wide)
  pub cap : s.net.n + divide_cost p.wide < 4294967296
  pub asks : con_used (s.nc + con_count p.wide) ≤ length s.cons
  pub some : 1 ≤ p.wide
  pub small : p.wide ≤ 64
  pub left-within : num + p.wide ≤ length s.map
  pub right-within : den + p.wide ≤ length s.map
  pub within : p.off + p.wide ≤ length s.map

-- net, constraints and map
abbrev checked : Core → Checked
checked s = record { net = s.net; cons = cons_of s.cons s.nc; out = s.map }

-- put back
put_back : Checked → Core
put_back x = core_at x.net x.cons.list x.cons.m x.out

-- node n of a laid table
module _ (n : Here) (l : Lists) (m : List ℕ) (h : Owns (source_of n.laid) n.laid.offs.now n.k (core_of l m)) where
  abbrev s : Core
  s = core_of l m

  abbrev S : Source
  S = source_of n.laid

  abbrev o : List ℕ
  o = n.laid.offs.now

  abbrev k : ℕ
  k = n.k

  pub node-small : k < 4294967296
  node-small = omega (arith, within S.table S.addrs S.word h.stands.clear, h.stands.is.high)

  -- the node's own step, over places
  divide-along : Sides S (length s.map) k
      → put_back (divide_at (eqb (node_of S k).kind DIVU) k (wide_of S k) (off_of S (node_of S k).a) (off_of S (node_of S k).b) (off_of S k) (checked s)) ≡ divide_own S k s
  unfolding put_back divide_at divide_own
  divide-along v =
      ap (λ (x : List ℕ). made x (take (wide_of S k) (drop (off_of S (node_of S k).b) s.map))) (part (node_of S k).a v.left)
      ∙ ap (λ (x : List ℕ). made (word_at S s.map (node_of S k).a 0) x) (part (node_of S k).b v.right)
    where
      part : (x : ℕ) → wide_of S x ≡ wide_of S k → take (wide_of S k) (drop (off_of S x) s.map) ≡ word_at S s.map x 0
      part x e = ap (λ (w : ℕ). take w (drop (off_of S x) s.map)) (sym e) ∙ part-first S s.map x

      made : List ℕ → List ℕ → Core
      made X Y =
          let y : Checked = divide_words (eqb (node_of S k).kind DIVU) (wide_of S k) k X Y (record { net = s.net; cons = cons_of s.cons s.nc; out = blank }) in
          core_at y.net y.cons.list y.cons.m (put_bits (off_of S k) y.out (wide_of S k) s.map)

  -- its operands are nodes of the table
  pub a-inside : n.node.a < length o
  a-inside = omega (arith, operands-in S o (length s.map) k h.stands n.node n.is)

  pub b-inside : n.node.b < length o
  b-inside = omega (arith, operands-in S o (length s.map) k h.stands n.node n.is)

  module _ (e : divides n.node.kind ≡ true) (p : Place) (q : p ≡ place_of S k) where
    kind : divides (node_of S k).kind ≡ true
    kind = ap (λ (x : Node). divides x.kind) (sym n.is) ∙ e

    there : Sides S (length s.map) k
    there = sides S o (length s.map) k h.stands kind

    all-asks : Asks s (off_of S (node_of S k).a) (off_of S (node_of S k).b) (place_of S k)
    all-asks =
        let g : divide_cost (wide_of S k) ≤ gates_of S k = gates-room S k h.stands.is.low kind there.word in
        record {
          room = omega (arith, h.room);
          cap = omega (arith, h.cap);
          asks = omega (arith, h.asks, asked-for S k h.stands.is.low kind there.word);
          some = omega (arith, word_wide S k there.word, there.word);
          small = wide-small S h.stands.clear k;
          left-within = there.left_in;
          right-within = there.right-in;
          within = there.own_in;
        }

    at_of : (x : ℕ) → x < k → get_or o x 0 ≡ off_of S x
    at_of x less = (offset S o (length s.map) k h.stands x (omega arith)).1

    left_at : get_or o n.node.a 0 ≡ off_of S (node_of S k).a
    left_at = ap (λ (d : Node). get_or o d.a 0) n.is ∙ at_of (node_of S k).a ((node S o (length s.map) k h.stands).operands.a)

    right-at : get_or o n.node.b 0 ≡ off_of S (node_of S k).b
    right-at = ap (λ (d : Node). get_or o d.b 0) n.is ∙ at_of (node_of S k).b ((node S o (length s.map) k h.stands).operands.b)

    pub divide-asks : Asks s (get_or o n.node.a 0) (get_or o n.node.b 0) p
    divide-asks = rw (q, left_at, right-at) all-asks

    pub divide-room : Room s.net.gates (s.net.n + divide_cost p.wide) × (s.net.n + divide_cost p.wide < 4294967296)
    divide-room = (divide-asks.room, divide-asks.cap)

    pub divide-cons : con_used (s.nc + con_count p.wide) ≤ length s.cons
    divide-cons = divide-asks.asks

    pub divide-within : (1 ≤ p.wide) × (p.wide ≤ 64) × (get_or o n.node.a 0 + p.wide ≤ length s.map) × (get_or o n.node.b 0 + p.wide ≤ length s.map)
        × (p.off + p.wide ≤ length s.map)
    divide-within = let h = divide-asks in (h.some, h.small, h.left-within, h.right-within, h.within)

    divided-as : Node → Checked
    divided-as d = divide_at (eqb d.kind DIVU) k p.wide (get_or o n.node.a 0) (get_or o n.node.b 0) p.off (checked s)

    pub divide-turn : (t : Core) → checked t ≡ divide_at (eqb n.node.kind DIVU) k p.wide (get_or o n.node.a 0) (get_or o n.node.b 0) p.off (checked s) → t ≡ divide_own S k s
    unfolding put_back divided-as
    divide-turn t u = ap put_back (rw (q, left_at, right-at) at (u ∙ ap divided-as n.is)) ∙ divide-along there

-- what `grind` has to know in a division's own step
pub ruleset divide_steps = (node-small, a-inside, b-inside, divide-room, divide-cons, divide-within)
