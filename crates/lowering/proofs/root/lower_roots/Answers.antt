use mathlib.Core.Path.{ap, refl}
use borrow.Author.Rules.{rules}
use native.Mathlib.Omega.{arith}
use Rattle.gates.specs.Made.{MadeBit}
use Rattle.gates.proofs.Paths.{most-added}
use Rattle.nodes.specs.Laid.{source_of}
use Rattle.lowering.proofs.RootFacts.{room-two, two-constants, begin-goes, from_start, buffers}
use Rattle.lowering.proofs.root.lower_roots.Goals as goal

pub append-requires : goal.append-requires
append-requires c = omega (arith, room-two (source_of c.args.laid.now) c.args.laid.now.offs.now c.args.gates.now c.args.cons.now c.args.map.now c.args.seen.now c.requires)

pub append-requires-2 : goal.append-requires-2
append-requires-2 c = omega (arith, ap (λ (m : MadeBit). m.net.n) c.append.ensures.made, most-added, room-two (source_of c.args.laid.now) c.args.laid.now.offs.now c.args.gates.now c.args.cons.now c.args.map.now c.args.seen.now c.requires)

pub roots_of-requires : goal.roots_of-requires
roots_of-requires c =
    begin-goes (source_of c.args.laid.now) c.args.laid.now.offs.now c.args.gates.now c.args.cons.now c.args.map.now c.args.seen.now c.requires (record { gates = c.append-2.new.self; cons = record { pairs = c.args.cons; m = 0 } }) _ _
    (two-constants c.args.gates.now c.append.new.self c.append-2.new.self _ _ c.append.ensures.made c.append-2.ensures.made) refl (search rules) (search rules)

pub returns : goal.returns
returns c =
    let h =
    from_start (source_of c.args.laid.now) c.args.laid.now.offs.now c.args.gates.now c.args.cons.now c.args.map.now c.args.seen.now c.requires (record { gates = c.append-2.new.self; cons = record { pairs = c.args.cons; m = 0 } }) _ _
    (two-constants c.args.gates.now c.append.new.self c.append-2.new.self _ _ c.append.ensures.made c.append-2.ensures.made) refl (search rules) (search rules) _ c.roots_of.ensures.made in
    search (rules, buffers _ _ c.roots_of.new.gates c.roots_of.new.cons _ h)
