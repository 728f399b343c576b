use borrow.Author.Rules.{rules}
use native.Mathlib.Omega.{arith}
use Rattle.loops.proofs.Loop.{loop-none, loop-more}
use Rattle.division.specs.Pair.{pair_of}
use Rattle.division.proofs.Paths.{pair-room, pair-turn}
use Rattle.division.proofs.pair.pair_words.Goals as goal

pub loop-i-init : goal.loop-i-init
loop-i-init c = search (rules, loop-none)

pub append-requires-in-loop-i : goal.append-requires-in-loop-i
append-requires-in-loop-i c =
    omega (
      arith,
      pair-room c.args.node (pair_of c.args.list.now c.args.quot.now c.args.rem.now) c.loop-i.list c.append.new.self _ _ c.loop-i.i _ c.loop-i.invariant.made (omega arith) (omega arith) c.append.ensures.made,
    )

pub loop-i-preserved : goal.loop-i-preserved
loop-i-preserved c = search (rules, loop-more, pair-turn)
