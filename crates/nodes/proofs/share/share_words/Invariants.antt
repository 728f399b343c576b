use mathlib.Core.Path.{◌≡◌}
use Rattle.loops.specs.Loop.{iter}
use Rattle.nodes.specs.Place.{share_at}
use Rattle.nodes.proofs.share.share_words.Given as goal

abbrev pub invariant-loop-i : goal.invariant-loop-i
invariant-loop-i l = l.map ≡ iter l.i (share_at l.above l.from l.v l.to.off l.to.wide) l.initial.map
