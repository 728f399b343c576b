use Prim.Native.Nat.{◌+◌}
use Rattle.lowering.proofs.visit.+process_visit.Given as goal

abbrev pub decreases-process : goal.decreases-process
decreases-process l = l.k + l.k

abbrev pub decreases-visit : goal.decreases-visit
decreases-visit l = l.k + l.k + 1
