use Rattle.std.proofs.Common.{length, arith, rules}
use Rattle.values.proofs.slot.Laws.{slots-most}
use Rattle.values.proofs.slot.slots_of.Goals as goal

pub returns : goal.returns
returns c = (search rules, omega (arith, c.size_of.ensures.0, slots-most (length c.args.addrs.now) c.args.node.width c.requires.0))
