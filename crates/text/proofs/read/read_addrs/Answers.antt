use mathlib.Core.Path.{refl, ◌∙◌}
use native.Mathlib.Omega.{arith}
use Rattle.text.specs.Name.{addr_name}
use Rattle.text.proofs.Fields.{count-none, count-some}
use Rattle.text.proofs.Readings.{addr-bad, addr_more, addrs_full}
use Rattle.text.proofs.read.read_addrs.Goals as goal

pub returns-in_default : goal.returns-in_default
unfolding addr_name
returns-in_default c = addr-bad c.loop-n.rest.now c.loop-n.n c.loop-n.addrs (count-none c.pair_line.result _ c.pair_line.ensures c.in_default.is) ∙ c.loop-n.invariant

pub loop-n-preserved : goal.loop-n-preserved
unfolding addr_name
loop-n-preserved c =
    addr_more c.loop-n.rest.now c.loop-n.n c.loop-n.addrs _ _ (count-some c.pair_line.result _ _ _ c.pair_line.ensures c.in-Some.is) (omega arith) ∙ c.loop-n.invariant

pub returns : goal.returns
returns c = addrs_full c.loop-n.addrs c.loop-n.n _ _ refl (omega arith) ∙ c.loop-n.invariant
