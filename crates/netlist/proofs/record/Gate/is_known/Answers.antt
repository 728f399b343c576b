use Rattle.netlist.specs.Bit.{is_known}
use Rattle.netlist.proofs.record.Gate.is_known.Goals as goal

pub returns : goal.returns
unfolding is_known
returns c = cc
