use Rattle.text.specs.Write.{gate_name}
use Rattle.text.proofs.Writes.{gate-put}
use Rattle.text.proofs.write.gate_line.Goals as goal

pub returns-clause-after : goal.returns-clause-after
unfolding gate_name
returns-clause-after c = gate-put _ _ _ _ _ _ c.taken-o.ensures c.taken-e.ensures c.numbered.ensures.after
