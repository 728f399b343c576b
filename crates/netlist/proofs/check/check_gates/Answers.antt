use Rattle.std.proofs.Common.{rules, tests}
use Rattle.loops.proofs.Search.{found_by_find}
use Rattle.netlist.proofs.Paths.{list_found, list_good}
use Rattle.netlist.specs.Check.{faulty}
use Rattle.netlist.proofs.check.check_gates.Goals as goal

pub returns-in-Some : goal.returns-in-Some
returns-in-Some c =
    let f = found_by_find (faulty c.args.gates.now) c.count-n.result _ _ _ c.find.ensures.ran (λ x b q k. search (rules, tests)) in
    search (rules, list_found)

pub returns-in-None : goal.returns-in-None
returns-in-None c =
    let f = found_by_find (faulty c.args.gates.now) c.count-n.result _ _ _ c.find.ensures.ran (λ x b q k. search (rules, tests)) in
    search (rules, list_good)
