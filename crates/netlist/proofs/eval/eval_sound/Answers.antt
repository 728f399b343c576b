use Rattle.std.proofs.Common.{rules, tests}
use Rattle.loops.proofs.Search.{found_by_find}
use Rattle.netlist.proofs.Paths.{sound_input, sound_done}
use Rattle.netlist.specs.Eval.{out_of_range}
use Rattle.netlist.proofs.eval.eval_sound.Goals as goal

pub returns-in-Some : goal.returns-in-Some
returns-in-Some c =
    let f = found_by_find (out_of_range c.args.gates.now c.args.values.now) c.count-n.result _ _ _ c.find.ensures.ran (λ x b q k. search (rules, tests)) in
    search (rules, sound_input)

pub returns-in-None : goal.returns-in-None
returns-in-None c =
    let f = found_by_find (out_of_range c.args.gates.now c.args.values.now) c.count-n.result _ _ _ c.find.ensures.ran (λ x b q k. search (rules, tests)) in
    search (rules, sound_done)
