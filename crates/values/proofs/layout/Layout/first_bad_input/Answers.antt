use Rattle.std.proofs.Common.{rules, tests}
use Rattle.loops.proofs.Search.{found_by_find}
use Rattle.table.specs.Node.{nodes}
use Rattle.values.specs.Eval.{input_bad}
use Rattle.values.proofs.layout.Layout.first_bad_input.Goals as goal

pub returns : goal.returns
returns c =
    let s = c.args.self.now in
    found_by_find (input_bad s.table.now s.addrs.now c.args.w c.args.values.now) (nodes s.table.now) _ _ _ c.find.ensures.ran (λ x b q k. search (rules, tests))
