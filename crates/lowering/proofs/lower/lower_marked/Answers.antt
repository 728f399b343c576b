use borrow.Author.Rules.{rules}
use Rattle.nodes.specs.Source.{source}
use Rattle.lowering.proofs.PromiseLaws.{promise}
use Rattle.lowering.proofs.LowerFacts.{faulty, unasked, clear-asked, clear-all, faulty-marks, unasked-marks}
use Rattle.lowering.proofs.lower.lower_marked.Goals as goal

pub returns-in_err-check_table : goal.returns-in_err-check_table
returns-in_err-check_table c = record {
  promise = promise (source c.args.table.now c.args.addrs.now c.args.word) c.args.gates.now c.args.constraints.now c.args.map.now _ _ _ _ (search (rules, faulty (source c.args.table.now c.args.addrs.now c.args.word) c.args.gates.now c.args.constraints.now c.args.map.now));
  marks_after = search (rules, faulty-marks);
}

pub returns-then-not-asks : goal.returns-then-not-asks
returns-then-not-asks c = record {
  promise = promise (source c.args.table.now c.args.addrs.now c.args.word) c.args.gates.now c.args.constraints.now c.args.map.now _ _ _ _ (unasked _ _ _ _ (search rules) _ c.asks.ensures (search rules));
  marks_after = unasked-marks _ _ _ _;
}

pub returns : goal.returns
returns c = record {
  promise =
      promise (source c.args.table.now c.args.addrs.now c.args.word) c.args.gates.now c.args.constraints.now c.args.map.now _ _ _ _
      (clear-all _ _ _ _ (search rules) _ c.asks.ensures (search rules) _ c.lower_clear.ensures.map_after);
  marks_after = c.lower_clear.ensures.marks_after;
}
