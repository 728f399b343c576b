use borrow.Author.Rules.{rules}
use native.Mathlib.Omega.{arith}
use Rattle.loops.proofs.Loop.{loop-none, loop-more}
use Rattle.table.proofs.size.Laws.{sum-none, sum_more, store_step, store-last, store-end}
use Rattle.table.proofs.size.offsets.Goals as goal

pub loop-i-init : goal.loop-i-init
loop-i-init c = (omega arith, sum-none _ 0, search (rules, loop-none))

pub loop-i-preserved : goal.loop-i-preserved
loop-i-preserved c = (omega arith, search (rules, sum_more), search (rules, loop-more, store_step))

pub returns : goal.returns
returns c = (search (rules, store-end), search (rules, store-last))
