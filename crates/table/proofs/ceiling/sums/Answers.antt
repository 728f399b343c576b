use borrow.Author.Rules.{rules}
use native.Mathlib.Omega.{arith}
use Rattle.table.proofs.size.Laws.{sum-none, sum_more}
use Rattle.table.proofs.ceiling.Laws.{sums-path}
use Rattle.table.proofs.Whole.{fine, within}
use Rattle.table.proofs.ceiling.sums.Goals as goal

pub loop-i-init : goal.loop-i-init
loop-i-init c = (omega arith, omega arith, omega arith, sum-none _ 2, sum-none _ 0, sum-none _ 0)

pub invariant_of-listing : goal.invariant_of-listing
invariant_of-listing c = record { small = ((fine _ _ _ c.requires).short, (within _ _ _ c.requires).4) }

pub node_gates-gates-requires : goal.node_gates-gates-requires
node_gates-gates-requires c = let q = fine _ _ _ c.requires in (omega (arith, q.few), q.narrow)

pub overflow_add-gates : goal.overflow_add-gates
overflow_add-gates c = let q = fine _ _ _ c.requires in omega (arith, q.few)

pub node_size-map-requires : goal.node_size-map-requires
node_size-map-requires c = let q = fine _ _ _ c.requires in (omega (arith, q.few), q.narrow)

pub overflow_add-map : goal.overflow_add-map
overflow_add-map c = let q = fine _ _ _ c.requires in omega (arith, q.few)

pub node_constraints-constraints-requires : goal.node_constraints-constraints-requires
node_constraints-constraints-requires c = let q = fine _ _ _ c.requires in (omega (arith, q.few), q.narrow)

pub overflow_add-constraints : goal.overflow_add-constraints
overflow_add-constraints c = let q = fine _ _ _ c.requires in omega (arith, q.few)

pub loop-i-preserved : goal.loop-i-preserved
loop-i-preserved c = (omega arith, omega arith, omega arith, search (rules, sum_more), search (rules, sum_more), search (rules, sum_more))

pub returns : goal.returns
returns c = search (rules, sums-path)
