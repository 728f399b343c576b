use borrow.Author.Rules.{rules}
use native.Mathlib.Omega.{arith}
use Rattle.loops.proofs.Loop.{loop-none, loop-more}
use Rattle.nodes.specs.Laid.{source_of}
use Rattle.lowering.specs.Visit.{low_of}
use Rattle.lowering.proofs.RootFacts.{goes-root, all-roots}
use Rattle.lowering.proofs.root.roots.Goals as goal

pub loop-k-init : goal.loop-k-init
loop-k-init c = record { same = search rules; marks = c.requires.marked; goes = c.requires; made = search (rules, loop-none) }

pub loop-k-preserved : goal.loop-k-preserved
loop-k-preserved c = record {
  same = search rules;
  marks = c.loop-k.invariant.marks;
  goes = goes-root c.loop-k.k _ c.loop-k.invariant.goes (omega (arith, c.loop-k.invariant.marks)) c.root_step.ensures.made;
  made = search (rules, loop-more);
}

pub returns-clause-made : goal.returns-clause-made
returns-clause-made c =
    all-roots (source_of c.args.laid.now) (low_of c.args.lists.now c.args.map.now c.args.seen.now) (low_of c.loop-k.lists c.loop-k.map c.loop-k.seen) c.loop-k.k
    (omega (arith, c.loop-k.invariant.marks)) (omega (arith, c.loop-k.invariant.marks)) c.loop-k.invariant.made
