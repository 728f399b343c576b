use borrow.Author.Rules.{rules}
use native.Mathlib.Omega.{arith}
use Rattle.loops.proofs.Loop.{loop-none, loop-more}
use Rattle.gates.specs.Made.{net_of}
use Rattle.division.specs.Constraint.{cons_in}
use Rattle.division.proofs.Paths.{rows-room}
use Rattle.division.proofs.rows.div_rows.Goals as goal

pub loop-i-init : goal.loop-i-init
loop-i-init c = search (rules, loop-none)

pub row_step-requires : goal.row_step-requires
row_step-requires c =
    omega (
      arith,
      rows-room c.args.w c.args.quot.now c.args.den.now (net_of c.args.lists.now.gates) (cons_in c.args.lists.now.cons) c.args.sum.now _ c.loop-i.lists c.loop-i.i
          c.requires.w_bound.0 c.requires.w_bound.3 c.loop-i.invariant.made c.loop-i-test.true,
    )

pub loop-i-preserved : goal.loop-i-preserved
loop-i-preserved c = search (rules, loop-more)
