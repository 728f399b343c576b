use borrow.Author.Rules.{rules}
use native.Mathlib.Omega.{arith}
use Rattle.loops.proofs.Loop.{loop-none, loop-more}
use Prim.Native.Nat.{◌+◌, ◌-◌}
use lib.ListN.{get_or}
use Rattle.gates.specs.Made.{net_of}
use Rattle.words.proofs.Paths.{joins-room, join-path}
use Rattle.words.proofs.join.join_all.Goals as goal

pub loop-i-init : goal.loop-i-init
loop-i-init c = search (rules, loop-none)

pub bit_of-joined-requires : goal.bit_of-joined-requires
bit_of-joined-requires c =
    omega (
      arith,
      joins-room c.args.op c.args.bits.now (net_of c.args.list.now) c.loop-i.list c.loop-i.joined _ c.loop-i.i c.loop-i.invariant.made c.requires.joins
          (get_or c.args.bits.now (c.loop-i.i + 1) 0) (c.args.w - 1) c.loop-i-test.true,
    )

pub loop-i-preserved : goal.loop-i-preserved
loop-i-preserved c = search (rules, loop-more, join-path)
