use Rattle.values.proofs.slot.Laws.{operands-in}
use Rattle.values.proofs.eval.Laws.{fill-room}
use Rattle.values.proofs.layout.Layout.eval_node.Goals as goal

pub invariant_of-operands : goal.invariant_of-operands
invariant_of-operands c =
    let f = c.args.self.now.ready.fine in
    record {
      narrow = ((operands-in _ _ _ _ f c.requires.0 c.node_at-node.ensures).3, rw c.width_at.ensures (f.narrow _));
      near = (c.offset.ensures.1, c.offset-b.ensures.1, c.offset-2.ensures.1);
    }

pub fill-requires : goal.fill-requires
fill-requires c = (
  c.args.self.now.ready.fine.short,
  c.offset-3.ensures.1,
  c.slots_of.ensures.1,
  fill-room _ _ _ _ _ _ _ c.requires.0 c.node_at-node.ensures c.offset-3.ensures.0 c.slots_of.ensures.0 c.requires.1,
)
