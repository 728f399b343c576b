use Rattle.values.proofs.slot.Laws.{near}
use Rattle.values.proofs.layout.Layout.offset.Goals as goal

pub returns : goal.returns
returns c = let s = c.args.self.now in (s.ready.offsets.at c.args.i c.requires, near _ _ _ s.ready.fine s.ready.offsets c.args.i c.requires)
