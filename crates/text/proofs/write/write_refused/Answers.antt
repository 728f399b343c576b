use Rattle.text.specs.Write.{refused_line, refused_name}
use Rattle.text.proofs.Writes.{room-put}
use Rattle.text.proofs.Rooms.{refused-length}
use native.Mathlib.Omega.{arith}
use borrow.Author.Rules.{rules}
use Rattle.text.proofs.write.write_refused.Goals as goal

pub returns : goal.returns
unfolding refused_line refused_name
returns c = let fits = refused-length c.args.number c.args.node (search rules) (search rules) in
    room-put c.args.out.now (refused_line c.args.number c.args.node) _ c.pair.new.self.out.now _ (search rules) (omega (arith, c.requires)) c.pair.ensures.after
