use Rattle.division.proofs.Paths.{known_both}
use Rattle.division.proofs.divide.Division.divide.Goals as goal

pub divide_known-requires-clause-below : goal.divide_known-requires-clause-below
divide_known-requires-clause-below c =
    known_both c.args.self.now.w c.args.self.now.num.now c.args.self.now.den.now _ _ c.requires.le_w.2 c.requires.le_w.3 c.all_known-known_num.ensures c.all_known-known_den.ensures
    c.if-known_num-known_den.true
