use native.Mathlib.Omega.{arith}
use Rattle.text.proofs.Readings.{stored_as}
use Rattle.text.proofs.read.store.Goals as goal

pub returns : goal.returns
returns c = stored_as c.args.nodes.now _ _ _ _ (omega arith) (omega arith) c.copy_from_slice.ensures.after
