use native.Mathlib.Omega.{arith}
use Rattle.words.specs.Num.{filled}
use Rattle.memory.proofs.Paths.{at_room, at_path}
use Rattle.memory.proofs.address.at_listed.Goals as goal

pub eq_words-requires-clause-fits : goal.eq_words-requires-clause-fits
unfolding filled
eq_words-requires-clause-fits c = omega (arith, at_room c.args.w c.args.a c.args.adr.now _ c.put_digits.ensures c.requires.le_w.0 c.requires.le_w.1)

pub returns-clause-made : goal.returns-clause-made
unfolding filled
returns-clause-made c = at_path c.args.w c.args.a c.args.adr.now _ c.put_digits.ensures _ _ c.eq_words.ensures.made
