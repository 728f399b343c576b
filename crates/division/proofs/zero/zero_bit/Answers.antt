use native.Mathlib.Omega.{arith}
use Rattle.words.specs.Num.{filled}
use Rattle.division.proofs.ZeroLaws.{zero-cost}
use Rattle.division.proofs.zero.zero_bit.Goals as goal

pub eq_words-requires : goal.eq_words-requires
unfolding filled
eq_words-requires c = omega (arith, zero-cost c.args.den.now c.args.w c.requires.le_w.0)
