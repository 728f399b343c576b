use native.Mathlib.Omega.{arith}
use Rattle.digits.proofs.Numbers.{powers-few}
use Rattle.table.proofs.ceiling.shift_gates.Goals as goal

pub times-requires : goal.times-requires
times-requires c = omega (arith, c.powers_below-s.ensures, powers-few c.args.v)

pub overflow_sub-times : goal.overflow_sub-times
overflow_sub-times c = omega (arith, c.powers_below-s.ensures, powers-few c.args.v)
