use mathlib.Core.Path.{refl}
use Rattle.text.proofs.Writes.{each_none, bits_more}
use borrow.Author.Rules.{rules}
use native.Mathlib.Omega.{arith}
use Rattle.text.proofs.write.bits_lines.Goals as goal

pub loop-i-init : goal.loop-i-init
loop-i-init c = record { within = omega arith; same = refl; after = search (rules, each_none) }

pub loop-i-preserved : goal.loop-i-preserved
loop-i-preserved c = record { within = omega arith; same = search rules; after = bits_more _ _ _ _ _ _ _ (omega arith) c.loop-i.invariant.after c.bits_line.ensures.after }
