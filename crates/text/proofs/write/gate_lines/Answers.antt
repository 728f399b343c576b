use mathlib.Core.Path.{refl}
use Rattle.text.proofs.Writes.{each_none, each_more}
use borrow.Author.Rules.{rules}
use Rattle.text.proofs.write.gate_lines.Goals as goal

pub loop-i-init : goal.loop-i-init
loop-i-init c = record { same = refl; after = search (rules, each_none) }

pub loop-i-preserved : goal.loop-i-preserved
loop-i-preserved c = record { same = search rules; after = search (rules, each_more) }
