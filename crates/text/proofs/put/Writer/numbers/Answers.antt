use mathlib.Core.Path.{refl}
use Rattle.text.proofs.Puts.{numbers-none, numbers_more}
use borrow.Author.Rules.{rules}
use Rattle.text.proofs.put.Writer.numbers.Goals as goal

pub loop-n-init : goal.loop-n-init
loop-n-init c = record { same = refl; after = search (rules, numbers-none) }

pub loop-n-preserved : goal.loop-n-preserved
loop-n-preserved c = record { same = search rules; after = search (rules, numbers_more) }
