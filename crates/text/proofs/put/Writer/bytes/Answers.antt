use mathlib.Core.Path.{refl}
use Rattle.text.proofs.Puts.{bytes-none, bytes-more}
use borrow.Author.Rules.{rules}
use Rattle.text.proofs.put.Writer.bytes.Goals as goal

pub loop-b-init : goal.loop-b-init
loop-b-init c = record { same = refl; after = search (rules, bytes-none) }

pub loop-b-preserved : goal.loop-b-preserved
loop-b-preserved c = record { same = search rules; after = search (rules, bytes-more) }
