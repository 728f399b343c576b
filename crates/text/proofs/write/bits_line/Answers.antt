use Rattle.text.specs.Write.{bits_name}
use Rattle.text.proofs.Writes.{unmarked, marked}
use borrow.Author.Rules.{rules}
use Rattle.text.proofs.write.bits_line.Goals as goal

pub returns-then-marks-i-eq0-clause-after : goal.returns-then-marks-i-eq0-clause-after
returns-then-marks-i-eq0-clause-after c = search (rules, unmarked)

pub returns-clause-after : goal.returns-clause-after
unfolding bits_name
returns-clause-after c = search (rules, marked)
