use Rattle.text.specs.Write.{constraint_line, constraint_name}
use borrow.Author.Rules.{rules}
use Rattle.text.proofs.write.constraint_line.Goals as goal

pub returns-clause-after : goal.returns-clause-after
unfolding constraint_line constraint_name
returns-clause-after c = search rules
