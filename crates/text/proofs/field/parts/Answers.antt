use Rattle.std.proofs.Common.{rules, tests}
use Rattle.text.specs.Field.{parts}
use Rattle.text.proofs.field.parts.Goals as goal

pub returns-then-b-eq9 : goal.returns-then-b-eq9
unfolding parts
returns-then-b-eq9 c = search (rules, tests)

pub returns-else-b-eq9 : goal.returns-else-b-eq9
unfolding parts
returns-else-b-eq9 c = search (rules, tests)
