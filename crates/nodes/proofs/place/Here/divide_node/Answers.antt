use borrow.Author.Rules.{rules}
use Rattle.nodes.proofs.DivideFacts.{divide-turn}
use Rattle.nodes.proofs.place.Here.divide_node.Goals as goal

pub returns-clause-made : goal.returns-clause-made
returns-clause-made c = search (rules, divide-turn)
