use borrow.Author.Rules.{rules}
use Rattle.nodes.proofs.MemoryFacts.{read-turn}
use Rattle.nodes.proofs.place.Here.read_node.Goals as goal

pub returns-clause-made : goal.returns-clause-made
returns-clause-made c = search (rules, read-turn)
