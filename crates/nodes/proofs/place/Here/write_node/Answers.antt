use borrow.Author.Rules.{rules}
use Rattle.nodes.proofs.MemoryFacts.{write-turn}
use Rattle.nodes.proofs.place.Here.write_node.Goals as goal

pub returns-clause-made : goal.returns-clause-made
returns-clause-made c = search (rules, write-turn)
