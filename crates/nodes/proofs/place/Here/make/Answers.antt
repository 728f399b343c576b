use mathlib.Core.Path.{sym, ◌∙◌}
use borrow.Author.Rules.{rules}
use Rattle.nodes.specs.Laid.{source_of}
use Rattle.nodes.proofs.OwnFacts.{share-asks, input-made, share-made, ite-made, read_made, write-made, word_made, plainly}
use Rattle.nodes.proofs.place.Here.make.Goals as goal

pub share_node-requires : goal.share_node-requires
share_node-requires c =
    let h =
    share-asks (source_of c.args.self.now.laid) c.args.self.now.laid.offs.now _ c.args.self.now.k c.requires.0.stands c.args.self.now.node c.args.self.now.is
    (sym c.is_given.ensures ∙ c.if-is_given.false) (sym c.shares.ensures ∙ c.if-shares.true) in
    record { stands = c.requires.0.stands; le_x = (h.some, h.less, h.words) }

pub returns-then-is_given-clause-made : goal.returns-then-is_given-clause-made
returns-then-is_given-clause-made c =
    input-made (source_of c.args.self.now.laid) c.args.self.now.laid.offs.now _ c.args.self.now.k c.requires.0.stands c.args.self.now.node c.args.self.now.is _ _ _ _
    (sym c.is_given.ensures ∙ c.if-is_given.true) c.input_node.ensures.made

pub returns-then-shares-clause-made : goal.returns-then-shares-clause-made
returns-then-shares-clause-made c =
    share-made (source_of c.args.self.now.laid) c.args.self.now.laid.offs.now _ c.args.self.now.k c.requires.0.stands c.args.self.now.node c.args.self.now.is
    (sym c.is_given.ensures ∙ c.if-is_given.false) (sym c.shares.ensures ∙ c.if-shares.true) _ _ _ _ c.above_of-above.ensures c.share_node.ensures

pub returns-in-10-clause-made : goal.returns-in-10-clause-made
returns-in-10-clause-made c =
    ite-made (source_of c.args.self.now.laid) c.args.self.now.laid.offs.now _ c.args.self.now.k c.requires.0.stands c.args.self.now.node c.args.self.now.is _ _ _ _ c.in-10.is c.ite_node.ensures.made

pub returns-in-16-clause-made : goal.returns-in-16-clause-made
returns-in-16-clause-made c =
    read_made (source_of c.args.self.now.laid) c.args.self.now.laid.offs.now _ c.args.self.now.k c.requires.0.stands c.args.self.now.node c.args.self.now.is _ _ _ _ c.in-16.is c.read_node.ensures.made

pub returns-in-17-clause-made : goal.returns-in-17-clause-made
returns-in-17-clause-made c =
    write-made (source_of c.args.self.now.laid) c.args.self.now.laid.offs.now _ c.args.self.now.k c.requires.0.stands c.args.self.now.node c.args.self.now.is _ _ _ _ c.in-17.is c.write_node.ensures.made

pub returns-in_default-clause-made : goal.returns-in_default-clause-made
returns-in_default-clause-made c =
    word_made (source_of c.args.self.now.laid) c.args.self.now.laid.offs.now _ c.args.self.now.k c.requires.0.stands c.args.self.now.node c.args.self.now.is _ _ _ _
    (plainly c.args.self.now.node (sym c.is_given.ensures ∙ c.if-is_given.false) (sym c.shares.ensures ∙ c.if-shares.false) (search rules) c.requires.1 (search rules) (search rules)) c.word_node.ensures.made
