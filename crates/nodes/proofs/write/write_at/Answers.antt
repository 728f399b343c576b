use borrow.Author.Rules.{rules}
use native.Mathlib.Omega.{arith}
use Rattle.words.specs.Num.{filled}
use Rattle.nodes.proofs.MemoryFacts.{write-path}
use Rattle.nodes.proofs.write.write_at.Goals as goal

pub returns-clause-made : goal.returns-clause-made
unfolding filled
returns-clause-made c =
    write-path c.args.addrs.now c.args.old c.args.adr c.args.val c.args.to.off c.args.to.wide c.args.map.now c.requires.le_w.1 c.requires.words_in.0 c.requires.words_in.1 _ _ _ _ _ _
    (omega (arith, c.requires.memories_in.1)) c.put_bits.ensures c.put_bits-2.ensures c.share_words.ensures c.write_words.ensures.made (search rules)
