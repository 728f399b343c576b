-- A table as it was read, as the lowering's definitions take it.
use Rattle.nodes.specs.Source as nodes
use Rattle.nodes.specs.Source.{source}
use Rattle.stitch.specs.declared.print.Source.{Source}

abbrev pub source_of : Source → nodes.Source
source_of t = source t.nodes.now t.addrs.now t.word
