-- What the code has of a table, as these definitions have it.
use Rattle.nodes.specs.declared.place.Laid.{Laid}
use Rattle.nodes.specs.Source.{Source, source}

abbrev pub source_of : Laid → Source
source_of l = source l.table.now l.addrs.now l.word
