-- What a writer has written: its buffer, and the place of its next byte.
use Rattle.text.specs.declared.put.Writer.{Writer}
use Rattle.text.specs.Put.{Text}
use Rattle.text.specs.Put.Text.{text}

abbrev pub so_far : Writer → Text
so_far w = text w.out.now w.at
