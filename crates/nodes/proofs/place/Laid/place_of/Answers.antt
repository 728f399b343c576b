use Rattle.nodes.specs.Laid.{source_of}
use Rattle.nodes.proofs.Facts.{place-memory, place-word}
use mathlib.Core.Path.{refl}
use Rattle.nodes.proofs.place.Laid.place_of.Goals as goal

pub returns-then-width-eq0 : goal.returns-then-width-eq0
returns-then-width-eq0 c = place-memory (source_of c.args.self.now) c.args.self.now.offs.now c.args.x _ _ c.requires.0 c.requires.1 refl c.width_at-width.ensures c.if-width-eq0.true

pub returns : goal.returns
returns c = place-word (source_of c.args.self.now) c.args.self.now.offs.now c.args.x _ _ c.requires.0 c.requires.1 refl c.width_at-width.ensures c.if-width-eq0.false
