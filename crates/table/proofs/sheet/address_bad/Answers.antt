use Rattle.table.proofs.sheet.Laws.{address-path}
use Rattle.table.proofs.sheet.address_bad.Goals as goal

pub returns : goal.returns
returns c = address-path _ _ _ _ _ c.requires c.contains.ensures.cases c.fits.ensures
