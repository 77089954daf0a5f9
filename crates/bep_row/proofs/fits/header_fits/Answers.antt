use Rattle.std.proofs.Common.{subst, sym}
use Rattle.bep_row.specs.Fits.{AreQuiet}
use Rattle.bep_row.proofs.fits.header_fits.Goals as goal

pub returns : goal.returns
returns c = (
  λ yes. subst AreQuiet c.links.ensures.value (c.are_quiet.ensures.0 yes),
  λ quiet. c.are_quiet.ensures.1 (subst AreQuiet (sym c.links.ensures.value) quiet),
)
