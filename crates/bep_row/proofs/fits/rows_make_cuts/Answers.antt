use Rattle.bep_row.proofs.MakesCut.{rows_make_cuts_lem}
use Rattle.bep_row.proofs.fits.rows_make_cuts.Goals as goal

pub returns : goal.returns
returns c = rows_make_cuts_lem c.cut_says.ensures.found
