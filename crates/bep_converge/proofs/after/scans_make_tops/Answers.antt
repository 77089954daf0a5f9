use Rattle.bep_converge.proofs.ScansTop.{scans_make_tops_lem}
use Rattle.bep_converge.proofs.after.scans_make_tops.Goals as goal

pub returns : goal.returns
returns c = scans_make_tops_lem c.steps_keep_sound.ensures c.scan_makes_top.ensures.makes
