use Rattle.bep_converge.proofs.ScansReady.{scans_make_ready_lem}
use Rattle.bep_converge.proofs.arrival.scans_make_ready.Goals as goal

pub returns : goal.returns
returns c = scans_make_ready_lem c.steps_keep_sound.ensures c.steps_keep_hashes.ensures c.scan_makes_top.ensures.makes c.scans_make_tops.ensures
