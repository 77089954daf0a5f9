use Rattle.bep_converge.proofs.ScanTops.{scan_makes_top_lem, scan_can_be_made_lem}
use Rattle.bep_converge.proofs.after.scan_makes_top.Goals as goal

pub returns-clause-makes : goal.returns-clause-makes
returns-clause-makes c = scan_makes_top_lem c.scan_records.ensures.raises c.steps_are_determined.ensures

pub returns-clause-can : goal.returns-clause-can
returns-clause-can c = scan_can_be_made_lem c.scan_records.ensures.raises
