use Rattle.bep_machine.proofs.ScanEffect.{scan_raises, scan_marks}
use Rattle.bep_machine.proofs.effects.scan_records.Goals as goal

pub returns-clause-raises : goal.returns-clause-raises
returns-clause-raises c = scan_raises c.bump_exists.ensures.exists

pub returns-clause-marks : goal.returns-clause-marks
returns-clause-marks c = scan_marks
