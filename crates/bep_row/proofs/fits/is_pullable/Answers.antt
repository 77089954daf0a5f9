use Rattle.std.proofs.Common.{ap}
use Rattle.std.specs.Option.{option_copied}
use Rattle.bep_row.specs.Fits.{IsPull}
use Rattle.bep_row.proofs.Found.{for_one}
use Rattle.bep_row.proofs.fits.is_pullable.Goals as goal

pub returns-in-Some : goal.returns-in-Some
returns-in-Some c = for_one IsPull c.is_pull.result (option_copied c.args.found) c.in-Some.record.now (ap option_copied c.in-Some.is) c.is_pull.ensures
