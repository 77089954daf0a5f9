use Rattle.bep_fit.proofs.WalkSteps.{walk_begins, walk_ends, walk_goes_on}
use Rattle.bep_fit.proofs.WalkVerdict.{walk_fails}
use Rattle.bep_fit.proofs.walk.walk_finds_verdict.Goals as goal

pub returns : goal.returns
returns c = record { begins = walk_begins; goes_on = walk_goes_on; ends = walk_ends; fails = walk_fails }
