use Rattle.bep_run_check.proofs.WalkLists.{has_is}
use Rattle.bep_run_check.proofs.named.has_log.Goals as goal

pub returns : goal.returns
returns c = has_is c.args.logs.now c.args.object _ c.any_is.ensures
