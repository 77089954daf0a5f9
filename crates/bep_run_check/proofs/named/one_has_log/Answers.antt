use Rattle.bep_run_check.proofs.WalkLists.{one_has}
use Rattle.bep_run_check.proofs.named.one_has_log.Goals as goal

pub returns : goal.returns
returns c = one_has c.args.logs.now c.args.object _ c.has_log.ensures
