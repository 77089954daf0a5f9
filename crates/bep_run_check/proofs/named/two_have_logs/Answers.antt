use Rattle.bep_run_check.proofs.WalkLists.{two_have}
use Rattle.bep_run_check.proofs.named.two_have_logs.Goals as goal

pub returns : goal.returns
returns c = two_have c.args.logs.now c.args.object c.args.other _ _ c.has_log-first.ensures c.has_log-second.ensures _ c.are_both.ensures
