use Rattle.bep_run_check.proofs.WalkLists.{agrees_is}
use Rattle.bep_run_check.proofs.walk.agrees_next.Goals as goal

pub returns : goal.returns
returns c =
    agrees_is c.args.logs.now c.args.walk.now c.args.event.now _ _ c.all_agree-next.ensures _ c.guards_of.ensures c.named_have_logs-there.ensures _ c.are_both.ensures
