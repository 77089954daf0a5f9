use Rattle.std.proofs.Common.{refl}
use Rattle.bep_log.proofs.logged_link.LoggedLink.restart.Goals as goal

pub leave-requires : goal.leave-requires
leave-requires c = (refl, (c.actions_are_told.ensures.restart c.args.device).1)
