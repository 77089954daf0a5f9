use Rattle.std.proofs.Common.{refl}
use Rattle.bep_log.proofs.logged_link.LoggedLink.reset.Goals as goal

pub leave-requires : goal.leave-requires
leave-requires c = (refl, (c.actions_are_told.ensures.reset c.args.device c.args.id).1)
