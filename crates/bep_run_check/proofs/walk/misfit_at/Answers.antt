use Rattle.std.proofs.Common.{◌∙◌, sym}
use Rattle.bep_run_check.proofs.WalkLists.{some_found}
use Rattle.bep_run_check.proofs.walk.misfit_at.Goals as goal

pub unreachable-requires : goal.unreachable-requires
unreachable-requires c = some_found c.args.ticket c.args.walk.now (sym c.in-None.is ∙ c.first_at.ensures) c.requires
