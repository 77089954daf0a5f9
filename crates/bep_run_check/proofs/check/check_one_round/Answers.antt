use Rattle.std.proofs.Common.{◌∙◌, length}
use Rattle.bep_run_check.proofs.WalkLists.{lefts_take}
use Rattle.bep_run_check.proofs.check.check_one_round.Goals as goal

pub walk_along-requires-2-clause-begun : goal.walk_along-requires-2-clause-begun
walk_along-requires-2-clause-begun c = lefts_take (length c.args.logs.now) c.begin.new.walk ∙ c.begin.ensures.begun
