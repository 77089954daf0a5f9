use Rattle.std.proofs.Common.{rules}
use Rattle.bep_run_check.proofs.WalkLists.{of_one_round}
use Rattle.bep_run_check.proofs.check.check_logs.Goals as goal

pub check_one_round-requires-clause-rounds : goal.check_one_round-requires-clause-rounds
check_one_round-requires-clause-rounds c = of_one_round c.args.logs.now (search rules)
