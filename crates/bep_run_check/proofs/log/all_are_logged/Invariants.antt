use Rattle.std.proofs.Common.{drop}
use Rattle.std.specs.List.{AllByRecursion}
use Rattle.bep_run_check.specs.Log.{IsLogged}
use Rattle.bep_run_check.proofs.log.all_are_logged.Given as goal

-- where those that are left are what their type says, all are
abbrev pub invariant-loop-log : goal.invariant-loop-log
invariant-loop-log l = AllByRecursion IsLogged (drop l.log-index l.logs) → AllByRecursion IsLogged l.logs
