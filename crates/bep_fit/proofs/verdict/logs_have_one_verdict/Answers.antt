use Rattle.bep_fit.proofs.OneVerdict.{run_verdict_is_one_lem}
use Rattle.bep_fit.proofs.SomeVerdict.{run_verdict_is_there_lem}
use Rattle.bep_fit.proofs.verdict.logs_have_one_verdict.Goals as goal

pub returns-clause-there : goal.returns-clause-there
returns-clause-there c = run_verdict_is_there_lem

pub returns-clause-one : goal.returns-clause-one
returns-clause-one c = run_verdict_is_one_lem
