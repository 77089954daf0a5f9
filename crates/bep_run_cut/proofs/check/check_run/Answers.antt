use Rattle.std.proofs.Common.{subst}
use Rattle.bep_fit.specs.Fit.{IsRunVerdict}
use Rattle.bep_run_cut.proofs.OneRunFacts.{is_run, stays_put}
use Rattle.bep_run_cut.proofs.check.check_run.Goals as goal

pub returns : goal.returns
returns c =
    let judged = subst (λ logs. IsRunVerdict logs c.check_logs.result) c.logs.ensures.value c.check_logs.ensures in
    record {
      verdict = judged;
      one_run = is_run c.fitting_logs_are_one_run.ensures c.args.run.now c.logs.ensures.a_run_cut c.check_logs.result judged;
      stays = stays_put c.settled_logs_stay_put.ensures c.args.run.now c.logs.ensures.a_run_cut c.check_logs.result judged;
    }
