use Rattle.std.proofs.Common.{subst}
use Rattle.bep_answer.specs.Beside.{AreLines}
use Rattle.bep_live.proofs.report.live_report.Goals as goal

pub returns-clause-beside : goal.returns-clause-beside
returns-clause-beside g c = record {
  lived = record {
    told = c.in_ok-run.told.items;
    run = c.in_ok-run.run';
    leads = c.in_ok-run.ensures.leads;
    verdict = c.judge-verdict.result;
    judged = c.judge-verdict.ensures;
    report = c.in_ok-found.text.items;
    found = c.in_ok-found.found;
    end = c.in_ok-found.ensures;
    ended = c.outcome_under-outcome.ensures;
    reported = c.in_ok-push_run.ensures.line;
  };
  lines = subst (λ text. AreLines text c.lines_of.result) c.in_ok-lines.ensures.lines c.lines_of.ensures;
}
