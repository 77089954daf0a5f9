use Rattle.std.proofs.Common.{◌++◌, ◌∙◌, ℕ, List, ap, subst}
use Rattle.bep_answer.specs.Beside.{AreLines}
use Rattle.bep_live.specs.Lines.{run_line}
use Rattle.bep_live.proofs.document.live_document.Goals as goal

pub returns-clause-beside : goal.returns-clause-beside
returns-clause-beside g c = record {
  lived = record {
    told = c.in_ok-run.told.items;
    run = c.in_ok-run.run';
    leads = c.in_ok-run.ensures.leads;
    verdict = c.judge-verdict.result;
    judged = c.judge-verdict.ensures;
    found = c.in_ok-found.found;
    certificate = c.in_ok-found.ensures;
    ended = c.certified_under-outcome.ensures;
  };
  lines =
      let told = c.in_ok-run.told.items ++ run_line c.judge-verdict.result in
      subst (λ text. AreLines text c.lines_of.result)
      (c.in_ok-append.ensures.line ∙ ap (λ (text : List ℕ). text ++ c.as_slice.result.now) c.in_ok-push_run.ensures.line
      ∙ ap (λ (lines : List ℕ). told ++ lines) (c.as_slice.ensures.value ∙ c.in_ok-lines.ensures.lines))
      c.lines_of.ensures;
}
