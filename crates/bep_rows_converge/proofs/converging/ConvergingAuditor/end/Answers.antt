use Rattle.std.proofs.Common.{◌∙◌, List, ap, map}
use Rattle.bep_converge_answer.specs.Lines.{converge_report_text}
use Rattle.bep_rows_converge.specs.Pairs.{pairs_shown}
use Rattle.bep_rows_converge.specs.Standing.{verdict_of}
use Rattle.bep_rows_converge.specs.declared.pairs.FolderPairs.{FolderPairs}
use Rattle.bep_rows_converge.proofs.Given.{whole_verdict}
use Rattle.bep_rows_converge.proofs.converging.ConvergingAuditor.end.Goals as goal

pub returns : goal.returns
returns c = λ asked header rows quiet known. record {
  verdict = verdict_of c.args.self.now.standing;
  judged = whole_verdict c.converge_verdict_by_parts.ensures c.rows_make_a_cut.ensures.rows c.rows_make_a_cut.ensures.names header rows c.args.self.now quiet known;
  told = c.outcome_of.ensures;
  progress = known.progress;
  counted = known.counted;
  written = c.in_ok-text.ensures ∙ ap (λ (pairs : List FolderPairs). converge_report_text (verdict_of c.args.self.now.standing) (map pairs_shown pairs)) known.pairs;
}
