use Rattle.std.proofs.Common.{◌∙◌, ◌++◌, map, ap}
use Rattle.bep_converge.specs.ConvergeVerdict.{IsConvergeVerdict}
use Rattle.bep_converge_check.specs.Progress.{IsProgress, progress_shown}
use Rattle.bep_model.specs.Tables.{Tables}
use Rattle.bep_rows_answer.proofs.Alone.{alone_says}
use Rattle.bep_rows_converge.specs.Pairs.{with_more}
use Rattle.bep_rows_converge.specs.Standing.{hindrance_line, joined, verdict_of}
use Rattle.bep_rows_converge.specs.declared.standing.ConvergeStanding.{ConvergeStanding}
use Rattle.bep_rows_converge.proofs.Given.{one_more_known}
use Rattle.bep_rows_converge.proofs.converging.ConvergingAuditor.take.Goals as goal

pub returns : goal.returns
returns c = λ asked rows next known.
    let header = c.args.header.now in
    let row = c.args.row.now in
    let cut = c.in_ok-cut.cut in
    let here = c.in_ok-here.here in
    let judged = alone_says c.documents_say_only.ensures header row cut c.in_ok-cut.ensures (λ (t : Tables). IsConvergeVerdict t (verdict_of here)) c.in_ok-here.ensures in (
      record {
        verdict = verdict_of here;
        judged = judged;
        told = c.in_ok-push_hindrance.ensures ∙ ap (λ text. text ++ hindrance_line (verdict_of here)) c.new-text.ensures.items;
      },
      one_more_known header rows row next c.args.self.now _ known here judged
          (c.joined.ensures ∙ ap (λ (before : ConvergeStanding). joined before here) c.replace-before.ensures.value)
          (progress_shown c.progress_of-progress.result)
          (record {
            folder = c.progress_of-progress.ensures.folder;
            holds = alone_says c.documents_say_only.ensures header row cut c.in_ok-cut.ensures (λ (t : Tables). IsProgress t (progress_shown c.progress_of-progress.result)) c.progress_of-progress.ensures.progress;
          })
          (c.new.ensures ∙ c.in_ok-pairs.ensures ∙ ap (map (with_more (progress_shown c.progress_of-progress.result))) c.as_slice.ensures),
    )
