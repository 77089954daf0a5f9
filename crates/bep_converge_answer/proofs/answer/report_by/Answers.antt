use Rattle.std.proofs.Common.{List, map, sym, subst}
use Rattle.bep_converge_check.specs.declared.progress.FolderProgress.{FolderProgress}
use Rattle.bep_converge_check.specs.Hindrance.{converge_shown}
use Rattle.bep_converge_check.specs.Progress.{progress_shown}
use Rattle.bep_converge_answer.specs.Convergence.{TellsProgress}
use Rattle.bep_converge_answer.proofs.ProgressTold.{report_told}
use Rattle.bep_converge_answer.proofs.answer.report_by.Goals as goal

pub returns : goal.returns
returns c =
    report_told (λ text. text.items) c.args.cut.now (converge_shown c.args.verdict.now) (map progress_shown c.as_slice.result.now) c.cut_has_cluster.ensures c.requires.judged
    (subst (λ (ones : List FolderProgress). TellsProgress c.args.cut.now (map progress_shown ones)) (sym c.as_slice.ensures.value) c.in_ok-folders.ensures)
    c.report_of.result c.report_of.ensures.outcome c.report_of.ensures.text
