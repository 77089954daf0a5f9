use Rattle.std.proofs.Common.{List, [], map, sym, subst}
use Rattle.bep_converge_check.specs.declared.progress.FolderProgress.{FolderProgress}
use Rattle.bep_converge_check.specs.Progress.{progress_shown}
use Rattle.bep_converge_answer.proofs.ProgressTold.{AreTold, none_told, told_more, told_whole}
use Rattle.bep_converge_answer.proofs.progress.progress_of_all.Goals as goal

pub loop-shared-init : goal.loop-shared-init
loop-shared-init c = subst (λ (told : List FolderProgress). AreTold c.args.cut.now [] (map progress_shown told)) (sym c.new-told.ensures.items) (none_told c.args.cut.now)

pub loop-shared-preserved : goal.loop-shared-preserved
loop-shared-preserved c =
    told_more c.args.cut.now c.folders-folders.result.now c.loop-shared.shared-index c.shared-item.result c.loop-shared-test.true c.shared-item.is
    c.loop-shared.told.items c.loop-shared.invariant c.progress_of.result c.progress_of.ensures.folder c.progress_of.ensures.progress _ c.in_ok-push.ensures.items

pub returns : goal.returns
returns c =
    told_whole c.args.cut.now c.folders-folders.result.now c.folders-folders.ensures.value c.loop-shared.shared-index c.loop-shared-test.false
    (map progress_shown c.loop-shared.told.items) c.loop-shared.invariant
