use Rattle.std.proofs.Common.{map, take}
use Rattle.bep_converge_check.specs.Progress.{progress_shown}
use Rattle.bep_converge_answer.proofs.ProgressTold.{AreTold}
use Rattle.bep_converge_answer.proofs.progress.progress_of_all.Given as goal

-- the folders so far are told
abbrev pub invariant-loop-shared : goal.invariant-loop-shared
invariant-loop-shared l = AreTold l.cut (take l.shared-index l.folders) (map progress_shown l.told.items)
