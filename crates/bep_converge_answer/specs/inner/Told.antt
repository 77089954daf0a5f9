-- The line of a folder whose name is lent (this project's profile).
use Rattle.std.specs.Prelude.{ℕ, List}
use Rattle.bep_converge_check.specs.declared.progress.FolderProgress.{FolderProgress}
use Rattle.bep_converge_check.specs.Progress.{progress_shown}
use Rattle.bep_converge_answer.specs.Lines.{progress_line}

unfoldable pub lent_line : FolderProgress → List ℕ
lent_line one = progress_line (progress_shown one)
