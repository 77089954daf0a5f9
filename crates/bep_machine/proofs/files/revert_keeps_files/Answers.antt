use Rattle.bep_machine.proofs.KeptFiles.{revert_keeps_files_lem}
use Rattle.bep_machine.proofs.files.revert_keeps_files.Goals as goal

pub returns : goal.returns
returns c = revert_keeps_files_lem
