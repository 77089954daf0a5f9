use Rattle.bep_machine.proofs.KeptFiles.{finish_keeps_files_lem}
use Rattle.bep_machine.proofs.files.finish_keeps_files.Goals as goal

pub returns : goal.returns
returns c = finish_keeps_files_lem
