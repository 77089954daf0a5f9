use Rattle.bep_record.proofs.FolderFacts.{name-from_folder}
use Rattle.bep_record.proofs.folder.FolderName.read.Goals as goal

pub returns-in-Err-clause-bad : goal.returns-in-Err-clause-bad
returns-in-Err-clause-bad c =
    let is = name-from_folder c.args.bytes.now (c.is_folder_name.ensures.0 c.if-not-is_folder_name.false) in
    (λ bad. absurd (c.in-Err.ensures.bad.0 bad is), λ none. absurd (none (c.is_folder_name.ensures.0 c.if-not-is_folder_name.false)))
