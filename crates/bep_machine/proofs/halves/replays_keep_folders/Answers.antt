use Rattle.bep_machine.proofs.FoldersFixed.{replays_keep_sharing_lem, replays_keep_ids_lem}
use Rattle.bep_machine.proofs.halves.replays_keep_folders.Goals as goal

pub returns-clause-sharing : goal.returns-clause-sharing
returns-clause-sharing c = replays_keep_sharing_lem

pub returns-clause-ids : goal.returns-clause-ids
returns-clause-ids c = replays_keep_ids_lem
