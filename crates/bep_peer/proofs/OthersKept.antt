-- Who shares a folder stays, whatever a call makes of a row that keeps its outline.
use Rattle.std.proofs.Common.{◌≡◌, List, Result, Ok, Err, ap, ⊎_elim}
use Rattle.bep_record.specs.declared.folder_kind.FolderKind.{FolderKind}
use Rattle.bep_model.specs.Tables.{Device}
use Rattle.bep_machine.specs.declared.moved.Moved.{Moved}
use Rattle.bep_machine.specs.Answer.{Row}
use Rattle.bep_machine.specs.Replica.{Replica}
use Rattle.bep_folder.specs.declared.error.FolderError.{FolderError}
use Rattle.bep_folder.specs.Held.{Held}
use Rattle.bep_folder.specs.Makes.{Makes}
use Rattle.bep_peer.proofs.Refusals.{wanting_or_refused}
use Rattle.bep_peer.proofs.RowsKeep.{Keeps, outline}

alike : (row : Replica → Row Replica) (old new : Held) (result : Result Moved FolderError) → Keeps old.tables (row old.tables) → Makes row old new result → outline new.tables ≡ outline old.tables
alike row old new (Ok moved) keeps made = keeps _ _ made
alike row old new (Err error) keeps made =
    ⊎_elim (λ wanting. ⊎_elim (λ same. ap outline same) (λ made. keeps _ _ made) wanting.1) (λ refused. keeps _ _ refused.2) (wanting_or_refused row old new error made)

pub makes_keeps : (row : Replica → Row Replica) (old new : Held) (result : Result Moved FolderError) → Keeps old.tables (row old.tables) → Makes row old new result → new.tables.others ≡ old.tables.others
makes_keeps row old new result keeps made = ap (λ (line : FolderKind × List Device). line.1) (alike row old new result keeps made)
