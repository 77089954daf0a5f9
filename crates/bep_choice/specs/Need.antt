-- Whether a device needs the record that it chose (this project's profile, over Syncthing, 'Folder Types').
use Rattle.std.specs.Prelude.{◌≡◌, ◌≢◌, Bool, true, false, Option, Some, None}
use Rattle.bep_record.specs.declared.entry.Entry.{Entry}
use Rattle.bep_record.specs.Content.{content_of}
use Rattle.bep_record.specs.Vector.{IsAtMost}
use Rattle.bep_record.specs.declared.folder_kind.FolderKind.{FolderKind}
use Rattle.bep_record.specs.declared.folder_kind.FolderKind.TheVariants.{SendOnly}

-- with an own record: by whether that is local-only (a local change of a receive-only folder, marked invalid)
abbrev pub NeedsBeside : Bool → FolderKind → Entry → Entry → Type 0
NeedsBeside true kind own chosen = content_of chosen ≡ content_of own
NeedsBeside false kind own chosen = (¬ IsAtMost chosen.version own.version) × (kind ≡ SendOnly → content_of chosen ≡ content_of own)

-- a device with this own record needs the chosen one
abbrev pub IsNeeded : FolderKind → Option Entry → Entry → Type 0
IsNeeded kind None chosen = (chosen.deleted ≡ false) × (kind ≢ SendOnly)
IsNeeded kind (Some own) chosen = NeedsBeside own.invalid kind own chosen
