-- The record that each name's sharing devices would choose if all their own records were known (this project's profile).
use Rattle.std.specs.Prelude.{min, List, [], ◌∷◌, ◌++◌, Option, Some, None}
use Rattle.bep_record.specs.declared.entry.Entry.{Entry}
use Rattle.bep_record.specs.declared.folder_kind.FolderKind.{FolderKind}
use Rattle.bep_choice.specs.Choice.{Candidate, IsChoice}
use Rattle.bep_model.specs.Tables.{Tables, Device, Folder, FileName}

-- a device beside its record, if it has one
abbrev pub beside : Device → Option Entry → List Candidate
beside device None = []
beside device (Some entry) = (device, entry) ∷ []

-- these devices' own records of a name
abbrev pub owned : Tables → Folder → FileName → List (Device × FolderKind) → List Candidate
owned t folder name [] = []
owned t folder name (share ∷ more) = beside share.0 (t.own share.0 folder name) ++ owned t folder name more

-- the own records of all devices that share the folder
abbrev pub own_candidates : Tables → Folder → FileName → List Candidate
own_candidates t folder name = owned t folder name (t.sharing folder)

-- the smallest of these devices
abbrev pub smallest : List (Device × FolderKind) → Device
smallest [] = 0
smallest (share ∷ []) = share.0
smallest (share ∷ next ∷ more) = min share.0 (smallest (next ∷ more))

-- the winner of a name: the choice over the own records that aren't local-only (which are invalid), with the
-- smallest sharing device as chooser
abbrev pub IsWinner : Tables → Folder → FileName → Candidate → Type 0
IsWinner t folder name one = IsChoice (smallest (t.sharing folder)) (own_candidates t folder name) one
