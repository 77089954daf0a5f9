-- Whether a puller begins a pull (this project's profile).
use Rattle.std.specs.Prelude.{◌≡◌, Some, None}
use Rattle.std.specs.FinMap.{get}
use Rattle.bep_model.specs.Tables.{Folder, FileName}
use Rattle.bep_folder.specs.Held.{Held}
use Rattle.bep_peer.specs.Member.{Member}

-- the device has no pull of the name in the folder
abbrev pub HasNoPull : Member → Folder → FileName → Type 0
HasNoPull member folder name =
    (held : Held) → get member.folders folder ≡ Some held → get held.tables.pulls name ≡ None
