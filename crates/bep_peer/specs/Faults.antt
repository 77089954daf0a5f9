-- How often the stores of a device's folders failed (this project's profile).
use Rattle.std.specs.Prelude.{◌≡◌, Some}
use Rattle.std.specs.FinMap.{get}
use Rattle.bep_model.specs.Tables.{Folder}
use Rattle.bep_folder.specs.Held.{Held}
use Rattle.bep_peer.specs.Member.{Member}

-- no folder's store counts more or fewer faults than before
abbrev pub HaveSameFaults : Member → Member → Type 0
HaveSameFaults old new = (folder : Folder) (was now : Held) → get old.folders folder ≡ Some was → get new.folders folder ≡ Some now → now.faults ≡ was.faults
