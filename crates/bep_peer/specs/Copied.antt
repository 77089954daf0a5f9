-- A copy of a device in memory, and what reading its stores for it leaves of the device (this project's profile).
use Rattle.std.specs.Prelude.{◌≡◌, map, option_map}
use Rattle.std.specs.FinMap.{entries, from_entries, get}
use Rattle.bep_map.specs.NameMap.{ByName}
use Rattle.bep_model.specs.Tables.{Folder}
use Rattle.bep_folder.specs.Contents.{copied_out}
use Rattle.bep_folder.specs.Held.{Held}
use Rattle.bep_folder.specs.Trace.{no_trace}
use Rattle.bep_peer.specs.Member.{Member, nothing_told}

-- each folder, over a store in memory
abbrev pub folders_copied : ByName Held → ByName Held
folders_copied folders = from_entries (map (λ one. (one.0, copied_out one.1)) (entries folders))

-- the device over stores in memory, with nothing told
abbrev pub member_copied : Member → Member
member_copied member = record member { folders = folders_copied member.folders; trace = nothing_told }

-- the folder, without the trace of the calls of its store
abbrev pub uncalled : Held → Held
uncalled held = record held { made = 0; trace = no_trace }

-- stores were read: no table changed, and no store failed
pub record IsReread (old new : Member) : Type 0 where
  pub number : new.number ≡ old.number
  pub linked : new.linked ≡ old.linked
  pub sessions : new.sessions ≡ old.sessions
  pub folders : (folder : Folder) → option_map uncalled (get new.folders folder) ≡ option_map uncalled (get old.folders folder)
