-- What want of memory doesn't hide: an action that wants memory is refused nothing (this project's profile).
use Rattle.std.specs.Prelude.{◌≡◌, ⊤, Some, Result, Ok, Err}
use Rattle.std.specs.FinMap.{get}
use Rattle.bep_model.specs.Tables.{Device, Folder}
use Rattle.bep_machine.specs.Answer.{Row}
use Rattle.bep_machine.specs.Link.{Sight, end_of, sight_of}
use Rattle.bep_machine.specs.Peer.{Peer, Acted}
use Rattle.bep_machine.specs.Replica.{Replica}
use Rattle.bep_folder.specs.Held.{Held}
use Rattle.bep_folder.specs.Unhidden.{RefusesNone}
use Rattle.bep_peer.specs.declared.error.PeerError.{PeerError}
use Rattle.bep_peer.specs.declared.error.PeerError.TheVariants.{Memory}
use Rattle.bep_peer.specs.Lent.{Lent, Joins}
use Rattle.bep_peer.specs.Member.{Member, tables_of}

-- nothing was refused: it was done, or memory was wanting
abbrev pub GoesOn : {T : Type 0} → Result T PeerError → Type 0
GoesOn (Ok done) = ⊤
GoesOn (Err Memory) = ⊤
GoesOn (Err refused) = ⊥

-- An action over a link is refused nothing: what it names is at hand, and the row at the device's end refuses nothing.
pub record IsUnrefused (row : Device → Sight → Peer → Row Acted) (shares : Device → Peer → Type 0) (old : Lent) : Type 0 where
  pub other : Device
  pub joins : Joins old other
  pub at_hand : shares other (tables_of old.member)
  pub unrefused : RefusesNone (row other (sight_of (end_of old.member.number other) old.link.link) (tables_of old.member))

-- An action within a folder is refused nothing: the device has the folder, and the row refuses nothing there.
pub record IsUnrefusedWithin (folder : Folder) (row : Replica → Row Replica) (old : Member) : Type 0 where
  pub held : Held
  pub there : get old.folders folder ≡ Some held
  pub unrefused : RefusesNone (row held.tables)
