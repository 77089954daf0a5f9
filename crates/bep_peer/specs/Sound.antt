-- A device that is sound: what it has of each folder, and each of its sessions (BEP v1, 'Cluster Config'; sessions are this
-- project's profile).
use Rattle.std.specs.Prelude.{◌≡◌, ◌≤◌, Some}
use Rattle.std.specs.FinMap.{get}
use Rattle.bep_model.specs.Tables.{Device, Folder}
use Rattle.bep_machine.specs.Peer.{Session}
use Rattle.bep_machine.specs.Replica.{Replica}
use Rattle.bep_machine.specs.Sound.{IsSoundReplica, IsSoundSession}
use Rattle.bep_folder.specs.Held.{Held}
use Rattle.bep_peer.specs.Member.{Member, tables_of}

-- what a device has of a folder is sound
abbrev pub IsSoundHeld : Folder × Held → Type 0
IsSoundHeld one = IsSoundReplica one.1.device one.1.tables

-- so is each of the device's folders, and each of its sessions; its number is 1 or more
pub record IsSoundMember (member : Member) : Type 0 where
  pub numbered : 1 ≤ member.number
  pub replicas : (folder : Folder) (replica : Replica) → get (tables_of member).replicas folder ≡ Some replica → IsSoundReplica member.number replica
  pub sessions : (other : Device) (session : Session) → get member.sessions other ≡ Some session → IsSoundSession other (tables_of member) session
