-- What is read of a device's folder: what its store holds, and which names are there (this project's profile).
use Rattle.std.specs.Prelude.{◌≡◌, ◌<◌, ◌↔◌, Some, None, Result, Ok, Err, IsSome}
use Rattle.std.specs.FinMap.{get}
use Rattle.bep_map.specs.NameMap.{ByName}
use Rattle.bep_record.specs.declared.node.NodeParts.{NodeParts}
use Rattle.bep_model.specs.Tables.{FileName, Folder}
use Rattle.bep_machine.specs.declared.refusal.Refusal.TheVariants.{StoreFault, NotShared}
use Rattle.bep_machine.specs.Replica.{Replica}
use Rattle.bep_folder.specs.Held.{Held}
use Rattle.bep_folder.specs.Makes.{Stays}
use Rattle.bep_folder.specs.Names.{IsNameHere}
use Rattle.bep_peer.specs.declared.error.PeerError.{PeerError}
use Rattle.bep_peer.specs.declared.error.PeerError.TheVariants.{Refused, Memory}
use Rattle.bep_peer.specs.Member.{Member, untold}
use Rattle.bep_peer.specs.Within.{with_folder}

-- the folder's store was read, which changes no table
pub record IsReadIn (folder : Folder) (old new : Member) : Type 0 where
  pub before : Held
  pub after : Held
  pub there : get old.folders folder ≡ Some before
  pub now : new ≡ with_folder old folder after
  pub tables : after.tables ≡ before.tables
  pub stays : Stays before after

-- This was read of the folder; or the device doesn't have the folder, or a call of its store failed, or memory was wanting.
-- The store's count of faults rises where a call failed, and else is as before.
abbrev pub ReadsIn : {A : Type 0} → (Replica → A → Type 0) → Folder → Member → Member → Result A PeerError → Type 0
ReadsIn IsRight folder old new (Ok answer) =
    (read : IsReadIn folder old new) × (read.after.faults ≡ read.before.faults) × IsRight read.before.tables answer
ReadsIn IsRight folder old new (Err (Refused NotShared)) = (get old.folders folder ≡ None) × (new ≡ untold old)
ReadsIn IsRight folder old new (Err (Refused StoreFault)) = (read : IsReadIn folder old new) × (read.before.faults < read.after.faults)
ReadsIn IsRight folder old new (Err Memory) = (read : IsReadIn folder old new) × (read.after.faults ≡ read.before.faults)
ReadsIn IsRight folder old new (Err error) = ⊥

-- the store holds these
abbrev pub HoldsNodes : Replica → ByName NodeParts → Type 0
HoldsNodes tables nodes = nodes ≡ tables.store

-- these are the names of which the store has a node or the device a record
abbrev pub HasNames : Replica → ByName (Unit {0}) → Type 0
HasNames tables names = (name : FileName) → IsSome (get names name) ↔ IsNameHere tables name

-- what the folder's store holds is answered
abbrev pub ReadsOutIn : Folder → Member → Member → Result (ByName NodeParts) PeerError → Type 0
ReadsOutIn = ReadsIn HoldsNodes

-- the names that are there are answered
abbrev pub NamesIn : Folder → Member → Member → Result (ByName (Unit {0})) PeerError → Type 0
NamesIn = ReadsIn HasNames
