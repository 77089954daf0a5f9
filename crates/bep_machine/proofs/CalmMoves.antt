-- What each device's replicas and each link may do, so that the cluster makes a quiet move.
use Rattle.std.proofs.Common.{◌≡◌, ◌⊎◌, Bool, true, false, List, Option, Some, None, Contains, refl, sym, ap, subst, inl, inr, ⊎_elim, if◌then◌else◌}
use Rattle.std.specs.FinMap.{get}
use Rattle.bep_record.specs.declared.entry.Entry.{Entry}
use Rattle.bep_model.specs.declared.flight.Flight.{Flight}
use Rattle.bep_model.specs.Tables.{Device, Folder, FileName, Shares}
use Rattle.bep_model.specs.Foreign.{IsFlying, IsForeign}
use Rattle.bep_model.specs.Calm.{Contents, OnlyReceives, NodeIsCalm, IsCalm, SameFile}
use Rattle.bep_machine.specs.Replica.{Replica, own_at, node_at, viewed_at, target_at}
use Rattle.bep_machine.specs.Cluster.{Config, Cluster}
use Rattle.bep_machine.specs.Said.{is_among, replica_said, looked_up, on_its_way, tables_of_cluster}
use Rattle.bep_machine.proofs.CalmParts.{GoesOn}
use Rattle.bep_machine.proofs.CalmScan.{same_file}
use Rattle.bep_machine.proofs.CalmTables.{HasDue, IsQuietMove}

-- a record that a device has of others in a folder, in its views or as a target; without a replica it has none
abbrev pub ElsewhereIn : Option Replica → FileName → Entry → Type 0
ElsewhereIn replica name entry =
    ((other : Device) × (looked_up (λ one name. viewed_at one other name) name replica ≡ Some entry)) ⊎ (looked_up target_at name replica ≡ Some entry)

-- what a device's replica of a folder may become: own records go on, files stay, clean ones stay clean, and records of
-- others were there before or come from somewhere
pub record IsQuietPlace (Comes : FileName → Entry → Type 0) (receives : Type 0) (old new : Option Replica) : Type 0 where
  pub own : (name : FileName) → GoesOn receives (looked_up node_at name old) (looked_up own_at name old) (looked_up own_at name new)
  pub file : (name : FileName) → SameFile (looked_up node_at name old) (looked_up node_at name new)
  pub clean : (name : FileName) → NodeIsCalm (looked_up node_at name old) (looked_up own_at name old) → NodeIsCalm (looked_up node_at name new) (looked_up own_at name new)
  pub elsewhere : (name : FileName) (entry : Entry) → ElsewhereIn new name entry → ElsewhereIn old name entry ⊎ Comes name entry

-- the replica stays
pub quiet_where_same : (Comes : FileName → Entry → Type 0) (receives : Type 0) (replica : Option Replica) → IsQuietPlace Comes receives replica replica
quiet_where_same Comes receives replica = record {
  own = λ name. inl refl;
  file = λ name. same_file _;
  clean = λ name clean. clean;
  elsewhere = λ name entry was. inl was;
}

-- so what is told of it stays or changes so
place_said : (Comes : FileName → Entry → Type 0) (receives : Type 0) (shared : Bool) (old new : Option Replica) → IsQuietPlace Comes receives old new → IsQuietPlace Comes receives (if shared then old else None) (if shared then new else None)
place_said Comes receives true old new place = place
place_said Comes receives false old new place = quiet_where_same Comes receives None

-- the records of a flight have the contents that are due
abbrev pub AllDue : Contents → Flight → Type 0
AllDue contents flight = (entry : Entry) → Contains flight.records entry → HasDue contents flight.folder entry.name entry

-- what may become known of others: it is on its way to the device, or has the content that is due
abbrev pub IsComing : Contents → Cluster → Device → Folder → FileName → Entry → Type 0
IsComing contents cluster device folder name entry =
    IsFlying (tables_of_cluster cluster) device folder name entry ⊎ HasDue contents folder name entry

-- each device's replicas, and what flies between any two devices
pub record AreQuietParts (contents : Contents) (old new : Cluster) : Type 0 where
  pub config : new.config ≡ old.config
  pub places : (device : Device) (folder : Folder) →
      IsQuietPlace (IsComing contents old device folder) (OnlyReceives (tables_of_cluster old) device folder) (get (old.peer device).replicas folder) (get (new.peer device).replicas folder)
  pub flights : (sender receiver : Device) (flight : Flight) → Contains (on_its_way new sender receiver) flight → Contains (on_its_way old sender receiver) flight ⊎ AllDue contents flight

module _ (contents : Contents) (old new : Cluster) (parts : AreQuietParts contents old new) where
  shares_before : (device : Device) (folder : Folder) → Shares (tables_of_cluster new) device folder → Shares (tables_of_cluster old) device folder
  shares_before device folder shares = subst (λ (config : Config). Shares (record (tables_of_cluster new) { sharing = config.sharing }) device folder) parts.config shares

  place : (device : Device) (folder : Folder) → IsQuietPlace (IsComing contents old device folder) (OnlyReceives (tables_of_cluster old) device folder) (replica_said old device folder) (replica_said new device folder)
  place device folder =
      subst (λ (config : Config). IsQuietPlace (IsComing contents old device folder) (OnlyReceives (tables_of_cluster old) device folder) (replica_said old device folder) (if is_among device (config.sharing folder) then get (new.peer device).replicas folder else None)) (sym parts.config)
      (place_said (IsComing contents old device folder) (OnlyReceives (tables_of_cluster old) device folder) (is_among device (old.config.sharing folder)) (get (old.peer device).replicas folder) (get (new.peer device).replicas folder) (parts.places device folder))

  pub flown_before : (device : Device) (folder : Folder) (name : FileName) (entry : Entry) → IsFlying (tables_of_cluster new) device folder name entry → IsComing contents old device folder name entry
  flown_before device folder name entry flying =
      ⊎_elim
      (λ was. inl (record { sender = flying.sender; shares = shares_before flying.sender folder flying.shares; flight = flying.flight; sent = was; same_folder = flying.same_folder; carried = flying.carried; same_name = flying.same_name }))
      (λ due. inr (subst (λ in_folder. HasDue contents in_folder name entry) flying.same_folder (subst (λ at_name. HasDue contents flying.flight.folder at_name entry) flying.same_name (due entry flying.carried))))
      (parts.flights flying.sender device flying.flight flying.sent)

  pub came_from : (device : Device) (folder : Folder) (name : FileName) (entry : Entry) → entry.invalid ≡ false → IsComing contents old device folder name entry → IsForeign (tables_of_cluster old) device folder name entry ⊎ HasDue contents folder name entry
  came_from device folder name entry valid coming =
      ⊎_elim
      (λ flying. inl (record { known_by = inr (inl flying); valid = valid }))
      (λ due. inr due)
      coming

  had_from : (device : Device) (folder : Folder) (name : FileName) (entry : Entry) → entry.invalid ≡ false → ElsewhereIn (replica_said new device folder) name entry → IsForeign (tables_of_cluster old) device folder name entry ⊎ HasDue contents folder name entry
  had_from device folder name entry valid has =
      ⊎_elim
      (λ was. inl (record { known_by = ⊎_elim (λ viewed. inl viewed) (λ target. inr (inr target)) was; valid = valid }))
      (λ coming. came_from device folder name entry valid coming)
      ((place device folder).elsewhere name entry has)

  foreign_before : (device : Device) (folder : Folder) (name : FileName) (entry : Entry) → IsForeign (tables_of_cluster new) device folder name entry → IsForeign (tables_of_cluster old) device folder name entry ⊎ HasDue contents folder name entry
  foreign_before device folder name entry foreign =
      ⊎_elim
      (λ viewed. had_from device folder name entry foreign.valid (inl viewed))
      (λ rest.
      ⊎_elim
      (λ flying. came_from device folder name entry foreign.valid (flown_before device folder name entry flying))
      (λ target. had_from device folder name entry foreign.valid (inr target))
      rest)
      foreign.known_by

  pub move_of_parts : (reset : List Device) → IsCalm (tables_of_cluster old) contents reset → IsQuietMove contents reset (tables_of_cluster old) (tables_of_cluster new)
  move_of_parts reset calm = record {
    sharing = λ folder. ap (λ (config : Config). config.sharing folder) parts.config;
    own = λ device folder name shares. inl ((place device folder).own name);
    file = λ device folder name. (place device folder).file name;
    clean = λ device folder name shares. (place device folder).clean name (calm device folder name shares).node;
    foreign = λ device folder name entry shares foreign. foreign_before device folder name entry foreign;
  }
