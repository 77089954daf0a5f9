-- The tables of a cluster tell of a device's replica exactly where the device shares the folder.
use Rattle.std.proofs.Common.{◌≡◌, ◌==◌, Bool, true, false, Option, Some, None, IsSome, Contains, refl, sym, ap, subst, if◌then◌else◌}
use Rattle.std.proofs.lemmas.Bool.{eqb-true, eq-eqb}
use Rattle.std.specs.FinMap.{get}
use Rattle.bep_record.specs.declared.folder_kind.FolderKind.{FolderKind}
use Rattle.bep_model.specs.Tables.{Device, Folder, FileName}
use Rattle.bep_model.specs.Stays.{KeepsRecords}
use Rattle.bep_machine.specs.Replica.{Replica, own_at}
use Rattle.bep_machine.specs.Cluster.{Config, Cluster}
use Rattle.bep_machine.specs.Steps.{SharesFolder}
use Rattle.bep_machine.specs.Said.{is_among, replica_said, looked_up, tables_of_cluster}
use Rattle.bep_machine.proofs.LinkSteps.{any_from_member, member_from_any}

pub shares_test : (config : Config) (device : Device) (folder : Folder) → SharesFolder config device folder → is_among device (config.sharing folder) ≡ true
shares_test config device folder shares =
    any_from_member (λ (share : Device × FolderKind). share.0 == device) (config.sharing folder) (device, shares.0) shares.1 (eq-eqb device device refl)

shares_from_test : (config : Config) (device : Device) (folder : Folder) → is_among device (config.sharing folder) ≡ true → SharesFolder config device folder
shares_from_test config device folder among =
    let found = member_from_any (λ (share : Device × FolderKind). share.0 == device) (config.sharing folder) among in
    (found.0.1, subst (λ (d : Device). Contains (config.sharing folder) (d, found.0.1)) (eqb-true found.0.0 device found.2) found.1)

-- of a device that shares the folder its replica is told
pub said_where_shared : (cluster : Cluster) (device : Device) (folder : Folder) → SharesFolder cluster.config device folder → replica_said cluster device folder ≡ get (cluster.peer device).replicas folder
said_where_shared cluster device folder shares =
    ap (λ (b : Bool). if b then get (cluster.peer device).replicas folder else None) (shares_test cluster.config device folder shares)

-- what is told is of such a device
pub shared_where_said : {X : Type 0} (look : Replica → FileName → Option X) (cluster : Cluster) (device : Device) (folder : Folder) (name : FileName) → IsSome (looked_up look name (replica_said cluster device folder)) →
    SharesFolder cluster.config device folder × ((replica : Replica) × (get (cluster.peer device).replicas folder ≡ Some replica) × IsSome (look replica name))
shared_where_said look cluster device folder name has = by_test (is_among device (cluster.config.sharing folder)) (get (cluster.peer device).replicas folder) refl refl has
  where
    by_test : (b : Bool) (found : Option Replica) → is_among device (cluster.config.sharing folder) ≡ b → get (cluster.peer device).replicas folder ≡ found → IsSome (looked_up look name (if b then found else None)) →
        SharesFolder cluster.config device folder × ((replica : Replica) × (get (cluster.peer device).replicas folder ≡ Some replica) × IsSome (look replica name))
    by_test true (Some replica) among there has = (shares_from_test cluster.config device folder among, (replica, there, has))
    by_test true None among there has = absurd (cc)
    by_test false found among there has = absurd (cc)

-- where no replica loses an own record, the tables lose none
pub records_said : (old new : Cluster) → new.config ≡ old.config →
    ((device : Device) (folder : Folder) (name : FileName) → IsSome (looked_up own_at name (get (old.peer device).replicas folder)) → IsSome (looked_up own_at name (get (new.peer device).replicas folder))) →
    KeepsRecords (tables_of_cluster old) (tables_of_cluster new)
records_said old new config keeps device folder name =
    subst (λ (c : Config). IsSome (looked_up own_at name (replica_said old device folder)) → IsSome (looked_up own_at name (if is_among device (c.sharing folder) then get (new.peer device).replicas folder else None))) (sym config)
    (by_test (is_among device (old.config.sharing folder)))
  where
    by_test : (b : Bool) → IsSome (looked_up own_at name (if b then get (old.peer device).replicas folder else None)) → IsSome (looked_up own_at name (if b then get (new.peer device).replicas folder else None))
    by_test true has = keeps device folder name has
    by_test false has = has
