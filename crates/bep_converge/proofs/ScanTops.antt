-- The scan of a name that awaits it makes a record that prevails.
use Rattle.std.proofs.Common.{◌≡◌, ◌≢◌, ◌∙◌, ◌≤◌, ℕ, Option, Some, None, IsSome, true, false, refl, sym, ap, subst, inr, ⊎_elim}
use Rattle.std.proofs.lemmas.Bool.{cases_Bool}
use Rattle.std.specs.FinMap.{get}
use Rattle.bep_record.specs.declared.entry.Entry.{Entry}
use Rattle.bep_record.specs.declared.node.NodeParts.{NodeParts}
use Rattle.bep_record.specs.declared.folder_kind.FolderKind.TheVariants.{ReceiveOnly}
use Rattle.bep_record.specs.Node.{IsClean}
use Rattle.bep_record.specs.Vector.{IsBump}
use Rattle.bep_model.specs.Tables.{Device, Folder, FileName}
use Rattle.bep_model.specs.Settled.{content_of_node}
use Rattle.bep_machine.specs.declared.moved.Moved.{Moved}
use Rattle.bep_machine.specs.declared.moved.Moved.TheVariants.{Changed}
use Rattle.bep_machine.specs.declared.step.Step.TheVariants.{Scan}
use Rattle.bep_machine.specs.Answer.{Done}
use Rattle.bep_machine.specs.Cluster.{Cluster}
use Rattle.bep_machine.specs.Determined.{StepsAreDetermined}
use Rattle.bep_machine.specs.Effects.{HasRecorded, ScanRaises, KeepsOtherNames}
use Rattle.bep_machine.specs.Local.{ScanRow}
use Rattle.bep_machine.specs.Replica.{Replica, own_at, node_at, version_of}
use Rattle.bep_machine.specs.Said.{tables_of_cluster}
use Rattle.bep_machine.specs.Sound.{IsSound, IsSoundReplica, FitsFolder}
use Rattle.bep_machine.specs.Steps.{SharesFolder, IsStep}
use Rattle.bep_converge.specs.Awaits.{AwaitsScan}
use Rattle.bep_converge.specs.Tops.{MakesTop}
use Rattle.bep_converge.specs.AfterLaws.{RecordsChanges, ScanMakesTop, ScanCanBeMade}
use Rattle.bep_converge.proofs.DoneRows.{HadRoom, not_refused, done_row, scan_found, scan_puts, found_had_room}
use Rattle.bep_converge.proofs.ReplicaAlone.{said_here, changed}
use Rattle.bep_converge.proofs.ReplicaTops.{IsMadeThere, own_told, node_told, replica_makes_top}

-- ---- a sound cluster

pub device_number : (cluster : Cluster) → IsSound cluster → (device : Device) (folder : Folder) → SharesFolder cluster.config device folder → 1 ≤ device
device_number cluster sound device folder shares = sound.config.numbered device (sound.config.sharing folder device shares)

module _ (cluster : Cluster) (sound : IsSound cluster) (device : Device) (folder : Folder) (shares : SharesFolder cluster.config device folder) (replica : Replica) (here : get (cluster.peer device).replicas folder ≡ Some replica) where
  pub sound_there : IsSoundReplica device replica
  sound_there = (sound.peers device (sound.config.sharing folder device shares)).replicas folder replica here

  pub fits_there : FitsFolder cluster.config device folder replica
  fits_there = (sound.peers device (sound.config.sharing folder device shares)).fit folder replica here

-- ---- one replica

-- the record that a scan made
module _ (device : Device) (name : FileName) (before after : Replica) (entry : Entry) (unclean : ¬ IsClean (node_at before name) (own_at before name))
    (row : ScanRow device name None before after (Done Changed)) (recorded : HasRecorded device name before after entry) where
  scan_keeps : KeepsOtherNames name before after
  scan_keeps =
      let put = scan_puts device name None before after Changed unclean row in
      record {
        records = recorded.others;
        files = λ other apart. ap (λ (s : _). get s other) recorded.store;
        pulls = ap (λ (r : Replica). r.pulls) put.1;
        views = ap (λ (r : Replica). r.views) put.1;
      }

  deleted_where_gone : (held : Option NodeParts) → held ≡ None → (entry.deleted ≡ false → IsSome held) → entry.deleted ≡ true
  deleted_where_gone held gone there =
      ⊎_elim (λ is. is) (λ stays. let some = subst (λ (n : Option NodeParts). IsSome n) gone (there stays) in absurd (cc)) (cases_Bool entry.deleted)

  scan_made : entry.invalid ≡ false → IsBump (version_of (own_at before name)) device entry.version → IsMadeThere device name (version_of (own_at before name)) (node_at before name) before after entry
  scan_made valid bump = record {
    keeps = scan_keeps;
    own = recorded.own;
    valid = valid;
    bump = bump;
    clean = recorded.clean;
    holds = ap (λ (s : _). content_of_node (get s name)) recorded.store ∙ sym recorded.content;
    gone = λ none. deleted_where_gone (node_at before name) none recorded.there.0;
  }

-- ---- the cluster

module _ (raises : ScanRaises) (device : Device) (folder : Folder) (name : FileName) (old : Cluster) (sound : IsSound old)
    (records : RecordsChanges (tables_of_cluster old) device folder) (awaits : AwaitsScan (tables_of_cluster old) device folder name)
    (before : Replica) (here : get (old.peer device).replicas folder ≡ Some before) where
  shares : SharesFolder old.config device folder
  shares = awaits.awaits.shares

  own_is : (tables_of_cluster old).own device folder name ≡ own_at before name
  own_is = own_told old device folder name before (said_here old device folder before shares here)

  node_is : (tables_of_cluster old).node device folder name ≡ node_at before name
  node_is = node_told old device folder name before (said_here old device folder before shares here)

  kept : before.kind ≢ ReceiveOnly
  kept = records before.kind (fits_there old sound device folder shares before here).kind

  unclean_there : ¬ IsClean (node_at before name) (own_at before name)
  unclean_there clean =
      awaits.unclean
      (subst (λ (o : Option Entry). IsClean ((tables_of_cluster old).node device folder name) o) (sym own_is)
      (subst (λ (n : Option NodeParts). IsClean n (own_at before name)) (sym node_is) clean))

  -- what the scan makes, where there is room
  record IsTopped : Type 0 where
    after : Replica
    row : ScanRow device name None before after (Done Changed)
    tops : MakesTop (tables_of_cluster old) (tables_of_cluster (changed old device folder after)) device folder name (content_of_node ((tables_of_cluster old).node device folder name))

  scan_tops : HadRoom device name before → IsTopped
  scan_tops had =
      let made = raises device name before (device_number old sound device folder shares) (sound_there old sound device folder shares before here) kept unclean_there had.counter had.few had.room in
      let after = made.0 in
      let entry = made.1 in
      let there = scan_made device name before after entry unclean_there made.2 made.3 made.4 made.5 in
      let as_told : IsMadeThere device name (version_of ((tables_of_cluster old).own device folder name)) ((tables_of_cluster old).node device folder name) before after entry =
      subst (λ (o : Option Entry). IsMadeThere device name (version_of o) ((tables_of_cluster old).node device folder name) before after entry) (sym own_is)
      (subst (λ (n : Option NodeParts). IsMadeThere device name (version_of (own_at before name)) n before after entry) (sym node_is) there) in
      record {
        after = after;
        row = made.2;
        tops =
            replica_makes_top old device folder name before after entry (version_of ((tables_of_cluster old).own device folder name)) ((tables_of_cluster old).node device folder name)
            (content_of_node ((tables_of_cluster old).node device folder name)) here awaits.awaits as_told (made.3.content ∙ ap content_of_node (sym node_is));
      }

  -- the row, with the call of the store that failed in a scan that was made
  row_again : (failed : Option ℕ) (after new : Replica) (moved : Moved) → ScanRow device name failed before new (Done moved) → ScanRow device name None before after (Done Changed) → ScanRow device name failed before after (Done Changed)
  row_again failed after new moved made row = inr ((not_refused made).0, (not_refused row).1)

  step_of : (failed : Option ℕ) (after : Replica) → ScanRow device name failed before after (Done Changed) → IsStep (Scan device folder name) failed old (changed old device folder after) (Done Changed)
  step_of failed after row = inr (inr ((λ absent. absent shares), (before, after, here, row, refl)))

pub scan_can_be_made_lem : ScanRaises → ScanCanBeMade
scan_can_be_made_lem raises device folder name old sound records awaits room =
    let topped = scan_tops raises device folder name old sound records awaits room.replica room.here (record { counter = room.counter; few = room.few; room = room.room }) in
    (changed old device folder topped.after, step_of raises device folder name old sound records awaits room.replica room.here None topped.after topped.row)

pub scan_makes_top_lem : ScanRaises → StepsAreDetermined → ScanMakesTop
scan_makes_top_lem raises determined device folder name failed old new moved sound records awaits made =
    let row = done_row (Scan device folder name) failed old new moved made in
    let before = row.0 in
    let here = row.2 in
    let unclean = unclean_there raises device folder name old sound records awaits before here in
    let found = scan_found device name failed before row.1 moved unclean row.3 in
    let had = found_had_room before.kind device name before row.1 moved (kept raises device folder name old sound records awaits before here) found.1 in
    let topped = scan_tops raises device folder name old sound records awaits before here had in
    let again = row_again raises device folder name old sound records awaits before here failed topped.after row.1 moved row.3 topped.row in
    let step = step_of raises device folder name old sound records awaits before here failed topped.after again in
    let same : changed old device folder topped.after ≡ new =
    (determined (Scan device folder name) failed old (changed old device folder topped.after) new (Done Changed) (Done moved) sound step made (λ no. cc) (λ no. cc)).0 in
    subst (λ (c : Cluster). MakesTop (tables_of_cluster old) (tables_of_cluster c) device folder name (content_of_node ((tables_of_cluster old).node device folder name))) same topped.tops
