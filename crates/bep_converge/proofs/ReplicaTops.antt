-- Where a replica made the record that its name awaited, this record prevails in the tables.
use Rattle.std.proofs.Common.{◌≡◌, ◌∙◌, ℕ, List, Option, Some, None, true, false, sym, ap, subst}
use Rattle.std.specs.FinMap.{get}
use Rattle.bep_record.specs.declared.entry.Entry.{Entry}
use Rattle.bep_record.specs.declared.node.NodeParts.{NodeParts}
use Rattle.bep_record.specs.Content.{Content, content_of}
use Rattle.bep_record.specs.Node.{IsClean}
use Rattle.bep_record.specs.Vector.{IsBump}
use Rattle.bep_model.specs.Tables.{Device, Folder, FileName}
use Rattle.bep_model.specs.Settled.{content_of_node}
use Rattle.bep_machine.specs.Cluster.{Cluster}
use Rattle.bep_machine.specs.Effects.{KeepsOtherNames}
use Rattle.bep_machine.specs.Replica.{Replica, own_at, node_at}
use Rattle.bep_machine.specs.Said.{looked_up, replica_said, tables_of_cluster}
use Rattle.bep_converge.specs.Awaits.{AwaitsRecord}
use Rattle.bep_converge.specs.Tops.{MakesTop}
use Rattle.bep_converge.proofs.ChangedAlone.{leaves_others}
use Rattle.bep_converge.proofs.NewTop.{made_prevails}
use Rattle.bep_converge.proofs.ReplicaAlone.{said_after, changed, changes_alone}

-- the record of the name that the replica has now, above this version, and its file
pub record IsMadeThere (device : Device) (name : FileName) (version : List (ℕ × ℕ)) (held : Option NodeParts) (before after : Replica) (entry : Entry) : Type 0 where
  pub keeps : KeepsOtherNames name before after
  pub own : own_at after name ≡ Some entry
  pub valid : entry.invalid ≡ false
  pub bump : IsBump version device entry.version
  pub clean : IsClean (node_at after name) (Some entry)
  pub holds : content_of_node (node_at after name) ≡ content_of entry
  pub gone : held ≡ None → entry.deleted ≡ true

-- what the tables say of the name is what the replica has
pub own_told : (cluster : Cluster) (device : Device) (folder : Folder) (name : FileName) (replica : Replica) → replica_said cluster device folder ≡ Some replica → (tables_of_cluster cluster).own device folder name ≡ own_at replica name
own_told cluster device folder name replica said = ap (looked_up own_at name) said

pub node_told : (cluster : Cluster) (device : Device) (folder : Folder) (name : FileName) (replica : Replica) → replica_said cluster device folder ≡ Some replica → (tables_of_cluster cluster).node device folder name ≡ node_at replica name
node_told cluster device folder name replica said = ap (looked_up node_at name) said

pub replica_makes_top : (old : Cluster) (device : Device) (folder : Folder) (name : FileName) (before after : Replica) (entry : Entry) (version : List (ℕ × ℕ)) (held : Option NodeParts) (like : Content) →
    get (old.peer device).replicas folder ≡ Some before → AwaitsRecord (tables_of_cluster old) device folder name version held →
    IsMadeThere device name version held before after entry → content_of entry ≡ like →
    MakesTop (tables_of_cluster old) (tables_of_cluster (changed old device folder after)) device folder name like
replica_makes_top old device folder name before after entry version held like here awaits made is =
    let new = changed old device folder after in
    let alone = changes_alone old device folder name before after here made.keeps in
    let said = said_after old device folder after awaits.shares in
    let node = node_told new device folder name after said in
    let recorded : (tables_of_cluster new).own device folder name ≡ Some entry = own_told new device folder name after said ∙ made.own in
    record {
      top = entry;
      recorded = recorded;
      content = is;
      prevails =
          made_prevails (tables_of_cluster old) (tables_of_cluster new) device folder name alone version held awaits entry
          (record {
            recorded = recorded;
            valid = made.valid;
            bump = made.bump;
            clean = subst (λ (n : Option NodeParts). IsClean n (Some entry)) (sym node) made.clean;
            holds = ap content_of_node node ∙ made.holds;
            gone = made.gone;
          });
      alone = alone;
      rest = leaves_others (tables_of_cluster old) (tables_of_cluster new) device folder name alone;
    }
