-- No gap in what a device knows of another's index (BEP v1, 'Index' and 'Index Update').
use Rattle.std.specs.Prelude.{◌≡◌, ◌≤◌, false, Some, Contains}
use Rattle.std.specs.FinMap.{empty, get}
use Rattle.bep_record.specs.declared.entry.Entry.{Entry}
use Rattle.bep_index.specs.Listing.{Listing}
use Rattle.bep_index.specs.View.{cleared}
use Rattle.bep_model.specs.Tables.{Device, Folder, FileName}
use Rattle.bep_machine.specs.Replica.{Replica, view_of}
use Rattle.bep_machine.specs.Peer.{Session}
use Rattle.bep_machine.specs.Cluster.{Cluster, link_between}
use Rattle.bep_machine.specs.Steps.{SharesFolder}

-- the view has each record of the index up to its own sequence, no name that the index lacks, and no record that is newer
-- than the index's own; and it isn't ahead of the index
pub record HasNoGap (index view : Listing) : Type 0 where
  pub held : (name : FileName) (entry : Entry) → get index.records name ≡ Some entry → entry.sequence ≤ view.sequence → get view.records name ≡ Some entry
  pub named : (name : FileName) (entry : Entry) → get view.records name ≡ Some entry →
      (present : Entry) × (get index.records name ≡ Some present) × (entry.sequence ≤ present.sequence)
  pub behind : view.sequence ≤ index.sequence

-- so it is of each view that a device has of another one in a folder that both share, under the id of that one's own index; of a view under another id nothing is said
abbrev pub IsGapless : Cluster → Type 0
IsGapless cluster =
    (device other : Device) (folder : Folder) (replica others : Replica) → SharesFolder cluster.config device folder →
    get (cluster.peer device).replicas folder ≡ Some replica → get (cluster.peer other).replicas folder ≡ Some others →
    Contains replica.others other → (view_of replica other).id ≡ others.index.id →
    HasNoGap others.index (view_of replica other)

-- no view that a device has of another one in a folder that both share is under an id above that of that one's own index:
-- it is of this index, or of one before it
abbrev pub IsOfNoLaterIndex : Cluster → Type 0
IsOfNoLaterIndex cluster =
    (device other : Device) (folder : Folder) (replica others : Replica) → SharesFolder cluster.config device folder →
    get (cluster.peer device).replicas folder ≡ Some replica → get (cluster.peer other).replicas folder ≡ Some others →
    Contains replica.others other → (view_of replica other).id ≤ others.index.id

-- Where all links are down: no view has a gap, none is of an index that is still to come, and no session is of an epoch that
-- its link is still to have. Views of earlier indexes than the present ones may have any records and be at any point.
pub record IsApart (cluster : Cluster) : Type 0 where
  pub gapless : IsGapless cluster
  pub earlier : IsOfNoLaterIndex cluster
  pub sessions : (device other : Device) (session : Session) → get (cluster.peer device).sessions other ≡ Some session →
      session.epoch ≤ (link_between cluster device other).epoch
  pub links : (one other : Device) → (cluster.link one other).up ≡ false

-- before anything was exchanged: no session was begun, no link is up, and nothing is known of another's index
pub record IsFresh (cluster : Cluster) : Type 0 where
  pub views : (device other : Device) (folder : Folder) (replica : Replica) → get (cluster.peer device).replicas folder ≡ Some replica →
      view_of replica other ≡ cleared 0
  pub sessions : (device : Device) → (cluster.peer device).sessions ≡ empty
  pub links : (one other : Device) → (cluster.link one other).up ≡ false
