-- What holds of every cluster: its records are well formed and stand under their names, its sessions and links fit its
-- configuration (the limits are this project's profile).
use Rattle.std.specs.Prelude.{◌≡◌, ◌≢◌, ◌↔◌, ◌<◌, ◌≤◌, ℕ, ⊤, false, List, [], ◌∷◌, length, Option, Some, None, IsSome, Contains}
use Rattle.std.specs.FinMap.{empty, get, len}
use Rattle.bep_record.specs.declared.block.Block.{Block}
use Rattle.bep_record.specs.declared.node.NodeParts.{NodeParts}
use Rattle.bep_record.specs.declared.limits.TheConstants.{MAX_MESSAGES, MAX_PULLS}
use Rattle.bep_record.specs.Node.{IsNode}
use Rattle.bep_index.specs.Listing.{Listing}
use Rattle.bep_index.specs.Index.{IsIndex}
use Rattle.bep_index.specs.View.{IsView}
use Rattle.bep_index.specs.Batch.{IsBatch}
use Rattle.bep_index.specs.Good.{AllGood, AreGood, IsGood}
use Rattle.bep_index.specs.declared.send.Plan.{Plan}
use Rattle.bep_model.specs.Tables.{Device, Folder, FileName}
use Rattle.bep_machine.specs.declared.limits.TheConstants.{MAX_OUTSTANDING}
use Rattle.bep_machine.specs.declared.message.Message.{Message}
use Rattle.bep_machine.specs.declared.message.Message.TheVariants as messages
use Rattle.bep_machine.specs.Replica.{Pull, Replica}
use Rattle.bep_machine.specs.Link.{Link}
use Rattle.bep_machine.specs.Peer.{Session, Peer}
use Rattle.bep_machine.specs.Exchange.{SharesWith}
use Rattle.bep_machine.specs.Cluster.{Config, Cluster}
use Rattle.bep_machine.specs.Steps.{SharesFolder}

-- ---- a replica

-- each block that was received has its block's size (that it has the hash isn't asked: a device tests it before it takes
-- the block, and nothing here rests on it)
abbrev pub AreReceived : List Block → List (Option (List ℕ)) → Type 0
AreReceived [] [] = ⊤
AreReceived (block ∷ blocks) (None ∷ received) = AreReceived blocks received
AreReceived (block ∷ blocks) (Some bytes ∷ received) =
    (length bytes ≡ block.size) × AreReceived blocks received
AreReceived _ _ = ⊥

-- a pull stands at its target's name; nobody pulls an invalid record
pub record IsSoundPull (name : FileName) (pull : Pull) : Type 0 where
  pub named : pull.target.name ≡ name
  pub valid : pull.target.invalid ≡ false
  pub good : IsGood pull.target
  pub received : AreReceived pull.target.blocks pull.received

-- a view of a device that shares the folder
pub record IsSoundView (others : List Device) (other : Device) (view : Listing) : Type 0 where
  pub shares : Contains others other
  pub view_of_index : IsView view
  pub good : AreGood view.records

pub record IsSoundReplica (device : Device) (replica : Replica) : Type 0 where
  pub index : IsIndex replica.index
  pub id : 1 ≤ replica.index.id
  pub own : AreGood replica.index.records
  pub views : (other : Device) (view : Listing) → get replica.views other ≡ Some view → IsSoundView replica.others other view
  pub pulls : (name : FileName) (pull : Pull) → get replica.pulls name ≡ Some pull → IsSoundPull name pull
  pub few_pulls : len replica.pulls ≤ MAX_PULLS
  pub store : (name : FileName) (node : NodeParts) → get replica.store name ≡ Some node → IsNode node

-- ---- a device

-- a replica is of a folder that the device shares, in its kind, and knows who else shares it
pub record FitsFolder (config : Config) (device : Device) (folder : Folder) (replica : Replica) : Type 0 where
  pub kind : Contains (config.sharing folder) (device, replica.kind)
  pub others : (other : Device) → Contains replica.others other ↔ ((other ≢ device) × SharesFolder config other folder)

-- a session names only folders that both ends share, and none before the ClusterConfig came
pub record IsSoundSession (other : Device) (peer : Peer) (session : Session) : Type 0 where
  pub named : (folder : Folder) (cursor : Plan) → get session.cursors folder ≡ Some cursor → SharesWith other peer folder
  pub unnamed : session.configured ≡ false → session.cursors ≡ empty
  pub few : length session.outstanding ≤ MAX_OUTSTANDING

pub record IsSoundPeer (config : Config) (device : Device) (peer : Peer) : Type 0 where
  pub replicas : (folder : Folder) (replica : Replica) → get peer.replicas folder ≡ Some replica → IsSoundReplica device replica
  pub fit : (folder : Folder) (replica : Replica) → get peer.replicas folder ≡ Some replica → FitsFolder config device folder replica
  pub all : (folder : Folder) → SharesFolder config device folder → IsSome (get peer.replicas folder)
  pub sessions : (other : Device) (session : Session) → get peer.sessions other ≡ Some session → IsSoundSession other peer session

-- ---- a link

-- the records of an Index or an IndexUpdate are a batch of well-formed records
abbrev pub IsSoundMessage : Message → Type 0
IsSoundMessage (messages.Index folder batch) = IsBatch batch × AllGood batch
IsSoundMessage (messages.IndexUpdate folder batch) = IsBatch batch × AllGood batch
IsSoundMessage message = ⊤

pub record IsSoundQueue (queue : List Message) : Type 0 where
  pub few : length queue ≤ MAX_MESSAGES
  pub messages : (message : Message) → Contains queue message → IsSoundMessage message

-- nothing is on its way over a link that is down
pub record IsSoundLink (link : Link) : Type 0 where
  pub to_lower : IsSoundQueue link.to_lower
  pub to_upper : IsSoundQueue link.to_upper
  pub down : link.up ≡ false → (link.to_lower ≡ []) × (link.to_upper ≡ [])

-- ---- the whole

-- folders are shared by devices of the cluster, whose numbers are 1 or more, and links join two of these, the smaller first
pub record IsSoundConfig (config : Config) : Type 0 where
  pub numbered : (device : Device) → Contains config.devices device → 1 ≤ device
  pub sharing : (folder : Folder) (device : Device) → SharesFolder config device folder → Contains config.devices device
  pub links : (one other : Device) → Contains config.links (one, other) →
      (one < other) × Contains config.devices one × Contains config.devices other

pub record IsSound (cluster : Cluster) : Type 0 where
  pub config : IsSoundConfig cluster.config
  pub peers : (device : Device) → Contains cluster.config.devices device → IsSoundPeer cluster.config device (cluster.peer device)
  pub links : (one other : Device) → Contains cluster.config.links (one, other) → IsSoundLink (cluster.link one other)
