-- A device with its folders and sessions (BEP v1, 'Cluster Config'; sessions and epochs are this project's profile).
use Rattle.std.specs.Prelude.{ℕ, Bool, false, ◌==◌, List, [], ◌∷◌, if◌then◌else◌}
use Rattle.std.specs.List.{flat_map, list_any}
use Rattle.std.specs.FinMap.{empty, entries, insert}
use Rattle.bep_map.specs.NameMap.{ByName}
use Rattle.bep_index.specs.declared.send.Plan.{Plan}
use Rattle.bep_model.specs.Tables.{Device, Folder}
use Rattle.bep_machine.specs.declared.message.Announced.{Announced}
use Rattle.bep_machine.specs.declared.message.Request.{Request}
use Rattle.bep_machine.specs.Replica.{ByDevice, Replica, view_of}
use Rattle.bep_machine.specs.Link.{Deed, nothing_done}

-- a device's session with another one, over one connection of their link
pub record Session : Type 0 where
  -- the link's epoch in which it began
  pub epoch : ℕ
  -- whether the other's ClusterConfig was delivered
  pub configured : Bool
  -- for each folder that the ClusterConfig named, what is sent next: the whole index, or what is above a sequence
  pub cursors : ByName Plan
  -- the requests that weren't answered yet
  pub outstanding : List Request
  -- the number of the next request
  pub next : ℕ

-- a device: its replicas by folder, and its sessions by the other device
pub record Peer : Type 0 where
  pub replicas : ByName Replica
  pub sessions : ByDevice Session

-- a session that begins now
abbrev pub new_session : ℕ → Session
new_session epoch = record { epoch = epoch; configured = false; cursors = empty; outstanding = []; next = 1 }

abbrev pub with_replica : Peer → Folder → Replica → Peer
with_replica peer folder replica = record peer { replicas = insert peer.replicas folder replica }

abbrev pub with_session : Peer → Device → Session → Peer
with_session peer other session = record peer { sessions = insert peer.sessions other session }

-- the other device shares the replica's folder
abbrev pub is_shared_with : Device → Replica → Bool
is_shared_with other replica = list_any (λ device. device == other) replica.others

-- what a ClusterConfig to the other device says of a folder: the points of the own index and of the view of the other's
-- (BEP v1, 'Fields (ClusterConfig)', fields 'index_id' and 'max_sequence')
abbrev pub announced : Device → Folder → Replica → Announced
announced other folder replica = record {
  folder = folder;
  index_id = replica.index.id;
  sequence = replica.index.sequence;
  known_id = (view_of replica other).id;
  known_sequence = (view_of replica other).sequence;
}

-- each folder that both share, names rising
abbrev pub config_for : Device → Peer → List Announced
config_for other peer = flat_map (λ one. if is_shared_with other one.1 then announced other one.0 one.1 ∷ [] else []) (entries peer.replicas)

-- a peer, and what it did to the link that it was lent
pub record Acted : Type 0 where
  pub peer : Peer
  pub deed : Deed

-- nothing was done
abbrev pub idle : Peer → Acted
idle peer = record { peer = peer; deed = nothing_done }
