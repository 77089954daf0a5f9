-- A run that brings what prevails of a name to a device: the device is restarted, and so is one that has the record; they
-- begin a session, the owner announces its records, and the device pulls the name. And the clusters in which it can be made
-- (this project's profile).
use Rattle.std.specs.Prelude.{◌≡◌, ◌≢◌, ◌+◌, ◌≤◌, ◌/◌, ℕ, ⊤, zero, suc, nat_lt, List, [], ◌∷◌, ◌++◌, map, length, Some, None, IsSome, Contains, if◌then◌else◌}
use Rattle.std.specs.FinMap.{get, len}
use Rattle.bep_map.specs.NameMap.{ByName}
use Rattle.bep_record.specs.declared.entry.Entry.{Entry}
use Rattle.bep_record.specs.declared.folder_kind.FolderKind.{FolderKind}
use Rattle.bep_index.specs.declared.limits.TheConstants.{MAX_NAMES, MAX_RECORDS, MAX_SEQUENCE}
use Rattle.bep_model.specs.Tables.{Device, Folder, FileName}
use Rattle.bep_model.specs.Foreign.{IsKnown}
use Rattle.bep_machine.specs.declared.limits.TheConstants.{MAX_EPOCH}
use Rattle.bep_machine.specs.declared.moved.Moved.TheVariants.{Changed}
use Rattle.bep_machine.specs.declared.step.Step.{Step}
use Rattle.bep_machine.specs.declared.step.Step.TheVariants.{Connect, Begin, Deliver, Announce, StartPull, Ask, Finish, Restart}
use Rattle.bep_machine.specs.Answer.{Done}
use Rattle.bep_machine.specs.Replica.{Replica}
use Rattle.bep_machine.specs.Cluster.{Config, Cluster}
use Rattle.bep_machine.specs.Steps.{SharesFolder, AreLinked, Event, IsRun}
use Rattle.bep_machine.specs.Said.{tables_of_cluster}
use Rattle.bep_machine.specs.Sound.{IsSound}
use Rattle.bep_machine.specs.Gapless.{IsApart}
use Rattle.bep_machine.specs.Laws.{AreSound}
use Rattle.bep_converge.specs.Prevails.{AllPrevail}
use Rattle.bep_converge.specs.Received.{AllHaveHashes}

-- ---- the run

-- a step that is done: no call of a store fails, and memory isn't wanting
abbrev pub done : Step → Event
done step = record { step = step; failed = None; answer = Done Changed }

-- each step of the run is done, and none is refused
abbrev pub AreDone : List Event → Type 0
AreDone [] = ⊤
AreDone (event ∷ more) = (event ≡ done event.step) × AreDone more

-- so often the same steps
abbrev pub repeated : ℕ → List Step → List Step
repeated zero steps = []
repeated (suc times) steps = steps ++ repeated times steps

-- the link between two devices comes up, which has the smaller one first
abbrev pub connect : Device → Device → Step
connect device other = if nat_lt device other then Connect device other else Connect other device

-- the two are restarted, their link comes up, and each has the other's ClusterConfig
abbrev pub meet : Device → Device → List Step
meet device owner =
    Restart device ∷ Restart owner ∷ connect device owner ∷ Begin device owner ∷ Begin owner device ∷
    Deliver device owner ∷ Deliver owner device ∷ []

-- the owner's next records come
abbrev pub hear : Device → Device → Folder → List Step
hear device owner folder = Announce owner device folder ∷ Deliver device owner ∷ []

-- the next block of the file comes
abbrev pub fetch : Device → Device → Folder → FileName → List Step
fetch device owner folder name = Ask device owner folder name ∷ Deliver owner device ∷ Deliver device owner ∷ []

-- so many batches of records are heard, and so many blocks are fetched
abbrev pub bring_steps : Device → Device → Folder → FileName → ℕ → ℕ → List Step
bring_steps device owner folder name batches blocks =
    meet device owner ++ (repeated batches (hear device owner folder) ++
    (StartPull device folder name ∷ (repeated blocks (fetch device owner folder name) ++ (Finish device folder name ∷ []))))

abbrev pub bring : Device → Device → Folder → FileName → ℕ → ℕ → List Event
bring device owner folder name batches blocks = map done (bring_steps device owner folder name batches blocks)

-- the most batches that are heard until this record of the owner's has come, and the most blocks that are fetched of it
abbrev pub most_batches : Entry → ℕ
most_batches top = top.sequence / MAX_RECORDS + 1

abbrev pub most_blocks : Entry → ℕ
most_blocks top = length top.blocks

-- ---- where it can be made

-- each two devices that share a folder are linked, and no device shares a folder in two kinds
pub record IsJoinedUp (config : Config) : Type 0 where
  pub linked : (device other : Device) (folder : Folder) → device ≢ other → SharesFolder config device folder → SharesFolder config other folder →
      AreLinked config device other
  pub once : (device : Device) (folder : Folder) (kind other : FolderKind) → Contains (config.sharing folder) (device, kind) → Contains (config.sharing folder) (device, other) →
      kind ≡ other

-- a run leads to it from a cluster in which no view has a gap
pub record IsReached (cluster : Cluster) : Type 0 where
  pub first : Cluster
  pub events : List Event
  pub sound : IsSound first
  pub apart : IsApart first
  pub made : AreSound events
  pub run : IsRun first events cluster

-- there is room for so many more such runs: for numbers of records, for epochs of links, and for all known names
pub record HasRoomFor (turns : ℕ) (cluster : Cluster) : Type 0 where
  pub numbers : (device : Device) (folder : Folder) (replica : Replica) → get (cluster.peer device).replicas folder ≡ Some replica → replica.index.sequence + turns ≤ MAX_SEQUENCE
  pub epochs : (device other : Device) → (cluster.link device other).epoch + turns ≤ MAX_EPOCH
  pub names : (folder : Folder) (records : ByName Entry) → ((name : FileName) → IsSome (get records name) → IsKnown (tables_of_cluster cluster) folder name) → len records ≤ MAX_NAMES

-- the cluster is sound, what it has prevails, and so many of these runs can be made
pub record IsReady (turns : ℕ) (cluster : Cluster) : Type 0 where
  pub sound : IsSound cluster
  pub hashes : AllHaveHashes cluster
  pub reached : IsReached cluster
  pub prevails : AllPrevail (tables_of_cluster cluster)
  pub joined : IsJoinedUp cluster.config
  pub room : HasRoomFor turns cluster
