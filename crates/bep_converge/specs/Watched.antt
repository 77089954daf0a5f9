-- What a device sees of the run that brings it a name, so that it can make the run: whether the owner's record is still to come,
-- and whether blocks are missing. And that the run is so; the function of src/bring.rt has this as its contract (this project's
-- profile).
use Rattle.std.specs.Prelude.{◌≡◌, ◌+◌, ◌≤◌, ℕ, zero, suc, map, Some, None}
use Rattle.std.specs.FinMap.{get}
use Rattle.bep_record.specs.declared.entry.Entry.{Entry}
use Rattle.bep_model.specs.Tables.{Device, Folder, FileName}
use Rattle.bep_machine.specs.declared.moved.Moved.TheVariants.{Changed}
use Rattle.bep_machine.specs.declared.step.Step.TheVariants.{StartPull, Finish}
use Rattle.bep_machine.specs.Answer.{Done}
use Rattle.bep_machine.specs.Pull.{IsFile, IsMissingBlocks}
use Rattle.bep_machine.specs.Replica.{Pull, Replica, own_at, pull_at, view_of, HasContentOf}
use Rattle.bep_machine.specs.Cluster.{Cluster}
use Rattle.bep_machine.specs.Steps.{SharesFolder, IsStep, IsRun}
use Rattle.bep_machine.specs.Said.{tables_of_cluster}
use Rattle.bep_converge.specs.Prevails.{IsOwn, IsAtTop, Prevails}
use Rattle.bep_converge.specs.Bring.{done, meet, hear, fetch, bring, most_batches, most_blocks, IsReady}

-- ---- what is seen

-- the device knows of the owner's index up to this sequence number
abbrev pub HasHeardUpTo : Cluster → Device → Device → Folder → ℕ → Type 0
HasHeardUpTo cluster device owner folder sequence =
    (replica : Replica) × (get (cluster.peer device).replicas folder ≡ Some replica) × (sequence ≤ (view_of replica owner).sequence)

-- the pull is of a file that isn't whole, and whose content the name hasn't yet
abbrev pub IsUnfinished : Replica → FileName → Pull → Type 0
IsUnfinished replica name pull = IsFile pull.target × (¬ HasContentOf (own_at replica name) pull.target) × IsMissingBlocks pull

-- the name's pull is unfinished
abbrev pub LacksBlocks : Cluster → Device → Folder → FileName → Type 0
LacksBlocks cluster device folder name =
    (replica : Replica) × (pull : Pull) × (get (cluster.peer device).replicas folder ≡ Some replica) × (pull_at replica name ≡ Some pull) × IsUnfinished replica name pull

-- ---- the run

-- While blocks are missing, the next one is fetched, so many of them; then the pull ends, and that leads here.
abbrev pub FetchesTo : Device → Device → Folder → FileName → Cluster → ℕ → Cluster → Type 0
FetchesTo device owner folder name later zero cluster =
    (¬ LacksBlocks cluster device folder name) × IsStep (Finish device folder name) None cluster later (Done Changed)
FetchesTo device owner folder name later (suc blocks) cluster =
    LacksBlocks cluster device folder name × (next : Cluster) × IsRun cluster (map done (fetch device owner folder name)) next × FetchesTo device owner folder name later blocks next

-- While the owner's record of this number is still to come, the next records are heard, so many batches of them; then the pull
-- begins, and so many blocks are fetched.
abbrev pub HearsTo : Device → Device → Folder → FileName → ℕ → Cluster → ℕ → ℕ → Cluster → Type 0
HearsTo device owner folder name sequence later blocks zero cluster =
    HasHeardUpTo cluster device owner folder sequence × (next : Cluster) × IsStep (StartPull device folder name) None cluster next (Done Changed) ×
    FetchesTo device owner folder name later blocks next
HearsTo device owner folder name sequence later blocks (suc batches) cluster =
    (¬ HasHeardUpTo cluster device owner folder sequence) × (next : Cluster) × IsRun cluster (map done (hear device owner folder)) next ×
    HearsTo device owner folder name sequence later blocks batches next

-- The run brings the owner's record, which is the top, to the device. It can be made by what is seen of it.
pub record IsBroughtFrom (cluster : Cluster) (device owner : Device) (folder : Folder) (name : FileName) (top : Entry) : Type 0 where
  pub batches : ℕ
  pub blocks : ℕ
  pub later : Cluster
  pub run : IsRun cluster (bring device owner folder name batches blocks) later
  pub few_batches : batches ≤ most_batches top
  pub few_blocks : blocks ≤ most_blocks top
  pub at_top : IsAtTop ((tables_of_cluster later).own device folder name) top
  pub met : Cluster
  pub meets : IsRun cluster (map done (meet device owner)) met
  pub hears : HearsTo device owner folder name top.sequence later blocks batches met

-- the owner has the record that prevails, and the device isn't at it
pub record IsBehindOwner (cluster : Cluster) (device owner : Device) (folder : Folder) (name : FileName) (top : Entry) : Type 0 where
  pub prevails : Prevails (tables_of_cluster cluster) folder name top
  pub device_shares : SharesFolder cluster.config device folder
  pub owner_shares : SharesFolder cluster.config owner folder
  pub owned : IsOwn (tables_of_cluster cluster) owner folder name top
  pub below : ¬ IsAtTop ((tables_of_cluster cluster).own device folder name) top

abbrev pub BringIsWatched : Type 0
BringIsWatched = (turns : ℕ) (cluster : Cluster) (device owner : Device) (folder : Folder) (name : FileName) (top : Entry) →
    IsReady (turns + 1) cluster → IsBehindOwner cluster device owner folder name top → IsBroughtFrom cluster device owner folder name top
