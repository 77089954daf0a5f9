-- What is proved of the run that brings a name; the functions of src/bring.rt have these as contracts.
use Rattle.std.specs.Prelude.{◌+◌, ◌≤◌, ℕ}
use Rattle.bep_record.specs.declared.entry.Entry.{Entry}
use Rattle.bep_model.specs.Tables.{Device, Folder, FileName}
use Rattle.bep_machine.specs.Cluster.{Cluster}
use Rattle.bep_machine.specs.Steps.{SharesFolder, IsRun}
use Rattle.bep_machine.specs.Said.{tables_of_cluster}
use Rattle.bep_converge.specs.Prevails.{IsAtTop, Prevails}
use Rattle.bep_converge.specs.Bring.{bring, most_batches, most_blocks, IsReady}

-- the run brings the top of the name to the device: all its steps are done, and then the device is at the top
pub record IsBrought (cluster : Cluster) (device : Device) (folder : Folder) (name : FileName) (top : Entry) : Type 0 where
  pub owner : Device
  pub batches : ℕ
  pub blocks : ℕ
  pub later : Cluster
  pub run : IsRun cluster (bring device owner folder name batches blocks) later
  pub few_batches : batches ≤ most_batches top
  pub few_blocks : blocks ≤ most_blocks top
  pub at_top : IsAtTop ((tables_of_cluster later).own device folder name) top

abbrev pub BringBrings : Type 0
BringBrings = (turns : ℕ) (cluster : Cluster) (device : Device) (folder : Folder) (name : FileName) (top : Entry) →
    IsReady (turns + 1) cluster → Prevails (tables_of_cluster cluster) folder name top → SharesFolder cluster.config device folder →
    (¬ IsAtTop ((tables_of_cluster cluster).own device folder name) top) → IsBrought cluster device folder name top
