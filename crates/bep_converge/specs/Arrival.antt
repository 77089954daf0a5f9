-- That what prevails comes to all: a run of so many steps at most, from each cluster that is ready, after which every device is
-- at the top of every name (this project's profile).
use Rattle.std.specs.Prelude.{◌≡◌, ◌≢◌, ◌+◌, ◌*◌, ◌≤◌, ℕ, ⊤, true, List, [], ◌∷◌, length, None, Contains}
use Rattle.bep_record.specs.declared.entry.Entry.{Entry}
use Rattle.bep_model.specs.declared.row.Row.{Row}
use Rattle.bep_model.specs.Firm.{IsFirm}
use Rattle.bep_model.specs.Settled.{IsListOfWinners}
use Rattle.bep_model.specs.Tables.{Tables, Device, Folder, FileName, Shares}
use Rattle.bep_machine.specs.Cluster.{Cluster}
use Rattle.bep_machine.specs.Steps.{Event, IsRun, AreQuiet, HasNoReset}
use Rattle.bep_machine.specs.Said.{tables_of_cluster}
use Rattle.bep_machine.specs.Sound.{IsSound}
use Rattle.bep_converge.specs.Prevails.{IsAtTop, Prevails, AllPrevail}
use Rattle.bep_converge.specs.Orderly.{StaysAt}
use Rattle.bep_converge.specs.Rises.{GoesOnPrevailing}
use Rattle.bep_converge.specs.Ended.{IsEnded}
use Rattle.bep_converge.specs.Bring.{AreDone, bring, most_batches, most_blocks, IsJoinedUp, IsReached, HasRoomFor, IsReady}
use Rattle.bep_converge.specs.Received.{AllHaveHashes}
use Rattle.bep_converge.specs.AfterLaws.{Places, AllPrevailBut, AreScans}

-- ---- one name that is brought to one device

-- After a run that brings a name to a device the cluster is ready for the other runs. What prevailed does still, and each other
-- name, and this one at each other device, has the very record and file that it had.
pub record IsKept (turns : ℕ) (cluster later : Cluster) (device : Device) (folder : Folder) (name : FileName) : Type 0 where
  pub ready : IsReady turns later
  pub goes : GoesOnPrevailing (tables_of_cluster cluster) (tables_of_cluster later)
  pub others : (other : Device) (any : Folder) (one : FileName) → ¬ ((other ≡ device) × (any ≡ folder) × (one ≡ name)) → Shares (tables_of_cluster cluster) other any →
      StaysAt (tables_of_cluster cluster) (tables_of_cluster later) other any one

abbrev pub BringKeeps : Type 0
BringKeeps = (turns : ℕ) (cluster later : Cluster) (device owner : Device) (folder : Folder) (name : FileName) (batches blocks : ℕ) →
    IsReady (turns + 1) cluster → IsRun cluster (bring device owner folder name batches blocks) later → IsKept turns cluster later device folder name

-- ---- all names that are behind anywhere

-- a device that isn't at the top of a name
pub record Behind : Type 0 where
  pub device : Device
  pub folder : Folder
  pub name : FileName
  pub top : Entry

-- The top prevails, and the device isn't there; and each device that isn't at the top of a name is listed.
pub record HasAllBehind (t : Tables) (behind : List Behind) : Type 0 where
  pub each : (one : Behind) → Contains behind one → Shares t one.device one.folder × Prevails t one.folder one.name one.top
  pub all : (device : Device) (folder : Folder) (name : FileName) (top : Entry) → Prevails t folder name top → Shares t device folder →
      ¬ IsAtTop (t.own device folder name) top →
      (one : Behind) × Contains behind one × (one.device ≡ device) × (one.folder ≡ folder) × (one.name ≡ name)

-- the most steps that bring a name, and those that bring all
abbrev pub most_steps : Entry → ℕ
most_steps top = 9 + 2 * most_batches top + 3 * most_blocks top

abbrev pub steps_for : List Behind → ℕ
steps_for [] = 0
steps_for (one ∷ more) = most_steps one.top + steps_for more

-- A quiet run without a reset, each step of which is done, leads to a cluster in which all are at the top. It has so many steps
-- at most. What prevailed does still, no name has come, and each device has the very record and file that it had, or its name
-- rose.
pub record AllArrive (cluster : Cluster) (most : ℕ) : Type 0 where
  pub events : List Event
  pub later : Cluster
  pub run : IsRun cluster events later
  pub quiet : AreQuiet events
  pub unreset : HasNoReset events
  pub each_done : AreDone events
  pub few : length events ≤ most
  pub ended : IsEnded (tables_of_cluster later)
  pub goes : GoesOnPrevailing (tables_of_cluster cluster) (tables_of_cluster later)
  pub config : later.config ≡ cluster.config

abbrev pub AllCome : Type 0
AllCome = (cluster : Cluster) (behind : List Behind) → IsReady (length behind) cluster → HasAllBehind (tables_of_cluster cluster) behind →
    AllArrive cluster (steps_for behind)

-- no device is listed twice for a name
abbrev pub HasNoneTwice : List Behind → Type 0
HasNoneTwice [] = ⊤
HasNoneTwice (one ∷ more) =
    ((other : Behind) → Contains more other → ¬ ((other.device ≡ one.device) × (other.folder ≡ one.folder) × (other.name ≡ one.name))) × HasNoneTwice more

-- Such a list exists, of devices that aren't at the top, each once for a name. So its length is the number of these pairs.
abbrev pub BehindIsListed : Type 0
BehindIsListed = (cluster : Cluster) → IsSound cluster → AllPrevail (tables_of_cluster cluster) →
    (behind : List Behind) × HasAllBehind (tables_of_cluster cluster) behind × HasNoneTwice behind ×
    ((one : Behind) → Contains behind one → ¬ IsAtTop ((tables_of_cluster cluster).own one.device one.folder one.name) one.top)

-- ---- nothing changes any more

-- where the top is a deletion, each device has a record of the name
abbrev pub HaveDeletions : Tables → Type 0
HaveDeletions t = (folder : Folder) (name : FileName) (top : Entry) (device : Device) → Prevails t folder name top → top.deleted ≡ true →
    Shares t device folder → t.own device folder name ≢ None

-- then the cut is firm, once all are at the top
abbrev pub AllStay : Type 0
AllStay = (cluster : Cluster) (most : ℕ) (rows : List Row) → AllPrevail (tables_of_cluster cluster) → HaveDeletions (tables_of_cluster cluster) →
    (arrive : AllArrive cluster most) → IsListOfWinners (tables_of_cluster arrive.later) rows → IsFirm (tables_of_cluster arrive.later) rows

-- ---- from a device that has scans to make

-- the cluster is ready for so many runs, but for these names that await the device's scans
pub record IsReadyToScan (turns : ℕ) (cluster : Cluster) (device : Device) (places : Places) : Type 0 where
  pub sound : IsSound cluster
  pub hashes : AllHaveHashes cluster
  pub reached : IsReached cluster
  pub prevails : AllPrevailBut (tables_of_cluster cluster) device places
  pub joined : IsJoinedUp cluster.config
  pub room : HasRoomFor (turns + length places) cluster

-- after these scans it's ready: so what the device had and what prevailed come to all
abbrev pub ScansMakeReady : Type 0
ScansMakeReady = (turns : ℕ) (old new : Cluster) (device : Device) (places : Places) (events : List Event) →
    IsReadyToScan turns old device places → AreScans device places events → IsRun old events new → IsReady turns new
