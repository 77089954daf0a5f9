-- What holds of each scenario that is read, and the steps that it gives (this project's profile).
use Rattle.std.specs.Prelude.{◌≡◌, ◌<◌, ◌≤◌, ℕ, ⊤, List, length}
use Rattle.std.specs.List.{AllByRecursion}
use Rattle.bep_record.specs.FolderName.{IsFolderName}
use Rattle.bep_record.specs.declared.limits.TheConstants.{MAX_FOLDERS, MAX_DEVICES}
use Rattle.bep_record.specs.Node.{IsNode}
use Rattle.bep_machine.specs.declared.step.Step.{Step}
use Rattle.bep_machine.specs.declared.step.Step.TheVariants as steps
use Rattle.bep_document.specs.declared.parts.ShareParts.{ShareParts}
use Rattle.bep_document.specs.declared.parts.FolderParts.{FolderParts}
use Rattle.bep_document.specs.declared.parts.LinkParts.{LinkParts}
use Rattle.bep_document.specs.Reading.{Read}
use Rattle.bep_document.specs.Faultless.{KeysDiffer, IsDeviceOf, AreOf, ends_of}
use Rattle.bep_scenario.specs.declared.parts.StepParts.{StepParts}
use Rattle.bep_scenario.specs.declared.parts.StepParts.TheVariants.{Edit, Other}
use Rattle.bep_scenario.specs.declared.parts.ScenarioParts.{ScenarioParts}
use Rattle.bep_scenario.specs.Configured.{MayStart}
use Rattle.bep_scenario.specs.Reading.{reading_of}

-- an edit's parts make a node
abbrev pub HasNode : StepParts → Type 0
HasNode (Edit device folder node) = IsNode node.parts
HasNode (Other step) = ⊤

-- the step of a cluster
abbrev pub step_of : StepParts → Step
step_of (Edit device folder node) = steps.Edit device folder node.name node.parts
step_of (Other step) = step

-- a link joins two of the devices, the smaller first
abbrev pub JoinsDevices : List FolderParts → LinkParts → Type 0
JoinsDevices folders link = (link.a < link.b) × IsDeviceOf folders link.a × IsDeviceOf folders link.b

-- the device's index of the folder has an id
abbrev pub HasIndexId : ShareParts → Type 0
HasIndexId share = 1 ≤ share.index_id

-- folders and devices are few, and have names and index ids; folders, the devices of each, and links stand once; links
-- join devices; what is edited is a node
pub record IsFaultless (parts : ScenarioParts) : Type 0 where
  pub few_folders : length parts.cluster.folders ≤ MAX_FOLDERS
  pub few_devices : (devices : List ℕ) × (length devices ≤ MAX_DEVICES) × AreOf devices parts.cluster.folders
  pub named : AllByRecursion (λ folder. IsFolderName folder.folder) parts.cluster.folders
  pub numbered : AllByRecursion (λ folder. AllByRecursion HasIndexId folder.devices) parts.cluster.folders
  pub folders : KeysDiffer (λ folder. folder.folder) parts.cluster.folders
  pub devices : AllByRecursion (λ folder. KeysDiffer (λ share. share.device) folder.devices) parts.cluster.folders
  pub links : KeysDiffer ends_of parts.cluster.links
  pub joined : AllByRecursion (JoinsDevices parts.cluster.folders) parts.cluster.links
  pub nodes : AllByRecursion HasNode parts.steps

-- so is what is read of bytes
abbrev pub ScenariosAreFaultless : Type 0
ScenariosAreFaultless = (bytes : List ℕ) (parts : ScenarioParts) → reading_of bytes ≡ Read parts → IsFaultless parts

-- what has no fault may start: each folder, device and link may be added in its turn
abbrev pub FaultlessMayStart : Type 0
FaultlessMayStart = (parts : ScenarioParts) → IsFaultless parts → MayStart parts.cluster
