-- What a device does within one of its folders, as the cluster's steps have it (this project's profile).
use Rattle.std.specs.Prelude.{ℕ, Option}
use Rattle.bep_model.specs.Tables.{Device, Folder}
use Rattle.bep_machine.specs.declared.step.Step.{Step}
use Rattle.bep_machine.specs.declared.step.Step.TheVariants as steps
use Rattle.bep_machine.specs.Answer.{Row}
use Rattle.bep_machine.specs.Local.{EditRow, OverrideRow, RemoveRow, RevertRow, ScanRow}
use Rattle.bep_machine.specs.Pull.{FinishRow, StartPullRow}
use Rattle.bep_machine.specs.Replica.{Replica}
use Rattle.bep_core.specs.declared.folder_steps.Within.{Within}
use Rattle.bep_core.specs.declared.folder_steps.Within.TheVariants.{Edit, Remove, Scan, Override, Revert, Pull, Finish}

-- the step of the cluster
abbrev pub step_of : Within → Device → Folder → Step
step_of (Edit name node) device folder = steps.Edit device folder name node
step_of (Remove name) device folder = steps.Remove device folder name
step_of (Scan name) device folder = steps.Scan device folder name
step_of (Override name) device folder = steps.Override device folder name
step_of (Revert name) device folder = steps.Revert device folder name
step_of (Pull name) device folder = steps.StartPull device folder name
step_of (Finish name) device folder = steps.Finish device folder name

-- the row that the folder's replica makes, at the call of its store that failed
abbrev pub row_of : Within → Device → Option ℕ → Replica → Row Replica
row_of (Edit name node) device failed = EditRow name node failed
row_of (Remove name) device failed = RemoveRow name failed
row_of (Scan name) device failed = ScanRow device name failed
row_of (Override name) device failed = OverrideRow device name
row_of (Revert name) device failed = RevertRow device name failed
row_of (Pull name) device failed = StartPullRow device name
row_of (Finish name) device failed = FinishRow device name failed
