-- The actions of a device in one of its folders, as steps (this project's profile).
use Rattle.std.specs.Prelude.{ℕ, ⊤, ◌≡◌, false, Option, Some, None, Result, IsErr}
use Rattle.bep_model.specs.Tables.{Device, Folder, FileName}
use Rattle.bep_machine.specs.declared.moved.Moved.{Moved}
use Rattle.bep_machine.specs.declared.step.Step.{Step}
use Rattle.bep_machine.specs.declared.step.Step.TheVariants as steps
use Rattle.bep_machine.specs.Answer.{Row}
use Rattle.bep_machine.specs.Local.{EditRow, OverrideRow, RemoveRow, RevertRow, ScanRow}
use Rattle.bep_machine.specs.Pull.{FinishRow, StartPullRow}
use Rattle.bep_machine.specs.Replica.{Replica}
use Rattle.bep_peer.specs.declared.error.PeerError.{PeerError}
use Rattle.bep_peer.specs.Member.{Member, tables_of}
use Rattle.bep_peer.specs.Within.{CommitsWithin}
use Rattle.bep_log.specs.Acts.{Does, MakesIn}
use Rattle.bep_log.specs.declared.local.Local.{Local}
use Rattle.bep_log.specs.declared.local.Local.TheVariants.{Edit, Remove, Scan, Commit, Pull, Finish, Override, Revert}

-- the step that the action is
abbrev pub step_of : Local → Device → Folder → Step
step_of (Edit name node) device folder = steps.Edit device folder name.now node.now
step_of (Remove name) device folder = steps.Remove device folder name.now
step_of (Scan name) device folder = steps.Scan device folder name.now
step_of (Commit scan) device folder = steps.Scan device folder scan.name
step_of (Pull name) device folder = steps.StartPull device folder name.now
step_of (Finish name) device folder = steps.Finish device folder name.now
step_of (Override name) device folder = steps.Override device folder name.now
step_of (Revert name) device folder = steps.Revert device folder name.now

-- the row that the folder makes, at the call of its store that failed
abbrev pub row_of : Local → Device → Option ℕ → Replica → Row Replica
row_of (Edit name node) device failed = EditRow name.now node.now failed
row_of (Remove name) device failed = RemoveRow name.now failed
row_of (Scan name) device failed = ScanRow device name.now failed
row_of (Commit scan) device failed = ScanRow device scan.name failed
row_of (Pull name) device failed = StartPullRow device name.now
row_of (Finish name) device failed = FinishRow device name.now failed
row_of (Override name) device failed = OverrideRow device name.now
row_of (Revert name) device failed = RevertRow device name.now failed

-- what it does: the folder makes its row; a scan's result is first compared with what is there now
abbrev pub does_of : Local → Device → Folder → Does
does_of (Edit name node) device folder = MakesIn folder (row_of (Edit name node) device)
does_of (Remove name) device folder = MakesIn folder (row_of (Remove name) device)
does_of (Scan name) device folder = MakesIn folder (row_of (Scan name) device)
does_of (Commit scan) device folder = CommitsWithin folder scan
does_of (Pull name) device folder = MakesIn folder (row_of (Pull name) device)
does_of (Finish name) device folder = MakesIn folder (row_of (Finish name) device)
does_of (Override name) device folder = MakesIn folder (row_of (Override name) device)
does_of (Revert name) device folder = MakesIn folder (row_of (Revert name) device)

-- the name of which the action may keep a copy
abbrev pub copies : Local → Option FileName
copies (Edit name node) = None
copies (Remove name) = None
copies (Scan name) = None
copies (Commit scan) = None
copies (Pull name) = None
copies (Finish name) = Some name.now
copies (Override name) = None
copies (Revert name) = None

-- where the end of a pull fails and kept no copy, no table changed
abbrev pub KeepsUncopied : Local → Member → Member → Result Moved PeerError → Type 0
KeepsUncopied (Finish name) old new answer = IsErr answer → new.trace.copied ≡ false → tables_of new ≡ tables_of old
KeepsUncopied action old new answer = ⊤
