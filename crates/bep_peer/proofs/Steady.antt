-- A step of a folder is steady.
use Rattle.std.proofs.Common.{ℕ, Option, Result}
use Rattle.bep_model.specs.Tables.{Device}
use Rattle.bep_machine.specs.declared.moved.Moved.{Moved}
use Rattle.bep_machine.specs.Replica.{Replica}
use Rattle.bep_folder.specs.declared.error.FolderError.{FolderError}
use Rattle.bep_folder.specs.Held.{Held}
use Rattle.bep_folder.specs.Makes.{Makes, Stays, CountsFaults}
use Rattle.bep_peer.specs.inner.Call.{IsSteady, row_of}
use Rattle.bep_peer.specs.declared.within.steps.Step.{Step}
use Rattle.bep_peer.specs.declared.within.steps.Step.TheVariants.{Edit, Remove, Scan, Pull, Finish, Override, Revert}
use Rattle.bep_peer.proofs.OthersKept.{makes_keeps}
use Rattle.bep_peer.proofs.Refusals.{of_step}
use Rattle.bep_peer.proofs.RowsKeep.{Keeps, edit_keeps, remove_keeps, scan_keeps, start_keeps, finish_keeps, override_keeps, revert_keeps}

row_keeps : (step : Step) (device : Device) (failed : Option ℕ) (old : Replica) → Keeps old (row_of step device failed old)
row_keeps (Edit name node) device failed old = edit_keeps name.now node.now failed old
row_keeps (Remove name) device failed old = remove_keeps name.now failed old
row_keeps (Scan name) device failed old = scan_keeps device name.now failed old
row_keeps (Pull name) device failed old = start_keeps device name.now old
row_keeps (Finish name) device failed old = finish_keeps device name.now failed old
row_keeps (Override name) device failed old = override_keeps device name.now old
row_keeps (Revert name) device failed old = revert_keeps device name.now failed old

pub steady_step : (step : Step) (before after : Held) (answer : Result Moved FolderError) → Makes (row_of step before.device after.trace.failed) before after answer → Stays before after → CountsFaults before after answer → IsSteady before after answer
steady_step step before after answer made stays counted = record {
  stays = stays;
  others = makes_keeps (row_of step before.device after.trace.failed) before after answer (row_keeps step before.device after.trace.failed before.tables) made;
  counted = counted;
  given = of_step (row_of step before.device after.trace.failed) before after answer made;
}
