-- What a folder's answer says of what its call did, whatever the error.
use Rattle.std.proofs.Common.{◌≡◌, ◌⊎◌, ◌<◌, rules, None, IsSome, Result, Err, IfErr}
use Rattle.bep_machine.specs.declared.moved.Moved.{Moved}
use Rattle.bep_machine.specs.declared.refusal.Refusal.{Refusal}
use Rattle.bep_machine.specs.Answer.{OutOfMemory, Refused, Row}
use Rattle.bep_machine.specs.Local.{ScanRow}
use Rattle.bep_machine.specs.Replica.{Replica}
use Rattle.bep_folder.specs.Commit.{Commits}
use Rattle.bep_folder.specs.declared.error.FolderError.{FolderError}
use Rattle.bep_folder.specs.declared.error.FolderError.TheVariants.{Memory}
use Rattle.bep_folder.specs.Held.{Held}
use Rattle.bep_folder.specs.Makes.{Makes, CountsFaults}
use Rattle.bep_folder.specs.ScanResult.{Scanned}
use Rattle.bep_peer.specs.declared.error.PeerError.TheVariants.{Refused as Of}
use Rattle.bep_peer.specs.Within.{IsOfStep, error_of}

module _ (row : Replica → Row Replica) (old new : Held) where
  -- memory was wanting, or the row refuses
  pub wanting_or_refused : (error : FolderError) → Makes row old new (Err error) →
      ((error ≡ Memory) × ((new.tables ≡ old.tables) ⊎ row old.tables new.tables OutOfMemory)) ⊎ ((refusal : Refusal) × (error_of error ≡ Of refusal) × row old.tables new.tables (Refused refusal))
  wanting_or_refused error made = search rules

  pub of_step : (answer : Result Moved FolderError) → Makes row old new answer → IfErr answer IsOfStep
  of_step answer made = search rules

-- the store failed, or it didn't
pub failed_or_not : {A : Type 0} (old new : Held) (answer : Result A FolderError) → CountsFaults old new answer →
    ((old.faults < new.faults) × IsSome new.trace.failed) ⊎ ((new.faults ≡ old.faults) × (new.trace.failed ≡ None))
failed_or_not old new answer counted = search rules

-- a commit is a scan, or it changes nothing
pub scanned_or_same : (scan : Scanned) (old new : Held) (answer : Result Moved FolderError) → Commits scan old new answer →
    Makes (ScanRow old.device scan.name new.trace.failed) old new answer ⊎ (new.tables ≡ old.tables)
scanned_or_same scan old new answer commits = search rules
