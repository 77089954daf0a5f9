-- What a commit of a scan's result does (this project's profile).
use Rattle.std.specs.Prelude.{◌≡◌, Result, Err}
use Rattle.bep_machine.specs.declared.moved.Moved.{Moved}
use Rattle.bep_machine.specs.Local.{ScanRow}
use Rattle.bep_machine.specs.Replica.{Replica, node_at}
use Rattle.bep_folder.specs.declared.error.FolderError.{FolderError}
use Rattle.bep_folder.specs.declared.error.FolderError.TheVariants.{Stale, StoreFault, Memory}
use Rattle.bep_folder.specs.Held.{Held}
use Rattle.bep_folder.specs.Makes.{Makes}
use Rattle.bep_folder.specs.ScanResult.{Scanned}

-- the node is still the one that was found
abbrev pub IsFresh : Scanned → Replica → Type 0
IsFresh scan tables = node_at tables scan.name ≡ scan.node

-- The commit is a scan of the name. Where the store has another node than the one that was found, the commit is refused,
-- and the tables are as before.
abbrev pub Commits : Scanned → Held → Held → Result Moved FolderError → Type 0
Commits scan old new (Err Stale) = (¬ IsFresh scan old.tables) × (new.tables ≡ old.tables)
Commits scan old new (Err StoreFault) = Makes (ScanRow old.device scan.name new.trace.failed) old new (Err StoreFault)
Commits scan old new (Err Memory) = Makes (ScanRow old.device scan.name new.trace.failed) old new (Err Memory)
Commits scan old new result =
    IsFresh scan old.tables × Makes (ScanRow old.device scan.name new.trace.failed) old new result
