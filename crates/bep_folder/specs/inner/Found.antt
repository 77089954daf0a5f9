-- How a commit records what was found, or why it doesn't (this project's profile).
use Rattle.std.specs.Prelude.{◌≡◌, ◌⊎◌, ◌<◌, ⊤, ℕ, true, List, Option, Result, Ok, Err}
use Rattle.std.specs.FinMap.{get}
use Rattle.bep_record.specs.declared.entry.Entry.{Entry}
use Rattle.bep_record.specs.declared.node.NodeParts.{NodeParts}
use Rattle.bep_record.specs.declared.folder_kind.FolderKind.{FolderKind}
use Rattle.bep_record.specs.declared.folder_kind.FolderKind.TheVariants.{ReceiveOnly}
use Rattle.bep_record.specs.Node.{IsClean}
use Rattle.bep_record.specs.Vector.{counter_of, greatest_counter}
use Rattle.bep_index.specs.Listing.{Listing}
use Rattle.bep_index.specs.Index.{IsSequenceFull, IsIndexFull, after_put}
use Rattle.bep_model.specs.Tables.{Device, FileName}
use Rattle.bep_machine.specs.declared.moved.Moved.{Moved}
use Rattle.bep_machine.specs.declared.moved.Moved.TheVariants.{Changed, Unchanged}
use Rattle.bep_machine.specs.Local.{Finds, IsCrowded, IsRaised}
use Rattle.bep_machine.specs.Replica.{version_of}
use Rattle.bep_folder.specs.declared.error.FolderError.{FolderError}
use Rattle.bep_folder.specs.declared.error.FolderError.TheVariants.{CounterFull, TooManyCounters, SequenceFull, IndexFull, Stale, StoreFault, Memory}
use Rattle.bep_folder.specs.ScanResult.{Scanned}
use Rattle.bep_folder.specs.Trace.{TracedStore, failed_now, next_call}

-- One call of the store tells whether it is; where it isn't, that is the refusal.
abbrev pub TellsFresh : Scanned → TracedStore → TracedStore → Result ⊤ FolderError → Type 0
TellsFresh scan old new (Ok _) =
    (get old.contents scan.name ≡ scan.node) × (new.made ≡ next_call old.made) × (new.faults ≡ old.faults) × (new.trace ≡ old.trace)
TellsFresh scan old new (Err Stale) =
    (¬ (get old.contents scan.name ≡ scan.node)) × (new.made ≡ next_call old.made) × (new.faults ≡ old.faults) × (new.trace ≡ old.trace)
TellsFresh scan old new (Err StoreFault) =
    (new.made ≡ next_call old.made) × (old.faults < new.faults) × (new.trace ≡ failed_now new.made old.trace)
TellsFresh scan old new (Err Memory) = (new.made ≡ next_call old.made) × (new.faults ≡ old.faults) × (new.trace ≡ old.trace)
TellsFresh scan old new (Err _) = ⊥

-- the record that a scan makes, by the folder's kind: in a receive-only folder it is marked local-only
abbrev pub IsFound : FolderKind → Device → FileName → Option NodeParts → Option Entry → Entry → Type 0
IsFound ReceiveOnly device name node own entry =
    (found : Entry) × Finds device name node own (version_of own) found × (entry ≡ record found { invalid = true })
IsFound kind device name node own entry =
    (version : List (ℕ × ℕ)) × IsRaised device (version_of own) version × Finds device name node own version entry

-- its version can't be raised, for either reason
abbrev pub IsCounterFull : FolderKind → Device → Option Entry → Type 0
IsCounterFull ReceiveOnly device own = ⊥
IsCounterFull kind device own = counter_of (version_of own) device ≡ greatest_counter

abbrev pub IsVersionFull : FolderKind → Device → Option Entry → Type 0
IsVersionFull ReceiveOnly device own = ⊥
IsVersionFull kind device own = IsCrowded device (version_of own)

-- it can be raised
abbrev pub CanRaise : FolderKind → Device → Option Entry → Type 0
CanRaise kind device own = (¬ IsCounterFull kind device own) × (¬ IsVersionFull kind device own)

-- the new record is put, for which there is room
pub record PutsFound (kind : FolderKind) (device : Device) (scan : Scanned) (old new : Listing) : Type 0 where
  pub entry : Entry
  pub raised : CanRaise kind device (get old.records scan.name)
  pub found : IsFound kind device scan.name scan.node (get old.records scan.name) entry
  pub numbers : ¬ IsSequenceFull old
  pub names : ¬ IsIndexFull old scan.name
  pub put : new ≡ after_put old entry

-- why none is
abbrev pub IsNotPut : FolderKind → Device → Scanned → Listing → FolderError → Type 0
IsNotPut kind device scan old error =
    let own = get old.records scan.name in
    ((error ≡ CounterFull) × IsCounterFull kind device own) ⊎
    ((error ≡ TooManyCounters) × (¬ IsCounterFull kind device own) × IsVersionFull kind device own) ⊎
    ((error ≡ SequenceFull) × CanRaise kind device own × IsSequenceFull old) ⊎
    ((error ≡ IndexFull) × CanRaise kind device own × (¬ IsSequenceFull old) × IsIndexFull old scan.name) ⊎
    (error ≡ Memory)

-- what was found is recorded: the own record is clean against it, or a new one is put, or there is a reason why none is
abbrev pub Records : FolderKind → Device → Scanned → Listing → Listing → Result Moved FolderError → Type 0
Records kind device scan old new result =
    ((result ≡ Ok Unchanged) × IsClean scan.node (get old.records scan.name) × (new ≡ old)) ⊎
    ((result ≡ Ok Changed) × (¬ IsClean scan.node (get old.records scan.name)) × PutsFound kind device scan old new) ⊎
    ((error : FolderError) × (result ≡ Err error) × (¬ IsClean scan.node (get old.records scan.name)) × IsNotPut kind device scan old error × (new ≡ old))
