-- What is known of a row once a step was made: it wasn't refused.
use Rattle.std.proofs.Common.{◌≡◌, ◌≢◌, ◌⊎◌, ℕ, Option, None, ⊎_elim}
use Rattle.bep_record.specs.declared.entry.Entry.{Entry}
use Rattle.bep_record.specs.declared.folder_kind.FolderKind.{FolderKind}
use Rattle.bep_record.specs.declared.folder_kind.FolderKind.TheVariants.{SendReceive, SendOnly, ReceiveOnly}
use Rattle.bep_record.specs.Node.{IsClean}
use Rattle.bep_record.specs.Vector.{counter_of, greatest_counter}
use Rattle.bep_model.specs.Tables.{Device, FileName}
use Rattle.bep_machine.specs.declared.moved.Moved.{Moved}
use Rattle.bep_machine.specs.declared.refusal.Refusal.{Refusal}
use Rattle.bep_machine.specs.declared.step.Step.{Step}
use Rattle.bep_machine.specs.Answer.{Done, Refused, OutOfMemory, becomes}
use Rattle.bep_machine.specs.Cluster.{Cluster}
use Rattle.bep_machine.specs.Effects.{HasRoom}
use Rattle.bep_machine.specs.Local.{Fails, IsCrowded, PutRow, FoundRow, ScanRow}
use Rattle.bep_machine.specs.Replica.{Replica, own_at, node_at, version_of, with_record}
use Rattle.bep_machine.specs.Steps.{IsThere, StepRow, IsStep}

-- where a step was made, the condition of a refusal didn't hold, and the rest of the row decided
pub not_refused : {S : Type 0} {old new : S} {why : Refusal} {moved : Moved} {condition R : Type 0} → (condition × becomes old (Refused why) new (Done moved)) ⊎ ((¬ condition) × R) → (¬ condition) × R
not_refused {why = why} {moved = moved} row = ⊎_elim (λ refused. let no : Done moved ≡ Refused why = refused.1.1 in absurd (cc)) (λ passed. passed) row

pub done_row : (step : Step) (failed : Option ℕ) (old new : Cluster) (moved : Moved) → IsStep step failed old new (Done moved) → StepRow step failed old new (Done moved)
done_row step failed old new moved made =
    ⊎_elim
    (λ memory. let no : Done moved ≡ OutOfMemory = memory.1.1 in absurd (cc))
    (λ row. (not_refused row).1)
    made

-- all that it names was there
pub done_there : (step : Step) (failed : Option ℕ) (old new : Cluster) (moved : Moved) → IsStep step failed old new (Done moved) → ¬ (¬ IsThere old.config step)
done_there step failed old new moved made =
    ⊎_elim
    (λ memory. let no : Done moved ≡ OutOfMemory = memory.1.1 in absurd (cc))
    (λ row. (not_refused row).0)
    made

-- no call of the store failed
pub none_failed : (call : ℕ) → ¬ Fails call None
none_failed call e = cc

-- ---- a record that is put

pub record IsPut (name : FileName) (IsNew : Entry → Type 0) (before after : Replica) : Type 0 where
  pub room : HasRoom before.index name
  pub entry : Entry
  pub new : IsNew entry
  pub put : after ≡ with_record before entry

pub put_made : (name : FileName) (IsNew : Entry → Type 0) (before after : Replica) (moved : Moved) → PutRow name IsNew before after (Done moved) → IsPut name IsNew before after
put_made name IsNew before after moved row =
    let counted = not_refused row in
    let named = not_refused counted.1 in
    record { room = record { numbers = counted.0; names = named.0 }; entry = named.1.0; new = named.1.1; put = named.1.2.0 }

-- ---- a scan

-- what a scan that found a change had: room in version and index
pub record HadRoom (device : Device) (name : FileName) (before : Replica) : Type 0 where
  pub counter : counter_of (version_of (own_at before name)) device ≢ greatest_counter
  pub few : ¬ IsCrowded device (version_of (own_at before name))
  pub room : HasRoom before.index name

pub found_had_room : (kind : FolderKind) (device : Device) (name : FileName) (before after : Replica) (moved : Moved) → kind ≢ ReceiveOnly → FoundRow kind device name before after (Done moved) → HadRoom device name before
found_had_room ReceiveOnly device name before after moved kept row = absurd (kept (λ i. ReceiveOnly))
found_had_room SendReceive device name before after moved kept row =
    let counter = not_refused row in
    let few = not_refused counter.1 in
    record { counter = counter.0; few = few.0; room = (put_made name _ before after moved few.1).room }
found_had_room SendOnly device name before after moved kept row =
    let counter = not_refused row in
    let few = not_refused counter.1 in
    record { counter = counter.0; few = few.0; room = (put_made name _ before after moved few.1).room }

-- what it made: one record more
found_puts : (kind : FolderKind) (device : Device) (name : FileName) (before after : Replica) (moved : Moved) → FoundRow kind device name before after (Done moved) → (entry : Entry) × (after ≡ with_record before entry)
found_puts ReceiveOnly device name before after moved row = let put = put_made name _ before after moved row in (put.entry, put.put)
found_puts SendReceive device name before after moved row = let put = put_made name _ before after moved (not_refused (not_refused row).1).1 in (put.entry, put.put)
found_puts SendOnly device name before after moved row = let put = put_made name _ before after moved (not_refused (not_refused row).1).1 in (put.entry, put.put)

-- a scan of a name that isn't clean finds a change
pub scan_found : (device : Device) (name : FileName) (failed : Option ℕ) (before after : Replica) (moved : Moved) → ¬ IsClean (node_at before name) (own_at before name) →
    ScanRow device name failed before after (Done moved) → (¬ Fails 1 failed) × FoundRow before.kind device name before after (Done moved)
scan_found device name failed before after moved unclean row =
    let looked = not_refused row in
    (looked.0, ⊎_elim (λ clean. absurd (unclean clean.0)) (λ found. found.1) looked.1)

pub scan_puts : (device : Device) (name : FileName) (failed : Option ℕ) (before after : Replica) (moved : Moved) → ¬ IsClean (node_at before name) (own_at before name) →
    ScanRow device name failed before after (Done moved) → (entry : Entry) × (after ≡ with_record before entry)
scan_puts device name failed before after moved unclean row = found_puts before.kind device name before after moved (scan_found device name failed before after moved unclean row).1
