-- That a commit of what stands at the name makes the row of a scan.
use Rattle.std.proofs.Common.{◌≡◌, ◌∙◌, ◌⊎◌, Option, Some, None, Result, Ok, Err, IsErrOf, refl, sym, ap, subst, inl, inr, ⊎_elim}
use Rattle.bep_record.specs.declared.entry.Entry.{Entry}
use Rattle.bep_record.specs.declared.folder_kind.FolderKind.{FolderKind}
use Rattle.bep_record.specs.declared.folder_kind.FolderKind.TheVariants.{SendReceive, SendOnly, ReceiveOnly}
use Rattle.bep_record.specs.declared.node.NodeParts.{NodeParts}
use Rattle.std.specs.FinMap.{get}
use Rattle.bep_index.specs.Listing.{Listing}
use Rattle.bep_index.specs.Index.{IsSequenceFull, IsIndexFull}
use Rattle.bep_index.specs.declared.error.IndexError.{IndexError}
use Rattle.bep_index.specs.declared.error.IndexError.TheVariants as index_errors
use Rattle.bep_model.specs.Tables.{Device, FileName}
use Rattle.bep_machine.specs.Answer.{Answer}
use Rattle.bep_machine.specs.declared.moved.Moved.{Moved}
use Rattle.bep_machine.specs.Local.{ScanRow}
use Rattle.bep_machine.specs.Replica.{Replica, node_at}
use Rattle.bep_folder.specs.Commit.{Commits}
use Rattle.bep_folder.specs.inner.Found.{CanRaise, IsNotPut, Records}
use Rattle.bep_folder.specs.declared.error.FolderError.{FolderError}
use Rattle.bep_folder.specs.declared.error.FolderError.TheVariants as errors
use Rattle.bep_folder.specs.FolderError.{of_index}
use Rattle.bep_folder.specs.Held.{Held}
use Rattle.bep_folder.specs.Makes.{CountsFaults, Makes}
use Rattle.bep_folder.specs.ScanResult.{Scanned}
use Rattle.bep_folder.proofs.CommitFacts.{IsReadAgain, recorded}

-- ---- from a look to the commit

-- what was found at the name
abbrev pub found_at : FileName → Option NodeParts → Scanned
found_at name node = record { name = name; node = node }

-- where the look fails, so does the scan
pub look_failed : (device : Device) (name : FileName) (old new : Held) (error : FolderError) (answer : Result Moved FolderError) → answer ≡ Err error →
    (error ≡ errors.StoreFault) ⊎ (error ≡ errors.Memory) → (error ≡ errors.StoreFault → new.trace.failed ≡ Some 1) → new.tables ≡ old.tables →
    Makes (ScanRow device name new.trace.failed) old new answer
look_failed device name old new error answer is (inl fault) first same =
    subst (Makes (ScanRow device name new.trace.failed) old new) (sym (is ∙ ap Err fault)) (inl (first fault, (same, refl)))
look_failed device name old new error answer is (inr memory) first same =
    subst (Makes (ScanRow device name new.trace.failed) old new) (sym (is ∙ ap Err memory)) (inl same)

-- the commit begins with the tables that the look found, and with the node that it found
pub scan_made : (name : FileName) (node : Option NodeParts) (old looked new : Held) (answer : Result Moved FolderError) →
    node ≡ node_at old.tables name → looked.device ≡ old.device → looked.tables ≡ old.tables →
    (scan : Scanned) → scan ≡ record { name = name; node = node } → Commits scan looked new answer →
    Makes (ScanRow old.device name new.trace.failed) old new answer
scan_made name node old looked new answer found device same scan is commits =
    cases answer (subst (λ (scan : Scanned). Commits scan looked new answer) is commits)
  where
    fresh : node_at looked.tables name ≡ node
    fresh = ap (λ (tables : Replica). node_at tables name) same ∙ sym found

    from : (answer : Answer) → ScanRow looked.device name new.trace.failed looked.tables new.tables answer → ScanRow old.device name new.trace.failed old.tables new.tables answer
    from answer row =
        subst (λ (device : Device). ScanRow device name new.trace.failed old.tables new.tables answer) device
        (subst (λ (tables : Replica). ScanRow looked.device name new.trace.failed tables new.tables answer) same row)

    cases : (answer : Result Moved FolderError) → Commits (record { name = name; node = node }) looked new answer → Makes (ScanRow old.device name new.trace.failed) old new answer
    cases (Ok moved) made = from _ made.1
    cases (Err errors.Stale) stale = absurd (stale.0 fresh)
    cases (Err errors.StoreFault) made = from _ made
    cases (Err errors.Memory) made = ⊎_elim (λ kept. inl (kept ∙ same)) (λ row. inr (from _ row)) made
    cases (Err errors.CounterFull) made = from _ made.1
    cases (Err errors.TooManyCounters) made = from _ made.1
    cases (Err errors.NameBad) made = from _ made.1
    cases (Err errors.SequenceFull) made = from _ made.1
    cases (Err errors.IndexFull) made = from _ made.1
    cases (Err errors.BatchOld) made = absurd made.1
    cases (Err errors.Unscanned) made = from _ made.1
    cases (Err errors.NotNeeded) made = from _ made.1
    cases (Err errors.BlocksMissing) made = from _ made.1
    cases (Err errors.HashBad) made = absurd made.1
    cases (Err errors.CopyExists) made = from _ made.1
    cases (Err errors.PullsFull) made = from _ made.1
    cases (Err errors.KindForbids) made = from _ made.1
    cases (Err errors.NotShared) made = from _ made.1
    cases (Err errors.NothingToDo) made = from _ made.1

-- ---- a name without a record

-- the version of a new record can be raised
pub new_can_raise : (kind : FolderKind) (device : Device) (own : Option Entry) → own ≡ None → CanRaise kind device own
new_can_raise SendReceive device own none = subst (CanRaise SendReceive device) (sym none) (λ full. absurd (cc), λ full. absurd (let few = full.1 in cc))
new_can_raise SendOnly device own none = subst (CanRaise SendOnly device) (sym none) (λ full. absurd (cc), λ full. absurd (let few = full.1 in cc))
new_can_raise ReceiveOnly device own none = (λ full. full, λ full. full)

-- so it is refused as the index refuses it
pub no_room : (kind : FolderKind) (device : Device) (scan : Scanned) (index : Listing) (error : IndexError) → get index.records scan.name ≡ None →
    (error ≡ index_errors.SequenceFull → IsSequenceFull index) → (error ≡ index_errors.IndexFull → (¬ IsSequenceFull index) × IsIndexFull index scan.name) →
    (error ≡ index_errors.SequenceFull) ⊎ (error ≡ index_errors.IndexFull) → IsNotPut kind device scan index (of_index error)
no_room kind device scan index error none sequence full (inl is) =
    inr (inr (inl (ap of_index is, new_can_raise kind device (get index.records scan.name) none, sequence is)))
no_room kind device scan index error none sequence full (inr is) =
    inr (inr (inr (inl (ap of_index is, new_can_raise kind device (get index.records scan.name) none, (full is).0, (full is).1))))

-- ---- a node at hand

-- what a scan promises
pub record IsScanned (name : FileName) (old new : Held) (answer : Result Moved FolderError) : Type 0 where
  pub made : Makes (ScanRow old.device name new.trace.failed) old new answer
  pub first : IsErrOf answer errors.StoreFault → new.trace.failed ≡ Some 1
  pub counted : CountsFaults old new answer

pub scanned_at_hand : (name : FileName) (node : NodeParts) (old new : Held) (index : Listing) (answer : Result Moved FolderError) →
    node_at old.tables name ≡ Some node → new.trace.failed ≡ None → new.faults ≡ old.faults →
    Records old.tables.kind old.device (record { name = name; node = Some node }) old.tables.index index answer → new.tables ≡ record old.tables { index = index } → IsScanned name old new answer
scanned_at_hand name node old new index answer found steady faults records tables =
    let scan : Scanned = record { name = name; node = Some node } in
    let read : IsReadAgain scan old new = record { fresh = found; steady = steady; faults = faults } in
    let done = recorded scan old new read index answer records tables in
    record {
      made = scan_made name (Some node) old old new answer (sym found) refl refl scan refl done.commits;
      first = done.first;
      counted = done.counted;
    }
