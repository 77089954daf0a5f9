-- That a commit which found something new makes the row of a scan.
use Rattle.std.proofs.Common.{◌≡◌, ◌⊎◌, ◌↔◌, ◌∙◌, ℕ, List, Option, Some, None, Result, Ok, Err, IfErr, IsErrOf, OnOk, refl, ap, sym, subst, inl, inr}
use Rattle.std.specs.FinMap.{get}
use Rattle.bep_record.specs.declared.entry.Entry.{Entry}
use Rattle.bep_record.specs.declared.node.NodeParts.{NodeParts}
use Rattle.bep_record.specs.declared.folder_kind.FolderKind.{FolderKind}
use Rattle.bep_record.specs.declared.folder_kind.FolderKind.TheVariants.{SendReceive, SendOnly, ReceiveOnly}
use Rattle.bep_record.specs.Node.{IsClean}
use Rattle.bep_index.specs.Listing.{Listing}
use Rattle.bep_index.specs.Index.{IsSequenceFull, IsIndexFull, after_put}
use Rattle.bep_model.specs.Tables.{Device, FileName}
use Rattle.bep_machine.specs.Answer.{Answer, Done, Refused}
use Rattle.bep_machine.specs.declared.moved.Moved.{Moved}
use Rattle.bep_machine.specs.declared.moved.Moved.TheVariants.{Changed, Unchanged}
use Rattle.bep_machine.specs.declared.refusal.Refusal.TheVariants as refusals
use Rattle.bep_machine.specs.Local.{Fails, Finds, FoundRow, PutRow, ScanRow}
use Rattle.bep_machine.specs.Replica.{Replica, own_at, node_at, version_of}
use Rattle.bep_folder.specs.Commit.{Commits, IsFresh}
use Rattle.bep_folder.specs.inner.Found.{CanRaise, IsFound, IsCounterFull, IsNotPut, IsVersionFull, PutsFound, Records}
use Rattle.bep_folder.specs.Held.{Held}
use Rattle.bep_folder.specs.Makes.{CountsFaults}
use Rattle.bep_folder.specs.ScanResult.{Scanned}
use Rattle.bep_folder.specs.declared.error.FolderError.{FolderError}
use Rattle.bep_folder.specs.declared.error.FolderError.TheVariants.{CounterFull, TooManyCounters, SequenceFull, IndexFull, StoreFault, Memory}

-- ---- the new record

finds_named : (device : Device) (name : FileName) (node : Option NodeParts) (own : Option Entry) (version : List (ℕ × ℕ)) (entry : Entry) → Finds device name node own version entry → entry.name ≡ name
finds_named device name (Some node) own version entry finds = ap (λ (e : Entry). e.name) finds
finds_named device name None (Some own) version entry finds = ap (λ (e : Entry). e.name) finds
finds_named device name None None version entry finds = absurd finds

-- it stands under the name
pub found_named : (kind : FolderKind) (device : Device) (name : FileName) (node : Option NodeParts) (own : Option Entry) (entry : Entry) → IsFound kind device name node own entry → entry.name ≡ name
found_named SendReceive device name node own entry found = finds_named device name node own found.0 entry found.2
found_named SendOnly device name node own entry found = finds_named device name node own found.0 entry found.2
found_named ReceiveOnly device name node own entry found =
    ap (λ (e : Entry). e.name) found.2 ∙ finds_named device name node own (version_of own) found.0 found.1

-- ---- what is put

-- the index took the record, where it had room for it
pub put_found : {A : Type 0} (result : Result A FolderError) (kind : FolderKind) (device : Device) (scan : Scanned) (old new : Listing) (entry : Entry) →
    CanRaise kind device (get old.records scan.name) → IsFound kind device scan.name scan.node (get old.records scan.name) entry →
    (IsErrOf result SequenceFull ↔ IsSequenceFull old) → (IsErrOf result IndexFull ↔ ((¬ IsSequenceFull old) × IsIndexFull old entry.name)) →
    OnOk result (new ≡ after_put old entry) → OnOk result (PutsFound kind device scan old new)
put_found (Ok done) kind device scan old new entry raised found sequence names put =
    let numbers : ¬ IsSequenceFull old = λ full. absurd (let bad = sequence.1 full in cc) in record {
      entry = entry;
      raised = raised;
      found = found;
      numbers = numbers;
      names = λ full. absurd (let bad = names.1 (numbers, subst (IsIndexFull old) (sym (found_named kind device scan.name scan.node (get old.records scan.name) entry found)) full) in cc);
      put = put;
    }
put_found (Err error) kind device scan old new entry raised found sequence names put = tt

-- or it didn't
pub not_put : {A : Type 0} (result : Result A FolderError) (kind : FolderKind) (device : Device) (scan : Scanned) (old : Listing) (entry : Entry) →
    CanRaise kind device (get old.records scan.name) → IsFound kind device scan.name scan.node (get old.records scan.name) entry →
    (IsErrOf result SequenceFull ↔ IsSequenceFull old) → (IsErrOf result IndexFull ↔ ((¬ IsSequenceFull old) × IsIndexFull old entry.name)) →
    IfErr result (λ e. (e ≡ SequenceFull) ⊎ (e ≡ IndexFull) ⊎ (e ≡ Memory)) → IfErr result (IsNotPut kind device scan old)
not_put (Ok done) kind device scan old entry raised found sequence names only = tt
not_put (Err error) kind device scan old entry raised found sequence names (inl is) = inr (inr (inl (is, raised, sequence.0 (ap Err is))))
not_put (Err error) kind device scan old entry raised found sequence names (inr (inl is)) =
    let full = names.0 (ap Err is) in
    inr (inr (inr (inl (is, raised, full.0, subst (IsIndexFull old) (found_named kind device scan.name scan.node (get old.records scan.name) entry found) full.1))))
not_put (Err error) kind device scan old entry raised found sequence names (inr (inr is)) = inr (inr (inr (inr is)))

-- ---- the row

module _ (device : Device) (name : FileName) (old new : Replica) where
  -- the version can't be raised, for either reason
  counter_row : (kind : FolderKind) → IsCounterFull kind device (own_at old name) → new ≡ old → FoundRow kind device name old new (Refused refusals.CounterFull)
  counter_row SendReceive full same = inl (full, (same, refl))
  counter_row SendOnly full same = inl (full, (same, refl))
  counter_row ReceiveOnly full same = absurd full

  version_row : (kind : FolderKind) → (¬ IsCounterFull kind device (own_at old name)) → IsVersionFull kind device (own_at old name) → new ≡ old → FoundRow kind device name old new (Refused refusals.TooManyCounters)
  version_row SendReceive counter full same = inr (counter, inl (full, (same, refl)))
  version_row SendOnly counter full same = inr (counter, inl (full, (same, refl)))
  version_row ReceiveOnly counter full same = absurd full

  -- it is, and the record is put as far as the index has room
  put_row : (answer : Answer) (kind : FolderKind) → CanRaise kind device (own_at old name) →
      PutRow name (IsFound kind device name (node_at old name) (own_at old name)) old new answer → FoundRow kind device name old new answer
  put_row answer SendReceive can put = inr (can.0, inr (can.1, put))
  put_row answer SendOnly can put = inr (can.0, inr (can.1, put))
  put_row answer ReceiveOnly can put = put

no_call_failed : (failed : Option ℕ) → failed ≡ None → ¬ Fails 1 failed
no_call_failed failed none fails = absurd (let e : Some 1 ≡ None = sym fails ∙ none in cc)

-- what is known once the node was read: it is still the one that was found, and no call of the store failed
pub record IsReadAgain (scan : Scanned) (old new : Held) : Type 0 where
  pub fresh : IsFresh scan old.tables
  pub steady : new.trace.failed ≡ None
  pub faults : new.faults ≡ old.faults

-- what the commit promises then
pub record IsRecorded (scan : Scanned) (old new : Held) (result : Result Moved FolderError) : Type 0 where
  pub commits : Commits scan old new result
  pub first : IsErrOf result StoreFault → new.trace.failed ≡ Some 1
  pub counted : CountsFaults old new result

module _ (scan : Scanned) (old new : Held) (read : IsReadAgain scan old new) where
  abbrev RowOf : Answer → Type 0
  RowOf answer = ScanRow old.device scan.name new.trace.failed old.tables new.tables answer

  found_row : (answer : Answer) → (¬ IsClean scan.node (own_at old.tables scan.name)) → FoundRow old.tables.kind old.device scan.name old.tables new.tables answer → RowOf answer
  found_row answer unclean row =
      inr (no_call_failed new.trace.failed read.steady, inr ((λ clean. unclean (subst (λ (o : Option NodeParts). IsClean o (own_at old.tables scan.name)) read.fresh clean)), row))

  unchanged_row : IsClean scan.node (own_at old.tables scan.name) → new.tables ≡ old.tables → RowOf (Done Unchanged)
  unchanged_row clean same =
      inr (no_call_failed new.trace.failed read.steady, inl (subst (λ (o : Option NodeParts). IsClean o (own_at old.tables scan.name)) (sym read.fresh) clean, (same, refl)))

  changed_row : (index : Listing) → (¬ IsClean scan.node (own_at old.tables scan.name)) → PutsFound old.tables.kind old.device scan old.tables.index index →
      new.tables ≡ record old.tables { index = index } → RowOf (Done Changed)
  changed_row index unclean puts is =
      found_row (Done Changed) unclean
      (put_row old.device scan.name old.tables new.tables (Done Changed) old.tables.kind puts.raised (inr (
        puts.numbers,
        inr (
          puts.names,
          (
            puts.entry,
            subst (λ (o : Option NodeParts). IsFound old.tables.kind old.device scan.name o (own_at old.tables scan.name) puts.entry) (sym read.fresh) puts.found,
            (is ∙ ap (λ (i : Listing). record old.tables { index = i }) puts.put, refl),
          ),
        ),
      )))

  -- an error that is no fault of the store
  refused : (error : FolderError) → ¬ (error ≡ StoreFault) → Commits scan old new (Err error) → CountsFaults {A = Moved} old new (Err error) → IsRecorded scan old new (Err error)
  refused error apart commits counted = record {
    commits = commits;
    first = λ fault. absurd (apart (cc));
    counted = counted;
  }

  not_recorded : (error : FolderError) → (¬ IsClean scan.node (own_at old.tables scan.name)) → new.tables ≡ old.tables →
      IsNotPut old.tables.kind old.device scan old.tables.index error → IsRecorded scan old new (Err error)
  not_recorded error unclean same (inl (is, full)) =
      subst (λ (e : FolderError). IsRecorded scan old new (Err e)) (sym is)
      (refused CounterFull (λ bad. absurd (cc))
      (read.fresh, found_row (Refused refusals.CounterFull) unclean (counter_row old.device scan.name old.tables new.tables old.tables.kind full same)) (read.faults, read.steady))
  not_recorded error unclean same (inr (inl (is, counter, full))) =
      subst (λ (e : FolderError). IsRecorded scan old new (Err e)) (sym is)
      (refused TooManyCounters (λ bad. absurd (cc))
      (read.fresh, found_row (Refused refusals.TooManyCounters) unclean (version_row old.device scan.name old.tables new.tables old.tables.kind counter full same)) (read.faults, read.steady))
  not_recorded error unclean same (inr (inr (inl (is, can, full)))) =
      subst (λ (e : FolderError). IsRecorded scan old new (Err e)) (sym is)
      (refused SequenceFull (λ bad. absurd (cc)) (
        read.fresh,
        found_row (Refused refusals.SequenceFull) unclean (put_row old.device scan.name old.tables new.tables (Refused refusals.SequenceFull) old.tables.kind can (inl (full, (same, refl)))),
      ) (read.faults, read.steady))
  not_recorded error unclean same (inr (inr (inr (inl (is, can, numbers, full))))) =
      subst (λ (e : FolderError). IsRecorded scan old new (Err e)) (sym is)
      (refused IndexFull (λ bad. absurd (cc)) (
        read.fresh,
        found_row (Refused refusals.IndexFull) unclean
            (put_row old.device scan.name old.tables new.tables (Refused refusals.IndexFull) old.tables.kind can (inr (numbers, inl (full, (same, refl))))),
      ) (read.faults, read.steady))
  not_recorded error unclean same (inr (inr (inr (inr is)))) =
      subst (λ (e : FolderError). IsRecorded scan old new (Err e)) (sym is) (refused Memory (λ bad. absurd (cc)) (inl same) (read.faults, read.steady))

  pub recorded : (index : Listing) (result : Result Moved FolderError) → Records old.tables.kind old.device scan old.tables.index index result →
      new.tables ≡ record old.tables { index = index } → IsRecorded scan old new result
  recorded index result (inl (is, clean, same)) tables =
      subst (IsRecorded scan old new) (sym is)
      (record {
        commits = (read.fresh, unchanged_row clean (tables ∙ ap (λ (i : Listing). record old.tables { index = i }) same));
        first = λ fault. absurd (cc);
        counted = (read.faults, read.steady);
      })
  recorded index result (inr (inl (is, unclean, puts))) tables =
      subst (IsRecorded scan old new) (sym is)
      (record {
        commits = (read.fresh, changed_row index unclean puts tables);
        first = λ fault. absurd (cc);
        counted = (read.faults, read.steady);
      })
  recorded index result (inr (inr (error, is, unclean, why, same))) tables =
      subst (IsRecorded scan old new) (sym is)
      (not_recorded error unclean (tables ∙ ap (λ (i : Listing). record old.tables { index = i }) same) why)
