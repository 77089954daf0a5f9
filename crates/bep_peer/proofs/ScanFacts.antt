-- What a look finds in a folder and what a commit records there, as the device answers it.
use Rattle.std.proofs.Common.{◌≡◌, ◌⊎◌, Option, Some, None, IsSome, Result, Ok, Err, IfOk, IfErr, IsErrOf, OnOk, refl, sym, ap, subst, ◌∙◌, inl, inr, ⊎_elim}
use Rattle.std.specs.Cmp.Lexicographic.{nat_list_cmp_total}
use Rattle.std.specs.FinMap.{get}
use Rattle.std.proofs.lemmas.Map.Lookups.{exact_bytes}
use Rattle.bep_facts.specs.Maps.{found_after_insert}
use Rattle.bep_record.specs.declared.node.NodeParts.{NodeParts}
use Rattle.bep_model.specs.Tables.{Device, Folder, FileName}
use Rattle.bep_machine.specs.declared.moved.Moved.{Moved}
use Rattle.bep_machine.specs.Local.{ScanRow}
use Rattle.bep_machine.specs.Replica.{Replica, node_at}
use Rattle.bep_folder.specs.Commit.{Commits, IsFresh}
use Rattle.bep_folder.specs.declared.error.FolderError.{FolderError}
use Rattle.bep_folder.specs.declared.error.FolderError.TheVariants as errors
use Rattle.bep_folder.specs.Held.{Held}
use Rattle.bep_folder.specs.Makes.{CountsFaults, Makes}
use Rattle.bep_folder.specs.ScanResult.{Scanned}
use Rattle.bep_peer.specs.declared.error.PeerError.{PeerError}
use Rattle.bep_peer.specs.inner.Call.{AnswersAt, IsCommitted, IsLooked}
use Rattle.bep_peer.specs.Faults.{HaveSameFaults}
use Rattle.bep_peer.specs.Member.{Member, tables_of}
use Rattle.bep_peer.specs.PeerError.{Gives}
use Rattle.bep_peer.specs.Within.{CommitsWithin, FindsWithin, IsStale, StepWithin, answer_of, with_folder}
use Rattle.bep_peer.proofs.OthersKept.{makes_keeps}
use Rattle.bep_peer.proofs.Refusals.{scanned_or_same}
use Rattle.bep_peer.proofs.RowsKeep.{scan_keeps}
use Rattle.bep_peer.proofs.WithinFacts.{either_way, its_value, made_within, same_tables}

-- ---- a commit

commits_at : (old : Member) (folder : Folder) (scan : Scanned) (before after : Held) (answer : Result Moved FolderError) → get old.folders folder ≡ Some before → before.device ≡ old.number → Commits scan before after answer → CommitsWithin folder scan old (with_folder old folder after) (answer_of answer)
commits_at old folder scan before after answer is device commits = cases answer commits
  where
    stepped : (answer : Result Moved FolderError) → Makes (ScanRow before.device scan.name after.trace.failed) before after answer → Gives (StepWithin folder (ScanRow old.number scan.name after.trace.failed) old) (with_folder old folder after) (answer_of answer)
    stepped answer made =
        subst (λ (number : Device). Gives (StepWithin folder (ScanRow number scan.name after.trace.failed) old) (with_folder old folder after) (answer_of answer)) device
        (made_within old folder before after (ScanRow before.device scan.name after.trace.failed) answer is made)

    not_stale : IsFresh scan before.tables → ¬ IsStale folder scan old
    not_stale fresh stale = stale.2 (subst (λ (h : Held). IsFresh scan h.tables) (its_value before stale.0 (get old.folders folder) is stale.1) fresh)

    cases : (answer : Result Moved FolderError) → Commits scan before after answer → CommitsWithin folder scan old (with_folder old folder after) (answer_of answer)
    cases (Ok moved) made = (not_stale made.0, stepped (Ok moved) made.1)
    cases (Err errors.Stale) stale = ((before, is, stale.0), same_tables old folder before after is stale.1)
    cases (Err errors.StoreFault) made = stepped (Err errors.StoreFault) made
    cases (Err errors.Memory) made = stepped (Err errors.Memory) made
    cases (Err errors.CounterFull) made = (not_stale made.0, stepped (Err errors.CounterFull) made.1)
    cases (Err errors.TooManyCounters) made = (not_stale made.0, stepped (Err errors.TooManyCounters) made.1)
    cases (Err errors.NameBad) made = (not_stale made.0, stepped (Err errors.NameBad) made.1)
    cases (Err errors.SequenceFull) made = (not_stale made.0, stepped (Err errors.SequenceFull) made.1)
    cases (Err errors.IndexFull) made = (not_stale made.0, stepped (Err errors.IndexFull) made.1)
    cases (Err errors.BatchOld) made = absurd made.1
    cases (Err errors.Unscanned) made = (not_stale made.0, stepped (Err errors.Unscanned) made.1)
    cases (Err errors.NotNeeded) made = (not_stale made.0, stepped (Err errors.NotNeeded) made.1)
    cases (Err errors.BlocksMissing) made = (not_stale made.0, stepped (Err errors.BlocksMissing) made.1)
    cases (Err errors.HashBad) made = absurd made.1
    cases (Err errors.CopyExists) made = (not_stale made.0, stepped (Err errors.CopyExists) made.1)
    cases (Err errors.PullsFull) made = (not_stale made.0, stepped (Err errors.PullsFull) made.1)
    cases (Err errors.KindForbids) made = (not_stale made.0, stepped (Err errors.KindForbids) made.1)
    cases (Err errors.NotShared) made = (not_stale made.0, stepped (Err errors.NotShared) made.1)
    cases (Err errors.NothingToDo) made = (not_stale made.0, stepped (Err errors.NothingToDo) made.1)

-- the device doesn't have the folder
no_commit : (old : Member) (folder : Folder) (scan : Scanned) → get old.folders folder ≡ None → ¬ IsStale folder scan old
no_commit old folder scan none stale = let there = sym stale.1 ∙ none in absurd (cc)

pub commits_within : {scan : Scanned} {folder : Folder} {old new : Member} {result : Result Moved PeerError} → AnswersAt (IsCommitted scan) folder old new result → CommitsWithin folder scan old new result
commits_within {scan = scan} {folder = folder} {old = old} = either_way (CommitsWithin folder scan old)
    (λ none. (no_commit old folder scan none, inr (inl (none, (refl, refl)))))
    (λ call. commits_at old folder scan call.before call.after call.answer call.there call.own call.done.commits)

-- ---- a look

abbrev failing : FolderError → Result (Option NodeParts) FolderError
failing error = Err error

looks_at : (old : Member) (folder : Folder) (name : FileName) (before after : Held) (answer : Result (Option NodeParts) FolderError) → get old.folders folder ≡ Some before →
    IfOk answer (λ node. node ≡ node_at before.tables name) → IfErr answer (λ e. (e ≡ errors.StoreFault) ⊎ (e ≡ errors.Memory)) → (IsErrOf answer errors.StoreFault → after.trace.failed ≡ Some 1) →
    FindsWithin folder name old (with_folder old folder after) (answer_of answer)
looks_at old folder name before after (Ok seen) is found only first = (before, is, found)
looks_at old folder name before after (Err error) is found only first =
    ⊎_elim
    (λ fault. subst (λ (e : FolderError). (IsErrOf (failing e) errors.StoreFault → after.trace.failed ≡ Some 1) → FindsWithin folder name old (with_folder old folder after) (answer_of (failing e))) (sym fault)
    (λ first. (there, first refl)) first)
    (λ memory. subst (λ (e : FolderError). FindsWithin folder name old (with_folder old folder after) (answer_of (failing e))) (sym memory) there)
    only
  where
    there : IsSome (get old.folders folder)
    there = subst (λ (found : Option Held). IsSome found) (sym is) refl

pub looks_within : {name : FileName} {folder : Folder} {old new : Member} {result : Result (Option NodeParts) PeerError} → AnswersAt (IsLooked name) folder old new result → FindsWithin folder name old new result
looks_within {name = name} {folder = folder} {old = old} = either_way (FindsWithin folder name old)
    (λ none. none)
    (λ call. looks_at old folder name call.before call.after call.answer call.there call.done.read.right call.done.read.only call.done.first)

-- the tables are as before
pub looks_same : {name : FileName} {folder : Folder} {old new : Member} {result : Result (Option NodeParts) PeerError} → AnswersAt (IsLooked name) folder old new result → tables_of new ≡ tables_of old
looks_same {folder = folder} {old = old} = either_way (λ m one. tables_of m ≡ tables_of old) (λ none. refl) (λ call. same_tables old folder call.before call.after call.there call.done.read.same)

-- where the folder's count is as before, all are
same_faults : (old : Member) (folder : Folder) (before after : Held) → get old.folders folder ≡ Some before → after.faults ≡ before.faults → HaveSameFaults old (with_folder old folder after)
same_faults old folder before after is same name was now had has =
    ⊎_elim
    (λ here.
    let one : was ≡ before = its_value was before (get old.folders folder) (ap (get old.folders) (sym here.0) ∙ had) is in
    ap (λ (h : Held). h.faults) here.1 ∙ same ∙ ap (λ (h : Held). h.faults) (sym one))
    (λ apart. ap (λ (h : Held). h.faults) (its_value now was (get old.folders name) apart.1 had))
    (found_after_insert nat_list_cmp_total exact_bytes old.folders folder after name now has)

looks_counted : (old : Member) (folder : Folder) (before after : Held) (answer : Result (Option NodeParts) FolderError) → get old.folders folder ≡ Some before → CountsFaults before after answer →
    OnOk (answer_of answer) (HaveSameFaults old (with_folder old folder after))
looks_counted old folder before after (Ok seen) is counted = same_faults old folder before after is counted.0
looks_counted old folder before after (Err error) is counted = tt

-- a look that answers what it found counts no fault
pub looks_unfailed : {name : FileName} {folder : Folder} {old new : Member} {result : Result (Option NodeParts) PeerError} → AnswersAt (IsLooked name) folder old new result → OnOk result (HaveSameFaults old new)
looks_unfailed {folder = folder} {old = old} = either_way (λ m one. OnOk one (HaveSameFaults old m)) (λ none. tt)
    (λ call. looks_counted old folder call.before call.after call.answer call.there call.steady.counted)
