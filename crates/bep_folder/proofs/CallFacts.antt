-- How many calls of the store an action made, from part to part.
use Rattle.std.proofs.Common.{◌≡◌, ◌⊎◌, ◌↔◌, ℕ, Bool, true, false, Option, Some, None, Result, Ok, Err, IfOk, refl, sym, ap, subst, ◌∙◌, inl, inr, ⊎_elim}
use Rattle.std.specs.Prelude.{⊤, ◌≢◌, IsSome, IsErrOf}
use Rattle.bep_record.specs.declared.entry.Entry.{Entry}
use Rattle.bep_record.specs.declared.node.NodeParts.{NodeParts}
use Rattle.bep_index.specs.Listing.{Listing}
use Rattle.bep_model.specs.Tables.{FileName}
use Rattle.bep_machine.specs.declared.moved.Moved.{Moved}
use Rattle.bep_machine.specs.declared.moved.Moved.TheVariants.{Changed}
use Rattle.bep_machine.specs.Pull.{EndsWith, IsConflictDue, timed, written}
use Rattle.bep_machine.specs.Replica.{HasContentOf, Pull, Replica, own_at, node_at, pull_at}
use Rattle.bep_folder.specs.declared.error.FolderError.{FolderError}
use Rattle.bep_folder.specs.declared.error.FolderError.TheVariants as errors
use Rattle.bep_folder.specs.Calls.{CallsIf, CallsInFinish}
use Rattle.bep_folder.specs.inner.Calls.{CallsSince, CallsToWrite, after_copy}
use Rattle.bep_folder.specs.inner.Ending.{CallsIn, EndsIn, LacksRoom, Stores, WroteCopy}
use Rattle.bep_folder.specs.inner.Finish.{IfPulled, Looks}
use Rattle.bep_folder.specs.Held.{Held}
use Rattle.bep_folder.specs.inner.Conflict.{IsKeptAt}
use Rattle.bep_folder.specs.inner.Reverting.{after_removal}
use Rattle.bep_folder.specs.Trace.{CountsCall, TracedStore, next_call}

-- ---- one call

-- it was counted, whatever it answered
pub one_made : {A : Type 0} (old new : TracedStore) (result : Result A FolderError) → CountsCall old new result → new.made ≡ next_call old.made
one_made old new (Ok done) counted = counted.0
one_made old new (Err errors.StoreFault) counted = counted.0
one_made old new (Err errors.Memory) counted = counted.0
one_made old new (Err errors.CounterFull) counted = absurd counted
one_made old new (Err errors.TooManyCounters) counted = absurd counted
one_made old new (Err errors.NameBad) counted = absurd counted
one_made old new (Err errors.SequenceFull) counted = absurd counted
one_made old new (Err errors.IndexFull) counted = absurd counted
one_made old new (Err errors.BatchOld) counted = absurd counted
one_made old new (Err errors.Unscanned) counted = absurd counted
one_made old new (Err errors.NotNeeded) counted = absurd counted
one_made old new (Err errors.BlocksMissing) counted = absurd counted
one_made old new (Err errors.HashBad) counted = absurd counted
one_made old new (Err errors.CopyExists) counted = absurd counted
one_made old new (Err errors.PullsFull) counted = absurd counted
one_made old new (Err errors.KindForbids) counted = absurd counted
one_made old new (Err errors.Stale) counted = absurd counted
one_made old new (Err errors.NotShared) counted = absurd counted
one_made old new (Err errors.NothingToDo) counted = absurd counted

-- and where it failed it is the last
pub last_failed : {A : Type 0} (old new : TracedStore) (result : Result A FolderError) → CountsCall old new result → IsErrOf result errors.StoreFault → new.trace.failed ≡ Some new.made
last_failed old new result counted is = ap (λ t. t.failed) (subst (λ (r : Result _ FolderError). CountsCall old new r) is counted).2

calls_iff : {P Q : Type 0} {before after : ℕ} → (P → Q) → (Q → P) → CallsIf P before after → CallsIf Q before after
calls_iff there back (inl called) = inl (there called.0, called.1)
calls_iff there back (inr silent) = inr ((λ q. silent.0 (back q)), silent.1)

-- ---- the target

module _ (pull : Pull) (node : Option NodeParts) (before after : ℕ) where
  -- only the time is taken
  pub timing : (same : Bool) → same ≡ true → CallsIf (timed node pull.target ≢ node) before after → (held : Option NodeParts) → EndsIn same node pull held → CallsIf (CallsIn same node pull.target held) before after
  timing true is calls held ends =
      calls_iff
      (λ apart. inl (subst (λ (h : Option NodeParts). h ≢ node) (sym ends) apart))
      (λ why. ⊎_elim (λ apart. subst (λ (h : Option NodeParts). h ≢ node) ends apart) (λ new. let e = new.0 in absurd (cc)) why) calls
  timing false is calls held ends = absurd (cc)

  -- the target's bytes are written
  pub writing : (same : Bool) → same ≡ false → pull.target.deleted ≡ false → after ≡ next_call before → (held : Option NodeParts) → EndsIn same node pull held → CallsIf (CallsIn same node pull.target held) before after
  writing same is there made held ends = inl (inr (is, there), made)

  deleted : None ≡ written pull → pull.target.deleted ≡ true
  deleted is = by_mark pull.target.deleted refl
    where
      by_mark : (mark : Bool) → pull.target.deleted ≡ mark → pull.target.deleted ≡ true
      by_mark true was = was
      by_mark false was = absurd (cc)

  -- or nothing is left
  pub removing : (same : Bool) → same ≡ false → None ≡ written pull → after ≡ after_removal node before → (held : Option NodeParts) → EndsIn same node pull held → CallsIf (CallsIn same node pull.target held) before after
  removing true is gone made held ends = absurd (cc)
  removing false is gone made held ends = of_node node made
    where
      none : held ≡ None
      none = ends ∙ sym gone

      of_node : (n : Option NodeParts) → after ≡ after_removal n before → CallsIf (CallsIn false n pull.target held) before after
      of_node None made = inr ((λ why. ⊎_elim (λ apart. apart none) (λ new. let a = new.1 in let b = deleted gone in absurd (cc)) why), made)
      of_node (Some n) made = inl (inl (λ e. let both = sym none ∙ e in absurd (cc)), made)

-- ---- the writes

-- a write that gave an error
pub not_written : (same : Bool) (there : Option NodeParts) (pull : Pull) (copy : Option FileName) (old new : TracedStore) (name : FileName) (after : Option NodeParts) (called : Type 0) (from : TracedStore) (error : FolderError) →
    Stores name after called from new (Err error) → (error ≡ errors.StoreFault → new.trace.failed ≡ Some new.made) → CallsToWrite same there pull copy old new (Err error)
not_written same there pull copy old new name after called from errors.StoreFault stores last = last refl
not_written same there pull copy old new name after called from errors.Memory stores last = tt
not_written same there pull copy old new name after called from errors.CounterFull stores last = stores
not_written same there pull copy old new name after called from errors.TooManyCounters stores last = stores
not_written same there pull copy old new name after called from errors.NameBad stores last = stores
not_written same there pull copy old new name after called from errors.SequenceFull stores last = stores
not_written same there pull copy old new name after called from errors.IndexFull stores last = stores
not_written same there pull copy old new name after called from errors.BatchOld stores last = stores
not_written same there pull copy old new name after called from errors.Unscanned stores last = stores
not_written same there pull copy old new name after called from errors.NotNeeded stores last = stores
not_written same there pull copy old new name after called from errors.BlocksMissing stores last = stores
not_written same there pull copy old new name after called from errors.HashBad stores last = stores
not_written same there pull copy old new name after called from errors.CopyExists stores last = stores
not_written same there pull copy old new name after called from errors.PullsFull stores last = stores
not_written same there pull copy old new name after called from errors.KindForbids stores last = stores
not_written same there pull copy old new name after called from errors.Stale stores last = stores
not_written same there pull copy old new name after called from errors.NotShared stores last = stores
not_written same there pull copy old new name after called from errors.NothingToDo stores last = stores

-- the target was to be written, after so many calls
pub target_written : (same : Bool) (there : Option NodeParts) (pull : Pull) (copy : Option FileName) (old from new : TracedStore) (name : FileName) (result : Result ⊤ FolderError) → from.made ≡ after_copy copy old.made →
    ((after : Option NodeParts) → EndsIn same there pull after → CallsIf (CallsIn same there pull.target after) from.made new.made) →
    (after : Option NodeParts) (called : Type 0) → Stores name after called from new result → (IsErrOf result errors.StoreFault → new.trace.failed ≡ Some new.made) → CallsToWrite same there pull copy old new result
target_written same there pull copy old from new name (Ok done) made calls after called stores last =
    λ held ends. subst (λ (n : ℕ). CallsIf (CallsIn same there pull.target held) n new.made) made (calls held ends)
target_written same there pull copy old from new name (Err error) made calls after called stores last =
    not_written same there pull copy old new name after called from error stores (λ is. last (ap Err is))

-- ---- the record and the writes

ends_in : (same : Bool) (own : Option Entry) (node : Option NodeParts) (pull : Pull) (after : Option NodeParts) → ((same ≡ true) ↔ HasContentOf own pull.target) → EndsWith own node pull after → EndsIn same node pull after
ends_in true own node pull after has (inl kept) = kept.1
ends_in true own node pull after has (inr new) = absurd (new.0 (has.0 refl))
ends_in false own node pull after has (inl kept) = let yes = has.1 kept.0 in absurd (cc)
ends_in false own node pull after has (inr new) = new.1

not_true : (same : Bool) → ¬ (same ≡ true) → same ≡ false
not_true true apart = absurd (apart refl)
not_true false apart = refl

-- where the own content is the target's, or isn't, as it was found
pub since_written : (same : Bool) (own : Option Entry) (node : Option NodeParts) (pull : Pull) (copy : Option FileName) (old new : TracedStore) (result : Result ⊤ FolderError) → ((same ≡ true) ↔ HasContentOf own pull.target) →
    CallsToWrite same node pull copy old new result → CallsSince old.made own node pull copy new.made new.trace.failed result
since_written same own node pull copy old new (Ok done) has calls = λ after ends.
    calls_iff
    (λ why. ⊎_elim (λ apart. inl apart) (λ fresh. inr ((λ there. let yes = has.1 there in let no = fresh.0 in absurd (cc)), fresh.1)) why)
    (λ why. ⊎_elim (λ apart. inl apart) (λ fresh. inr (not_true same (λ yes. fresh.0 (has.0 yes)), fresh.1)) why)
    (calls after (ends_in same own node pull after has ends))
since_written same own node pull copy old new (Err errors.StoreFault) has calls = calls
since_written same own node pull copy old new (Err errors.Memory) has calls = tt
since_written same own node pull copy old new (Err errors.CounterFull) has calls = absurd calls
since_written same own node pull copy old new (Err errors.TooManyCounters) has calls = absurd calls
since_written same own node pull copy old new (Err errors.NameBad) has calls = absurd calls
since_written same own node pull copy old new (Err errors.SequenceFull) has calls = absurd calls
since_written same own node pull copy old new (Err errors.IndexFull) has calls = absurd calls
since_written same own node pull copy old new (Err errors.BatchOld) has calls = absurd calls
since_written same own node pull copy old new (Err errors.Unscanned) has calls = absurd calls
since_written same own node pull copy old new (Err errors.NotNeeded) has calls = absurd calls
since_written same own node pull copy old new (Err errors.BlocksMissing) has calls = absurd calls
since_written same own node pull copy old new (Err errors.HashBad) has calls = absurd calls
since_written same own node pull copy old new (Err errors.CopyExists) has calls = absurd calls
since_written same own node pull copy old new (Err errors.PullsFull) has calls = absurd calls
since_written same own node pull copy old new (Err errors.KindForbids) has calls = absurd calls
since_written same own node pull copy old new (Err errors.Stale) has calls = absurd calls
since_written same own node pull copy old new (Err errors.NotShared) has calls = absurd calls
since_written same own node pull copy old new (Err errors.NothingToDo) has calls = absurd calls

-- there is no room for the record
pub since_refused : (name : FileName) (index : Listing) (made : ℕ) (own : Option Entry) (node : Option NodeParts) (pull : Pull) (copy : Option FileName) (failed : Option ℕ) (error : FolderError) →
    LacksRoom name own pull.target index error → CallsSince {A = ⊤} made own node pull copy made failed (Err error)
since_refused name index made own node pull copy failed errors.TooManyCounters lacks = refl
since_refused name index made own node pull copy failed errors.SequenceFull lacks = refl
since_refused name index made own node pull copy failed errors.IndexFull lacks = refl
since_refused name index made own node pull copy failed errors.Memory lacks = tt
since_refused name index made own node pull copy failed errors.StoreFault lacks = absurd lacks
since_refused name index made own node pull copy failed errors.CounterFull lacks = absurd lacks
since_refused name index made own node pull copy failed errors.NameBad lacks = absurd lacks
since_refused name index made own node pull copy failed errors.BatchOld lacks = absurd lacks
since_refused name index made own node pull copy failed errors.Unscanned lacks = absurd lacks
since_refused name index made own node pull copy failed errors.NotNeeded lacks = absurd lacks
since_refused name index made own node pull copy failed errors.BlocksMissing lacks = absurd lacks
since_refused name index made own node pull copy failed errors.HashBad lacks = absurd lacks
since_refused name index made own node pull copy failed errors.CopyExists lacks = absurd lacks
since_refused name index made own node pull copy failed errors.PullsFull lacks = absurd lacks
since_refused name index made own node pull copy failed errors.KindForbids lacks = absurd lacks
since_refused name index made own node pull copy failed errors.Stale lacks = absurd lacks
since_refused name index made own node pull copy failed errors.NotShared lacks = absurd lacks
since_refused name index made own node pull copy failed errors.NothingToDo lacks = absurd lacks

-- the same error in place of another value
pub since_again : (A B : Type 0) (before : ℕ) (own : Option Entry) (there : Option NodeParts) (pull : Pull) (copy : Option FileName) (made : ℕ) (failed : Option ℕ) (error : FolderError) →
    CallsSince {A = A} before own there pull copy made failed (Err error) → CallsSince {A = B} before own there pull copy made failed (Err error)
since_again A B before own there pull copy made failed errors.CounterFull calls = calls
since_again A B before own there pull copy made failed errors.TooManyCounters calls = calls
since_again A B before own there pull copy made failed errors.NameBad calls = calls
since_again A B before own there pull copy made failed errors.SequenceFull calls = calls
since_again A B before own there pull copy made failed errors.IndexFull calls = calls
since_again A B before own there pull copy made failed errors.BatchOld calls = calls
since_again A B before own there pull copy made failed errors.StoreFault calls = calls
since_again A B before own there pull copy made failed errors.Unscanned calls = calls
since_again A B before own there pull copy made failed errors.NotNeeded calls = calls
since_again A B before own there pull copy made failed errors.BlocksMissing calls = calls
since_again A B before own there pull copy made failed errors.HashBad calls = calls
since_again A B before own there pull copy made failed errors.CopyExists calls = calls
since_again A B before own there pull copy made failed errors.PullsFull calls = calls
since_again A B before own there pull copy made failed errors.KindForbids calls = calls
since_again A B before own there pull copy made failed errors.Stale calls = calls
since_again A B before own there pull copy made failed errors.NotShared calls = calls
since_again A B before own there pull copy made failed errors.NothingToDo calls = calls
since_again A B before own there pull copy made failed errors.Memory calls = calls

-- ---- the end of a pull

-- the pull that is found is one
pub found : (there : Option Pull) (one other : Pull) → there ≡ Some one → there ≡ Some other → one ≡ other
found there one other is same = cc

of_pull : {P : Type 0} (name : FileName) (tables : Replica) → IsSome (pull_at tables name) → ((pull : Pull) → pull_at tables name ≡ Some pull → P) → P
of_pull {P} name tables some on = cases (pull_at tables name) refl some
  where
    cases : (found : Option Pull) → pull_at tables name ≡ found → IsSome found → P
    cases None is none = absurd (cc)
    cases (Some pull) is there = on pull is

module _ (name : FileName) (old : Replica) (new : Held) (pull : Pull) (pulled : pull_at old name ≡ Some pull) (looked : ℕ) (looks : CallsIf (IsConflictDue (own_at old name) pull.target) 1 looked) (copy : Option FileName) where
  -- what was called once the names were read
  settled : (result : Result Moved FolderError) → CallsSince looked (own_at old name) (node_at old name) pull copy new.made new.trace.failed result →
      IfOk result (λ moved. moved ≡ Changed) → IfOk result (λ moved. CallsIf (new.trace.copied ≡ true) looked (after_copy copy looked)) → CallsInFinish name old new result
  settled (Ok moved) calls changed keeps = subst (λ (m : Moved). CallsInFinish name old new (Ok m)) (sym changed) (record {
    pull = pull;
    pulled = pulled;
    looked = looked;
    looks = looks;
    kept = after_copy copy looked;
    keeps = keeps;
    writes = calls;
  })
  settled (Err errors.StoreFault) calls changed keeps = calls
  settled (Err errors.Memory) calls changed keeps = tt
  settled (Err errors.TooManyCounters) calls changed keeps = record { pull = pull; pulled = pulled; looks = subst (CallsIf (IsConflictDue (own_at old name) pull.target) 1) (sym calls) looks }
  settled (Err errors.SequenceFull) calls changed keeps = record { pull = pull; pulled = pulled; looks = subst (CallsIf (IsConflictDue (own_at old name) pull.target) 1) (sym calls) looks }
  settled (Err errors.IndexFull) calls changed keeps = record { pull = pull; pulled = pulled; looks = subst (CallsIf (IsConflictDue (own_at old name) pull.target) 1) (sym calls) looks }
  settled (Err errors.CounterFull) calls changed keeps = absurd calls
  settled (Err errors.NameBad) calls changed keeps = absurd calls
  settled (Err errors.BatchOld) calls changed keeps = absurd calls
  settled (Err errors.Unscanned) calls changed keeps = absurd calls
  settled (Err errors.NotNeeded) calls changed keeps = absurd calls
  settled (Err errors.BlocksMissing) calls changed keeps = absurd calls
  settled (Err errors.HashBad) calls changed keeps = absurd calls
  settled (Err errors.CopyExists) calls changed keeps = absurd calls
  settled (Err errors.PullsFull) calls changed keeps = absurd calls
  settled (Err errors.KindForbids) calls changed keeps = absurd calls
  settled (Err errors.Stale) calls changed keeps = absurd calls
  settled (Err errors.NotShared) calls changed keeps = absurd calls
  settled (Err errors.NothingToDo) calls changed keeps = absurd calls

-- whether a copy was kept, by whether there was one to write
keeps_none : (looked : ℕ) (old new : Held) (result : Result Moved FolderError) → old.trace.copied ≡ false → WroteCopy None old new result → IfOk result (λ moved. CallsIf (new.trace.copied ≡ true) looked looked)
keeps_none looked old new (Ok moved) uncopied wrote = inr ((λ yes. let no = wrote.0 ∙ uncopied in absurd (cc)), refl)
keeps_none looked old new (Err error) uncopied wrote = tt

keeps_one : (looked : ℕ) (copy : FileName) (old new : Held) (result : Result Moved FolderError) → WroteCopy (Some copy) old new result → IfOk result (λ moved. CallsIf (new.trace.copied ≡ true) looked (next_call looked))
keeps_one looked copy old new (Ok moved) (inl wrote) = inl (wrote.0, refl)
keeps_one looked copy old new (Ok moved) (inr none) = let failed = none.1 in absurd (cc)
keeps_one looked copy old new (Err error) wrote = tt

module _ (name : FileName) (old : Replica) (mid new : Held) (result : Result Moved FolderError) (same : mid.tables ≡ old) (some : IsSome (pull_at old name)) (looked : ℕ) (made : mid.made ≡ looked)
    (looks : IfPulled name old (λ pull. CallsIf (IsConflictDue (own_at old name) pull.target) 1 looked)) (changed : IfOk result (λ moved. moved ≡ Changed)) where
  -- what the settling calls, told of the tables before the names were read
  abbrev Since : Option FileName → Type 0
  Since copy = (pull : Pull) → pull_at mid.tables name ≡ Some pull → CallsSince mid.made (own_at mid.tables name) (node_at mid.tables name) pull copy new.made new.trace.failed result

  ends_with : (copy : Option FileName) → Since copy → IfOk result (λ moved. CallsIf (new.trace.copied ≡ true) looked (after_copy copy looked)) → CallsInFinish name old new result
  ends_with copy calls keeps = of_pull name old some (λ pull is.
      settled name old new pull is looked (looks pull is) copy result
      (subst (λ (n : ℕ). CallsSince n (own_at old name) (node_at old name) pull copy new.made new.trace.failed result) made
      (subst (λ (t : Replica). CallsSince mid.made (own_at t name) (node_at t name) pull copy new.made new.trace.failed result) same
      (calls pull (ap (λ (t : Replica). pull_at t name) same ∙ is)))) changed keeps)

  pub ends_without : mid.trace.copied ≡ false → WroteCopy None mid new result → Since None → CallsInFinish name old new result
  ends_without uncopied wrote calls = ends_with None calls (keeps_none looked mid new result uncopied wrote)

  pub ends_copying : (copy : FileName) → WroteCopy (Some copy) mid new result → Since (Some copy) → CallsInFinish name old new result
  ends_copying copy wrote calls = ends_with (Some copy) calls (keeps_one looked copy mid new result wrote)

-- a look that failed, and one that wanted memory
pub looked_in_vain : (A : Type 0) (name : FileName) (tables : Replica) (old new : Held) (error : FolderError) → Looks {A = A} old new (Err error) → CallsInFinish name tables new (Err error)
looked_in_vain A name tables old new error (inl wanting) = subst (λ (e : FolderError). CallsInFinish name tables new (Err e)) (sym wanting.0) tt
looked_in_vain A name tables old new error (inr fault) = subst (λ (e : FolderError). CallsInFinish name tables new (Err e)) (sym fault.0)
    (ap (λ (h : Held). h.trace.failed) fault.2 ∙ ap Some (sym (ap (λ (h : Held). h.made) fault.2)))

-- another node stands under the conflict name, or looking there failed
pub not_kept : (name copy : FileName) (node : Option NodeParts) (tables : Replica) (old new : Held) (error : FolderError) → old.made ≡ 1 → IsKeptAt copy node old new (Err error) → CallsInFinish name tables new (Err error)
not_kept name copy node tables old new error one (inl other) =
    subst (λ (e : FolderError). CallsInFinish name tables new (Err e)) (sym other.1.0) (ap (λ (h : Held). h.made) other.0 ∙ ap next_call one)
not_kept name copy node tables old new error one (inr (fault, is, looked)) =
    let same : error ≡ fault = cc in
    subst (λ (e : FolderError). CallsInFinish name tables new (Err e)) (sym same) (looked_in_vain Bool name tables old new fault looked)

-- the conflict name is too long, or memory was wanting for it
pub not_named : (name : FileName) (tables : Replica) (new : Held) (error : FolderError) → new.made ≡ 1 → (error ≡ errors.NameBad) ⊎ (error ≡ errors.Memory) → CallsInFinish name tables new (Err error)
not_named name tables new error one (inl bad) = subst (λ (e : FolderError). CallsInFinish name tables new (Err e)) (sym bad) one
not_named name tables new error one (inr wanting) = subst (λ (e : FolderError). CallsInFinish name tables new (Err e)) (sym wanting) tt
