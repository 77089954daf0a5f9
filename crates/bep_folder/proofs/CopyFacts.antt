-- What the last part of the end of a pull leaves of a conflict copy, and which call of the store failed in it.
use Rattle.std.proofs.Common.{◌≡◌, ◌⊎◌, ℕ, ◌≤◌, Bool, true, false, cond, Option, Some, None, Ok, Err, inl, inr, refl, sym, ap, subst, ◌∙◌, ⊎_elim, arith}
use Rattle.std.specs.Prelude.{IsSome}
use Rattle.std.specs.Borrow.{Bor}
use Rattle.std.specs.Option.{option_copied}
use Rattle.std.specs.Ordering.{nat_cmp, eq_by_cmp}
use Rattle.std.specs.Cmp.{Equal-is}
use Rattle.std.specs.Cmp.Lexicographic.{slice_cmp, nat_list_cmp_total}
use Rattle.std.specs.FinMap.{get, get-insert, get-remove}
use Rattle.std.proofs.lemmas.Map.Lookups.{exact_bytes}
use Rattle.bep_facts.specs.Maps.{get-insert_here}
use Rattle.bep_map.specs.NameMap.{ByName}
use Rattle.bep_record.specs.declared.node.NodeParts.{NodeParts}
use Rattle.bep_index.specs.Listing.{Listing}
use Rattle.bep_model.specs.Tables.{FileName}
use Rattle.bep_machine.specs.declared.moved.Moved.{Moved}
use Rattle.bep_machine.specs.Local.{Fails}
use Rattle.bep_machine.specs.Replica.{Pull, node_at}
use Rattle.bep_folder.specs.declared.error.FolderError.{FolderError}
use Rattle.bep_folder.specs.declared.error.FolderError.TheVariants as errors
use Rattle.bep_folder.specs.inner.Ending.{PutsAndWrites, Stores, WritesAll, WroteCopy, stored, with_copy}
use Rattle.bep_folder.specs.Held.{Held}
use Rattle.bep_folder.specs.Trace.{TracedStore, next_call}

-- ---- what the store holds

get-stored : (contents : ByName NodeParts) (name : FileName) (node : Option NodeParts) (other : FileName) →
    get (stored contents name node) other ≡ cond (eq_by_cmp (slice_cmp nat_cmp) other name) node (get contents other)
get-stored contents name None other = get-remove nat_list_cmp_total contents name other
get-stored contents name (Some node) other = get-insert nat_list_cmp_total contents name node other

-- a copy stands, whatever the name is given then
copy_stands : (contents : ByName NodeParts) (name copy : FileName) (body after : Option NodeParts) → get contents name ≡ body → get contents copy ≡ None → IsSome body →
    IsSome (get (stored (stored contents copy body) name after) copy)
copy_stands contents name copy None after found free some = absurd (cc)
copy_stands contents name copy (Some node) after found free some =
    subst (λ o. IsSome o) (sym (get-stored (stored contents copy (Some node)) name after copy)) (each (eq_by_cmp (slice_cmp nat_cmp) copy name) refl) where
      here : get (stored contents copy (Some node)) copy ≡ Some node
      here = get-insert_here nat_list_cmp_total exact_bytes contents copy node

      each : (tied : Bool) → eq_by_cmp (slice_cmp nat_cmp) copy name ≡ tied → IsSome (cond tied after (get (stored contents copy (Some node)) copy))
      each true same =
          let is : copy ≡ name = exact_bytes copy name ((Equal-is _).0 same) in
          absurd (let e : None ≡ Some node = sym free ∙ ap (get contents) is ∙ found in cc)
      each false same = subst (λ o. IsSome o) (sym here) refl

copy_put : (contents : ByName NodeParts) (copy : FileName) (body : Option NodeParts) → IsSome body → IsSome (get (stored contents copy body) copy)
copy_put contents copy None some = absurd (cc)
copy_put contents copy (Some node) some = subst (λ o. IsSome o) (sym (get-insert_here nat_list_cmp_total exact_bytes contents copy node)) refl

-- a call that doesn't do its work changes nothing, notes no copy, and is the one that failed, if one did
call_given_up : (called : Type 0) (name : FileName) (after : Option NodeParts) (old new : TracedStore) (error : FolderError) →
    Stores name after called old new (Err error) →
    (new.contents ≡ old.contents) × (new.trace.copied ≡ old.trace.copied) × ((new.trace.failed ≡ old.trace.failed) ⊎ (new.trace.failed ≡ Some (next_call old.made)))
call_given_up called name after old new errors.StoreFault (call, held, risen, trace) = (held, ap (λ t. t.copied) trace, inr (ap (λ t. t.failed) trace))
call_given_up called name after old new errors.Memory (held, faults, trace) = (held, ap (λ t. t.copied) trace, inl (ap (λ t. t.failed) trace))
call_given_up called name after old new errors.CounterFull none = absurd none
call_given_up called name after old new errors.TooManyCounters none = absurd none
call_given_up called name after old new errors.NameBad none = absurd none
call_given_up called name after old new errors.SequenceFull none = absurd none
call_given_up called name after old new errors.IndexFull none = absurd none
call_given_up called name after old new errors.BatchOld none = absurd none
call_given_up called name after old new errors.Unscanned none = absurd none
call_given_up called name after old new errors.NotNeeded none = absurd none
call_given_up called name after old new errors.BlocksMissing none = absurd none
call_given_up called name after old new errors.HashBad none = absurd none
call_given_up called name after old new errors.CopyExists none = absurd none
call_given_up called name after old new errors.PullsFull none = absurd none
call_given_up called name after old new errors.KindForbids none = absurd none
call_given_up called name after old new errors.Stale none = absurd none
call_given_up called name after old new errors.NotShared none = absurd none
call_given_up called name after old new errors.NothingToDo none = absurd none

-- ---- what the trace tells of the copy

-- what is known of the folder and of its store, before the writes and now
pub record Seen (name : FileName) (copy : Option FileName) (body : Option NodeParts) (old new : Held) (before now : TracedStore) : Type 0 where
  pub found : node_at old.tables name ≡ body
  pub kept : IsSome copy → IsSome body
  pub free : (other : FileName) → copy ≡ Some other → node_at old.tables other ≡ None
  pub contents : before.contents ≡ old.tables.store
  pub begun : before.trace ≡ old.trace
  pub traced : new.trace ≡ now.trace

some_lent : (copy : Option (Bor FileName)) → IsSome (option_copied copy) → IsSome copy
some_lent None some = absurd (cc)
some_lent (Some copy) some = refl

-- as it is at the end of a pull
pub seen : (name : FileName) (copy : Option (Bor FileName)) (body : Option NodeParts) (old new : Held) (before now : TracedStore) →
    node_at old.tables name ≡ body → (IsSome copy → IsSome body) → ((other : FileName) → option_copied copy ≡ Some other → node_at old.tables other ≡ None) →
    before.contents ≡ old.tables.store → before.trace ≡ old.trace → new.trace ≡ now.trace → Seen name (option_copied copy) body old new before now
seen name copy body old new before now found kept free contents begun traced = record {
  found = found;
  kept = λ some. kept (some_lent copy some);
  free = free;
  contents = contents;
  begun = begun;
  traced = traced;
}

unwritten : (copy : Option FileName) (old new : Held) (error : FolderError) → new.tables ≡ old.tables → new.trace.copied ≡ old.trace.copied → WroteCopy copy old new (Err error)
unwritten None old new error same copied = (copied, λ bad. same)
unwritten (Some copy) old new error same copied = inr (copied, refl, same)

-- the writes were made
pub wrote : (name : FileName) (pull : Pull) (same : Bool) (copy : Option FileName) (body : Option NodeParts) (old new : Held) (before now : TracedStore) (moved : Moved) →
    Seen name copy body old new before now → new.tables.store ≡ now.contents → WritesAll name pull same copy body before now (Ok tt) → WroteCopy copy old new (Ok moved)
wrote name pull same None body old new before now moved seen held (after, ends, (contents, faults, trace)) =
    (ap (λ t. t.copied) (seen.traced ∙ trace ∙ seen.begun), λ bad. absurd (cc))
wrote name pull same (Some copy) body old new before now moved seen held (inl (failing, stores)) = absurd (cc)
wrote name pull same (Some copy) body old new before now moved seen held (inr (after, ends, (contents, faults, trace))) = inl (
  ap (λ t. t.copied) (seen.traced ∙ trace),
  subst (λ c. IsSome (get c copy)) (sym (held ∙ contents))
      (copy_stands before.contents name copy body after (ap (λ c. get c name) seen.contents ∙ seen.found) (ap (λ c. get c copy) seen.contents ∙ seen.free copy refl) (seen.kept refl)),
)

given_up : (name : FileName) (pull : Pull) (same : Bool) (copy : Option FileName) (body : Option NodeParts) (old new : Held) (before now : TracedStore) (error : FolderError) →
    Seen name copy body old new before now → new.tables ≡ record old.tables { store = now.contents } → WritesAll name pull same copy body before now (Err error) →
    WroteCopy copy old new (Err error)
given_up name pull same None body old new before now error seen is (after, ends, stores) =
    let left = call_given_up _ name after before now error stores in
    unwritten None old new error (is ∙ ap (λ c. record old.tables { store = c }) (left.0 ∙ seen.contents)) (ap (λ t. t.copied) seen.traced ∙ left.1 ∙ ap (λ t. t.copied) seen.begun)
given_up name pull same (Some copy) body old new before now error seen is (inl (failing, stores)) =
    let left = call_given_up _ copy body before now error stores in
    unwritten (Some copy) old new error (is ∙ ap (λ c. record old.tables { store = c }) (left.0 ∙ seen.contents)) (ap (λ t. t.copied) seen.traced ∙ left.1 ∙ ap (λ t. t.copied) seen.begun)
given_up name pull same (Some copy) body old new before now error seen is (inr (after, ends, stores)) =
    let left = call_given_up _ name after (with_copy before copy body) now error stores in
    inl (
      ap (λ t. t.copied) seen.traced ∙ left.1,
      subst (λ c. IsSome (get c copy)) (sym (ap (λ t. t.store) is ∙ left.0)) (copy_put before.contents copy body (seen.kept refl)),
    )

-- there was no room, or the writes were given up
pub wrote_none : (name : FileName) (pull : Pull) (copy : Option FileName) (body : Option NodeParts) (old new : Held) (index_new : Listing) (before now : TracedStore) (error : FolderError) →
    Seen name copy body old new before now → PutsAndWrites name pull copy body old.tables.index index_new before now (Err error) →
    new.tables ≡ record old.tables { index = index_new; store = now.contents } → WroteCopy copy old new (Err error)
wrote_none name pull copy body old new index_new before now error seen (back, inl (lacks, same)) is =
    unwritten copy old new error
    (is ∙ ap (λ i. record old.tables { index = i; store = now.contents }) back ∙ ap (λ c. record old.tables { store = c }) (ap (λ s. s.contents) same ∙ seen.contents))
    (ap (λ t. t.copied) (seen.traced ∙ ap (λ s. s.trace) same ∙ seen.begun))
wrote_none name pull copy body old new index_new before now error seen (back, inr (same, ready, writes)) is =
    given_up name pull same copy body old new before now error seen (is ∙ ap (λ i. record old.tables { index = i; store = now.contents }) back) writes

-- ---- which call failed

-- none that was made before
abbrev FailsAfter : ℕ → Option ℕ → Type 0
FailsAfter made failed = (call : ℕ) → call ≤ made → ¬ Fails call failed

none_failed : (made : ℕ) (failed : Option ℕ) → failed ≡ None → FailsAfter made failed
none_failed made failed none = λ call few fails. absurd (let e : None ≡ Some call = sym none ∙ fails in cc)

next_failed : (made next : ℕ) (failed : Option ℕ) → made ≤ next → next ≤ 3 → failed ≡ Some (next_call next) → FailsAfter made failed
next_failed made next failed few small is = λ call made_before fails.
    let e : Some (next_call next) ≡ Some call = sym is ∙ fails in
    let same : next_call next ≡ call = cc in
    absurd (omega arith)

either_failed : (made next : ℕ) (before failed : Option ℕ) → made ≤ next → next ≤ 3 → before ≡ None → (failed ≡ before) ⊎ (failed ≡ Some (next_call next)) → FailsAfter made failed
either_failed made next before failed few small fresh = λ which. ⊎_elim (λ same. none_failed made failed (same ∙ fresh)) (λ is. next_failed made next failed few small is) which

module _ (name : FileName) (pull : Pull) (body : Option NodeParts) (before now : TracedStore) (few : before.made ≤ 2) (fresh : before.trace.failed ≡ None) where
  -- of those that were made when the writes began
  pub fails_late : (copy : Option FileName) (same : Bool) → WritesAll name pull same copy body before now (Ok tt) → FailsAfter before.made now.trace.failed
  fails_late None same (after, ends, (contents, faults, trace)) = none_failed before.made now.trace.failed (ap (λ t. t.failed) trace ∙ fresh)
  fails_late (Some copy) same (inl (failing, stores)) = absurd (cc)
  fails_late (Some copy) same (inr (after, ends, (contents, faults, trace))) = none_failed before.made now.trace.failed (ap (λ t. t.failed) trace ∙ fresh)

  writes_late : (copy : Option FileName) (same : Bool) (error : FolderError) → WritesAll name pull same copy body before now (Err error) → FailsAfter before.made now.trace.failed
  writes_late None same error (after, ends, stores) =
      either_failed before.made before.made before.trace.failed now.trace.failed (omega arith) (omega arith) fresh (call_given_up _ name after before now error stores).2
  writes_late (Some copy) same error (inl (failing, stores)) =
      either_failed before.made before.made before.trace.failed now.trace.failed (omega arith) (omega arith) fresh (call_given_up _ copy body before now error stores).2
  writes_late (Some copy) same error (inr (after, ends, stores)) =
      either_failed before.made (next_call before.made) before.trace.failed now.trace.failed (omega arith) (omega arith) fresh (call_given_up _ name after (with_copy before copy body) now error stores).2

  pub fails_late_given_up : (copy : Option FileName) (index index_new : Listing) (error : FolderError) → PutsAndWrites name pull copy body index index_new before now (Err error) → FailsAfter before.made now.trace.failed
  fails_late_given_up copy index index_new error (back, inl (lacks, same)) = none_failed before.made now.trace.failed (ap (λ s. s.trace.failed) same ∙ fresh)
  fails_late_given_up copy index index_new error (back, inr (same, ready, writes)) = writes_late copy same error writes
