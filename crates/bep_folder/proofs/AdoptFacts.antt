-- The last part of the end of a pull makes its row.
use Rattle.std.proofs.Common.{◌≡◌, ◌⊎◌, ◌↔◌, ℕ, ◌+◌, ◌<◌, ◌≤◌, Bool, true, false, Option, Some, None, Ok, Err, inl, inr, refl, sym, ap, subst, ◌∙◌, arith}
use Rattle.std.proofs.Math.Nat.{min-eq_left}
use Rattle.std.specs.FinMap.{remove}
use Rattle.bep_map.specs.NameMap.{ByName}
use Rattle.bep_record.specs.declared.entry.Entry.{Entry}
use Rattle.bep_record.specs.declared.node.NodeParts.{NodeParts}
use Rattle.bep_record.specs.Vector.{most_counters, ids_in_either}
use Rattle.bep_index.specs.Listing.{Listing}
use Rattle.bep_index.specs.declared.error.IndexError.{IndexError}
use Rattle.bep_index.specs.declared.error.IndexError.TheVariants as index_errors
use Rattle.bep_index.specs.Index.{after_put, IsSequenceFull, IsIndexFull, IsPutError}
use Rattle.bep_model.specs.Tables.{FileName}
use Rattle.bep_machine.specs.declared.moved.Moved.TheVariants.{Changed}
use Rattle.bep_machine.specs.declared.refusal.Refusal.TheVariants as refusals
use Rattle.bep_machine.specs.Answer.{Answer, Done, Refused, OutOfMemory}
use Rattle.bep_machine.specs.Replica.{Pull, Replica, HasContentOf, own_at, node_at, pull_at, version_of, with_node, with_record, without_pull}
use Rattle.bep_machine.specs.Pull.{IsAdopted, EndsWith, CallsStore}
use Rattle.bep_folder.specs.declared.error.FolderError.{FolderError}
use Rattle.bep_folder.specs.declared.error.FolderError.TheVariants as errors
use Rattle.bep_folder.specs.inner.Ending.{PulledRow, RoomyRow, WritingRow, EndsIn, CallsIn, WritesAll, HasRoom, LacksRoom, IsReady, PutsAndWrites, stored}
use Rattle.bep_folder.specs.Trace.{TracedStore, next_call}
use Rattle.bep_folder.specs.FolderError.{of_index}
use Rattle.bep_folder.specs.Held.{Held}
use Rattle.bep_folder.specs.Makes.{Makes}

-- where there is room, the row goes on with the writes
roomy : (name : FileName) (pull : Pull) (copy : Option FileName) (call : ℕ) (failed : Option ℕ) (old new : Replica) (answer : Answer) →
    HasRoom name (own_at old name) pull.target old.index → WritingRow name pull copy call failed old new answer → RoomyRow name pull copy call failed old new answer
roomy name pull copy call failed old new answer room made = inr (room.few, inr (room.numbers, inr (room.names, made)))

-- where there is none, it is refused for that reason, or memory is wanting
pub refused : (name : FileName) (pull : Pull) (copy : Option FileName) (call : ℕ) (old new : Held) (error : FolderError) →
    pull_at old.tables name ≡ Some pull → LacksRoom name (own_at old.tables name) pull.target old.tables.index error → new.tables ≡ old.tables →
    Makes (λ tables. PulledRow name (λ one. RoomyRow name one copy call new.trace.failed tables) tables) old new (Err error)
refused name pull copy call old new errors.TooManyCounters pulled lacks same = (pull, pulled, inl (lacks, (same, refl)))
refused name pull copy call old new errors.SequenceFull pulled lacks same = (pull, pulled, inr (lacks.0, inl (lacks.1, (same, refl))))
refused name pull copy call old new errors.IndexFull pulled lacks same = (pull, pulled, inr (lacks.0, inr (lacks.1, inl (lacks.2, (same, refl)))))
refused name pull copy call old new errors.Memory pulled lacks same = inl same
refused name pull copy call old new errors.CounterFull pulled lacks same = absurd lacks
refused name pull copy call old new errors.NameBad pulled lacks same = absurd lacks
refused name pull copy call old new errors.BatchOld pulled lacks same = absurd lacks
refused name pull copy call old new errors.StoreFault pulled lacks same = absurd lacks
refused name pull copy call old new errors.Unscanned pulled lacks same = absurd lacks
refused name pull copy call old new errors.NotNeeded pulled lacks same = absurd lacks
refused name pull copy call old new errors.BlocksMissing pulled lacks same = absurd lacks
refused name pull copy call old new errors.HashBad pulled lacks same = absurd lacks
refused name pull copy call old new errors.CopyExists pulled lacks same = absurd lacks
refused name pull copy call old new errors.PullsFull pulled lacks same = absurd lacks
refused name pull copy call old new errors.KindForbids pulled lacks same = absurd lacks
refused name pull copy call old new errors.Stale pulled lacks same = absurd lacks
refused name pull copy call old new errors.NotShared pulled lacks same = absurd lacks
refused name pull copy call old new errors.NothingToDo pulled lacks same = absurd lacks

-- ---- the writes

-- what is known where the writes begin: of the pull and the body, and of the store before them and now
pub record Writing (name : FileName) (pull : Pull) (old new : Held) (same : Bool) (body : Option NodeParts) (before now : TracedStore) : Type 0 where
  pub pulled : pull_at old.tables name ≡ Some pull
  pub found : node_at old.tables name ≡ body
  pub has : (same ≡ true) ↔ HasContentOf (own_at old.tables name) pull.target
  pub room : HasRoom name (own_at old.tables name) pull.target old.tables.index
  pub contents : before.contents ≡ old.tables.store
  pub fresh : before.trace.failed ≡ None
  pub first : next_call before.made ≡ old.made + 1
  pub second : next_call (next_call before.made) ≡ (old.made + 1) + 1
  pub traced : new.trace ≡ now.trace

ends_with : (same : Bool) (own : Option Entry) (body : Option NodeParts) (pull : Pull) (after : Option NodeParts) →
    ((same ≡ true) ↔ HasContentOf own pull.target) → EndsIn same body pull after → EndsWith own body pull after
ends_with true own body pull after has is = inl (has.0 refl, is)
ends_with false own body pull after has is = inr ((λ there. let bad = has.1 there in absurd (cc)), is)

calls_store : (same : Bool) (own : Option Entry) (body : Option NodeParts) (target : Entry) (after : Option NodeParts) →
    ((same ≡ true) ↔ HasContentOf own target) → CallsIn same body target after → CallsStore own body target after
calls_store same own body target after has (inl apart) = inl apart
calls_store same own body target after has (inr new) = inr ((λ there. let yes = has.1 there in let no = new.0 in absurd (cc)), new.1)

with_node-stored : (replica : Replica) (name : FileName) (after : Option NodeParts) →
    with_node replica name after ≡ record replica { store = stored replica.store name after }
with_node-stored replica name None = refl
with_node-stored replica name (Some body) = refl

-- no call failed
no_fault : (call : ℕ) (failed : Option ℕ) → failed ≡ None → ¬ (failed ≡ Some call)
no_fault call failed none some = absurd (cc)

-- another call failed
later_fault : (call : ℕ) (failed : Option ℕ) → failed ≡ Some (call + 1) → ¬ (failed ≡ Some call)
later_fault call failed later some = let same : call + 1 ≡ call = cc in absurd (omega (arith, same))

-- the tables once the copy is written
copied_start : (name copy : FileName) (old : Held) (body : Option NodeParts) (before : TracedStore) →
    node_at old.tables name ≡ body → before.contents ≡ old.tables.store →
    with_node old.tables copy (node_at old.tables name) ≡ record old.tables { store = stored before.contents copy body }
copied_start name copy old body before found contents =
    with_node-stored old.tables copy _ ∙ ap (λ c. record old.tables { store = stored c copy (node_at old.tables name) }) (sym contents)
    ∙ ap (λ n. record old.tables { store = stored before.contents copy n }) found

-- the tables once the pull has ended
ended : (name : FileName) (entry : Entry) (after : Option NodeParts) (start : Replica) (new : Replica) (contents : ByName NodeParts) →
    new ≡ record start { index = after_put start.index entry; pulls = remove start.pulls name; store = contents } →
    contents ≡ stored start.store name after →
    new ≡ without_pull (with_record (with_node start name after) entry) name
ended name entry after start new contents is held =
    is ∙ ap (λ c. record start { index = after_put start.index entry; pulls = remove start.pulls name; store = c }) held
    ∙ ap (λ r. without_pull (with_record r entry) name) (sym (with_node-stored start name after))

-- the writes were made, and the pull has ended
pub settled : (name : FileName) (pull : Pull) (copy : Option FileName) (old new : Held) (same : Bool) (body : Option NodeParts) (before now : TracedStore) (entry : Entry) →
    Writing name pull old new same body before now → IsAdopted (own_at old.tables name) pull.target entry →
    WritesAll name pull same copy body before now (Ok tt) →
    new.tables ≡ record old.tables { index = after_put old.tables.index entry; pulls = remove old.tables.pulls name; store = now.contents } →
    PulledRow name (λ one. RoomyRow name one copy (old.made + 1) new.trace.failed old.tables) old.tables new.tables (Done Changed)
settled name pull None old new same body before now entry writing adopted (after, ends, (held, faults, trace)) is =
    let calm : new.trace.failed ≡ None = ap (λ t. t.failed) (writing.traced ∙ trace) ∙ writing.fresh in
    let there : now.contents ≡ stored old.tables.store name after = held ∙ ap (λ c. stored c name after) writing.contents in (
      pull,
      writing.pulled,
      roomy name pull None (old.made + 1) new.trace.failed old.tables new.tables (Done Changed) writing.room
          (inr (
            after,
            subst (λ n. EndsWith (own_at old.tables name) n pull after) (sym writing.found) (ends_with same _ body pull after writing.has ends),
            inr ((λ both. no_fault _ _ calm both.1), (entry, adopted, (ended name entry after old.tables new.tables now.contents is there, refl))),
          )),
    )
settled name pull (Some copy) old new same body before now entry writing adopted (inl (failed, stores)) is = absurd (cc)
settled name pull (Some copy) old new same body before now entry writing adopted (inr (after, ends, (held, faults, trace))) is =
    let calm : new.trace.failed ≡ None = ap (λ t. t.failed) (writing.traced ∙ trace) ∙ writing.fresh in
    let begun = copied_start name copy old body before writing.found writing.contents in (
      pull,
      writing.pulled,
      roomy name pull (Some copy) (old.made + 1) new.trace.failed old.tables new.tables (Done Changed) writing.room
          (inr (
            no_fault _ _ calm,
            inr (
              after,
              subst (λ n. EndsWith (own_at old.tables name) n pull after) (sym writing.found) (ends_with same _ body pull after writing.has ends),
              inr (
                (λ both. no_fault _ _ calm both.1),
                (
                  entry,
                  adopted,
                  (
                    is ∙ ap (λ c. record old.tables { index = after_put old.tables.index entry; pulls = remove old.tables.pulls name; store = c }) held
                        ∙ ap (λ r. without_pull (with_record r entry) name) (sym (with_node-stored (record old.tables { store = stored before.contents copy body }) name after))
                        ∙ ap (λ r. without_pull (with_record (with_node r name after) entry) name) (sym begun),
                    refl,
                  ),
                ),
              ),
            ),
          )),
    )

-- the writes were given up, and what had been done before stays
pub given_up : (name : FileName) (pull : Pull) (copy : Option FileName) (old new : Held) (same : Bool) (body : Option NodeParts) (before now : TracedStore) (error : FolderError) →
    Writing name pull old new same body before now →
    WritesAll name pull same copy body before now (Err error) →
    new.tables ≡ record old.tables { store = now.contents } →
    Makes (λ tables. PulledRow name (λ one. RoomyRow name one copy (old.made + 1) new.trace.failed tables) tables) old new (Err error)
given_up name pull None old new same body before now errors.StoreFault writing (after, ends, (called, held, risen, trace)) is =
    let failed : new.trace.failed ≡ Some (old.made + 1) = ap (λ t. t.failed) (writing.traced ∙ trace) ∙ ap Some writing.first in
    let back : new.tables ≡ old.tables = is ∙ ap (λ c. record old.tables { store = c }) (held ∙ writing.contents) in (
      pull,
      writing.pulled,
      roomy name pull None (old.made + 1) new.trace.failed old.tables new.tables (Refused refusals.StoreFault) writing.room
          (inr (
            after,
            subst (λ n. EndsWith (own_at old.tables name) n pull after) (sym writing.found) (ends_with same _ body pull after writing.has ends),
            inl ((subst (λ n. CallsStore (own_at old.tables name) n pull.target after) (sym writing.found) (calls_store same _ body pull.target after writing.has called), failed), (back, refl)),
          )),
    )
given_up name pull None old new same body before now errors.Memory writing (after, ends, (held, faults, trace)) is =
    inl (is ∙ ap (λ c. record old.tables { store = c }) (held ∙ writing.contents))
given_up name pull (Some copy) old new same body before now errors.StoreFault writing (inl (failing, (called, held, risen, trace))) is =
    let failed : new.trace.failed ≡ Some (old.made + 1) = ap (λ t. t.failed) (writing.traced ∙ trace) ∙ ap Some writing.first in
    let back : new.tables ≡ old.tables = is ∙ ap (λ c. record old.tables { store = c }) (held ∙ writing.contents) in
    (pull, writing.pulled, roomy name pull (Some copy) (old.made + 1) new.trace.failed old.tables new.tables (Refused refusals.StoreFault) writing.room (inl (failed, (back, refl))))
given_up name pull (Some copy) old new same body before now errors.Memory writing (inl (failing, (held, faults, trace))) is =
    inl (is ∙ ap (λ c. record old.tables { store = c }) (held ∙ writing.contents))
given_up name pull (Some copy) old new same body before now errors.StoreFault writing (inr (after, ends, (called, held, risen, trace))) is =
    let failed : new.trace.failed ≡ Some ((old.made + 1) + 1) = ap (λ t. t.failed) (writing.traced ∙ trace) ∙ ap Some writing.second in (
      pull,
      writing.pulled,
      roomy name pull (Some copy) (old.made + 1) new.trace.failed old.tables new.tables (Refused refusals.StoreFault) writing.room
          (inr (
            later_fault _ _ failed,
            inr (
              after,
              subst (λ n. EndsWith (own_at old.tables name) n pull after) (sym writing.found) (ends_with same _ body pull after writing.has ends),
              inl (
                (subst (λ n. CallsStore (own_at old.tables name) n pull.target after) (sym writing.found) (calls_store same _ body pull.target after writing.has called), failed),
                (is ∙ ap (λ c. record old.tables { store = c }) held ∙ sym (copied_start name copy old body before writing.found writing.contents), refl),
              ),
            ),
          )),
    )
given_up name pull (Some copy) old new same body before now errors.Memory writing (inr (after, ends, (held, faults, trace))) is =
    let calm : new.trace.failed ≡ None = ap (λ t. t.failed) (writing.traced ∙ trace) ∙ writing.fresh in
    inr (
      pull,
      writing.pulled,
      roomy name pull (Some copy) (old.made + 1) new.trace.failed old.tables new.tables OutOfMemory writing.room
          (inr (no_fault _ _ calm, inl (is ∙ ap (λ c. record old.tables { store = c }) held ∙ sym (copied_start name copy old body before writing.found writing.contents), refl))),
    )
given_up name pull None old new same body before now errors.CounterFull writing (after, ends, none) is = absurd none
given_up name pull (Some copy) old new same body before now errors.CounterFull writing (inl (failing, none)) is = absurd none
given_up name pull (Some copy) old new same body before now errors.CounterFull writing (inr (after, ends, none)) is = absurd none
given_up name pull None old new same body before now errors.TooManyCounters writing (after, ends, none) is = absurd none
given_up name pull (Some copy) old new same body before now errors.TooManyCounters writing (inl (failing, none)) is = absurd none
given_up name pull (Some copy) old new same body before now errors.TooManyCounters writing (inr (after, ends, none)) is = absurd none
given_up name pull None old new same body before now errors.NameBad writing (after, ends, none) is = absurd none
given_up name pull (Some copy) old new same body before now errors.NameBad writing (inl (failing, none)) is = absurd none
given_up name pull (Some copy) old new same body before now errors.NameBad writing (inr (after, ends, none)) is = absurd none
given_up name pull None old new same body before now errors.SequenceFull writing (after, ends, none) is = absurd none
given_up name pull (Some copy) old new same body before now errors.SequenceFull writing (inl (failing, none)) is = absurd none
given_up name pull (Some copy) old new same body before now errors.SequenceFull writing (inr (after, ends, none)) is = absurd none
given_up name pull None old new same body before now errors.IndexFull writing (after, ends, none) is = absurd none
given_up name pull (Some copy) old new same body before now errors.IndexFull writing (inl (failing, none)) is = absurd none
given_up name pull (Some copy) old new same body before now errors.IndexFull writing (inr (after, ends, none)) is = absurd none
given_up name pull None old new same body before now errors.BatchOld writing (after, ends, none) is = absurd none
given_up name pull (Some copy) old new same body before now errors.BatchOld writing (inl (failing, none)) is = absurd none
given_up name pull (Some copy) old new same body before now errors.BatchOld writing (inr (after, ends, none)) is = absurd none
given_up name pull None old new same body before now errors.Unscanned writing (after, ends, none) is = absurd none
given_up name pull (Some copy) old new same body before now errors.Unscanned writing (inl (failing, none)) is = absurd none
given_up name pull (Some copy) old new same body before now errors.Unscanned writing (inr (after, ends, none)) is = absurd none
given_up name pull None old new same body before now errors.NotNeeded writing (after, ends, none) is = absurd none
given_up name pull (Some copy) old new same body before now errors.NotNeeded writing (inl (failing, none)) is = absurd none
given_up name pull (Some copy) old new same body before now errors.NotNeeded writing (inr (after, ends, none)) is = absurd none
given_up name pull None old new same body before now errors.BlocksMissing writing (after, ends, none) is = absurd none
given_up name pull (Some copy) old new same body before now errors.BlocksMissing writing (inl (failing, none)) is = absurd none
given_up name pull (Some copy) old new same body before now errors.BlocksMissing writing (inr (after, ends, none)) is = absurd none
given_up name pull None old new same body before now errors.HashBad writing (after, ends, none) is = absurd none
given_up name pull (Some copy) old new same body before now errors.HashBad writing (inl (failing, none)) is = absurd none
given_up name pull (Some copy) old new same body before now errors.HashBad writing (inr (after, ends, none)) is = absurd none
given_up name pull None old new same body before now errors.CopyExists writing (after, ends, none) is = absurd none
given_up name pull (Some copy) old new same body before now errors.CopyExists writing (inl (failing, none)) is = absurd none
given_up name pull (Some copy) old new same body before now errors.CopyExists writing (inr (after, ends, none)) is = absurd none
given_up name pull None old new same body before now errors.PullsFull writing (after, ends, none) is = absurd none
given_up name pull (Some copy) old new same body before now errors.PullsFull writing (inl (failing, none)) is = absurd none
given_up name pull (Some copy) old new same body before now errors.PullsFull writing (inr (after, ends, none)) is = absurd none
given_up name pull None old new same body before now errors.KindForbids writing (after, ends, none) is = absurd none
given_up name pull (Some copy) old new same body before now errors.KindForbids writing (inl (failing, none)) is = absurd none
given_up name pull (Some copy) old new same body before now errors.KindForbids writing (inr (after, ends, none)) is = absurd none
given_up name pull None old new same body before now errors.Stale writing (after, ends, none) is = absurd none
given_up name pull (Some copy) old new same body before now errors.Stale writing (inl (failing, none)) is = absurd none
given_up name pull (Some copy) old new same body before now errors.Stale writing (inr (after, ends, none)) is = absurd none
given_up name pull None old new same body before now errors.NotShared writing (after, ends, none) is = absurd none
given_up name pull (Some copy) old new same body before now errors.NotShared writing (inl (failing, none)) is = absurd none
given_up name pull (Some copy) old new same body before now errors.NotShared writing (inr (after, ends, none)) is = absurd none
given_up name pull None old new same body before now errors.NothingToDo writing (after, ends, none) is = absurd none
given_up name pull (Some copy) old new same body before now errors.NothingToDo writing (inl (failing, none)) is = absurd none
given_up name pull (Some copy) old new same body before now errors.NothingToDo writing (inr (after, ends, none)) is = absurd none

-- ---- the record

-- a target that isn't adopted has too many counters beside the own record, unless memory was wanting
pub lacks_versions : (name : FileName) (own : Option Entry) (target : Entry) (index : Listing) (error : FolderError) →
    (error ≡ errors.TooManyCounters) ⊎ (error ≡ errors.Memory) → (error ≡ errors.TooManyCounters → most_counters < ids_in_either (version_of own) target.version) →
    LacksRoom name own target index error
lacks_versions name own target index error (inl many) over = subst (λ e. LacksRoom name own target index e) (sym many) (over many)
lacks_versions name own target index error (inr memory) over = subst (λ e. LacksRoom name own target index e) (sym memory) tt

-- a record that isn't put finds the index full, unless memory was wanting
pub lacks_index : (name : FileName) (own : Option Entry) (target : Entry) (index : Listing) (error : IndexError) →
    (¬ (most_counters < ids_in_either (version_of own) target.version)) → IsPutError error →
    (error ≡ index_errors.SequenceFull → IsSequenceFull index) → (error ≡ index_errors.IndexFull → (¬ IsSequenceFull index) × IsIndexFull index name) →
    LacksRoom name own target index (of_index error)
lacks_index name own target index error few (inl full) sequence names = subst (λ e. LacksRoom name own target index (of_index e)) (sym full) (few, sequence full)
lacks_index name own target index error few (inr (inl full)) sequence names = subst (λ e. LacksRoom name own target index (of_index e)) (sym full) (few, (names full).0, (names full).1)
lacks_index name own target index error few (inr (inr memory)) sequence names = subst (λ e. LacksRoom name own target index (of_index e)) (sym memory) tt

-- ---- how many calls were made

next_small : (made : ℕ) → made ≤ 3 → next_call made ≡ made + 1
next_small made few = min-eq_left (omega (arith, few))

-- what is known where the writes begin, of a folder whose store made two calls at most
pub writing_begins : (name : FileName) (pull : Pull) (old new : Held) (same : Bool) (body : Option NodeParts) (before now : TracedStore) →
    pull_at old.tables name ≡ Some pull → node_at old.tables name ≡ body → IsReady name (own_at old.tables name) pull old.tables.index same →
    before.contents ≡ old.tables.store → before.trace ≡ old.trace → before.made ≡ old.made → old.trace.failed ≡ None → old.made ≤ 2 → new.trace ≡ now.trace →
    Writing name pull old new same body before now
writing_begins name pull old new same body before now pulled found ready contents trace made fresh few traced = record {
  pulled = pulled;
  found = found;
  has = ready.has;
  room = ready.room;
  contents = contents;
  fresh = ap (λ t. t.failed) trace ∙ fresh;
  first = ap next_call made ∙ next_small old.made (omega (arith, few));
  second = ap (λ m. next_call (next_call m)) made ∙ ap next_call (next_small old.made (omega (arith, few))) ∙ next_small (old.made + 1) (omega (arith, few));
  traced = traced;
}

-- nothing was put or written in the end
pub ends_early : (name : FileName) (pull : Pull) (copy : Option FileName) (old new : Held) (body : Option NodeParts) (index_new : Listing) (before now : TracedStore) (error : FolderError) →
    pull_at old.tables name ≡ Some pull → node_at old.tables name ≡ body →
    before.contents ≡ old.tables.store → before.trace ≡ old.trace → before.made ≡ old.made → old.trace.failed ≡ None → old.made ≤ 2 → new.trace ≡ now.trace →
    PutsAndWrites name pull copy body old.tables.index index_new before now (Err error) →
    new.tables ≡ record old.tables { index = index_new; store = now.contents } →
    Makes (λ tables. PulledRow name (λ one. RoomyRow name one copy (old.made + 1) new.trace.failed tables) tables) old new (Err error)
ends_early name pull copy old new body index_new before now error pulled found contents trace made fresh few traced (back, inl (lacks, same)) is =
    refused name pull copy (old.made + 1) old new error pulled lacks
    (is ∙ ap (λ i. record old.tables { index = i; store = now.contents }) back ∙ ap (λ c. record old.tables { store = c }) (ap (λ s. s.contents) same ∙ contents))
ends_early name pull copy old new body index_new before now error pulled found contents trace made fresh few traced (back, inr (same, ready, writes)) is =
    given_up name pull copy old new same body before now error
    (writing_begins name pull old new same body before now pulled found ready contents trace made fresh few traced) writes
    (is ∙ ap (λ i. record old.tables { index = i; store = now.contents }) back)
