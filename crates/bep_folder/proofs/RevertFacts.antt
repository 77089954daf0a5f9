-- A revert makes its row.
use Rattle.std.proofs.Common.{◌≡◌, ◌<◌, ℕ, [], true, false, is_some, Option, Some, None, Result, Ok, Err, IsSome, refl, sym, ap, subst, ◌∙◌, inl, inr}
use Rattle.std.specs.Prelude.{◌≢◌}
use Rattle.std.specs.FinMap.{get, remove}
use Rattle.bep_record.specs.declared.entry.Entry.{Entry}
use Rattle.bep_record.specs.declared.node.NodeParts.{NodeParts}
use Rattle.bep_record.specs.declared.folder_kind.FolderKind.TheVariants.{ReceiveOnly}
use Rattle.bep_record.specs.Node.{IsClean}
use Rattle.bep_index.specs.Listing.{Listing}
use Rattle.bep_index.specs.declared.error.IndexError.{IndexError}
use Rattle.bep_index.specs.declared.error.IndexError.TheVariants as index_errors
use Rattle.bep_index.specs.Index.{IsIndexFull, IsPutError, IsSequenceFull, after_put}
use Rattle.bep_model.specs.Tables.{Device, FileName}
use Rattle.bep_machine.specs.Answer.{Answer, Done, Refused, Row, ◌answers◌when◌else◌}
use Rattle.bep_machine.specs.declared.moved.Moved.{Moved}
use Rattle.bep_machine.specs.declared.moved.Moved.TheVariants.{Changed}
use Rattle.bep_machine.specs.declared.refusal.Refusal.TheVariants as refusals
use Rattle.bep_machine.specs.Local.{Fails, IsLocalOnly, RevertRow, RevertedRow, deletion_of}
use Rattle.bep_machine.specs.Replica.{Replica, own_at, node_at}
use Rattle.bep_folder.specs.inner.Ending.{Stores}
use Rattle.bep_folder.specs.FolderError.{of_index}
use Rattle.bep_folder.specs.Held.{Held}
use Rattle.bep_folder.specs.Makes.{CountsFaults, Makes}
use Rattle.bep_folder.specs.Reverting.{CallsInRevert, calls_of}
use Rattle.bep_folder.specs.inner.Reverting.{GivesUp, IsGone, IsStillThere, PutsAndRemoves, after_removal}
use Rattle.bep_folder.specs.Trace.{TracedStore, next_call, no_trace}
use Rattle.bep_folder.specs.declared.error.FolderError.{FolderError}
use Rattle.bep_folder.specs.declared.error.FolderError.TheVariants as errors

fails_once : (failed : Option ℕ) (call : ℕ) → failed ≡ None → ¬ Fails call failed
fails_once failed call none fails = absurd (let e : Some call ≡ None = sym fails ∙ none in cc)

second_not_first : (failed : Option ℕ) → failed ≡ Some 2 → ¬ Fails 1 failed
second_not_first failed second first = absurd (let e : Some 2 ≡ Some 1 = sym second ∙ first in cc)

-- after the first call as many were made as a revert makes
calls_after : (there : Option NodeParts) → after_removal there 1 ≡ calls_of there
calls_after None = refl
calls_after (Some node) = refl

-- ---- the writes

-- a record that isn't put, where the name has one already
pub not_put : (name : FileName) (entry : Entry) (there : Option NodeParts) (index index_new : Listing) (store : TracedStore) (error : IndexError) →
    IsSome (get index.records name) → entry.name ≡ name → IsPutError error →
    (error ≡ index_errors.SequenceFull → IsSequenceFull index) → (error ≡ index_errors.IndexFull → IsIndexFull index entry.name) → index_new ≡ index →
    PutsAndRemoves name entry there index index_new store store (Err (of_index error))
not_put name entry there index index_new store error recorded named (inl full) sequence names same = inr (inl (ap (λ e. Err (of_index e)) full, sequence full, same, refl))
not_put name entry there index index_new store error recorded named (inr (inl full)) sequence names same =
    let none : get index.records name ≡ None = ap (get index.records) (sym named) ∙ (names full).1 in
    absurd (let e : false ≡ true = subst (λ (o : Option Entry). IsSome o) none recorded in cc)
not_put name entry there index index_new store error recorded named (inr (inr memory)) sequence names same = inr (inr (inr (ap (λ e. Err (of_index e)) memory, same, refl)))

-- the node's removal, once the record is put
pub removed : (name : FileName) (entry : Entry) (there : Option NodeParts) (index index_new : Listing) (store store_new : TracedStore) →
    ¬ IsSequenceFull index → index_new ≡ after_put index entry → Stores name None (None ≢ there) store store_new (Ok tt) → store_new.made ≡ after_removal there store.made →
    IsGone name entry there index index_new store store_new
removed name entry there index index_new store store_new numbers put stores made = record {
  numbers = numbers;
  put = put;
  contents = stores.0;
  faults = stores.1;
  trace = stores.2;
  made = made;
}

still_there : (there : Option NodeParts) (store store_new : TracedStore) → None ≢ there → store_new.made ≡ after_removal there store.made → IsSome there × (store_new.made ≡ next_call store.made)
still_there None store store_new apart made = absurd (apart refl)
still_there (Some node) store store_new apart made = (refl, made)

pub not_removed : (name : FileName) (there : Option NodeParts) (index index_new : Listing) (store store_new : TracedStore) (error : FolderError) → error ≡ errors.StoreFault →
    ¬ IsSequenceFull index → index_new ≡ index → Stores name None (None ≢ there) store store_new (Err error) → store_new.made ≡ after_removal there store.made →
    IsStillThere there index index_new store store_new
not_removed name there index index_new store store_new error is numbers same stores made =
    let failed : Stores name None (None ≢ there) store store_new (Err errors.StoreFault) = subst (λ (e : FolderError). Stores name None (None ≢ there) store store_new (Err e)) is stores in
    let more = still_there there store store_new failed.0 made in record {
      numbers = numbers;
      held = more.0;
      index_same = same;
      contents = failed.1;
      risen = failed.2;
      trace = failed.3;
      made = more.1;
    }

-- ---- the row

-- what is known where the own change is given up: the own record is marked, and the node was read by the first call
pub record Reverting (name : FileName) (there : Option NodeParts) (old : Held) (store : TracedStore) : Type 0 where
  pub only : old.tables.kind ≡ ReceiveOnly
  pub marked : IsLocalOnly (own_at old.tables name)
  pub found : node_at old.tables name ≡ there
  pub contents : store.contents ≡ old.tables.store
  pub faults : store.faults ≡ old.faults
  pub made : store.made ≡ 1
  pub trace : store.trace ≡ no_trace

-- what is left of it: index and store
pub record IsLeft (old new : Held) (index : Listing) (store : TracedStore) : Type 0 where
  pub tables : new.tables ≡ record old.tables { index = index; store = store.contents }
  pub faults : new.faults ≡ store.faults
  pub made : new.made ≡ store.made
  pub trace : new.trace ≡ store.trace

-- what the revert promises then
pub record IsReverted (device : Device) (name : FileName) (old new : Held) (result : Result Moved FolderError) : Type 0 where
  pub reverted : Makes (RevertRow device name new.trace.failed) old new result
  pub counted : CountsFaults old new result
  pub called : CallsInRevert (node_at old.tables name) new.made new.trace.failed result

module _ (device : Device) (name : FileName) (there : Option NodeParts) (old new : Held) (store : TracedStore) (known : Reverting name there old store) where
  -- the rest of the row, once the node was found clean, and once it was read
  abbrev CleanRest : Option Entry → Row Replica
  CleanRest own = old.tables answers Refused refusals.SequenceFull when IsSequenceFull old.tables.index else RevertedRow device name new.trace.failed own old.tables

  abbrev ReadRest : Option NodeParts → Option Entry → Row Replica
  ReadRest node own = old.tables answers Refused refusals.Unscanned when ¬ IsClean node own else CleanRest own

  read_row : (answer : Answer) → (¬ Fails 1 new.trace.failed) → ReadRest there (own_at old.tables name) new.tables answer → RevertRow device name new.trace.failed old.tables new.tables answer
  read_row answer steady rest =
      inr (
        (λ apart. apart known.only),
        inr (
          (λ not. not known.marked),
          inr (steady, subst (λ (n : Option NodeParts). ReadRest n (own_at old.tables name) new.tables answer) (sym known.found) rest),
        ),
      )

  clean_row : (own : Entry) → own_at old.tables name ≡ Some own → IsClean there (Some own) → (answer : Answer) → (¬ Fails 1 new.trace.failed) → CleanRest (Some own) new.tables answer →
      RevertRow device name new.trace.failed old.tables new.tables answer
  clean_row own held clean answer steady rest =
      read_row answer steady (subst (λ (o : Option Entry). ReadRest there o new.tables answer) (sym held) (inr ((λ not. not clean), rest)))

  module _ (index : Listing) (store_new : TracedStore) (left : IsLeft old new index store_new) where
    -- no call failed after the node was read, and none was made
    steady : store_new.trace ≡ store.trace → new.trace.failed ≡ None
    steady same = ap (λ t. t.failed) (left.trace ∙ same ∙ known.trace)

    count : store_new.faults ≡ store.faults → new.faults ≡ old.faults
    count same = left.faults ∙ same ∙ known.faults

    called_once : store_new.made ≡ store.made → new.made ≡ 1
    called_once same = left.made ∙ same ∙ known.made

    as_before : index ≡ old.tables.index → store_new.contents ≡ store.contents → new.tables ≡ old.tables
    as_before same contents = left.tables ∙ (λ i. record old.tables { index = same i; store = (contents ∙ known.contents) i })

    gone : (own : Entry) → own_at old.tables name ≡ Some own → IsClean there (Some own) →
        IsGone name (deletion_of device name own []) there old.tables.index index store store_new → IsReverted device name old new (Ok Changed)
    gone own held clean did =
        let none = steady did.trace in
        let contents = did.contents ∙ ap (λ contents. remove contents name) known.contents in record {
          reverted =
              clean_row own held clean (Done Changed) (fails_once _ 1 none)
              (inr (did.numbers, inr ((λ both. fails_once _ 2 none both.1), (left.tables ∙ (λ i. record old.tables { index = did.put i; store = contents i }), refl))));
          counted = (count did.faults, none);
          called = left.made ∙ did.made ∙ ap (after_removal there) known.made ∙ calls_after there ∙ ap calls_of (sym known.found);
        }

    refused_full : (own : Entry) → own_at old.tables name ≡ Some own → IsClean there (Some own) →
        IsSequenceFull old.tables.index → index ≡ old.tables.index → store_new ≡ store → IsReverted device name old new (Err errors.SequenceFull)
    refused_full own held clean full back same =
        let none = steady (ap (λ (s : TracedStore). s.trace) same) in record {
          reverted =
              clean_row own held clean (Refused refusals.SequenceFull) (fails_once _ 1 none)
              (inl (full, (as_before back (ap (λ (s : TracedStore). s.contents) same), refl)));
          counted = (count (ap (λ (s : TracedStore). s.faults) same), none);
          called = called_once (ap (λ (s : TracedStore). s.made) same);
        }

    failed : (own : Entry) → own_at old.tables name ≡ Some own → IsClean there (Some own) →
        IsStillThere there old.tables.index index store store_new → IsReverted device name old new (Err errors.StoreFault)
    failed own held clean did =
        let last : new.trace.failed ≡ Some new.made = ap (λ t. t.failed) (left.trace ∙ did.trace) ∙ ap Some (sym (left.made ∙ did.made)) in
        let second : new.trace.failed ≡ Some 2 = last ∙ ap Some (left.made ∙ did.made ∙ ap next_call known.made) in record {
          reverted =
              clean_row own held clean (Refused refusals.StoreFault) (second_not_first _ second)
              (inr (did.numbers, inl ((subst (λ (o : Option NodeParts). IsSome o) (sym known.found) did.held, second), (as_before did.index_same did.contents, refl))));
          counted = (subst (λ n. n < new.faults) known.faults (subst (λ n. store.faults < n) (sym left.faults) did.risen), ap is_some second);
          called = last;
        }

    wanting : index ≡ old.tables.index → store_new ≡ store → IsReverted device name old new (Err errors.Memory)
    wanting back same = record {
      reverted = inl (as_before back (ap (λ (s : TracedStore). s.contents) same));
      counted = (count (ap (λ (s : TracedStore). s.faults) same), steady (ap (λ (s : TracedStore). s.trace) same));
      called = called_once (ap (λ (s : TracedStore). s.made) same);
    }

    unscanned : ¬ IsClean there (own_at old.tables name) → index ≡ old.tables.index → store_new ≡ store → IsReverted device name old new (Err errors.Unscanned)
    unscanned unclean back same =
        let none = steady (ap (λ (s : TracedStore). s.trace) same) in record {
          reverted = read_row (Refused refusals.Unscanned) (fails_once _ 1 none) (inl (unclean, (as_before back (ap (λ (s : TracedStore). s.contents) same), refl)));
          counted = (count (ap (λ (s : TracedStore). s.faults) same), none);
          called = called_once (ap (λ (s : TracedStore). s.made) same);
        }

    pub given_up : (result : Result Moved FolderError) → GivesUp device name there old.tables.index index store store_new result → IsReverted device name old new result
    given_up result (inl (is, unclean, back, same)) = subst (IsReverted device name old new) (sym is) (unscanned unclean back same)
    given_up result (inr (own, held, clean, inl (is, did))) = subst (IsReverted device name old new) (sym is) (gone own held clean did)
    given_up result (inr (own, held, clean, inr (inl (is, full, back, same)))) = subst (IsReverted device name old new) (sym is) (refused_full own held clean full back same)
    given_up result (inr (own, held, clean, inr (inr (inl (is, did))))) = subst (IsReverted device name old new) (sym is) (failed own held clean did)
    given_up result (inr (own, held, clean, inr (inr (inr (is, back, same))))) = subst (IsReverted device name old new) (sym is) (wanting back same)
