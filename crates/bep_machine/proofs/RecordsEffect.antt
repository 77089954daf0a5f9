-- Records that are announced, and records that reach a view.
use Rattle.std.proofs.Common.{◌≡◌, ◌≤◌, ◌<◌, ◌↔◌, ℕ, true, false, List, [], ◌∷◌, Option, Some, IsSome, refl, sym, ap, subst, ◌∙◌, inl, inr, arith}
use Rattle.std.specs.Cmp.{nat_cmp_total}
use Rattle.std.specs.FinMap.{get, insert, len, nat_cmp-IsAntisymmetric}
use Rattle.bep_facts.specs.Maps.{get-insert_here}
use Rattle.bep_record.specs.declared.entry.Entry.{Entry}
use Rattle.bep_index.specs.declared.limits.TheConstants.{MAX_NAMES, MAX_RECORDS}
use Rattle.bep_index.specs.declared.send.Plan.{Plan}
use Rattle.bep_index.specs.declared.send.Plan.TheVariants.{Full, Above}
use Rattle.bep_index.specs.Listing.{Listing, IsRecord}
use Rattle.bep_index.specs.Batch.{last_sequence}
use Rattle.bep_index.specs.After.{IsAmong, IsAfter}
use Rattle.bep_index.specs.View.{replaced, amended}
use Rattle.bep_index.specs.Laws.{RecordsAreFound, BatchIsFound, OthersAreKept}
use Rattle.bep_model.specs.Tables.{Device, Folder}
use Rattle.bep_machine.specs.declared.message.Message.TheVariants as messages
use Rattle.bep_machine.specs.declared.moved.Moved.TheVariants.{Changed}
use Rattle.bep_machine.specs.Answer.{Done}
use Rattle.bep_machine.specs.Replica.{Replica, view_of, with_view}
use Rattle.bep_machine.specs.Link.{Sight, sending}
use Rattle.bep_machine.specs.Peer.{Session, Peer, Acted, with_replica, with_session}
use Rattle.bep_machine.specs.Exchange.{IsInSession, IsNamed, ViewRow, taken_by, CursorRow, AnnounceRow, IsAllSent, sent_up_to, index_message}
use Rattle.bep_machine.specs.LinkEffects.{IsOpen, HasTakenView, IndexBringsView, UpdateAddsToView, HasMovedOn, WholeIsAnnounced, FurtherIsAnnounced}
use Rattle.bep_machine.proofs.BatchFound.{batch_exists}
use Rattle.bep_machine.proofs.ReplicaFacts.{insert_here, insert_apart}
use Rattle.bep_machine.proofs.ViewFacts.{view_here}
use Rattle.bep_machine.proofs.TakingFacts.{in_session, delivers}

-- ---- records reach a view

pub is_named : (session : Session) (folder : Folder) (cursor : Plan) → get session.cursors folder ≡ Some cursor → IsNamed session folder
is_named session folder cursor is = subst IsSome (sym is) refl

module _ (other : Device) (folder : Folder) (old : Peer) (replica : Replica) (view : Listing) where
  abbrev pub viewing : Acted
  viewing = taken_by (with_replica old folder (with_view replica other view))

  view_row : len view.records ≤ MAX_NAMES → ViewRow other folder view replica old viewing (Done Changed)
  view_row room = inr ((λ many. omega (arith, room, many)), (refl, refl))

  taken_view : view.id ≡ (view_of replica other).id → HasTakenView other folder replica (with_view replica other view) viewing
  taken_view id = record {
    there = insert_here old.replicas folder (with_view replica other view);
    index = refl;
    store = refl;
    pulls = refl;
    id = ap (λ (v : Listing). v.id) (view_here replica other view) ∙ id;
    takes = refl;
    keeps = refl;
  }

pub index_brings_view : RecordsAreFound → IndexBringsView
index_brings_view found other failed sight old session cursor folder batch replica taking named there differ room =
    let view = replaced (view_of replica other) batch in
    let same = view_here replica other view in (
      viewing other folder old replica view,
      with_view replica other view,
      delivers other failed sight old session (messages.Index folder batch) taking _ (Done Changed)
          (inl (is_named session folder cursor named, (replica, there, view_row other folder old replica view room))),
      taken_view other folder old replica view refl,
      ap (λ (v : Listing). v.sequence) same,
      (λ name entry. subst (λ (v : Listing). (get v.records name ≡ Some entry) ↔ (IsAmong entry batch × (entry.name ≡ name))) (sym same) (found batch name entry differ)),
    )

pub update_adds_to_view : BatchIsFound → OthersAreKept → UpdateAddsToView
update_adds_to_view found kept other failed sight old session cursor folder batch replica taking named there differ fresh room =
    let view = amended (view_of replica other) batch in
    let same = view_here replica other view in (
      viewing other folder old replica view,
      with_view replica other view,
      delivers other failed sight old session (messages.IndexUpdate folder batch) taking _ (Done Changed)
          (inl (is_named session folder cursor named, (replica, there, inr (fresh, view_row other folder old replica view room)))),
      taken_view other folder old replica view refl,
      ap (λ (v : Listing). v.sequence) same,
      (λ entry among. ap (λ (v : Listing). get v.records entry.name) same ∙ found (view_of replica other).records batch entry differ among),
      (λ name none. ap (λ (v : Listing). get v.records name) same ∙ kept (view_of replica other).records batch name none),
    )

-- ---- records are announced

module _ (other : Device) (folder : Folder) (sight : Sight) (old : Peer) (session : Session) (cursor : Plan) (replica : Replica) (free : IsOpen sight) (is : IsInSession other sight old session) (at : get session.cursors folder ≡ Some cursor) (there : get old.replicas folder ≡ Some replica) where
  abbrev later : List Entry → Session
  later batch = record session { cursors = insert session.cursors folder (Above (last_sequence (sent_up_to cursor) batch)) }

  abbrev announcing : List Entry → Acted
  announcing batch = record { peer = with_session old other (later batch); deed = sending (index_message cursor folder batch) }

  announces : (batch : List Entry) → IsAfter replica.index.records (sent_up_to cursor) MAX_RECORDS batch → ¬ IsAllSent cursor batch → AnnounceRow other folder sight old (announcing batch) (Done Changed)
  announces batch after some =
      in_session other sight old session free.up is (λ one. CursorRow other folder sight.full one (get one.cursors folder) old) (announcing batch) (Done Changed)
      (subst (λ (c : Option Plan). CursorRow other folder sight.full session c old (announcing batch) (Done Changed)) (sym at)
      (replica, there, (batch, after, inr (some, inr ((λ full. let never : true ≡ false = sym full ∙ free.room in absurd (cc)), (refl, refl))))))

  moved_on : (batch : List Entry) → HasMovedOn other folder session (last_sequence (sent_up_to cursor) batch) (announcing batch).peer
  moved_on batch = record {
    session = later batch;
    there = get-insert_here nat_cmp_total nat_cmp-IsAntisymmetric old.sessions other (later batch);
    same = (refl, refl, refl, refl);
    cursor = insert_here session.cursors folder (Above (last_sequence (sent_up_to cursor) batch));
    others = λ named apart. insert_apart session.cursors folder (Above (last_sequence (sent_up_to cursor) batch)) named apart;
  }

pub whole_is_announced : WholeIsAnnounced
whole_is_announced other folder sight old session replica free is at there is_index =
    let batch = batch_exists replica.index is_index 0 MAX_RECORDS in (
      announcing other folder sight old session Full replica free is at there batch.0,
      batch.0,
      announces other folder sight old session Full replica free is at there batch.0 batch.1 (λ never. never),
      batch.1,
      refl,
      refl,
      moved_on other folder sight old session Full replica free is at there batch.0,
      refl,
    )

-- nothing at all goes only where nothing is above the sequence
some_are_left : (replica : Replica) (sequence : ℕ) (batch : List Entry) (entry : Entry) → IsAfter replica.index.records sequence MAX_RECORDS batch → IsRecord replica.index.records entry → sequence < entry.sequence → ¬ (batch ≡ [])
some_are_left replica sequence [] entry after is above same = let small = after.ended (omega arith) entry is in omega (arith, small, above)
some_are_left replica sequence (first ∷ more) entry after is above same = absurd (cc)

pub further_is_announced : FurtherIsAnnounced
further_is_announced other folder sight old session sequence replica entry free is at there is_index recorded above =
    let batch = batch_exists replica.index is_index sequence MAX_RECORDS in (
      announcing other folder sight old session (Above sequence) replica free is at there batch.0,
      batch.0,
      announces other folder sight old session (Above sequence) replica free is at there batch.0 batch.1 (some_are_left replica sequence batch.0 entry batch.1 recorded above),
      batch.1,
      refl,
      refl,
      moved_on other folder sight old session (Above sequence) replica free is at there batch.0,
      refl,
    )
