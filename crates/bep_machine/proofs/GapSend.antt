-- Devices that begin a session, announce records or ask for a block keep in step.
use Rattle.std.proofs.Common.{◌≡◌, ◌≢◌, ℕ, Bool, true, false, if◌then◌else◌, List, [], ◌∷◌, ◌++◌, ◌+◌, Option, Some, None, IsSome, Contains, refl, sym, ap, subst, ◌∙◌, inl, inr, ⊎_elim, arith}
use Rattle.std.specs.List.{flat_map}
use Rattle.std.specs.Ordering.{nat_cmp, is_eq}
use Rattle.std.specs.Cmp.{nat_cmp_total, Equal-is}
use Rattle.std.specs.Cmp.Lexicographic.{slice_cmp, nat_list_cmp_total}
use Rattle.std.proofs.lemmas.Bool.{cases_Bool}
use Rattle.std.proofs.lemmas.Cmp.{tied_itself}
use Rattle.std.proofs.lemmas.Map.Lookups.{exact_bytes}
use Rattle.std.proofs.lemmas.Option.{same_Some}
use Rattle.std.specs.FinMap.{entries, get, insert, get-empty, nat_cmp-IsAntisymmetric}
use Rattle.bep_facts.specs.Maps.{get-insert_here, get-insert_apart}
use Rattle.bep_facts.specs.Members.{Contains-first, Contains-more}
use Rattle.bep_record.specs.declared.entry.Entry.{Entry}
use Rattle.bep_index.specs.declared.limits.TheConstants.{MAX_RECORDS}
use Rattle.bep_index.specs.declared.send.Plan.{Plan}
use Rattle.bep_index.specs.declared.send.Plan.TheVariants.{Full, Above}
use Rattle.bep_index.specs.Listing.{Listing}
use Rattle.bep_index.specs.Index.{IsIndex}
use Rattle.bep_index.specs.Batch.{last_sequence}
use Rattle.bep_index.specs.After.{IsAfter}
use Rattle.bep_model.specs.Tables.{Device, Folder, FileName}
use Rattle.bep_machine.specs.declared.message.Message.{Message}
use Rattle.bep_machine.specs.declared.message.Message.TheVariants as messages
use Rattle.bep_machine.specs.declared.message.Announced.{Announced}
use Rattle.bep_machine.specs.Answer.{Answer}
use Rattle.bep_machine.specs.Replica.{Replica, view_of}
use Rattle.bep_machine.specs.Link.{Deed, first_of_queue, sending}
use Rattle.bep_machine.specs.Peer.{Session, Peer, Acted, new_session, with_session, is_shared_with, announced, config_for}
use Rattle.bep_machine.specs.Exchange.{HasSession, ReplicaRow, BeginRow, same_bytes, sent_up_to, index_message, SendingRow, CursorRow, AnnounceRow, AskingRow, AskRow, request_for}
use Rattle.bep_machine.proofs.ReplicaFacts.{same_name_or_not}
use Rattle.bep_machine.proofs.GapEntries.{entry_is_found}
use Rattle.bep_machine.proofs.GapFacts.{sent_when_announced}
use Rattle.bep_machine.proofs.GapFlow.{Whole, Further, Other, part_of, EachSays, ConfigSays, SaysId, SaysPoint, IsInStep}
use Rattle.bep_machine.proofs.GapMoves.{in_step_sending_other, in_step_sending_whole, in_step_sending_further, in_step_more_back, in_step_named}
use Rattle.bep_machine.proofs.GapPair.{cursor_at, cursor_in_session, cursor_of_another, OfBoth, of_same, IsOfEpoch, KeepsFolder, KeepsExchange, idle_keeps, session_keeps, in_session_keeps, steps_keep_folder, is_up}

-- ---- names that are the same

pub same_when_equal : (one other : FileName) → one ≡ other → same_bytes one other ≡ true
same_when_equal one other same = ap is_eq (ap (slice_cmp nat_cmp one) (sym same) ∙ tied_itself nat_list_cmp_total one)

pub apart_when_not : (one other : FileName) → one ≢ other → same_bytes one other ≡ false
apart_when_not one other apart =
    ⊎_elim
    (λ tied. absurd (apart (exact_bytes one other ((Equal-is _).0 tied))))
    (λ free. free)
    (cases_Bool (same_bytes one other))

-- ---- what a ClusterConfig says

module _ (other : Device) (folder : Folder) (Says : Announced → Type 0) where
  each_says : (es : List (Folder × Replica)) → ((name : Folder) (replica : Replica) → Contains es (name, replica) → name ≡ folder → Says (announced other name replica)) →
      EachSays folder Says (flat_map (λ one. if is_shared_with other one.1 then announced other one.0 one.1 ∷ [] else []) es)
  each_says [] says = tt
  each_says (first ∷ es) says = by_test (is_shared_with other first.1) (each_says es (λ name replica stands. says name replica (Contains-more first es (name, replica) stands)))
    where
      more : List Announced
      more = flat_map (λ (one : Folder × Replica). if is_shared_with other one.1 then announced other one.0 one.1 ∷ [] else []) es

      by_test : (b : Bool) → EachSays folder Says more → EachSays folder Says ((if b then announced other first.0 first.1 ∷ [] else []) ++ more)
      by_test true rest = ((λ here. says first.0 first.1 (Contains-first first es) here), rest)
      by_test false rest = rest

  pub config_says : (old : Peer) (replica : Replica) → get old.replicas folder ≡ Some replica → Says (announced other folder replica) → EachSays folder Says (config_for other old)
  config_says old replica here says =
      each_says (entries old.replicas)
      (λ name found stands same.
      let equal = same_Some replica found (sym here ∙ ap (get old.replicas) (sym same) ∙ entry_is_found old.replicas name found stands) in
      subst (λ (n : Folder). Says (announced other n found)) (sym same) (subst (λ (r : Replica). Says (announced other folder r)) equal says))

module _ (other : Device) (up : Bool) (epoch : ℕ) (queue back : List Message) (full : Bool) (old : Peer) (acted : Acted) (answer : Answer) where
  -- ---- begin

  begun_keeps : up ≡ true → ¬ HasSession other (record { up = up; epoch = epoch; waiting = first_of_queue queue; full = full }) old →
      KeepsExchange other up epoch queue back old (record { peer = with_session old other (new_session epoch); deed = sending (messages.ClusterConfig (config_for other old)) })
  begun_keeps up_now none = record {
    folders = λ folder.
        subst (λ (now : Option Plan). OfBoth (KeepsFolder folder other up queue back deed (cursor_at epoch folder (get old.sessions other)) now) (get old.replicas folder) (get old.replicas folder))
        (sym (ap (cursor_at epoch folder) here ∙ cursor_in_session epoch folder (new_session epoch) refl ∙ get-empty (slice_cmp nat_cmp) folder))
        (subst (λ (mine : Option Plan). OfBoth (KeepsFolder folder other up queue back deed mine None) (get old.replicas folder) (get old.replicas folder))
        (sym (cursor_of_another epoch folder (get old.sessions other) (λ session is same. none (session, (is, same)))))
        (of_same (KeepsFolder folder other up queue back deed None None) (get old.replicas folder) (λ replica found. each folder replica found)));
    sessions = λ third apart. get-insert_apart nat_cmp_total nat_cmp-IsAntisymmetric old.sessions other (new_session epoch) third apart;
    epochs = λ _. subst (IsOfEpoch epoch) (sym here) (omega arith);
  }
    where
      deed : Deed
      deed = sending (messages.ClusterConfig (config_for other old))

      here : get (insert old.sessions other (new_session epoch)) other ≡ Some (new_session epoch)
      here = get-insert_here nat_cmp_total nat_cmp-IsAntisymmetric old.sessions other (new_session epoch)

      each : (folder : Folder) (replica : Replica) → get old.replicas folder ≡ Some replica → KeepsFolder folder other up queue back deed None None replica replica
      each folder replica found =
          steps_keep_folder folder other up queue back false (Some (messages.ClusterConfig (config_for other old))) None None replica replica up_now refl (λ third apart. refl)
          (λ index theirs is_index step.
          in_step_more_back folder index (view_of replica other) theirs (IsSome {T = Plan} None) queue back (messages.ClusterConfig (config_for other old))
          (config_says other folder (SaysPoint index (view_of replica other)) old replica found (λ same. (same, refl))) step)
          (λ view theirs step.
          in_step_sending_other folder replica.index view None (IsSome theirs) back queue (messages.ClusterConfig (config_for other old)) refl
          (config_says other folder (SaysId replica.index) old replica found refl) step)

  pub begin_keeps : BeginRow other (record { up = up; epoch = epoch; waiting = first_of_queue queue; full = full }) old acted answer → KeepsExchange other up epoch queue back old acted
  begin_keeps (inl down) = subst (KeepsExchange other up epoch queue back old) (sym down.1.0) (idle_keeps other up epoch queue back old)
  begin_keeps (inr (is, inl begun)) = subst (KeepsExchange other up epoch queue back old) (sym begun.1.0) (idle_keeps other up epoch queue back old)
  begin_keeps (inr (is, inr (none, inl filled))) = subst (KeepsExchange other up epoch queue back old) (sym filled.1.0) (idle_keeps other up epoch queue back old)
  begin_keeps (inr (is, inr (none, inr (room, made)))) = subst (KeepsExchange other up epoch queue back old) (sym made.0) (begun_keeps (is_up up is) none)

  -- ---- announce and ask

  -- a session with this one in its place
  module _ (session next : Session) (has : get old.sessions other ≡ Some session) (current : session.epoch ≡ epoch) (still : next.epoch ≡ epoch) (message : Message) where
    sent_keeps : ((folder : Folder) (replica : Replica) → get old.replicas folder ≡ Some replica → KeepsFolder folder other up queue back (sending message) (get session.cursors folder) (get next.cursors folder) replica replica) →
        KeepsExchange other up epoch queue back old (record { peer = with_session old other next; deed = sending message })
    sent_keeps each =
        in_session_keeps other up epoch queue back old (record { peer = with_session old other next; deed = sending message }) session next has current
        (get-insert_here nat_cmp_total nat_cmp-IsAntisymmetric old.sessions other next) still
        (λ third apart. get-insert_apart nat_cmp_total nat_cmp-IsAntisymmetric old.sessions other next third apart)
        (λ folder. of_same (KeepsFolder folder other up queue back (sending message) (get session.cursors folder) (get next.cursors folder)) (get old.replicas folder) (each folder))

  -- what is sent is of no index, and the cursor stays
  other_sent : (folder : Folder) (message : Message) (cursor now : Option Plan) (replica : Replica) → up ≡ true → part_of folder message ≡ Other → ((Says : Announced → Type 0) → ConfigSays folder Says message) → now ≡ cursor →
      KeepsFolder folder other up queue back (sending message) cursor now replica replica
  other_sent folder message cursor now replica up_now part says same =
      subst (λ (later : Option Plan). KeepsFolder folder other up queue back (sending message) cursor later replica replica) (sym same)
      (steps_keep_folder folder other up queue back false (Some message) cursor cursor replica replica up_now refl (λ third apart. refl)
      (λ index theirs is_index step. in_step_more_back folder index (view_of replica other) theirs (IsSome cursor) queue back message (says (SaysPoint index (view_of replica other))) step)
      (λ view theirs step. in_step_sending_other folder replica.index view cursor (IsSome theirs) back queue message part (says (SaysId replica.index)) step))

  pub ask_keeps : (folder : Folder) (name : FileName) → AskRow other folder name (record { up = up; epoch = epoch; waiting = first_of_queue queue; full = full }) old acted answer → KeepsExchange other up epoch queue back old acted
  ask_keeps folder name =
      session_keeps other up epoch queue back old full (λ session. ReplicaRow folder old (AskingRow other folder name full session old)) acted answer
      (λ session up_now has current made. asked session up_now has current made.0 made.2)
    where
      asked : (session : Session) → up ≡ true → get old.sessions other ≡ Some session → session.epoch ≡ epoch → (replica : Replica) → AskingRow other folder name full session old replica acted answer → KeepsExchange other up epoch queue back old acted
      asked session up_now has current replica (inl never) = subst (KeepsExchange other up epoch queue back old) (sym never.1.0) (idle_keeps other up epoch queue back old)
      asked session up_now has current replica (inr (can, inl filled)) = subst (KeepsExchange other up epoch queue back old) (sym filled.1.0) (idle_keeps other up epoch queue back old)
      asked session up_now has current replica (inr (can, inr (room, (block, asks, made)))) =
          subst (KeepsExchange other up epoch queue back old) (sym made.0)
          (sent_keeps session (record session { outstanding = session.outstanding ++ request_for session folder name block ∷ []; next = session.next + 1 }) has current current
          (messages.Request (request_for session folder name block))
          (λ in_folder found here. other_sent in_folder (messages.Request (request_for session folder name block)) (get session.cursors in_folder) (get session.cursors in_folder) found up_now refl (λ Says. tt) refl))

  -- an index message is of its own folder
  announced_apart : (cursor : Plan) (folder in_folder : Folder) (batch : List Entry) → in_folder ≢ folder → part_of in_folder (index_message cursor folder batch) ≡ Other
  announced_apart Full folder in_folder batch apart = ap (λ b. if b then Whole batch else Other) (apart_when_not folder in_folder (λ same. apart (sym same)))
  announced_apart (Above end) folder in_folder batch apart = ap (λ b. if b then Further batch else Other) (apart_when_not folder in_folder (λ same. apart (sym same)))

  announced_says : (cursor : Plan) (folder in_folder : Folder) (batch : List Entry) (Says : Announced → Type 0) → ConfigSays in_folder Says (index_message cursor folder batch)
  announced_says Full folder in_folder batch Says = tt
  announced_says (Above end) folder in_folder batch Says = tt

  -- the sender of what is announced
  announcing : (cursor : Plan) (folder : Folder) (index view : Listing) (Named : Type 0) (batch : List Entry) → IsIndex index → IsAfter index.records (sent_up_to cursor) MAX_RECORDS batch →
      IsInStep folder index view (Some cursor) Named back queue → IsInStep folder index view (Some (Above (last_sequence (sent_up_to cursor) batch))) Named (back ++ index_message cursor folder batch ∷ []) queue
  announcing Full folder index view Named batch is_index after step =
      in_step_sending_whole folder index view Named back queue (messages.Index folder batch) batch
      (ap (λ b. if b then Whole batch else Other) (same_when_equal folder folder refl)) tt
      (sent_when_announced index 0 MAX_RECORDS batch is_index (omega arith) after) step
  announcing (Above end) folder index view Named batch is_index after step =
      in_step_sending_further folder index view end Named back queue (messages.IndexUpdate folder batch) batch
      (ap (λ b. if b then Further batch else Other) (same_when_equal folder folder refl)) tt
      (sent_when_announced index end MAX_RECORDS batch is_index step.flow.1 after) step

  announced_here : (cursor : Plan) (folder : Folder) (replica : Replica) (batch : List Entry) → up ≡ true → IsIndex replica.index → IsAfter replica.index.records (sent_up_to cursor) MAX_RECORDS batch →
      KeepsFolder folder other up queue back (sending (index_message cursor folder batch)) (Some cursor) (Some (Above (last_sequence (sent_up_to cursor) batch))) replica replica
  announced_here cursor folder replica batch up_now is_index after =
      steps_keep_folder folder other up queue back false (Some (index_message cursor folder batch)) (Some cursor) (Some (Above (last_sequence (sent_up_to cursor) batch))) replica replica up_now refl (λ third apart. refl)
      (λ index theirs is_other step.
      in_step_named folder index (view_of replica other) theirs (IsSome (Some cursor)) (IsSome (Some (Above (last_sequence (sent_up_to cursor) batch)))) queue (back ++ index_message cursor folder batch ∷ [])
      (λ later. step.named refl)
      (in_step_more_back folder index (view_of replica other) theirs (IsSome (Some cursor)) queue back (index_message cursor folder batch) (announced_says cursor folder folder batch (SaysPoint index (view_of replica other))) step))
      (λ view theirs step. announcing cursor folder replica.index view (IsSome theirs) batch is_index after step)

  pub announce_keeps : (folder : Folder) → ((replica : Replica) → get old.replicas folder ≡ Some replica → IsIndex replica.index) →
      AnnounceRow other folder (record { up = up; epoch = epoch; waiting = first_of_queue queue; full = full }) old acted answer → KeepsExchange other up epoch queue back old acted
  announce_keeps folder is_index =
      session_keeps other up epoch queue back old full (λ session. CursorRow other folder full session (get session.cursors folder) old) acted answer
      (λ session up_now has current made. by_cursor session up_now has current (get session.cursors folder) refl made)
    where
      sent_at : (session : Session) → up ≡ true → get old.sessions other ≡ Some session → session.epoch ≡ epoch → (cursor : Plan) → get session.cursors folder ≡ Some cursor → (replica : Replica) → get old.replicas folder ≡ Some replica →
          SendingRow other folder full session cursor old replica acted answer → KeepsExchange other up epoch queue back old acted
      sent_at session up_now has current cursor at replica here (batch, after, inl all) = subst (KeepsExchange other up epoch queue back old) (sym all.1.0) (idle_keeps other up epoch queue back old)
      sent_at session up_now has current cursor at replica here (batch, after, inr (some, inl filled)) = subst (KeepsExchange other up epoch queue back old) (sym filled.1.0) (idle_keeps other up epoch queue back old)
      sent_at session up_now has current cursor at replica here (batch, after, inr (some, inr (room, made))) =
          subst (KeepsExchange other up epoch queue back old) (sym made.0)
          (sent_keeps session (record session { cursors = insert session.cursors folder later }) has current current (index_message cursor folder batch) each)
        where
          later : Plan
          later = Above (last_sequence (sent_up_to cursor) batch)

          each : (in_folder : Folder) (found : Replica) → get old.replicas in_folder ≡ Some found → KeepsFolder in_folder other up queue back (sending (index_message cursor folder batch)) (get session.cursors in_folder) (get (insert session.cursors folder later) in_folder) found found
          each in_folder found there =
              ⊎_elim
              (λ same.
              subst (λ (f : Folder). KeepsFolder f other up queue back (sending (index_message cursor folder batch)) (get session.cursors f) (get (insert session.cursors folder later) f) found found) (sym same)
              (subst (λ (mine : Option Plan). KeepsFolder folder other up queue back (sending (index_message cursor folder batch)) mine (get (insert session.cursors folder later) folder) found found) (sym at)
              (subst (λ (now : Option Plan). KeepsFolder folder other up queue back (sending (index_message cursor folder batch)) (Some cursor) now found found) (sym (get-insert_here nat_list_cmp_total exact_bytes session.cursors folder later))
              (subst (λ (r : Replica). KeepsFolder folder other up queue back (sending (index_message cursor folder batch)) (Some cursor) (Some later) r r) (same_Some replica found (sym here ∙ ap (get old.replicas) (sym same) ∙ there))
              (announced_here cursor folder replica batch up_now (is_index replica here) after)))))
              (λ apart.
              other_sent in_folder (index_message cursor folder batch) (get session.cursors in_folder) (get (insert session.cursors folder later) in_folder) found up_now
              (announced_apart cursor folder in_folder batch apart) (announced_says cursor folder in_folder batch)
              (get-insert_apart nat_list_cmp_total exact_bytes session.cursors folder later in_folder apart))
              (same_name_or_not in_folder folder)

      by_cursor : (session : Session) → up ≡ true → get old.sessions other ≡ Some session → session.epoch ≡ epoch → (cursor : Option Plan) → get session.cursors folder ≡ cursor → CursorRow other folder full session cursor old acted answer → KeepsExchange other up epoch queue back old acted
      by_cursor session up_now has current None at made = subst (KeepsExchange other up epoch queue back old) (sym made.0) (idle_keeps other up epoch queue back old)
      by_cursor session up_now has current (Some cursor) at made = sent_at session up_now has current cursor at made.0 made.1 made.2
