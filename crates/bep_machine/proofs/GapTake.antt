-- A device that takes a message keeps in step.
use Rattle.std.proofs.Common.{◌≡◌, ◌≢◌, ℕ, Bool, true, false, if◌then◌else◌, List, [], ◌∷◌, Option, Some, None, IsSome, Contains, refl, sym, ap, subst, ◌∙◌, inl, inr, ⊎_elim}
use Rattle.std.specs.Ordering.{nat_cmp}
use Rattle.std.specs.Cmp.{nat_cmp_total}
use Rattle.std.specs.Cmp.Lexicographic.{slice_cmp}
use Rattle.std.specs.FinMap.{empty, get, insert, get-empty, nat_cmp-IsAntisymmetric}
use Rattle.bep_facts.specs.Maps.{get-insert_here, get-insert_apart}
use Rattle.bep_map.specs.NameMap.{ByName}
use Rattle.bep_index.specs.declared.send.Plan.{Plan}
use Rattle.bep_index.specs.Listing.{Listing}
use Rattle.bep_index.specs.Index.{IsIndex}
use Rattle.bep_index.specs.View.{replaced, amended}
use Rattle.bep_index.specs.Laws.{FoundIsOfBatchOrBefore, BatchIsFound, OthersAreKept}
use Rattle.bep_model.specs.Tables.{Device, Folder}
use Rattle.bep_machine.specs.declared.message.Message.{Message}
use Rattle.bep_machine.specs.declared.message.Message.TheVariants as messages
use Rattle.bep_machine.specs.declared.message.Announced.{Announced}
use Rattle.bep_machine.specs.declared.message.Request.{Request}
use Rattle.bep_machine.specs.declared.message.Response.{Response}
use Rattle.bep_machine.specs.Answer.{Answer}
use Rattle.bep_machine.specs.Replica.{Replica, Pull, view_of, pull_at, with_view}
use Rattle.bep_machine.specs.Link.{first_of_queue, taking, losing}
use Rattle.bep_machine.specs.Peer.{Session, Peer, Acted, with_session, with_replica}
use Rattle.bep_machine.specs.Exchange.{IsGoodConfig, known_under, cursor_after, all_renewed, cursors_for, configured_by, ViewRow, RequestRow, asked_for, AnsweredRow, AskedRow, ResponseRow, MessageRow, WaitingRow, DeliverRow, same_bytes, taken_by, with_block, with_received, without}
use Rattle.bep_machine.proofs.ReplicaFacts.{same_name_or_not, insert_here, insert_apart}
use Rattle.bep_machine.proofs.ViewFacts.{known_same, known_other, view_here, view_apart}
use Rattle.bep_machine.proofs.GapFlow.{Part, Whole, Further, Other, part_of, EachSays, ConfigSays, SaysId, SaysPoint, IsInStep}
use Rattle.bep_machine.proofs.GapMoves.{same_id_or_not, in_step_sending_other, in_step_with_cursor, in_step_less_back, in_step_more_back, in_step_taking_other, in_step_cleared, in_step_named, in_step_taking_whole, in_step_taking_further}
use Rattle.bep_machine.proofs.GapNamed.{shared_at, Naming, Unnamed, NamedBy, naming, named_says, renewed_unnamed, cursors_unnamed}
use Rattle.bep_machine.proofs.GapPair.{OfBoth, of_same, KeepsFolder, KeepsExchange, idle_keeps, losing_keeps, session_keeps, in_session_keeps, steps_keep_folder}
use Rattle.bep_machine.proofs.GapSend.{same_when_equal, apart_when_not}

-- a name has what it was given, and each other one what it had
after_insert : {V : Type 0} (P : Folder → Option V → Type 0) (m : ByName V) (folder : Folder) (value : V) → P folder (Some value) → ((other : Folder) → other ≢ folder → P other (get m other)) → (other : Folder) → P other (get (insert m folder value) other)
after_insert P m folder value here rest other =
    ⊎_elim
    (λ same. subst (λ (f : Folder). P f (get (insert m folder value) f)) (sym same) (subst (P folder) (sym (insert_here m folder value)) here))
    (λ apart. subst (P other) (sym (insert_apart m folder value other apart)) (rest other apart))
    (same_name_or_not other folder)

-- the index and all views are the same
abbrev SameViews : Replica → Replica → Type 0
SameViews before after = (after.index ≡ before.index) × ((third : Device) → view_of after third ≡ view_of before third)

module _ (other : Device) (up : Bool) (epoch : ℕ) (first : Message) (rest back : List Message) (full : Bool) (old : Peer) (acted : Acted) (answer : Answer) (up_now : up ≡ true) where
  -- ---- a folder of which nothing is taken

  other_taken : (folder : Folder) (cursor : Option Plan) (before after : Replica) → part_of folder first ≡ Other → after.index ≡ before.index → ((third : Device) → view_of after third ≡ view_of before third) →
      KeepsFolder folder other up (first ∷ rest) back taking cursor cursor before after
  other_taken folder cursor before after part same views =
      steps_keep_folder folder other up (first ∷ rest) back true None cursor cursor before after up_now same (λ third apart. views third)
      (λ index theirs is_index step.
      subst (λ (view : Listing). IsInStep folder index view theirs (IsSome cursor) rest back) (sym (views other))
      (in_step_taking_other folder index (view_of before other) theirs (IsSome cursor) first rest back part step))
      (λ view theirs step. in_step_less_back folder before.index view cursor (IsSome theirs) back first rest step)

  module _ (session : Session) (has : get old.sessions other ≡ Some session) (current : session.epoch ≡ epoch) where
    -- ---- a request or a response

    request_keeps : (request : Request) (failed : Option ℕ) (replica : Replica) → first ≡ messages.Request request → RequestRow request failed full replica old acted answer → KeepsExchange other up epoch (first ∷ rest) back old acted
    request_keeps request failed replica is (inl filled) = subst (KeepsExchange other up epoch (first ∷ rest) back old) (sym filled.1.0) (idle_keeps other up epoch (first ∷ rest) back old)
    request_keeps request failed replica is (inr (room, (response, answers, made))) =
        subst (KeepsExchange other up epoch (first ∷ rest) back old) (sym made.0)
        (in_session_keeps other up epoch (first ∷ rest) back old (record { peer = old; deed = record taking { sends = Some (messages.Response response) } }) session session has current has current (λ third apart. refl)
        (λ folder. of_same (KeepsFolder folder other up (first ∷ rest) back (record taking { sends = Some (messages.Response response) }) (get session.cursors folder) (get session.cursors folder)) (get old.replicas folder)
        (λ found there. each folder found)))
      where
        each : (folder : Folder) (found : Replica) → KeepsFolder folder other up (first ∷ rest) back (record taking { sends = Some (messages.Response response) }) (get session.cursors folder) (get session.cursors folder) found found
        each folder found =
            let part : part_of folder first ≡ Other = ap (part_of folder) is in
            steps_keep_folder folder other up (first ∷ rest) back true (Some (messages.Response response)) (get session.cursors folder) (get session.cursors folder) found found up_now refl (λ third apart. refl)
            (λ index theirs is_index step.
            in_step_more_back folder index (view_of found other) theirs (IsSome (get session.cursors folder)) rest back (messages.Response response) tt
            (in_step_taking_other folder index (view_of found other) theirs (IsSome (get session.cursors folder)) first rest back part step))
            (λ view theirs step.
            in_step_sending_other folder found.index view (get session.cursors folder) (IsSome theirs) back rest (messages.Response response) refl tt
            (in_step_less_back folder found.index view (get session.cursors folder) (IsSome theirs) back first rest step))

    same_block : (request : Request) (bytes : List ℕ) (pull : Option Pull) (replica : Replica) → ((with_block request bytes pull replica).index ≡ replica.index) × ((third : Device) → view_of (with_block request bytes pull replica) third ≡ view_of replica third)
    same_block request bytes None replica = (refl, λ third. refl)
    same_block request bytes (Some pull) replica = (refl, λ third. refl)

    -- a session with the same cursors, and replicas with the same views
    response_taken : (next : Session) (peer : Peer) → next.epoch ≡ epoch → next.cursors ≡ session.cursors → peer.sessions ≡ insert old.sessions other next → ((folder : Folder) → part_of folder first ≡ Other) →
        ((folder : Folder) → OfBoth SameViews (get old.replicas folder) (get peer.replicas folder)) →
        KeepsExchange other up epoch (first ∷ rest) back old (taken_by peer)
    response_taken next peer still cursors sessions part replicas =
        in_session_keeps other up epoch (first ∷ rest) back old (taken_by peer) session next has current
        (ap (λ (s : _). get s other) sessions ∙ get-insert_here nat_cmp_total nat_cmp-IsAntisymmetric old.sessions other next) still
        (λ third apart. ap (λ (s : _). get s third) sessions ∙ get-insert_apart nat_cmp_total nat_cmp-IsAntisymmetric old.sessions other next third apart)
        (λ folder.
        subst (λ (now : ByName Plan). OfBoth (KeepsFolder folder other up (first ∷ rest) back taking (get session.cursors folder) (get now folder)) (get old.replicas folder) (get peer.replicas folder)) (sym cursors)
        (each folder (get old.replicas folder) (get peer.replicas folder) (replicas folder)))
      where
        each : (folder : Folder) (before after : Option Replica) → OfBoth SameViews before after →
            OfBoth (KeepsFolder folder other up (first ∷ rest) back taking (get session.cursors folder) (get session.cursors folder)) before after
        each folder None None same = tt
        each folder None (Some after) same = absurd same
        each folder (Some before) None same = absurd same
        each folder (Some before) (Some after) same = other_taken folder (get session.cursors folder) before after (part folder) same.0 same.1

    response_keeps : (response : Response) → first ≡ messages.Response response → ResponseRow other session response old acted answer → KeepsExchange other up epoch (first ∷ rest) back old acted
    response_keeps response is = by_row (asked_for response.id session.outstanding)
      where
        part : (folder : Folder) → part_of folder first ≡ Other
        part folder = ap (part_of folder) is

        next : Session
        next = record session { outstanding = without response.id session.outstanding }

        stays : (folder : Folder) → OfBoth SameViews (get old.replicas folder) (get old.replicas folder)
        stays folder = of_same SameViews (get old.replicas folder) (λ replica there. (refl, λ third. refl))

        received : (request : Request) (bytes : List ℕ) (found : Option Replica) → get old.replicas request.folder ≡ found → KeepsExchange other up epoch (first ∷ rest) back old (taken_by (with_received request bytes found (with_session old other next)))
        received request bytes None there =
            response_taken next (with_session old other next) current refl refl part stays
        received request bytes (Some replica) there =
            response_taken next (with_received request bytes (Some replica) (with_session old other next)) current refl refl part
            (after_insert (λ folder found. OfBoth SameViews (get old.replicas folder) found)
            old.replicas request.folder (with_block request bytes (pull_at replica request.name) replica)
            (subst (λ (o : Option Replica). OfBoth SameViews o (Some (with_block request bytes (pull_at replica request.name) replica))) (sym there)
            (same_block request bytes (pull_at replica request.name) replica))
            (λ folder apart. stays folder))

        answered : (request : Request) → AnsweredRow other session response request old acted answer → KeepsExchange other up epoch (first ∷ rest) back old acted
        answered request (inl (right, made)) =
            subst (KeepsExchange other up epoch (first ∷ rest) back old) (sym made.0) (received request response.bytes (get old.replicas request.folder) refl)
        answered request (inr (wrong, made)) =
            subst (KeepsExchange other up epoch (first ∷ rest) back old) (sym made.0)
            (response_taken next (with_session old other next) current refl refl part stays)

        by_row : (request : Option Request) → AskedRow other session response request old acted answer → KeepsExchange other up epoch (first ∷ rest) back old acted
        by_row (Some request) row = answered request row
        by_row None made =
            subst (KeepsExchange other up epoch (first ∷ rest) back old) (sym made.0)
            (in_session_keeps other up epoch (first ∷ rest) back old (taken_by old) session session has current has current (λ third apart. refl)
            (λ folder. of_same (KeepsFolder folder other up (first ∷ rest) back taking (get session.cursors folder) (get session.cursors folder)) (get old.replicas folder)
            (λ found there. other_taken folder (get session.cursors folder) found found (part folder) refl (λ third. refl))))

    -- ---- an Index or an IndexUpdate

    view_keeps : (folder : Folder) (view : Listing) (replica : Replica) → get old.replicas folder ≡ Some replica → ((in_folder : Folder) → in_folder ≢ folder → part_of in_folder first ≡ Other) →
        ((index : Listing) (theirs : Option Plan) → IsIndex index → IsInStep folder index (view_of replica other) theirs (IsSome (get session.cursors folder)) (first ∷ rest) back → IsInStep folder index view theirs (IsSome (get session.cursors folder)) rest back) →
        ViewRow other folder view replica old acted answer → KeepsExchange other up epoch (first ∷ rest) back old acted
    view_keeps folder view replica there elsewhere receives (inl filled) = subst (KeepsExchange other up epoch (first ∷ rest) back old) (sym filled.1.0) (idle_keeps other up epoch (first ∷ rest) back old)
    view_keeps folder view replica there elsewhere receives (inr (room, made)) =
        subst (KeepsExchange other up epoch (first ∷ rest) back old) (sym made.0)
        (in_session_keeps other up epoch (first ∷ rest) back old (taken_by (with_replica old folder (with_view replica other view))) session session has current has current (λ third apart. refl)
        (after_insert (λ in_folder now. OfBoth (KeepsFolder in_folder other up (first ∷ rest) back taking (get session.cursors in_folder) (get session.cursors in_folder)) (get old.replicas in_folder) now)
        old.replicas folder (with_view replica other view)
        (subst (λ (o : Option Replica). OfBoth (KeepsFolder folder other up (first ∷ rest) back taking (get session.cursors folder) (get session.cursors folder)) o (Some (with_view replica other view))) (sym there) here)
        (λ in_folder apart. of_same (KeepsFolder in_folder other up (first ∷ rest) back taking (get session.cursors in_folder) (get session.cursors in_folder)) (get old.replicas in_folder)
        (λ found is. other_taken in_folder (get session.cursors in_folder) found found (elsewhere in_folder apart) refl (λ third. refl)))))
      where
        here : KeepsFolder folder other up (first ∷ rest) back taking (get session.cursors folder) (get session.cursors folder) replica (with_view replica other view)
        here =
            steps_keep_folder folder other up (first ∷ rest) back true None (get session.cursors folder) (get session.cursors folder) replica (with_view replica other view) up_now refl (view_apart replica other view)
            (λ index theirs is_index step.
            subst (λ (v : Listing). IsInStep folder index v theirs (IsSome (get session.cursors folder)) rest back) (sym (view_here replica other view)) (receives index theirs is_index step))
            (λ theirs_view theirs step. in_step_less_back folder replica.index theirs_view (get session.cursors folder) (IsSome theirs) back first rest step)

    -- ---- a ClusterConfig

    config_keeps : (named : List Announced) → (session.configured ≡ false → session.cursors ≡ empty) → first ≡ messages.ClusterConfig named → IsGoodConfig other session old named →
        KeepsExchange other up epoch (first ∷ rest) back old (taken_by (configured_by other session named old))
    config_keeps named unnamed is good =
        in_session_keeps other up epoch (first ∷ rest) back old (taken_by (configured_by other session named old)) session next has current
        (get-insert_here nat_cmp_total nat_cmp-IsAntisymmetric old.sessions other next) current
        (λ third apart. get-insert_apart nat_cmp_total nat_cmp-IsAntisymmetric old.sessions other next third apart)
        (λ folder. by_naming folder (naming folder named good.once))
      where
        next : Session
        next = record session { configured = true; cursors = cursors_for named old.replicas empty }

        part : (folder : Folder) → part_of folder first ≡ Other
        part folder = ap (part_of folder) is

        no_cursor : (folder : Folder) → get session.cursors folder ≡ None
        no_cursor folder = ap (λ (cursors : ByName Plan). get cursors folder) (unnamed good.first) ∙ get-empty (slice_cmp nat_cmp) folder

        renewed_keeps : (folder : Folder) (one : Announced) (replica : Replica) → one.folder ≡ folder → Contains named one →
            KeepsFolder folder other up (first ∷ rest) back taking None (Some (cursor_after replica.index one.known_id one.known_sequence)) replica (with_view replica other (known_under one.index_id (view_of replica other)))
        renewed_keeps folder one replica here stands =
            steps_keep_folder folder other up (first ∷ rest) back true None None (Some (cursor_after replica.index one.known_id one.known_sequence)) replica (with_view replica other (known_under one.index_id (view_of replica other))) up_now refl
            (view_apart replica other (known_under one.index_id (view_of replica other)))
            (λ index theirs is_index step.
            let says : EachSays folder (SaysId index) named = subst (λ m. ConfigSays folder (SaysId index) m) is step.ids.0 in
            subst (λ (v : Listing). IsInStep folder index v theirs (IsSome (Some (cursor_after replica.index one.known_id one.known_sequence))) rest back)
            (sym (view_here replica other (known_under one.index_id (view_of replica other)) ∙ ap (λ id. known_under id (view_of replica other)) (named_says folder (SaysId index) named one stands here says)))
            (by_id index theirs is_index step))
            (λ view theirs step.
            let says : EachSays folder (SaysPoint replica.index view) named = subst (λ m. ConfigSays folder (SaysPoint replica.index view) m) is (step.points refl).0 in
            in_step_with_cursor folder replica.index view (IsSome theirs) back rest one (named_says folder (SaysPoint replica.index view) named one stands here says)
            (in_step_less_back folder replica.index view None (IsSome theirs) back first rest step))
          where
            by_id : (index : Listing) (theirs : Option Plan) → IsIndex index → IsInStep folder index (view_of replica other) theirs (IsSome {T = Plan} None) (first ∷ rest) back →
                IsInStep folder index (known_under index.id (view_of replica other)) theirs (IsSome (Some (cursor_after replica.index one.known_id one.known_sequence))) rest back
            by_id index theirs is_index step =
                ⊎_elim
                (λ same.
                subst (λ (v : Listing). IsInStep folder index v theirs (IsSome (Some (cursor_after replica.index one.known_id one.known_sequence))) rest back) (sym (known_same index.id (view_of replica other) same))
                (in_step_named folder index (view_of replica other) theirs (IsSome {T = Plan} None) (IsSome (Some (cursor_after replica.index one.known_id one.known_sequence))) rest back (λ _. same)
                (in_step_taking_other folder index (view_of replica other) theirs (IsSome {T = Plan} None) first rest back (part folder) step)))
                (λ apart.
                subst (λ (v : Listing). IsInStep folder index v theirs (IsSome (Some (cursor_after replica.index one.known_id one.known_sequence))) rest back) (sym (known_other index.id (view_of replica other) apart))
                (in_step_cleared folder index (view_of replica other) theirs (IsSome {T = Plan} None) (IsSome (Some (cursor_after replica.index one.known_id one.known_sequence))) first rest back (part folder) apart is_index step))
                (same_id_or_not index (view_of replica other))

        by_naming : (folder : Folder) → Naming folder named → OfBoth (KeepsFolder folder other up (first ∷ rest) back taking (get session.cursors folder) (get (cursors_for named old.replicas empty) folder)) (get old.replicas folder) (get (all_renewed other named old.replicas) folder)
        by_naming folder (Unnamed none) =
            subst (λ (after : Option Replica). OfBoth (KeepsFolder folder other up (first ∷ rest) back taking (get session.cursors folder) (get (cursors_for named old.replicas empty) folder)) (get old.replicas folder) after)
            (sym (renewed_unnamed folder named none other old.replicas))
            (subst (λ (now : Option Plan). OfBoth (KeepsFolder folder other up (first ∷ rest) back taking (get session.cursors folder) now) (get old.replicas folder) (get old.replicas folder))
            (no_cursor folder ∙ sym (cursors_unnamed folder named none old.replicas empty ∙ get-empty (slice_cmp nat_cmp) folder))
            (of_same (KeepsFolder folder other up (first ∷ rest) back taking (get session.cursors folder) (get session.cursors folder)) (get old.replicas folder)
            (λ found there. other_taken folder (get session.cursors folder) found found (part folder) refl (λ third. refl))))
        by_naming folder (NamedBy one here stands renews sets) =
            let shares = shared_at other old named one stands good.shared in
            let there : get old.replicas folder ≡ Some shares.0 = ap (get old.replicas) (sym here) ∙ shares.1 in
            subst (λ (after : Option Replica). OfBoth (KeepsFolder folder other up (first ∷ rest) back taking (get session.cursors folder) (get (cursors_for named old.replicas empty) folder)) (get old.replicas folder) after)
            (sym (renews other old.replicas shares.0 there))
            (subst (λ (before : Option Replica). OfBoth (KeepsFolder folder other up (first ∷ rest) back taking (get session.cursors folder) (get (cursors_for named old.replicas empty) folder)) before (Some (with_view shares.0 other (known_under one.index_id (view_of shares.0 other)))))
            (sym there)
            (subst (λ (now : Option Plan). KeepsFolder folder other up (first ∷ rest) back taking (get session.cursors folder) now shares.0 (with_view shares.0 other (known_under one.index_id (view_of shares.0 other))))
            (sym (sets old.replicas empty shares.0 there))
            (subst (λ (mine : Option Plan). KeepsFolder folder other up (first ∷ rest) back taking mine (Some (cursor_after shares.0.index one.known_id one.known_sequence)) shares.0 (with_view shares.0 other (known_under one.index_id (view_of shares.0 other))))
            (sym (no_cursor folder))
            (renewed_keeps folder one shares.0 here stands))))

    -- ---- each message

    module _ (found : FoundIsOfBatchOrBefore) (taken : BatchIsFound) (others : OthersAreKept) (unnamed : session.configured ≡ false → session.cursors ≡ empty) where
      lost_keeps : acted ≡ record { peer = old; deed = losing } → KeepsExchange other up epoch (first ∷ rest) back old acted
      lost_keeps made = subst (KeepsExchange other up epoch (first ∷ rest) back old) (sym made) (losing_keeps other up epoch (first ∷ rest) back old)

      -- a batch of a folder says something of this folder, and nothing of another
      batch_keeps : (folder : Folder) (part : Part) (view : Listing) (replica : Replica) → get old.replicas folder ≡ Some replica → ((in_folder : Folder) → part_of in_folder first ≡ (if same_bytes folder in_folder then part else Other)) →
          ((index : Listing) (theirs : Option Plan) → IsIndex index → part_of folder first ≡ part → IsInStep folder index (view_of replica other) theirs (IsSome (get session.cursors folder)) (first ∷ rest) back → IsInStep folder index view theirs (IsSome (get session.cursors folder)) rest back) →
          ViewRow other folder view replica old acted answer → KeepsExchange other up epoch (first ∷ rest) back old acted
      batch_keeps folder part view replica there says receives row =
          view_keeps folder view replica there
          (λ in_folder apart. says in_folder ∙ ap (λ b. if b then part else Other) (apart_when_not folder in_folder (λ same. apart (sym same))))
          (λ index theirs is_index step. receives index theirs is_index (says folder ∙ ap (λ b. if b then part else Other) (same_when_equal folder folder refl)) step)
          row

      message_keeps : (failed : Option ℕ) (message : Message) → first ≡ message → MessageRow other failed full session message old acted answer → KeepsExchange other up epoch (first ∷ rest) back old acted
      message_keeps failed (messages.ClusterConfig named) is (inl (good, made)) = subst (KeepsExchange other up epoch (first ∷ rest) back old) (sym made.0) (config_keeps named unnamed is good)
      message_keeps failed (messages.ClusterConfig named) is (inr (bad, made)) = lost_keeps made.0
      message_keeps failed (messages.Index folder batch) is (inl (named, (replica, there, row))) =
          batch_keeps folder (Whole batch) (replaced (view_of replica other) batch) replica there (λ in_folder. ap (part_of in_folder) is)
          (λ index theirs is_index part step. in_step_taking_whole found taken others folder index (view_of replica other) theirs (IsSome (get session.cursors folder)) first rest back batch part named is_index step)
          row
      message_keeps failed (messages.Index folder batch) is (inr (bad, made)) = lost_keeps made.0
      message_keeps failed (messages.IndexUpdate folder batch) is (inl (named, (replica, there, inl (late, made)))) = lost_keeps made.0
      message_keeps failed (messages.IndexUpdate folder batch) is (inl (named, (replica, there, inr (timely, row)))) =
          batch_keeps folder (Further batch) (amended (view_of replica other) batch) replica there (λ in_folder. ap (part_of in_folder) is)
          (λ index theirs is_index part step. in_step_taking_further found taken others folder index (view_of replica other) theirs (IsSome (get session.cursors folder)) first rest back batch part named is_index step)
          row
      message_keeps failed (messages.IndexUpdate folder batch) is (inr (bad, made)) = lost_keeps made.0
      message_keeps failed (messages.Request request) is (inl (named, (replica, there, row))) = request_keeps request failed replica is row
      message_keeps failed (messages.Request request) is (inr (bad, made)) = lost_keeps made.0
      message_keeps failed (messages.Response response) is row = response_keeps response is row

module _ (found : FoundIsOfBatchOrBefore) (taken : BatchIsFound) (others : OthersAreKept) (other : Device) (up : Bool) (epoch : ℕ) (back : List Message) (full : Bool) (old : Peer) (acted : Acted) (answer : Answer)
    (unnamed : (session : Session) → get old.sessions other ≡ Some session → session.configured ≡ false → session.cursors ≡ empty) where
  pub deliver_keeps : (queue : List Message) (failed : Option ℕ) → DeliverRow other failed (record { up = up; epoch = epoch; waiting = first_of_queue queue; full = full }) old acted answer → KeepsExchange other up epoch queue back old acted
  deliver_keeps queue failed =
      session_keeps other up epoch queue back old full (λ session. WaitingRow other failed full session (first_of_queue queue) old) acted answer (by_queue queue)
    where
      by_queue : (queue : List Message) (session : Session) → up ≡ true → get old.sessions other ≡ Some session → session.epoch ≡ epoch → WaitingRow other failed full session (first_of_queue queue) old acted answer → KeepsExchange other up epoch queue back old acted
      by_queue [] session up_now has current made = subst (KeepsExchange other up epoch [] back old) (sym made.0) (idle_keeps other up epoch [] back old)
      by_queue (first ∷ rest) session up_now has current made =
          message_keeps other up epoch first rest back full old acted answer up_now session has current found taken others (unnamed session has) failed first refl made
