-- What a device learns and sends by a step over a link: it learns what was on its way to it, and sends own records.
use Rattle.std.proofs.Common.{◌≡◌, ◌⊎◌, ◌||◌, ℕ, Bool, true, false, List, [], ◌∷◌, Option, Some, None, Contains, refl, sym, ap, subst, ◌∙◌, inl, inr, ⊎_elim}
use Rattle.std.specs.Bool.{⊤}
use Rattle.std.specs.Ordering.{nat_cmp}
use Rattle.std.specs.Cmp.Lexicographic.{slice_cmp}
use Rattle.std.specs.List.{list_any}
use Rattle.std.specs.FinMap.{empty, get}
use Rattle.bep_facts.specs.Maps.{nothing_in_empty}
use Rattle.bep_facts.specs.Members.{not_in_none, Contains-first, Contains-more, Contains-cons_cases}
use Rattle.bep_map.specs.NameMap.{ByName}
use Rattle.bep_record.specs.declared.entry.Entry.{Entry}
use Rattle.bep_index.specs.declared.send.Plan.{Plan}
use Rattle.bep_index.specs.declared.send.Plan.TheVariants.{Full, Above}
use Rattle.bep_index.specs.Listing.{Listing, IsRecord}
use Rattle.bep_index.specs.After.{IsAmong, AreRecords}
use Rattle.bep_index.specs.Laws.{FoundIsOfBatchOrBefore}
use Rattle.bep_index.specs.View.{replaced, amended}
use Rattle.bep_model.specs.Tables.{Device, Folder, FileName}
use Rattle.bep_machine.specs.declared.message.Message.{Message}
use Rattle.bep_machine.specs.declared.message.Message.TheVariants as messages
use Rattle.bep_machine.specs.declared.message.Request.{Request}
use Rattle.bep_machine.specs.declared.message.Response.{Response}
use Rattle.bep_machine.specs.Answer.{Answer, Row}
use Rattle.bep_machine.specs.Replica.{Replica, own_at, pull_at, view_of, viewed_at, with_view}
use Rattle.bep_machine.specs.Link.{Sight, losing}
use Rattle.bep_machine.specs.Peer.{Session, Peer, Acted, idle, with_session, config_for}
use Rattle.bep_machine.specs.Exchange.{SessionRow, ReplicaRow, BeginRow, IsNamed, ViewRow, RequestRow, AnsweredRow, AskedRow, ResponseRow, asked_for, MessageRow, WaitingRow, DeliverRow, LosingRow, with_received, with_block, index_message, SendingRow, CursorRow, AnnounceRow, AskingRow, AskRow, request_for, without}
use Rattle.bep_machine.proofs.ReadOn.{AreReadOn, none_read, one_read, all_renewed_read, read_with_view, read_with_block}
use Rattle.bep_machine.proofs.CalmRows.{at_answers, at_becomes}

-- ---- tests of lists

pub any_from_member : {X : Type 0} (test : X → Bool) (xs : List X) (x : X) → Contains xs x → test x ≡ true → list_any test xs ≡ true
any_from_member test [] x member passes = absurd (not_in_none x member)
any_from_member test (first ∷ xs) x member passes =
    ⊎_elim
    (λ same. ap (λ b. b || list_any test xs) (ap test same ∙ passes))
    (λ more. later (test first) (any_from_member test xs x more passes))
    (Contains-cons_cases first xs x member)
  where
    later : (b : Bool) → list_any test xs ≡ true → (b || list_any test xs) ≡ true
    later true e = refl
    later false e = e

pub member_from_any : {X : Type 0} (test : X → Bool) (xs : List X) → list_any test xs ≡ true → (x : X) × Contains xs x × (test x ≡ true)
member_from_any test [] any = absurd (cc)
member_from_any test (first ∷ xs) any = cases (test first) refl any (λ rest. member_from_any test xs rest)
  where
    cases : (b : Bool) → test first ≡ b → (b || list_any test xs) ≡ true → (list_any test xs ≡ true → (x : _) × Contains xs x × (test x ≡ true)) → (x : _) × Contains (first ∷ xs) x × (test x ≡ true)
    cases true is e more = (first, Contains-first first xs, is)
    cases false is e more = let found = more e in (found.0, Contains-more first xs found.0 found.1, found.2)

-- ---- what a step may learn and send

-- the records of the batch are the device's own ones
abbrev pub AreOwn : Peer → Folder → List Entry → Type 0
AreOwn peer folder batch =
    (replica : Replica) × (get peer.replicas folder ≡ Some replica) × ((entry : Entry) → IsAmong entry batch → own_at replica entry.name ≡ Some entry)

-- so are the records that a message carries
abbrev pub CarriesOwn : Peer → Message → Type 0
CarriesOwn peer (messages.Index folder batch) = AreOwn peer folder batch
CarriesOwn peer (messages.IndexUpdate folder batch) = AreOwn peer folder batch
CarriesOwn peer message = ⊤

pub record IsLinkStep (Comes : Folder → FileName → Entry → Type 0) (old : Peer) (acted : Acted) : Type 0 where
  pub reads : AreReadOn Comes old.replicas acted.peer.replicas
  pub sends : (message : Message) → acted.deed.sends ≡ Some message → CarriesOwn old message

module _ (Comes : Folder → FileName → Entry → Type 0) (old : Peer) where
  -- no message is sent, and these are the replicas
  silent : (acted : Acted) → acted.deed.sends ≡ None → AreReadOn Comes old.replicas acted.peer.replicas → IsLinkStep Comes old acted
  silent acted none reads = record { reads = reads; sends = λ message is. absurd (cc) }

  nothing_done_there : IsLinkStep Comes old (idle old)
  nothing_done_there = silent (idle old) refl (none_read Comes old.replicas)

  -- one message is sent, and the replicas stay
  says : (acted : Acted) (message : Message) → acted.peer.replicas ≡ old.replicas → acted.deed.sends ≡ Some message → CarriesOwn old message → IsLinkStep Comes old acted
  says acted message same sent carries = record {
    reads = subst (λ replicas. AreReadOn Comes old.replicas replicas) (sym same) (none_read Comes old.replicas);
    sends = λ other is. let equal : message ≡ other = cc in subst (λ one. CarriesOwn old one) equal carries;
  }

  refused_or : {acted : Acted} {answer given : Answer} {C Rest : Type 0} → (C × ((acted ≡ idle old) × (answer ≡ given))) ⊎ ((¬ C) × Rest) → (Rest → IsLinkStep Comes old acted) → IsLinkStep Comes old acted
  refused_or made more = at_answers (IsLinkStep Comes old) made nothing_done_there (λ _ rest. more rest)

  one_or_other : {acted : Acted} {C One Rest : Type 0} → (C × One) ⊎ ((¬ C) × Rest) → (One → IsLinkStep Comes old acted) → (Rest → IsLinkStep Comes old acted) → IsLinkStep Comes old acted
  one_or_other made first second = ⊎_elim (λ taken. first taken.1) (λ passed. second passed.1) made

  session_step : (other : Device) (sight : Sight) (rest : Session → Row Acted) (acted : Acted) (answer : Answer) → ((session : Session) → get old.sessions other ≡ Some session → rest session acted answer → IsLinkStep Comes old acted) → SessionRow other sight old rest acted answer → IsLinkStep Comes old acted
  session_step other sight rest acted answer more made =
      refused_or made (λ up. refused_or up (λ has. more has.0 has.1.0 has.2))

  losing_step : (acted : Acted) (answer : Answer) → LosingRow old acted answer → IsLinkStep Comes old acted
  losing_step acted answer made = at_becomes (IsLinkStep Comes old) made (silent (record { peer = old; deed = losing }) refl (none_read Comes old.replicas))

  -- ---- begin, announce and ask

  pub begin_step : (other : Device) (sight : Sight) (acted : Acted) (answer : Answer) → BeginRow other sight old acted answer → IsLinkStep Comes old acted
  begin_step other sight acted answer made =
      refused_or made (λ up. refused_or up (λ none. refused_or none (λ begins.
      at_becomes (IsLinkStep Comes old) begins (says _ (messages.ClusterConfig (config_for other old)) refl refl tt))))

  among_records : (records : ByName Entry) (batch : List Entry) (entry : Entry) → AreRecords records batch → IsAmong entry batch → IsRecord records entry
  among_records records [] entry are among = absurd among
  among_records records (first ∷ batch) entry are among = ⊎_elim (λ same. subst (λ one. IsRecord records one) (sym same) are.0) (λ more. among_records records batch entry are.1 more) among

  carries_own : (cursor : Plan) (folder : Folder) (batch : List Entry) → AreOwn old folder batch → CarriesOwn old (index_message cursor folder batch)
  carries_own Full folder batch own = own
  carries_own (Above sequence) folder batch own = own

  sending_step : (other : Device) (folder : Folder) (full : Bool) (session : Session) (cursor : Plan) (replica : Replica) (acted : Acted) (answer : Answer) → get old.replicas folder ≡ Some replica → SendingRow other folder full session cursor old replica acted answer → IsLinkStep Comes old acted
  sending_step other folder full session cursor replica acted answer here made =
      refused_or made.2 (λ left. refused_or left (λ sends.
      at_becomes (IsLinkStep Comes old) sends
      (says _ (index_message cursor folder made.0) refl refl
      (carries_own cursor folder made.0 (replica, here, λ entry among. among_records _ made.0 entry made.1.run.recorded among)))))

  cursor_step : (other : Device) (folder : Folder) (full : Bool) (session : Session) (cursor : Option Plan) (acted : Acted) (answer : Answer) → CursorRow other folder full session cursor old acted answer → IsLinkStep Comes old acted
  cursor_step other folder full session None acted answer made = at_becomes (IsLinkStep Comes old) made nothing_done_there
  cursor_step other folder full session (Some cursor) acted answer made = sending_step other folder full session cursor made.0 acted answer made.1 made.2

  pub announce_step : (other : Device) (folder : Folder) (sight : Sight) (acted : Acted) (answer : Answer) → AnnounceRow other folder sight old acted answer → IsLinkStep Comes old acted
  announce_step other folder sight acted answer =
      session_step other sight (λ session. CursorRow other folder sight.full session (get session.cursors folder) old) acted answer
      (λ session is made. cursor_step other folder sight.full session (get session.cursors folder) acted answer made)

  pub ask_step : (other : Device) (folder : Folder) (name : FileName) (sight : Sight) (acted : Acted) (answer : Answer) → AskRow other folder name sight old acted answer → IsLinkStep Comes old acted
  ask_step other folder name sight acted answer =
      session_step other sight (λ session. ReplicaRow folder old (AskingRow other folder name sight.full session old)) acted answer
      (λ session is made.
      refused_or made.2 (λ can. refused_or can (λ asks.
      at_becomes (IsLinkStep Comes old) asks.2 (says _ (messages.Request (request_for session folder name asks.0)) refl refl tt))))

  -- ---- taking a request or a response

  request_step : (request : Request) (failed : Option ℕ) (full : Bool) (replica : Replica) (acted : Acted) (answer : Answer) → RequestRow request failed full replica old acted answer → IsLinkStep Comes old acted
  request_step request failed full replica acted answer made =
      refused_or made (λ answers. at_becomes (IsLinkStep Comes old) answers.2 (says _ (messages.Response answers.0) refl refl tt))

  received_read : (peer : Peer) (request : Request) (bytes : List ℕ) → peer.replicas ≡ old.replicas → (found : Option Replica) → get peer.replicas request.folder ≡ found → AreReadOn Comes old.replicas (with_received request bytes found peer).replicas
  received_read peer request bytes same None is = subst (λ replicas. AreReadOn Comes old.replicas replicas) (sym same) (none_read Comes old.replicas)
  received_read peer request bytes same (Some replica) is =
      subst (λ replicas. AreReadOn Comes replicas (with_received request bytes (Some replica) peer).replicas) same
      (one_read Comes peer.replicas request.folder replica (with_block request bytes (pull_at replica request.name) replica) is
      (read_with_block (Comes request.folder) replica request bytes))

  answered_step : (other : Device) (session : Session) (response : Response) (request : Request) (acted : Acted) (answer : Answer) → AnsweredRow other session response request old acted answer → IsLinkStep Comes old acted
  answered_step other session response request acted answer made =
      let answered : Peer = with_session old other (record session { outstanding = without response.id session.outstanding }) in
      one_or_other made
      (λ right. at_becomes (IsLinkStep Comes old) right (silent _ refl (received_read answered request response.bytes refl (get old.replicas request.folder) refl)))
      (λ wrong. at_becomes (IsLinkStep Comes old) wrong (silent _ refl (none_read Comes old.replicas)))

  response_step : (other : Device) (session : Session) (response : Response) (acted : Acted) (answer : Answer) → ResponseRow other session response old acted answer → IsLinkStep Comes old acted
  response_step other session response acted answer made = by_asked (asked_for response.id session.outstanding) made
    where
      by_asked : (asked : Option Request) → AskedRow other session response asked old acted answer → IsLinkStep Comes old acted
      by_asked None made = at_becomes (IsLinkStep Comes old) made (silent _ refl (none_read Comes old.replicas))
      by_asked (Some request) made = answered_step other session response request acted answer made

  -- ---- taking records

  view_step : (other : Device) (folder : Folder) (view : Listing) (replica : Replica) (acted : Acted) (answer : Answer) → get old.replicas folder ≡ Some replica → ((name : FileName) (entry : Entry) → get view.records name ≡ Some entry → (viewed_at replica other name ≡ Some entry) ⊎ Comes folder name entry) → ViewRow other folder view replica old acted answer → IsLinkStep Comes old acted
  view_step other folder view replica acted answer here seen made =
      refused_or made (λ room. at_becomes (IsLinkStep Comes old) room
      (silent _ refl (one_read Comes old.replicas folder replica (with_view replica other view) here (read_with_view (Comes folder) replica other view seen))))

  module _ (found : FoundIsOfBatchOrBefore) where
    message_step : (other : Device) (failed : Option ℕ) (full : Bool) (session : Session) (message : Message) (acted : Acted) (answer : Answer) → ((folder : Folder) (batch : List Entry) → IsNamed session folder → (message ≡ messages.Index folder batch) ⊎ (message ≡ messages.IndexUpdate folder batch) → (name : FileName) (entry : Entry) → IsAmong entry batch → entry.name ≡ name → Comes folder name entry) → MessageRow other failed full session message old acted answer → IsLinkStep Comes old acted
    message_step other failed full session (messages.ClusterConfig named) acted answer arrives made =
        one_or_other made
        (λ good. at_becomes (IsLinkStep Comes old) good (silent _ refl (all_renewed_read Comes other named old.replicas)))
        (λ bad. losing_step acted answer bad)
    message_step other failed full session (messages.Index folder batch) acted answer arrives made =
        ⊎_elim
        (λ named.
        let replica = named.1.0 in
        view_step other folder (replaced (view_of replica other) batch) replica acted answer named.1.1
        (λ name entry has.
        ⊎_elim
        (λ new. inr (arrives folder batch named.0 (inl refl) name entry new.0 new.1))
        (λ was. nothing_in_empty (slice_cmp nat_cmp) name entry was.1)
        (found empty batch name entry has))
        named.1.2)
        (λ unnamed. losing_step acted answer unnamed.1)
        made
    message_step other failed full session (messages.IndexUpdate folder batch) acted answer arrives made =
        ⊎_elim
        (λ named.
        let replica = named.1.0 in
        one_or_other named.1.2
        (λ bad. losing_step acted answer bad)
        (λ good. view_step other folder (amended (view_of replica other) batch) replica acted answer named.1.1
        (λ name entry has.
        ⊎_elim
        (λ new. inr (arrives folder batch named.0 (inr refl) name entry new.0 new.1))
        (λ was. inl was.1)
        (found (view_of replica other).records batch name entry has))
        good))
        (λ unnamed. losing_step acted answer unnamed.1)
        made
    message_step other failed full session (messages.Request request) acted answer arrives made =
        one_or_other made
        (λ named. request_step request failed full named.0 acted answer named.2)
        (λ unnamed. losing_step acted answer unnamed)
    message_step other failed full session (messages.Response response) acted answer arrives made = response_step other session response acted answer made

    pub waiting_step : (other : Device) (failed : Option ℕ) (full : Bool) (session : Session) (waiting : Option Message) (acted : Acted) (answer : Answer) → ((message : Message) (folder : Folder) (batch : List Entry) → waiting ≡ Some message → IsNamed session folder → (message ≡ messages.Index folder batch) ⊎ (message ≡ messages.IndexUpdate folder batch) → (name : FileName) (entry : Entry) → IsAmong entry batch → entry.name ≡ name → Comes folder name entry) → WaitingRow other failed full session waiting old acted answer → IsLinkStep Comes old acted
    waiting_step other failed full session None acted answer arrives made = at_becomes (IsLinkStep Comes old) made nothing_done_there
    waiting_step other failed full session (Some message) acted answer arrives made = message_step other failed full session message acted answer (λ folder batch. arrives message folder batch refl) made

    pub deliver_step : (other : Device) (failed : Option ℕ) (sight : Sight) (acted : Acted) (answer : Answer) → ((session : Session) (message : Message) (folder : Folder) (batch : List Entry) → get old.sessions other ≡ Some session → sight.waiting ≡ Some message → IsNamed session folder → (message ≡ messages.Index folder batch) ⊎ (message ≡ messages.IndexUpdate folder batch) → (name : FileName) (entry : Entry) → IsAmong entry batch → entry.name ≡ name → Comes folder name entry) → DeliverRow other failed sight old acted answer → IsLinkStep Comes old acted
    deliver_step other failed sight acted answer arrives =
        session_step other sight (λ session. WaitingRow other failed sight.full session sight.waiting old) acted answer
        (λ session is made. waiting_step other failed sight.full session sight.waiting acted answer (λ message folder batch. arrives session message folder batch is) made)
