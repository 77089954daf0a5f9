-- What a device does over a link where it is done: what an event tells of it is all that it depends on.
use Rattle.std.proofs.Common.{◌≡◌, ◌⊎◌, ℕ, Bool, true, false, Option, Some, None, refl, sym, ap, subst, ◌∙◌, inl, inr}
use Rattle.std.specs.FinMap.{get}
use Rattle.bep_index.specs.declared.send.Plan.{Plan}
use Rattle.bep_model.specs.Tables.{Device, Folder, FileName}
use Rattle.bep_machine.specs.declared.message.Message.{Message}
use Rattle.bep_machine.specs.declared.message.Message.TheVariants as messages
use Rattle.bep_machine.specs.declared.message.Response.{Response}
use Rattle.bep_machine.specs.declared.message.Request.{Request}
use Rattle.bep_machine.specs.declared.moved.Moved.{Moved}
use Rattle.bep_machine.specs.Answer.{Answer, Done, Refused, Row, becomes}
use Rattle.bep_machine.specs.Replica.{Replica}
use Rattle.bep_machine.specs.Link.{Sight, sending, taking, losing}
use Rattle.bep_machine.specs.Peer.{Session, Peer, Acted, config_for}
use Rattle.bep_machine.specs.Exchange.{SessionRow, BeginRow, LosingRow, AskedRow, asked_for, MessageRow, WaitingRow, DeliverRow, index_message, SendingRow, CursorRow, AnnounceRow, AskingRow, AskRow, request_for}
use Rattle.bep_machine.specs.declared.logged.Exchanged.{Exchanged}
use Rattle.bep_machine.specs.declared.logged.Exchanged.TheVariants.{Sent, Took, Broke}
use Rattle.bep_machine.specs.declared.logged.Traffic.{Traffic}
use Rattle.bep_machine.specs.Halves.{deed_told, waiting_told, sight_told, IsSeen}

-- a row that is done was not refused
pub past : {S : Type 0} {old new : S} {why : _} {moved : Moved} {C R : Type 0} → (C × becomes old (Refused why) new (Done moved)) ⊎ ((¬ C) × R) → (¬ C) × R
past (inl refused) = let wrong = refused.1.1 in absurd (cc)
past (inr passed) = passed

true_if_not_false : (b : Bool) → ¬ (b ≡ false) → b ≡ true
true_if_not_false true not_false = refl
true_if_not_false false not_false = absurd (not_false refl)

false_if_not_true : (b : Bool) → ¬ (b ≡ true) → b ≡ false
false_if_not_true true not_true = absurd (not_true refl)
false_if_not_true false not_true = refl

-- ---- rows that only send

pub record SendsOne (sight : Sight) (acted : Acted) : Type 0 where
  pub message : Message
  pub deed : acted.deed ≡ sending message
  pub up : sight.up ≡ true
  pub room : sight.full ≡ false

session_up : (other : Device) (sight : Sight) (rest : Session → Row Acted) (old : Peer) (acted : Acted) (moved : Moved) → SessionRow other sight old rest acted (Done moved) → (sight.up ≡ true) × ((session : Session) × rest session acted (Done moved))
session_up other sight rest old acted moved row =
    let up = past row in
    let has = (past up.1).1 in
    (true_if_not_false sight.up up.0, (has.0, has.2))

begin_sends : (other : Device) (sight : Sight) (old : Peer) (acted : Acted) (moved : Moved) → BeginRow other sight old acted (Done moved) → SendsOne sight acted
begin_sends other sight old acted moved row =
    let up = past row in
    let room = past (past up.1).1 in
    record { message = messages.ClusterConfig (config_for other old); deed = ap (λ a. a.deed) room.1.0; up = true_if_not_false sight.up up.0; room = false_if_not_true sight.full room.0 }

sending_sends : (other : Device) (folder : Folder) (sight : Sight) (session : Session) (cursor : Plan) (old : Peer) (replica : Replica) (acted : Acted) (moved : Moved) → sight.up ≡ true → SendingRow other folder sight.full session cursor old replica acted (Done moved) → SendsOne sight acted
sending_sends other folder sight session cursor old replica acted moved up row =
    let room = past (past row.2).1 in
    record { message = index_message cursor folder row.0; deed = ap (λ a. a.deed) room.1.0; up = up; room = false_if_not_true sight.full room.0 }

cursor_sends : (other : Device) (folder : Folder) (sight : Sight) (session : Session) (cursor : Option Plan) (old : Peer) (acted : Acted) (moved : Moved) → sight.up ≡ true → CursorRow other folder sight.full session cursor old acted (Done moved) → SendsOne sight acted
cursor_sends other folder sight session None old acted moved up row = let wrong = row.1 in absurd (cc)
cursor_sends other folder sight session (Some cursor) old acted moved up row = sending_sends other folder sight session cursor old row.0 acted moved up row.2

announce_sends : (other : Device) (folder : Folder) (sight : Sight) (old : Peer) (acted : Acted) (moved : Moved) → AnnounceRow other folder sight old acted (Done moved) → SendsOne sight acted
announce_sends other folder sight old acted moved row =
    let up = session_up other sight (λ session. CursorRow other folder sight.full session (get session.cursors folder) old) old acted moved row in
    cursor_sends other folder sight up.1.0 (get up.1.0.cursors folder) old acted moved up.0 up.1.1

asking_sends : (other : Device) (folder : Folder) (name : FileName) (sight : Sight) (session : Session) (old : Peer) (replica : Replica) (acted : Acted) (moved : Moved) → sight.up ≡ true → AskingRow other folder name sight.full session old replica acted (Done moved) → SendsOne sight acted
asking_sends other folder name sight session old replica acted moved up row =
    let room = past (past row).1 in
    record { message = messages.Request (request_for session folder name room.1.0); deed = ap (λ a. a.deed) room.1.2.0; up = up; room = false_if_not_true sight.full room.0 }

ask_sends : (other : Device) (folder : Folder) (name : FileName) (sight : Sight) (old : Peer) (acted : Acted) (moved : Moved) → AskRow other folder name sight old acted (Done moved) → SendsOne sight acted
ask_sends other folder name sight old acted moved row =
    let up = past row in
    let has = (past up.1).1 in
    asking_sends other folder name sight has.0 old has.2.0 acted moved (true_if_not_false sight.up up.0) has.2.2

-- ---- what a row that is done tells, and the row that is told

-- an event can tell of the row
abbrev pub RowTells : (Sight → Peer → Row Acted) → Type 0
RowTells row = (sight : Sight) (old : Peer) (acted : Acted) (moved : Moved) → row sight old acted (Done moved) →
    (done : Exchanged) × (sight.up ≡ true) × IsSeen done sight × (acted.deed ≡ deed_told done) ×
    row (sight_told (record { epoch = sight.epoch; done = done })) old (record { peer = acted.peer; deed = deed_told done }) (Done moved)

-- and what it tells is the row at the sight of the link
abbrev pub RowSees : (Sight → Peer → Row Acted) → Type 0
RowSees row = (sight : Sight) (traffic : Traffic) (old new : Peer) (moved : Moved) →
    sight.up ≡ true → sight.epoch ≡ traffic.epoch → IsSeen traffic.done sight →
    row (sight_told traffic) old (record { peer = new; deed = deed_told traffic.done }) (Done moved) →
    row sight old (record { peer = new; deed = deed_told traffic.done }) (Done moved)

module _ (row : Sight → Peer → Row Acted) (any : (sight : Sight) (waiting : Option Message) (old : Peer) (acted : Acted) (answer : Answer) → row sight old acted answer → row (record sight { waiting = waiting }) old acted answer) (sends : (sight : Sight) (old : Peer) (acted : Acted) (moved : Moved) → row sight old acted (Done moved) → SendsOne sight acted) where
  sender_tells : RowTells row
  sender_tells sight old acted moved made =
      let one = sends sight old acted moved made in
      let same : ◌≡◌ {A = Sight × Acted} (record sight { waiting = None }, acted) (sight_told (record { epoch = sight.epoch; done = Sent one.message }), record { peer = acted.peer; deed = deed_told (Sent one.message) }) =
      λ i. (record { up = one.up i; epoch = sight.epoch; waiting = None; full = one.room i }, record { peer = acted.peer; deed = one.deed i })
      in
      (Sent one.message, one.up, one.room, one.deed, subst (λ (p : Sight × Acted). row p.0 old p.1 (Done moved)) same (any sight None old acted (Done moved) made))

  sender_sees_at : (sight : Sight) (epoch : ℕ) (done : Exchanged) (old new : Peer) (moved : Moved) →
      sight.up ≡ true → sight.epoch ≡ epoch → IsSeen done sight →
      row (sight_told (record { epoch = epoch; done = done })) old (record { peer = new; deed = deed_told done }) (Done moved) →
      row sight old (record { peer = new; deed = deed_told done }) (Done moved)
  sender_sees_at sight epoch (Sent message) old new moved up of_epoch room made =
      let same : ◌≡◌ {A = Sight} (record { up = true; epoch = epoch; waiting = sight.waiting; full = false }) sight =
      λ i. record { up = sym up i; epoch = sym of_epoch i; waiting = sight.waiting; full = sym room i }
      in
      subst (λ s. row s old (record { peer = new; deed = deed_told (Sent message) }) (Done moved)) same
      (any _ sight.waiting old (record { peer = new; deed = deed_told (Sent message) }) (Done moved) made)
  sender_sees_at sight epoch (Took message reply) old new moved up of_epoch room made =
      let one = sends _ old _ moved made in
      let wrong : true ≡ false = ap (λ d. d.takes) one.deed in
      absurd (cc)
  sender_sees_at sight epoch (Broke message) old new moved up of_epoch room made =
      let one = sends _ old _ moved made in
      let wrong : true ≡ false = ap (λ d. d.takes) one.deed in
      absurd (cc)

  sender_sees : RowSees row
  sender_sees sight traffic = sender_sees_at sight traffic.epoch traffic.done

pub begin_tells : (other : Device) → RowTells (BeginRow other)
begin_tells other = sender_tells (BeginRow other) (λ sight waiting old acted answer made. made) (begin_sends other)

pub begin_sees : (other : Device) → RowSees (BeginRow other)
begin_sees other = sender_sees (BeginRow other) (λ sight waiting old acted answer made. made) (begin_sends other)

pub announce_tells : (other : Device) (folder : Folder) → RowTells (AnnounceRow other folder)
announce_tells other folder = sender_tells (AnnounceRow other folder) (λ sight waiting old acted answer made. made) (announce_sends other folder)

pub announce_sees : (other : Device) (folder : Folder) → RowSees (AnnounceRow other folder)
announce_sees other folder = sender_sees (AnnounceRow other folder) (λ sight waiting old acted answer made. made) (announce_sends other folder)

pub ask_tells : (other : Device) (folder : Folder) (name : FileName) → RowTells (AskRow other folder name)
ask_tells other folder name = sender_tells (AskRow other folder name) (λ sight waiting old acted answer made. made) (ask_sends other folder name)

pub ask_sees : (other : Device) (folder : Folder) (name : FileName) → RowSees (AskRow other folder name)
ask_sees other folder name = sender_sees (AskRow other folder name) (λ sight waiting old acted answer made. made) (ask_sends other folder name)

-- ---- a delivery

module _ (other : Device) (failed : Option ℕ) (session : Session) (old : Peer) where
  record TakesOne (full : Bool) (message : Message) (acted : Acted) (moved : Moved) : Type 0 where
    pub done : Exchanged
    pub deed : acted.deed ≡ deed_told done
    pub waits : waiting_told done ≡ Some message
    pub seen : (sight : Sight) → sight.waiting ≡ Some message → sight.full ≡ full → IsSeen done sight
    pub made : MessageRow other failed false session message old acted (Done moved)

  -- it is taken, and nothing is answered
  takes : (full : Bool) (message : Message) (acted : Acted) (moved : Moved) → acted.deed ≡ taking → MessageRow other failed false session message old acted (Done moved) → TakesOne full message acted moved
  takes full message acted moved deed made = record { done = Took message None; deed = deed; waits = refl; seen = λ sight waiting room. waiting; made = made }

  breaks : (full : Bool) (message : Message) (acted : Acted) (moved : Moved) → LosingRow old acted (Done moved) → MessageRow other failed false session message old acted (Done moved) → TakesOne full message acted moved
  breaks full message acted moved losing made = record { done = Broke message; deed = ap (λ a. a.deed) losing.0; waits = refl; seen = λ sight waiting room. waiting; made = made }

  asked_takes : (response : Response) (asked : Option Request) (acted : Acted) (moved : Moved) → AskedRow other session response asked old acted (Done moved) → acted.deed ≡ taking
  asked_takes response None acted moved row = ap (λ a. a.deed) row.0
  asked_takes response (Some request) acted moved (inl right) = ap (λ a. a.deed) right.1.0
  asked_takes response (Some request) acted moved (inr wrong) = ap (λ a. a.deed) wrong.1.0

  message_tells : (full : Bool) (message : Message) (acted : Acted) (moved : Moved) → MessageRow other failed full session message old acted (Done moved) → TakesOne full message acted moved
  message_tells full (messages.ClusterConfig named) acted moved (inl good) = takes full _ acted moved (ap (λ a. a.deed) good.1.0) (inl good)
  message_tells full (messages.ClusterConfig named) acted moved (inr bad) = breaks full _ acted moved bad.1 (inr bad)
  message_tells full (messages.Index folder batch) acted moved (inl named) = takes full _ acted moved (ap (λ a. a.deed) (past named.1.2).1.0) (inl named)
  message_tells full (messages.Index folder batch) acted moved (inr bad) = breaks full _ acted moved bad.1 (inr bad)
  message_tells full (messages.IndexUpdate folder batch) acted moved (inl (named, (replica, is, inl old_batch))) = breaks full _ acted moved old_batch.1 (inl (named, (replica, is, inl old_batch)))
  message_tells full (messages.IndexUpdate folder batch) acted moved (inl (named, (replica, is, inr new))) = takes full _ acted moved (ap (λ a. a.deed) (past new.1).1.0) (inl (named, (replica, is, inr new)))
  message_tells full (messages.IndexUpdate folder batch) acted moved (inr bad) = breaks full _ acted moved bad.1 (inr bad)
  message_tells full (messages.Request request) acted moved (inl (named, (replica, is, row))) =
      let room = past row in
      record {
        done = Took (messages.Request request) (Some (messages.Response room.1.0));
        deed = ap (λ a. a.deed) room.1.2.0;
        waits = refl;
        seen = λ sight waiting same. (waiting, same ∙ false_if_not_true full room.0);
        made = inl (named, (replica, is, inr ((λ wrong. absurd (cc)), room.1)));
      }
  message_tells full (messages.Request request) acted moved (inr bad) = breaks full _ acted moved bad.1 (inr bad)
  message_tells full (messages.Response response) acted moved row = takes full _ acted moved (asked_takes response (asked_for response.id session.outstanding) acted moved row) row

  -- where a request is answered, there is room
  has_room : (done : Exchanged) (response : Response) (sight : Sight) → deed_told done ≡ record taking { sends = Some (messages.Response response) } → IsSeen done sight → sight.full ≡ false
  has_room (Sent message) response sight same seen = seen
  has_room (Took message None) response sight same seen = let wrong = ap (λ d. d.sends) same in absurd (cc)
  has_room (Took message (Some reply)) response sight same seen = seen.1
  has_room (Broke message) response sight same seen = let wrong = ap (λ d. d.loses) same in absurd (cc)

  message_sees : (sight : Sight) (done : Exchanged) (message : Message) (new : Peer) (moved : Moved) → IsSeen done sight → MessageRow other failed false session message old (record { peer = new; deed = deed_told done }) (Done moved) → MessageRow other failed sight.full session message old (record { peer = new; deed = deed_told done }) (Done moved)
  message_sees sight done (messages.ClusterConfig named) new moved seen made = made
  message_sees sight done (messages.Index folder batch) new moved seen made = made
  message_sees sight done (messages.IndexUpdate folder batch) new moved seen made = made
  message_sees sight done (messages.Request request) new moved seen (inl (named, (replica, is, row))) =
      let room = past row in
      let empty : sight.full ≡ false = has_room done room.1.0 sight (ap (λ a. a.deed) room.1.2.0) seen in
      inl (named, (replica, is, inr ((λ full. absurd (cc)), room.1)))
  message_sees sight done (messages.Request request) new moved seen (inr bad) = inr bad
  message_sees sight done (messages.Response response) new moved seen made = made

module _ (other : Device) (failed : Option ℕ) where
  waiting_tells : (sight : Sight) (session : Session) (waiting : Option Message) (old : Peer) (acted : Acted) (moved : Moved) → sight.waiting ≡ waiting → WaitingRow other failed sight.full session waiting old acted (Done moved) →
      (done : Exchanged) × IsSeen done sight × (acted.deed ≡ deed_told done) × WaitingRow other failed false session (waiting_told done) old acted (Done moved)
  waiting_tells sight session None old acted moved is row = let wrong = row.1 in absurd (cc)
  waiting_tells sight session (Some message) old acted moved is row =
      let one = message_tells other failed session old sight.full message acted moved row in
      (one.done, one.seen sight is refl, one.deed, subst (λ w. WaitingRow other failed false session w old acted (Done moved)) (sym one.waits) one.made)

  pub deliver_tells : RowTells (DeliverRow other failed)
  deliver_tells sight old acted moved row =
      let up = past row in
      let has = past up.1 in
      let told = waiting_tells sight has.1.0 sight.waiting old acted moved refl has.1.2 in
      let same : acted ≡ record { peer = acted.peer; deed = deed_told told.0 } = λ i. record { peer = acted.peer; deed = told.2 i } in (
        told.0,
        true_if_not_false sight.up up.0,
        told.1,
        told.2,
        subst (λ a. DeliverRow other failed (sight_told (record { epoch = sight.epoch; done = told.0 })) old a (Done moved)) same
            (inr ((λ wrong. absurd (cc)), inr (has.0, (has.1.0, has.1.1, told.3)))),
      )

  waiting_sees : (sight : Sight) (session : Session) (done : Exchanged) (old new : Peer) (moved : Moved) → IsSeen done sight → WaitingRow other failed false session (waiting_told done) old (record { peer = new; deed = deed_told done }) (Done moved) →
      WaitingRow other failed sight.full session sight.waiting old (record { peer = new; deed = deed_told done }) (Done moved)
  waiting_sees sight session (Sent message) old new moved seen row = let wrong = row.1 in absurd (cc)
  waiting_sees sight session (Took message None) old new moved seen row =
      subst (λ w. WaitingRow other failed sight.full session w old (record { peer = new; deed = deed_told (Took message None) }) (Done moved)) (sym seen) (message_sees other failed session old sight (Took message None) message new moved seen row)
  waiting_sees sight session (Took message (Some reply)) old new moved seen row =
      subst (λ w. WaitingRow other failed sight.full session w old (record { peer = new; deed = deed_told (Took message (Some reply)) }) (Done moved)) (sym seen.0) (message_sees other failed session old sight (Took message (Some reply)) message new moved seen row)
  waiting_sees sight session (Broke message) old new moved seen row =
      subst (λ w. WaitingRow other failed sight.full session w old (record { peer = new; deed = deed_told (Broke message) }) (Done moved)) (sym seen) (message_sees other failed session old sight (Broke message) message new moved seen row)

  pub deliver_sees : RowSees (DeliverRow other failed)
  deliver_sees sight traffic old new moved up of_epoch seen row =
      let has = (past (past row).1) in
      inr (
        (λ down. absurd (cc)),
        inr (
          (λ none. none (has.1.0, (has.1.1.0, has.1.1.1 ∙ sym of_epoch))),
          (has.1.0, (has.1.1.0, has.1.1.1 ∙ sym of_epoch), waiting_sees sight has.1.0 traffic.done old new moved seen has.1.2),
        ),
      )
