-- A delivery that answers a request calls the store once, and any other not at all: it is the same whichever other call fails.
use Rattle.std.proofs.Common.{◌≡◌, ℕ, true, false, Option, Some, None, refl, sym, ap, ◌∙◌, inl, inr}
use Rattle.bep_record.specs.declared.node.NodeParts.{NodeParts}
use Rattle.bep_model.specs.Tables.{Device}
use Rattle.bep_machine.specs.declared.message.Message.{Message}
use Rattle.bep_machine.specs.declared.message.Message.TheVariants as messages
use Rattle.bep_machine.specs.declared.message.Request.{Request}
use Rattle.bep_machine.specs.declared.message.Response.{Response}
use Rattle.bep_machine.specs.declared.moved.Moved.{Moved}
use Rattle.bep_machine.specs.Answer.{Answer, Done, Row}
use Rattle.bep_machine.specs.Link.{Sight, Deed}
use Rattle.bep_machine.specs.Peer.{Session, Peer, Acted}
use Rattle.bep_machine.specs.Exchange.{SessionRow, Answers, MessageRow, WaitingRow, DeliverRow}
use Rattle.bep_machine.specs.Replica.{node_at}
use Rattle.bep_machine.specs.declared.logged.Exchanged.{Exchanged}
use Rattle.bep_machine.specs.declared.logged.Exchanged.TheVariants.{Sent, Took, Broke}
use Rattle.bep_machine.specs.declared.logged.Traffic.{Traffic}
use Rattle.bep_machine.specs.Halves.{was_answered, has_answered, only_call, deed_told, sight_told, ByTraffic}
use Rattle.bep_machine.proofs.LinkDeeds.{past}
use Rattle.bep_machine.proofs.OnlyCall.{told_where_made, made_where_told}

in_any_session : (other : Device) (sight : Sight) (old : Peer) (rest more : Session → Row Acted) (new : Acted) (answer : Answer) →
    ((session : Session) → rest session new answer → more session new answer) → SessionRow other sight old rest new answer → SessionRow other sight old more new answer
in_any_session other sight old rest more new answer each (inl down) = inl down
in_any_session other sight old rest more new answer each (inr (up, inl none)) = inr (up, inl none)
in_any_session other sight old rest more new answer each (inr (up, inr (has, (session, is, made)))) = inr (up, inr (has, (session, is, each session made)))

unanswered : (other : Device) (failed : Option ℕ) (session : Session) (message : Message) (old new : Peer) (deed : Deed) (moved : Moved) → deed.sends ≡ None →
    MessageRow other failed false session message old (record { peer = new; deed = deed }) (Done moved) → MessageRow other None false session message old (record { peer = new; deed = deed }) (Done moved)
unanswered other failed session (messages.ClusterConfig named) old new deed moved silent row = row
unanswered other failed session (messages.Index folder batch) old new deed moved silent row = row
unanswered other failed session (messages.IndexUpdate folder batch) old new deed moved silent row = row
unanswered other failed session (messages.Request request) old new deed moved silent (inl (named, (replica, is, row))) =
    let room = past row in
    let sent = sym silent ∙ ap (λ (a : Acted). a.deed.sends) room.1.2.0 in
    absurd (cc)
unanswered other failed session (messages.Request request) old new deed moved silent (inr unnamed) = inr unnamed
unanswered other failed session (messages.Response response) old new deed moved silent row = row

-- an answer depends on the read alone
answers_told : (request : Request) (failed : Option ℕ) (held : Option NodeParts) (response : Response) → Answers request failed held response → Answers request (only_call true 1 failed) held response
answers_told request failed held response (inl (fails, is)) = inl (told_where_made 1 failed fails, is)
answers_told request failed held response (inr (not_fails, is)) = inr ((λ told. not_fails (made_where_told true 1 1 failed told).2), is)

answered : (other : Device) (failed : Option ℕ) (session : Session) (message : Message) (old : Peer) (new : Acted) (answer : Answer) →
    MessageRow other failed false session message old new answer → MessageRow other (only_call true 1 failed) false session message old new answer
answered other failed session (messages.ClusterConfig named) old new answer row = row
answered other failed session (messages.Index folder batch) old new answer row = row
answered other failed session (messages.IndexUpdate folder batch) old new answer row = row
answered other failed session (messages.Request request) old new answer (inl (named, (replica, is, inl full))) = inl (named, (replica, is, inl full))
answered other failed session (messages.Request request) old new answer (inl (named, (replica, is, inr (room, (response, answers, made))))) =
    inl (named, (replica, is, inr (room, (response, answers_told request failed (node_at replica request.name) response answers, made))))
answered other failed session (messages.Request request) old new answer (inr unnamed) = inr unnamed
answered other failed session (messages.Response response) old new answer row = row

told_at : (other : Device) (failed : Option ℕ) (epoch : ℕ) (done : Exchanged) (old new : Peer) (moved : Moved) →
    DeliverRow other failed (sight_told (record { epoch = epoch; done = done })) old (record { peer = new; deed = deed_told done }) (Done moved) →
    DeliverRow other (only_call (was_answered done) 1 failed) (sight_told (record { epoch = epoch; done = done })) old (record { peer = new; deed = deed_told done }) (Done moved)
told_at other failed epoch (Sent message) old new moved made = made
told_at other failed epoch (Took message (Some answer)) old new moved made =
    in_any_session other (sight_told (record { epoch = epoch; done = Took message (Some answer) })) old
    (λ session. WaitingRow other failed false session (Some message) old) (λ session. WaitingRow other (only_call true 1 failed) false session (Some message) old)
    (record { peer = new; deed = deed_told (Took message (Some answer)) }) (Done moved)
    (λ session row. answered other failed session message old (record { peer = new; deed = deed_told (Took message (Some answer)) }) (Done moved) row) made
told_at other failed epoch (Took message None) old new moved made =
    in_any_session other (sight_told (record { epoch = epoch; done = Took message None })) old
    (λ session. WaitingRow other failed false session (Some message) old) (λ session. WaitingRow other None false session (Some message) old)
    (record { peer = new; deed = deed_told (Took message None) }) (Done moved)
    (λ session row. unanswered other failed session message old new (deed_told (Took message None)) moved refl row) made
told_at other failed epoch (Broke message) old new moved made =
    in_any_session other (sight_told (record { epoch = epoch; done = Broke message })) old
    (λ session. WaitingRow other failed false session (Some message) old) (λ session. WaitingRow other None false session (Some message) old)
    (record { peer = new; deed = deed_told (Broke message) }) (Done moved)
    (λ session row. unanswered other failed session message old new (deed_told (Broke message)) moved refl row) made

-- the half of a delivery is that of what its event tells
pub call_is_told : (other : Device) (failed : Option ℕ) (traffic : Option Traffic) (old new : Peer) → ByTraffic (DeliverRow other failed) traffic old new →
    ByTraffic (DeliverRow other (only_call (has_answered traffic) 1 failed)) traffic old new
call_is_told other failed None old new made = made
call_is_told other failed (Some traffic) old new made = (made.0, told_at other failed traffic.epoch traffic.done old new made.0 made.1)
