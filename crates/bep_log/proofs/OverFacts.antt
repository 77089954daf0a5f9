-- What an action over a link takes and sends, as its traffic tells.
use Rattle.std.proofs.Common.{◌≡◌, ℕ, ◌+◌, Bool, true, false, List, [], ◌∷◌, ◌++◌, Option, Some, None, option_map, inl, inr, refl, sym, ap, subst, ◌∙◌}
use Rattle.std.specs.FinMap.{get, insert}
use Rattle.bep_record.specs.declared.block.Block.{Block}
use Rattle.bep_index.specs.Batch.{last_sequence}
use Rattle.bep_index.specs.declared.send.Plan.TheVariants.{Above}
use Rattle.bep_index.specs.declared.send.Plan.{Plan}
use Rattle.bep_model.specs.Tables.{Device, Folder, FileName}
use Rattle.bep_machine.specs.declared.logged.Exchanged.{Exchanged}
use Rattle.bep_machine.specs.declared.logged.Exchanged.TheVariants.{Sent, Took, Broke}
use Rattle.bep_machine.specs.declared.message.Message.{Message}
use Rattle.bep_machine.specs.declared.moved.Moved.{Moved}
use Rattle.bep_machine.specs.declared.message.Message.TheVariants as messages
use Rattle.bep_machine.specs.declared.moved.Moved.TheVariants.{Changed}
use Rattle.bep_machine.specs.declared.refusal.Refusal.{Refusal}
use Rattle.bep_machine.specs.declared.refusal.Refusal.TheVariants.{LinkDown, LinkFull, NotBegun, NothingToDo}
use Rattle.bep_machine.specs.Answer.{Done, Refused, Row, becomes, when◌then◌else◌, ◌answers◌when◌else◌}
use Rattle.bep_machine.specs.Exchange.{AskingRow, BeginRow, CanAsk, CursorRow, DeliverRow, HasSession, IsAllSent, IsInSession, ReplicaRow, SessionRow, WaitingRow, index_message, request_for, sent_up_to}
use Rattle.bep_machine.specs.HalfLaws.{AnnounceIsTold, AskIsTold, BeginIsTold, DeliverIsTold, IsToldOverLink}
use Rattle.bep_machine.specs.Halves.{IsSeen, deed_told, sight_told}
use Rattle.bep_machine.specs.Link.{End, Lower, Upper, Link, Sight, after_deed, first_of_queue, queue_to, sending, sight_of, with_queues}
use Rattle.bep_machine.specs.Peer.{Acted, Peer, Session, config_for, idle, new_session, with_session}
use Rattle.bep_machine.specs.Replica.{Replica}
use Rattle.bep_peer.specs.Lent.{Lent, StepOver, twice}
use Rattle.bep_log.specs.declared.over.Over.{Over}
use Rattle.bep_log.specs.declared.over.Over.TheVariants.{Begin, Deliver, Announce, Ask}
use Rattle.bep_log.specs.Over.{doing_of, exchanged}

-- what is logged of the actions over a link makes what they did
pub record AreToldOver : Type 0 where
  pub begin : BeginIsTold
  pub deliver : DeliverIsTold
  pub announce : AnnounceIsTold
  pub ask : AskIsTold

pub over_is_told : AreToldOver → (action : Over) (device other : Device) (failed : Option ℕ) → IsToldOverLink device other ((doing_of action).step device other) failed ((doing_of action).row failed other)
over_is_told told Begin device other failed = told.begin device other failed
over_is_told told Deliver device other failed = told.deliver device other failed
over_is_told told (Announce folder) device other failed = told.announce device other folder.now failed
over_is_told told (Ask folder name) device other failed = told.ask device other folder.now name.now failed

-- ---- which messages an action takes

-- what was done wasn't refused
unrefused : {S P : Type 0} (old : S) (why : Refusal) (condition : Type 0) (rest : Row S) (new : S) (moved : Moved) → (old answers Refused why when condition else rest) new (Done moved) → (rest new (Done moved) → P) → P
unrefused old why condition rest new moved (inl refused) go = let e = refused.1.1 in absurd (cc)
unrefused old why condition rest new moved (inr on) go = go on.1

-- what is done in a session was done by its row
in_session : {P : Type 0} (other : Device) (sight : Sight) (old : Peer) (rest : Session → Row Acted) (acted : Acted) (moved : Moved) →
    SessionRow other sight old rest acted (Done moved) → ((session : Session) → rest session acted (Done moved) → P) → P
in_session other sight old rest acted moved row go =
    let found : Row Acted = λ new answer. (session : Session) × IsInSession other sight old session × rest session new answer in
    unrefused (idle old) LinkDown (sight.up ≡ false) (idle old answers Refused NotBegun when ¬ HasSession other sight old else found) acted moved row
    (λ up. unrefused (idle old) NotBegun (¬ HasSession other sight old) found acted moved up (λ made. go made.0 made.2))

cursor_takes : (other : Device) (folder : Folder) (full : Bool) (session : Session) (cursor : Option Plan) (old : Peer) (acted : Acted) (moved : Moved) → CursorRow other folder full session cursor old acted (Done moved) → acted.deed.takes ≡ false
cursor_takes other folder full session None old acted moved made = let e = made.1 in absurd (cc)
cursor_takes other folder full session (Some cursor) old acted moved made =
    let batch = made.2.0 in
    let sent : Row Acted = becomes (record { peer = with_session old other (record session { cursors = insert session.cursors folder (Above (last_sequence (sent_up_to cursor) batch)) }); deed = sending (index_message cursor folder batch) }) (Done Changed) in
    unrefused (idle old) NothingToDo (IsAllSent cursor batch) (idle old answers Refused LinkFull when full ≡ true else sent) acted moved made.2.2
    (λ unsent. unrefused (idle old) LinkFull (full ≡ true) sent acted moved unsent (λ sends. ap (λ (a : Acted). a.deed.takes) sends.0))

begin_takes : (other : Device) (sight : Sight) (old : Peer) (acted : Acted) (moved : Moved) → BeginRow other sight old acted (Done moved) → acted.deed.takes ≡ false
begin_takes other sight old acted moved row =
    let begun : Row Acted = becomes (record { peer = with_session old other (new_session sight.epoch); deed = sending (messages.ClusterConfig (config_for other old)) }) (Done Changed) in
    let room : Row Acted = idle old answers Refused LinkFull when sight.full ≡ true else begun in
    unrefused (idle old) LinkDown (sight.up ≡ false) (idle old answers Refused NothingToDo when HasSession other sight old else room) acted moved row
    (λ up. unrefused (idle old) NothingToDo (HasSession other sight old) room acted moved up
    (λ fresh. unrefused (idle old) LinkFull (sight.full ≡ true) begun acted moved fresh (λ made. ap (λ (a : Acted). a.deed.takes) made.0)))

asking_takes : (other : Device) (folder : Folder) (name : FileName) (full : Bool) (session : Session) (old : Peer) (replica : Replica) (acted : Acted) (moved : Moved) → AskingRow other folder name full session old replica acted (Done moved) → acted.deed.takes ≡ false
asking_takes other folder name full session old replica acted moved row =
    let asks : Row Acted = λ new answer. (block : Block) × CanAsk other folder name session replica block × becomes (record { peer = with_session old other (record session { outstanding = session.outstanding ++ request_for session folder name block ∷ []; next = session.next + 1 }); deed = sending (messages.Request (request_for session folder name block)) }) (Done Changed) new answer in
    unrefused (idle old) NothingToDo (¬ ((block : Block) × CanAsk other folder name session replica block)) (idle old answers Refused LinkFull when full ≡ true else asks) acted moved row
    (λ some. unrefused (idle old) LinkFull (full ≡ true) asks acted moved some (λ made. ap (λ (a : Acted). a.deed.takes) made.2.0))

-- an action that takes none
pub takes_none : (action : Over) → (doing_of action).takes ≡ false → (failed : Option ℕ) (other : Device) (sight : Sight) (old : Peer) (acted : Acted) (moved : Moved) →
    (doing_of action).row failed other sight old acted (Done moved) → acted.deed.takes ≡ false
takes_none Begin is failed other sight old acted moved row = begin_takes other sight old acted moved row
takes_none Deliver is failed other sight old acted moved row = absurd (cc)
takes_none (Announce folder) is failed other sight old acted moved row =
    in_session other sight old (λ session. CursorRow other folder.now sight.full session (get session.cursors folder.now) old) acted moved row
    (λ session made. cursor_takes other folder.now sight.full session (get session.cursors folder.now) old acted moved made)
takes_none (Ask folder name) is failed other sight old acted moved row =
    in_session other sight old (λ session. ReplicaRow folder.now old (AskingRow other folder.now name.now sight.full session old)) acted moved row
    (λ session made. asking_takes other folder.now name.now sight.full session old made.0 acted moved made.2)

-- a delivery takes one: nothing waits where a message was sent
pub delivers_one : (failed : Option ℕ) (other : Device) (epoch : ℕ) (done : Exchanged) (old : Peer) (acted : Acted) (moved : Moved) →
    DeliverRow other failed (sight_told (record { epoch = epoch; done = done })) old acted (Done moved) → (deed_told done).takes ≡ true
delivers_one failed other epoch (Sent message) old acted moved row =
    in_session other (sight_told (record { epoch = epoch; done = Sent message })) old (λ session. WaitingRow other failed false session None old) acted moved row
    (λ session made. let e = made.1 in absurd (cc))
delivers_one failed other epoch (Took message answer) old acted moved row = refl
delivers_one failed other epoch (Broke message) old acted moved row = refl

-- ---- what was exchanged

took_is : (waiting sent : Option Message) (up : Bool) (message : Message) (answer : Option Message) → waiting ≡ Some message → sent ≡ answer → up ≡ true → exchanged waiting sent up ≡ Some (Took message answer)
took_is waiting sent up message answer first same is =
    subst (λ (o : Option Message). exchanged o sent up ≡ Some (Took message answer)) (sym first)
    (subst (λ (b : Bool). exchanged (Some message) sent b ≡ Some (Took message answer)) (sym is) (ap (λ (o : Option Message). Some (Took message o)) same))

first_sent : (put : Option (Message × Message)) (sent : Option Message) → put ≡ twice sent → option_map (λ (one : Message × Message). one.0) put ≡ sent
first_sent put None is = ap (option_map (λ (one : Message × Message). one.0)) is
first_sent put (Some message) is = ap (option_map (λ (one : Message × Message). one.0)) is

-- a message that was sent is told of twice, so both halves of what is told are one
halves_same : (put : Option (Message × Message)) (sent : Option Message) → put ≡ twice sent → option_map (λ (one : Message × Message). one.1) put ≡ option_map (λ (one : Message × Message). one.0) put
halves_same put None is = ap (option_map (λ (one : Message × Message). one.1)) is ∙ sym (ap (option_map (λ (one : Message × Message). one.0)) is)
halves_same put (Some message) is = ap (option_map (λ (one : Message × Message). one.1)) is ∙ sym (ap (option_map (λ (one : Message × Message). one.0)) is)

pub seconds_sent : (row : Device → Sight → Peer → Row Acted) (shares : Device → Peer → Type 0) (old new : Lent) (moved : Moved) → StepOver row shares old new (Done moved) → option_map (λ (one : Message × Message). one.1) new.member.trace.put ≡ option_map (λ (one : Message × Message). one.0) new.member.trace.put
seconds_sent row shares old new moved (inl wanting) = let e = wanting.1 in absurd (cc)
seconds_sent row shares old new moved (inr (inl refused)) = let e = refused.1.1 in absurd (cc)
seconds_sent row shares old new moved (inr (inr made)) = halves_same new.member.trace.put made.1.2.acted.deed.sends made.1.2.told

up_stays : (end : End) (link : Link) (to from : List Message) → (with_queues end link to from).up ≡ link.up
up_stays Lower link to from = refl
up_stays Upper link to from = refl

-- the first that waits, if one is taken
abbrev pub waiting_if : Bool → End → Link → Option Message
waiting_if false end link = None
waiting_if true end link = first_of_queue (queue_to end link)

-- what was taken and sent, and whether the link is still up, tells what was exchanged
pub exchanged_is : (takes : Bool) (end : End) (link : Link) (done : Exchanged) (put : Option (Message × Message)) →
    link.up ≡ true → IsSeen done (sight_of end link) → put ≡ twice (deed_told done).sends → (deed_told done).takes ≡ takes →
    exchanged (waiting_if takes end link) (option_map (λ (one : Message × Message). one.0) put) (after_deed end (deed_told done) link).up ≡ Some done
exchanged_is false end link (Sent message) put up seen told takes =
    subst (λ (o : Option Message). exchanged None o (after_deed end (deed_told (Sent message)) link).up ≡ Some (Sent message)) (sym (first_sent put (Some message) told)) refl
exchanged_is true end link (Sent message) put up seen told takes = absurd (cc)
exchanged_is true end link (Took message None) put up seen told takes =
    took_is _ _ _ message None seen (first_sent put None told) (up_stays end link _ _ ∙ up)
exchanged_is true end link (Took message (Some answer)) put up seen told takes =
    took_is _ _ _ message (Some answer) seen.0 (first_sent put (Some answer) told) (up_stays end link _ _ ∙ up)
exchanged_is false end link (Took message answer) put up seen told takes = absurd (cc)
exchanged_is true end link (Broke message) put up seen told takes =
    subst (λ (o : Option Message). exchanged o (option_map (λ (one : Message × Message). one.0) put) false ≡ Some (Broke message)) (sym seen) refl
exchanged_is false end link (Broke message) put up seen told takes = absurd (cc)
