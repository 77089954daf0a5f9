-- The steps of a device over a link have one outcome each.
use Rattle.std.proofs.Common.{◌≡◌, ◌∙◌, ◌+◌, ◌++◌, ℕ, Bool, true, List, [], ◌∷◌, Option, Some, None, sym, ap}
use Rattle.std.specs.FinMap.{get, insert}
use Rattle.std.proofs.lemmas.Option.{same_Some}
use Rattle.bep_record.specs.declared.entry.Entry.{Entry}
use Rattle.bep_record.specs.declared.block.Block.{Block}
use Rattle.bep_record.specs.declared.node.NodeParts.{NodeParts}
use Rattle.bep_index.specs.declared.limits.TheConstants.{MAX_RECORDS}
use Rattle.bep_index.specs.declared.send.Plan.{Plan}
use Rattle.bep_index.specs.declared.send.Plan.TheVariants.{Above}
use Rattle.bep_index.specs.Listing.{Listing}
use Rattle.bep_index.specs.Batch.{last_sequence}
use Rattle.bep_index.specs.After.{IsAfter}
use Rattle.bep_index.specs.View.{replaced, amended, IsOld}
use Rattle.bep_model.specs.Tables.{Device, Folder, FileName}
use Rattle.bep_machine.specs.declared.message.Message.{Message}
use Rattle.bep_machine.specs.declared.message.Message.TheVariants as messages
use Rattle.bep_machine.specs.declared.message.Request.{Request}
use Rattle.bep_machine.specs.declared.message.Response.{Response}
use Rattle.bep_machine.specs.declared.moved.Moved.TheVariants.{Changed}
use Rattle.bep_machine.specs.declared.refusal.Refusal.TheVariants.{LinkFull, NothingToDo}
use Rattle.bep_machine.specs.Answer.{Done, Refused, Row, becomes, when◌then◌else◌, ◌answers◌when◌else◌}
use Rattle.bep_machine.specs.Exchange.{IsInSession, SessionRow, ReplicaRow, BeginRow, LosingRow, ViewRow, Answers, RequestRow, AskedRow, MessageRow, WaitingRow, DeliverRow, SendingRow, CursorRow, AnnounceRow, AskingRow, AskRow, CanAsk, IsAllSent, sent_up_to, index_message, next_block, asked_for, request_for}
use Rattle.bep_machine.specs.Link.{Sight, taking, sending}
use Rattle.bep_machine.specs.Peer.{Session, Peer, Acted, idle, with_session}
use Rattle.bep_machine.specs.Replica.{Pull, Replica, node_at, view_of}
use Rattle.bep_machine.proofs.OneOutcome.{HasOneOutcome, same_made, same_case, same_either, same_or, same_guess}
use Rattle.bep_machine.proofs.OneBatch.{one_batch}

-- ---- sessions and replicas

session_one_outcome : (other : Device) (sight : Sight) (old : Peer) (rest : Session → Row Acted) → ((session : Session) → HasOneOutcome (rest session)) → HasOneOutcome (SessionRow other sight old rest)
session_one_outcome other sight old rest each new next answer reply row again =
    same_or row again (λ a b. same_or a b (λ c d.
    same_guess (IsInSession other sight old) rest (λ session later is too. same_Some session later (sym is.0 ∙ too.0)) (λ session is. each session) c d))

replica_one_outcome : (folder : Folder) (old : Peer) (rest : Replica → Row Acted) → ((replica : Replica) → HasOneOutcome (rest replica)) → HasOneOutcome (ReplicaRow folder old rest)
replica_one_outcome folder old rest each new next answer reply row again =
    same_guess (λ replica. get old.replicas folder ≡ Some replica) rest (λ replica later is too. same_Some replica later (sym is ∙ too)) (λ replica is. each replica) row again

-- ---- begin

pub begin_one_outcome : (other : Device) (sight : Sight) (old : Peer) → HasOneOutcome (BeginRow other sight old)
begin_one_outcome other sight old new next answer reply row again =
    same_or row again (λ a b. same_or a b (λ c d. same_or c d (λ made too. same_made made too)))

-- ---- taking a message

view_one_outcome : (other : Device) (folder : Folder) (view : Listing) (replica : Replica) (old : Peer) → HasOneOutcome (ViewRow other folder view replica old)
view_one_outcome other folder view replica old new next answer reply row again = same_or row again (λ made too. same_made made too)

one_response : (request : Request) (failed : Option ℕ) (held : Option NodeParts) (one other : Response) → Answers request failed held one → Answers request failed held other → one ≡ other
one_response request failed held one other is too =
    same_either is too (λ a b. a ∙ sym b) (λ a b.
    same_case (λ none has. none has) a b (λ c d. c ∙ sym d) (λ c d.
    same_case (λ differs same. differs same) c d (λ e f. e ∙ sym f) (λ e f. e ∙ sym f)))

request_one_outcome : (request : Request) (failed : Option ℕ) (full : Bool) (replica : Replica) (old : Peer) → HasOneOutcome (RequestRow request failed full replica old)
request_one_outcome request failed full replica old new next answer reply row again =
    same_or row again (λ a b.
    same_guess (Answers request failed (node_at replica request.name))
    (λ response. becomes (record { peer = old; deed = record taking { sends = Some (messages.Response response) } }) (Done Changed))
    (one_response request failed (node_at replica request.name))
    (λ response is one other told tells made too. same_made made too) a b)

asked_one_outcome : (other : Device) (session : Session) (response : Response) (asked : Option Request) (old : Peer) → HasOneOutcome (AskedRow other session response asked old)
asked_one_outcome other session response None old new next answer reply row again = same_made row again
asked_one_outcome other session response (Some request) old new next answer reply row again =
    same_either row again (λ made too. same_made made too) (λ made too. same_made made too)

message_one_outcome : (other : Device) (failed : Option ℕ) (full : Bool) (session : Session) (message : Message) (old : Peer) → HasOneOutcome (MessageRow other failed full session message old)
message_one_outcome other failed full session (messages.ClusterConfig named) old new next answer reply row again =
    same_either row again (λ made too. same_made made too) (λ made too. same_made made too)
message_one_outcome other failed full session (messages.Index folder batch) old new next answer reply row again =
    same_either row again
    (λ a b.
    replica_one_outcome folder old (λ replica. ViewRow other folder (replaced (view_of replica other) batch) replica old)
    (λ replica. view_one_outcome other folder (replaced (view_of replica other) batch) replica old) new next answer reply a b)
    (λ made too. same_made made too)
message_one_outcome other failed full session (messages.IndexUpdate folder batch) old new next answer reply row again =
    same_either row again
    (λ a b.
    replica_one_outcome folder old
    (λ replica. when IsOld (view_of replica other).sequence batch then LosingRow old else ViewRow other folder (amended (view_of replica other) batch) replica old)
    (λ replica one another told tells c d. same_either c d
    (λ made too. same_made made too)
    (λ e f. view_one_outcome other folder (amended (view_of replica other) batch) replica old one another told tells e f))
    new next answer reply a b)
    (λ made too. same_made made too)
message_one_outcome other failed full session (messages.Request request) old new next answer reply row again =
    same_either row again
    (λ a b.
    replica_one_outcome request.folder old (λ replica. RequestRow request failed full replica old) (λ replica. request_one_outcome request failed full replica old) new next answer reply a b)
    (λ made too. same_made made too)
message_one_outcome other failed full session (messages.Response response) old new next answer reply row again =
    asked_one_outcome other session response (asked_for response.id session.outstanding) old new next answer reply row again

waiting_one_outcome : (other : Device) (failed : Option ℕ) (full : Bool) (session : Session) (waiting : Option Message) (old : Peer) → HasOneOutcome (WaitingRow other failed full session waiting old)
waiting_one_outcome other failed full session None old new next answer reply row again = same_made row again
waiting_one_outcome other failed full session (Some message) old new next answer reply row again = message_one_outcome other failed full session message old new next answer reply row again

pub deliver_one_outcome : (other : Device) (failed : Option ℕ) (sight : Sight) (old : Peer) → HasOneOutcome (DeliverRow other failed sight old)
deliver_one_outcome other failed sight old new next answer reply row again =
    session_one_outcome other sight old (λ session. WaitingRow other failed sight.full session sight.waiting old)
    (λ session. waiting_one_outcome other failed sight.full session sight.waiting old) new next answer reply row again

-- ---- announcing records

-- what is left of it once the batch is known
abbrev BatchRow : Device → Folder → Bool → Session → Plan → Peer → List Entry → Row Acted
BatchRow other folder full session cursor old batch =
    idle old answers Refused NothingToDo when IsAllSent cursor batch else
    idle old answers Refused LinkFull when full ≡ true else
    becomes (record {
      peer = with_session old other (record session { cursors = insert session.cursors folder (Above (last_sequence (sent_up_to cursor) batch)) });
      deed = sending (index_message cursor folder batch);
    }) (Done Changed)

sending_one_outcome : (other : Device) (folder : Folder) (full : Bool) (session : Session) (cursor : Plan) (old : Peer) (replica : Replica) → HasOneOutcome (SendingRow other folder full session cursor old replica)
sending_one_outcome other folder full session cursor old replica new next answer reply row again =
    same_guess (IsAfter replica.index.records (sent_up_to cursor) MAX_RECORDS) (BatchRow other folder full session cursor old)
    (one_batch replica.index.records (sent_up_to cursor) MAX_RECORDS)
    (λ batch is one another told tells a b. same_or a b (λ c d. same_or c d (λ made too. same_made made too)))
    row again

cursor_one_outcome : (other : Device) (folder : Folder) (full : Bool) (session : Session) (cursor : Option Plan) (old : Peer) → HasOneOutcome (CursorRow other folder full session cursor old)
cursor_one_outcome other folder full session None old new next answer reply row again = same_made row again
cursor_one_outcome other folder full session (Some cursor) old new next answer reply row again =
    replica_one_outcome folder old (SendingRow other folder full session cursor old) (sending_one_outcome other folder full session cursor old) new next answer reply row again

pub announce_one_outcome : (other : Device) (folder : Folder) (sight : Sight) (old : Peer) → HasOneOutcome (AnnounceRow other folder sight old)
announce_one_outcome other folder sight old new next answer reply row again =
    session_one_outcome other sight old (λ session. CursorRow other folder sight.full session (get session.cursors folder) old)
    (λ session. cursor_one_outcome other folder sight.full session (get session.cursors folder) old) new next answer reply row again

-- ---- asking for a block

one_block : (other : Device) (folder : Folder) (name : FileName) (session : Session) (replica : Replica) (one next : Block) → CanAsk other folder name session replica one → CanAsk other folder name session replica next → one ≡ next
one_block other folder name session replica one next can too =
    let same = same_Some can.pull too.pull (sym can.pulled ∙ too.pulled) in
    same_Some one next (sym can.next ∙ ap (λ (pull : Pull). next_block session folder name pull.target.blocks pull.received) same ∙ too.next)

asking_one_outcome : (other : Device) (folder : Folder) (name : FileName) (full : Bool) (session : Session) (old : Peer) (replica : Replica) → HasOneOutcome (AskingRow other folder name full session old replica)
asking_one_outcome other folder name full session old replica new next answer reply row again =
    same_or row again (λ a b. same_or a b (λ c d.
    same_guess (CanAsk other folder name session replica)
    (λ block. becomes (record {
      peer = with_session old other (record session { outstanding = session.outstanding ++ request_for session folder name block ∷ []; next = session.next + 1 });
      deed = sending (messages.Request (request_for session folder name block));
    }) (Done Changed))
    (one_block other folder name session replica)
    (λ block is one another told tells made too. same_made made too) c d))

pub ask_one_outcome : (other : Device) (folder : Folder) (name : FileName) (sight : Sight) (old : Peer) → HasOneOutcome (AskRow other folder name sight old)
ask_one_outcome other folder name sight old new next answer reply row again =
    session_one_outcome other sight old (λ session. ReplicaRow folder old (AskingRow other folder name sight.full session old))
    (λ session. replica_one_outcome folder old (AskingRow other folder name sight.full session old) (asking_one_outcome other folder name sight.full session old)) new next answer reply row again
