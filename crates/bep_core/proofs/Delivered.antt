-- A delivery sends something only to answer a request; so it tells of a failed read only there.
use Rattle.std.proofs.Common.{◌≡◌, ◌⊎◌, ℕ, Bool, Option, Some, None, Result, Ok, Err, refl, sym, ap, ◌∙◌, inl, inr, ⊎_elim}
use Rattle.bep_index.specs.Listing.{Listing}
use Rattle.bep_model.specs.Tables.{Device, Folder}
use Rattle.bep_machine.specs.declared.message.Code.{Code}
use Rattle.bep_machine.specs.declared.message.Code.TheVariants.{NoError, Generic, NoSuchFile, InvalidFile}
use Rattle.bep_machine.specs.declared.message.Message.{Message}
use Rattle.bep_machine.specs.declared.message.Message.TheVariants as messages
use Rattle.bep_machine.specs.declared.message.Request.{Request}
use Rattle.bep_machine.specs.declared.message.Response.{Response}
use Rattle.bep_machine.specs.declared.moved.Moved.{Moved}
use Rattle.bep_machine.specs.declared.moved.Moved.TheVariants.{Changed, Unchanged, Dropped, LinkLost}
use Rattle.bep_machine.specs.Answer.{Answer, Done, Row, becomes, when◌then◌else◌, ◌answers◌when◌else◌}
use Rattle.bep_machine.specs.Exchange.{SessionRow, ReplicaRow, LosingRow, ViewRow, RequestRow, AskedRow, MessageRow, WaitingRow, DeliverRow}
use Rattle.bep_machine.specs.Link.{Sight, end_of, sight_of}
use Rattle.bep_machine.specs.Peer.{Peer, Acted, Session, idle}
use Rattle.bep_machine.specs.Replica.{Replica}
use Rattle.bep_peer.specs.declared.error.PeerError.{PeerError}
use Rattle.bep_peer.specs.declared.error.PeerError.TheVariants as errors
use Rattle.bep_peer.specs.declared.trace.Trace.{Trace}
use Rattle.bep_peer.specs.Delivered.{TellsRead as TellsReadThere, failure_sent}
use Rattle.bep_peer.specs.Lent.{Joins, Lent, NamesNone, StepOver, twice}
use Rattle.bep_peer.specs.PeerError.{Gives as GivesThere}
use Rattle.bep_core.specs.Counts.{IsRequest, TellsRead}
use Rattle.bep_core.specs.Why.{answer_of}

-- ---- what a row sends

-- nothing is sent, or a request is taken
abbrev Says : Option Message → Row Acted
Says waiting new answer = (new.deed.sends ≡ None) ⊎ (IsRequest waiting × (answer ≡ Done Changed))

abbrev Saying : Option Message → Row Acted → Type 0
Saying waiting row = (new : Acted) (answer : Answer) → row new answer → Says waiting new answer

module _ (waiting : Option Message) where
  silent : (made : Acted) (given : Answer) → made.deed.sends ≡ None → Saying waiting (becomes made given)
  silent made given is new answer made_so = inl (ap (λ (a : Acted). a.deed.sends) made_so.0 ∙ is)

  refusing : (old : Peer) (given : Answer) (condition : Type 0) (rest : Row Acted) → Saying waiting rest → Saying waiting (idle old answers given when condition else rest)
  refusing old given condition rest says new answer made = ⊎_elim (λ refused. silent (idle old) given refl new answer refused.1) (λ made. says new answer made.1) made

  either : (condition : Type 0) (one other : Row Acted) → Saying waiting one → Saying waiting other → Saying waiting (when condition then one else other)
  either condition one other says says_too new answer made = ⊎_elim (λ made. says new answer made.1) (λ made. says_too new answer made.1) made

  in_folder : (folder : Folder) (old : Peer) (rest : Replica → Row Acted) → ((replica : Replica) → Saying waiting (rest replica)) → Saying waiting (ReplicaRow folder old rest)
  in_folder folder old rest says new answer made = says made.0 new answer made.2

  losing : (old : Peer) → Saying waiting (LosingRow old)
  losing old = silent _ _ refl

  viewing : (other : Device) (folder : Folder) (view : Listing) (replica : Replica) (old : Peer) → Saying waiting (ViewRow other folder view replica old)
  viewing other folder view replica old = refusing old _ _ _ (silent _ _ refl)

  asked : (other : Device) (session : Session) (response : Response) (found : Option Request) (old : Peer) → Saying waiting (AskedRow other session response found old)
  asked other session response None old = silent _ _ refl
  asked other session response (Some request) old = either _ _ _ (silent _ _ refl) (silent _ _ refl)

message_says : (other : Device) (failed : Option ℕ) (full : Bool) (session : Session) (message : Message) (old : Peer) → Saying (Some message) (MessageRow other failed full session message old)
message_says other failed full session (messages.ClusterConfig named) old =
    let waiting = Some (messages.ClusterConfig named) in either waiting _ _ _ (silent waiting _ _ refl) (losing waiting old)
message_says other failed full session (messages.Index folder batch) old =
    let waiting = Some (messages.Index folder batch) in
    either waiting _ _ _ (in_folder waiting folder old _ (λ replica. viewing waiting other folder _ replica old)) (losing waiting old)
message_says other failed full session (messages.IndexUpdate folder batch) old =
    let waiting = Some (messages.IndexUpdate folder batch) in
    either waiting _ _ _
    (in_folder waiting folder old _ (λ replica. either waiting _ _ _ (losing waiting old) (viewing waiting other folder _ replica old)))
    (losing waiting old)
message_says other failed full session (messages.Request request) old =
    let waiting = Some (messages.Request request) in
    either waiting _ _ _ (in_folder waiting request.folder old _ (λ replica. refusing waiting old _ _ _ (λ new answer made. inr (tt, made.2.1)))) (losing waiting old)
message_says other failed full session (messages.Response response) old = asked (Some (messages.Response response)) other session response _ old

waiting_says : (other : Device) (failed : Option ℕ) (full : Bool) (session : Session) (waiting : Option Message) (old : Peer) → Saying waiting (WaitingRow other failed full session waiting old)
waiting_says other failed full session None old = silent None _ _ refl
waiting_says other failed full session (Some message) old = message_says other failed full session message old

deliver_says : (other : Device) (failed : Option ℕ) (sight : Sight) (old : Peer) → Saying sight.waiting (DeliverRow other failed sight old)
deliver_says other failed sight old =
    refusing sight.waiting old _ _ _
    (refusing sight.waiting old _ _ _ (λ new answer made. waiting_says other failed sight.full made.0 sight.waiting old new answer made.2))

-- ---- what it tells

sent_or_not : (put : Option (Message × Message)) → (failure_sent put ≡ None) ⊎ (failure_sent put ≡ Some 1)
sent_or_not None = inl refl
sent_or_not (Some (messages.ClusterConfig named, again)) = inl refl
sent_or_not (Some (messages.Index folder batch, again)) = inl refl
sent_or_not (Some (messages.IndexUpdate folder batch, again)) = inl refl
sent_or_not (Some (messages.Request request, again)) = inl refl
sent_or_not (Some (messages.Response response, again)) = cases response.code
  where
    cases : (code : Code) → (failure_sent (Some (messages.Response (record response { code = code }), again)) ≡ None) ⊎ (failure_sent (Some (messages.Response (record response { code = code }), again)) ≡ Some 1)
    cases NoError = inl refl
    cases Generic = inr refl
    cases NoSuchFile = inl refl
    cases InvalidFile = inl refl

module _ (requested : Type 0) (trace : Trace) (waiting : Option Message) (acted : Acted)
    (tells : trace.failed ≡ failure_sent trace.put) (put : trace.put ≡ twice acted.deed.sends) (asks : IsRequest waiting → requested) where
  -- nothing was sent
  unsent : acted.deed.sends ≡ None → trace.failed ≡ None
  unsent none = tells ∙ ap failure_sent (put ∙ ap twice none)

  told_read : (moved : Moved) → Says waiting acted (Done moved) → TellsRead requested trace.failed (Ok moved)
  told_read Changed says =
      ⊎_elim
      (λ none. inl (unsent none))
      (λ request. ⊎_elim (λ none. inl (tells ∙ none)) (λ one. inr (tells ∙ one, asks request.0)) (sent_or_not trace.put))
      says
  told_read Unchanged says = ⊎_elim unsent (λ request. let other = request.1 in absurd (cc)) says
  told_read Dropped says = ⊎_elim unsent (λ request. let other = request.1 in absurd (cc)) says
  told_read LinkLost says = ⊎_elim unsent (λ request. let other = request.1 in absurd (cc)) says

-- what the device tells of a delivery
pub tells_read : (requested : Type 0) (old new : Lent) →
    ((one : Device) → Joins old one → IsRequest (sight_of (end_of old.member.number one) old.link.link).waiting → requested) →
    (result : Result Moved PeerError) → GivesThere (StepOver (λ one. DeliverRow one new.member.trace.failed) NamesNone old) new result → TellsReadThere new.member.trace result →
    TellsRead requested new.member.trace.failed (answer_of result)
tells_read requested old new asks (Ok moved) given tells =
    ⊎_elim
    (λ wanting. let memory = wanting.1 in absurd (cc))
    (λ rest.
    ⊎_elim
    (λ refused. let other = refused.1.1 in absurd (cc))
    (λ made.
    let acts = made.1.2 in
    told_read requested new.member.trace (sight_of (end_of old.member.number made.1.0) old.link.link).waiting acts.acted tells acts.told (asks made.1.0 made.1.1) moved
    (deliver_says made.1.0 new.member.trace.failed _ _ acts.acted (Done moved) acts.made))
    rest)
    given
tells_read requested old new asks (Err (errors.Refused refusal)) given tells = tells
tells_read requested old new asks (Err errors.Stale) given tells = absurd given
tells_read requested old new asks (Err errors.Memory) given tells = tells
