-- A delivery loses the link exactly where the message that it takes breaks the protocol.
use Rattle.std.proofs.Common.{◌≡◌, ◌≢◌, ◌⊎◌, ℕ, Bool, true, false, List, Option, Some, None, IsSome, refl, sym, ap, subst, ◌∙◌, inl, inr, ⊎_elim}
use Rattle.std.proofs.lemmas.Option.{same_Some}
use Rattle.std.specs.FinMap.{get}
use Rattle.bep_record.specs.declared.entry.Entry.{Entry}
use Rattle.bep_index.specs.Listing.{Listing}
use Rattle.bep_index.specs.View.{IsOld}
use Rattle.bep_model.specs.Tables.{Device, Folder}
use Rattle.bep_machine.specs.declared.message.Message.{Message}
use Rattle.bep_machine.specs.declared.message.Message.TheVariants as messages
use Rattle.bep_machine.specs.declared.message.Request.{Request}
use Rattle.bep_machine.specs.declared.message.Response.{Response}
use Rattle.bep_machine.specs.declared.moved.Moved.TheVariants.{Changed, LinkLost}
use Rattle.bep_machine.specs.declared.refusal.Refusal.{Refusal}
use Rattle.bep_machine.specs.Answer.{Answer, Done, Refused, Row, becomes}
use Rattle.bep_machine.specs.Replica.{Replica, view_of}
use Rattle.bep_machine.specs.Link.{Sight}
use Rattle.bep_machine.specs.Peer.{Session, Peer, Acted}
use Rattle.bep_machine.specs.Exchange.{LosingRow, IsNamed, ViewRow, RequestRow, AskedRow, asked_for, MessageRow, WaitingRow, DeliverRow}
use Rattle.bep_machine.specs.LinkEffects.{Breaks, IsBreach, BreachAloneLosesLink}
use Rattle.bep_machine.proofs.TakingFacts.{not_named}

-- the link is lost where something holds, and else it isn't
abbrev Fate : Type 0 → Row Acted
Fate Breach new answer =
    (Breach × (answer ≡ Done LinkLost) × (new.deed.loses ≡ true)) ⊎ ((¬ Breach) × (answer ≢ Done LinkLost) × (new.deed.loses ≡ false))

changed_differs : Done Changed ≢ Done LinkLost
changed_differs same = absurd (cc)

refused_differs : (refusal : Refusal) → Refused refusal ≢ Done LinkLost
refused_differs refusal same = absurd (cc)

module _ {Breach : Type 0} where
  lost : (old : Peer) (new : Acted) (answer : Answer) → Breach → LosingRow old new answer → Fate Breach new answer
  lost old new answer breach made = inl (breach, made.1, ap (λ (a : Acted). a.deed.loses) made.0)

  kept : (left : Acted) (given : Answer) (new : Acted) (answer : Answer) → given ≢ Done LinkLost → left.deed.loses ≡ false → ¬ Breach → becomes left given new answer → Fate Breach new answer
  kept left given new answer differs keeps none made = inr (none, λ same. differs (sym made.1 ∙ same), ap (λ (a : Acted). a.deed.loses) made.0 ∙ keeps)

  refused : (left : Acted) (refusal : Refusal) (new : Acted) (answer : Answer) → left.deed.loses ≡ false → ¬ Breach → becomes left (Refused refusal) new answer → Fate Breach new answer
  refused left refusal new answer keeps none made = kept left (Refused refusal) new answer (refused_differs refusal) keeps none made

  changed : (left : Acted) (new : Acted) (answer : Answer) → left.deed.loses ≡ false → ¬ Breach → becomes left (Done Changed) new answer → Fate Breach new answer
  changed left new answer keeps none made = kept left (Done Changed) new answer changed_differs keeps none made

  viewed : (other : Device) (folder : Folder) (view : Listing) (replica : Replica) (old : Peer) (new : Acted) (answer : Answer) → ¬ Breach → ViewRow other folder view replica old new answer → Fate Breach new answer
  viewed other folder view replica old new answer none (inl (full, made)) = refused _ _ new answer refl none made
  viewed other folder view replica old new answer none (inr (room, made)) = changed _ new answer refl none made

  answered : (request : Request) (failed : Option ℕ) (full : Bool) (replica : Replica) (old : Peer) (new : Acted) (answer : Answer) → ¬ Breach → RequestRow request failed full replica old new answer → Fate Breach new answer
  answered request failed full replica old new answer none (inl (is_full, made)) = refused _ _ new answer refl none made
  answered request failed full replica old new answer none (inr (room, (response, answers, made))) = changed _ new answer refl none made

  asked : (other : Device) (session : Session) (response : Response) (found : Option Request) (old : Peer) (new : Acted) (answer : Answer) → ¬ Breach → AskedRow other session response found old new answer → Fate Breach new answer
  asked other session response None old new answer none made = changed _ new answer refl none made
  asked other session response (Some request) old new answer none (inl (right, made)) = changed _ new answer refl none made
  asked other session response (Some request) old new answer none (inr (wrong, made)) = changed _ new answer refl none made

-- a folder that isn't named has no cursor
no_cursor : {A : Type 0} (found : Option A) → ¬ IsSome found → found ≡ None
no_cursor None none = refl
no_cursor (Some cursor) none = absurd (none refl)

-- an update of a folder that is named, which begins above what is known
goes_on : (other : Device) (session : Session) (old : Peer) (folder : Folder) (batch : List Entry) (replica : Replica) → IsNamed session folder → get old.replicas folder ≡ Some replica → ¬ IsOld (view_of replica other).sequence batch →
    ¬ Breaks other session old (messages.IndexUpdate folder batch)
goes_on other session old folder batch replica named there fresh (inl none) = not_named session folder folder refl none named
goes_on other session old folder batch replica named there fresh (inr (found, is, is_old)) =
    fresh (subst (λ (r : Replica). IsOld (view_of r other).sequence batch) (same_Some found replica (sym is ∙ there)) is_old)

message_fate : (other : Device) (failed : Option ℕ) (full : Bool) (session : Session) (message : Message) (old : Peer) (new : Acted) (answer : Answer) →
    MessageRow other failed full session message old new answer → Fate (Breaks other session old message) new answer
message_fate other failed full session (messages.ClusterConfig named) old new answer (inl (good, made)) = changed _ new answer refl (λ bad. bad good) made
message_fate other failed full session (messages.ClusterConfig named) old new answer (inr (bad, made)) = lost old new answer bad made
message_fate other failed full session (messages.Index folder batch) old new answer (inl (named, (replica, there, made))) =
    viewed other folder _ replica old new answer (λ none. not_named session folder folder refl none named) made
message_fate other failed full session (messages.Index folder batch) old new answer (inr (unnamed, made)) =
    lost old new answer (no_cursor (get session.cursors folder) unnamed) made
message_fate other failed full session (messages.IndexUpdate folder batch) old new answer (inl (named, (replica, there, inl (is_old, made)))) =
    lost old new answer (inr (replica, there, is_old)) made
message_fate other failed full session (messages.IndexUpdate folder batch) old new answer (inl (named, (replica, there, inr (fresh, made)))) =
    viewed other folder _ replica old new answer (goes_on other session old folder batch replica named there fresh) made
message_fate other failed full session (messages.IndexUpdate folder batch) old new answer (inr (unnamed, made)) =
    lost old new answer (inl (no_cursor (get session.cursors folder) unnamed)) made
message_fate other failed full session (messages.Request request) old new answer (inl (named, (replica, there, made))) =
    answered request failed full replica old new answer (λ none. not_named session request.folder request.folder refl none named) made
message_fate other failed full session (messages.Request request) old new answer (inr (unnamed, made)) =
    lost old new answer (no_cursor (get session.cursors request.folder) unnamed) made
message_fate other failed full session (messages.Response response) old new answer made =
    asked other session response (asked_for response.id session.outstanding) old new answer (λ never. never) made

is_up : (up : Bool) → ¬ (up ≡ false) → up ≡ true
is_up true not = refl
is_up false not = absurd (not refl)

deliver_fate : (other : Device) (failed : Option ℕ) (sight : Sight) (old : Peer) (new : Acted) (answer : Answer) → DeliverRow other failed sight old new answer → Fate (IsBreach other sight old) new answer
deliver_fate other failed sight old new answer (inl (down, made)) =
    refused _ _ new answer refl (λ breach. let never : true ≡ false = sym breach.taking.up ∙ down in absurd (cc)) made
deliver_fate other failed sight old new answer (inr (up, inl (none, made))) = refused _ _ new answer refl (λ breach. none (breach.session, breach.taking.current)) made
deliver_fate other failed sight old new answer (inr (up, inr (has, (session, current, made)))) = by_waiting sight.waiting refl made
  where
    its_session : (breach : IsBreach other sight old) → breach.session ≡ session
    its_session breach = same_Some breach.session session (sym breach.taking.current.0 ∙ current.0)

    by_waiting : (waiting : Option Message) → sight.waiting ≡ waiting → WaitingRow other failed sight.full session waiting old new answer → Fate (IsBreach other sight old) new answer
    by_waiting None is made = refused _ _ new answer refl (λ breach. let e = sym is ∙ breach.taking.waiting in absurd (cc)) made
    by_waiting (Some message) is made =
        ⊎_elim
        (λ breaks. inl (record { session = session; message = message; taking = record { up = is_up sight.up up; current = current; waiting = is }; breaks = breaks.0 }, breaks.1, breaks.2))
        (λ keeps. inr (
          λ breach. keeps.0
              (subst (λ (m : Message). Breaks other session old m) (same_Some breach.message message (sym breach.taking.waiting ∙ is))
              (subst (λ (s : Session). Breaks other s old breach.message) (its_session breach) breach.breaks)),
          keeps.1,
          keeps.2,
        ))
        (message_fate other failed sight.full session message old new answer made)

pub breach_alone_loses_link : BreachAloneLosesLink
breach_alone_loses_link other failed sight old new answer made =
    ⊎_elim
    (λ breach. ((λ _. breach.0, λ _. breach.1), (λ _. breach.2, λ _. breach.1)))
    (λ keeps. (
      (λ same. absurd (keeps.1 same), λ breach. absurd (keeps.0 breach)),
      (λ same. absurd (keeps.1 same), λ loses. let never : true ≡ false = sym loses ∙ keeps.2 in absurd (cc)),
    ))
    (deliver_fate other failed sight old new answer made)
