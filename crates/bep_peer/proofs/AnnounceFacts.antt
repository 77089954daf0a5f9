-- The ends of announcing records, and the sessions once they were sent.
use Rattle.std.proofs.Common.{◌≡◌, ℕ, Bool, true, false, List, Option, Some, None, IsSome, Contains, Result, Ok, Err, IfOk, IfErr, refl, sym, ap, subst, ◌∙◌, inl, inr, ⊎_elim}
use Rattle.std.specs.Cmp.{nat_cmp_total}
use Rattle.std.specs.Cmp.Lexicographic.{nat_list_cmp_total}
use Rattle.std.specs.FinMap.{nat_cmp-IsAntisymmetric, get, insert}
use Rattle.std.proofs.lemmas.Map.Lookups.{exact_bytes}
use Rattle.bep_facts.specs.Maps.{found_after_insert}
use Rattle.bep_map.specs.NameMap.{ByName}
use Rattle.bep_record.specs.declared.entry.Entry.{Entry}
use Rattle.bep_index.specs.declared.limits.TheConstants.{MAX_RECORDS}
use Rattle.bep_index.specs.declared.send.Plan.{Plan}
use Rattle.bep_index.specs.declared.send.Plan.TheVariants.{Above}
use Rattle.bep_index.specs.After.{IsAfter}
use Rattle.bep_index.specs.Batch.{last_sequence}
use Rattle.bep_model.specs.Tables.{Device, Folder}
use Rattle.bep_machine.specs.declared.message.Message.{Message}
use Rattle.bep_machine.specs.declared.moved.Moved.TheVariants.{Changed}
use Rattle.bep_machine.specs.declared.refusal.Refusal.TheVariants.{LinkFull, NotBegun, NothingToDo}
use Rattle.bep_machine.specs.Answer.{Done, Refused as Refuses}
use Rattle.bep_machine.specs.Exchange.{AnnounceRow, CursorRow, IsAllSent, IsNamed, ReplicaRow, SendingRow, index_message, sent_up_to}
use Rattle.bep_machine.specs.Link.{Sight, sending}
use Rattle.bep_machine.specs.Peer.{Session, Peer, idle, with_session}
use Rattle.bep_machine.specs.Replica.{ByDevice}
use Rattle.bep_folder.specs.Held.{Held}
use Rattle.bep_peer.specs.declared.error.PeerError.{PeerError}
use Rattle.bep_peer.specs.inner.InSession.{IsNextAnnounced, IsOver, MayRefuse, with_sent}
use Rattle.bep_peer.specs.Member.{Member, NameShared, tables_of}
use Rattle.bep_peer.proofs.SharingFacts.{tables_held}
use Rattle.bep_peer.proofs.StepFacts.{in_session, refused_in_session}

-- ---- what is sent

module _ (member : Member) (folder : Folder) (held : Held) (other : Device) (full : Bool) (cursor : Plan) (batch : List Entry) (has : get member.folders folder ≡ Some held) (after : IsAfter held.tables.index.records (sent_up_to cursor) MAX_RECORDS batch) where
  pub all_sent : IsAllSent cursor batch → (session : Session) →
      ReplicaRow folder (tables_of member) (SendingRow other folder full session cursor (tables_of member)) (idle (tables_of member)) (Refuses NothingToDo)
  all_sent sent session = (held.tables, tables_held member.folders folder held has, (batch, after, inl (sent, (refl, refl))))

  pub no_room : (¬ IsAllSent cursor batch) → full ≡ true → (session : Session) →
      ReplicaRow folder (tables_of member) (SendingRow other folder full session cursor (tables_of member)) (idle (tables_of member)) (Refuses LinkFull)
  no_room left filled session = (held.tables, tables_held member.folders folder held has, (batch, after, inr (left, inl (filled, (refl, refl)))))

  pub records_sent : (¬ IsAllSent cursor batch) → full ≡ false → (sequence : ℕ) (message : Message) → sequence ≡ last_sequence (sent_up_to cursor) batch → message ≡ index_message cursor folder batch → (session : Session) →
      ReplicaRow folder (tables_of member) (SendingRow other folder full session cursor (tables_of member)) (record { peer = with_session (tables_of member) other (with_sent session folder sequence); deed = sending message }) (Done Changed)
  records_sent left room sequence message last brings session = (
    held.tables,
    tables_held member.folders folder held has,
    (
      batch,
      after,
      inr (
        left,
        inr (
          (λ filled. absurd (cc)),
          (
            ap (λ (n : ℕ). record { peer = with_session (tables_of member) other (with_sent session folder n); deed = sending message }) last
                ∙ ap (λ (m : Message). record { peer = with_session (tables_of member) other (with_sent session folder (last_sequence (sent_up_to cursor) batch)); deed = sending m }) brings,
            refl,
          ),
        ),
      ),
    ),
  )

-- ---- the folders that a session names

-- a session's new cursor is one of a folder that was named
sent_names : (session : Session) (folder : Folder) (sequence : ℕ) (one : Folder) → IsNamed session folder → IsNamed (with_sent session folder sequence) one → IsNamed session one
sent_names session folder sequence one named is = cases (get (with_sent session folder sequence).cursors one) refl is where
  cases : (found : Option Plan) → get (with_sent session folder sequence).cursors one ≡ found → IsSome found → IsNamed session one
  cases None none has = absurd (cc)
  cases (Some plan) at has =
      ⊎_elim
      (λ here. subst (λ (f : Folder). IsNamed session f) (sym here.0) named)
      (λ apart. subst (λ (found : Option Plan). IsSome found) (sym apart.1) refl)
      (found_after_insert nat_list_cmp_total exact_bytes session.cursors folder (Above sequence) one plan at)

sent_shared : (folders : ByName Held) (sessions : ByDevice Session) (to : Device) (session : Session) (folder : Folder) (sequence : ℕ) → NameShared folders sessions → get sessions to ≡ Some session → IsNamed session folder → NameShared folders (insert sessions to (with_sent session folder sequence))
sent_shared folders sessions to session folder sequence shared has named other found one is is_named =
    ⊎_elim
    (λ here.
    let before = shared to session one has (sent_names session folder sequence one named (subst (λ (s : Session). IsNamed s one) here.1 is_named)) in
    (before.0, before.1, subst (λ (d : Device). Contains before.0.tables.others d) (sym here.0) before.2))
    (λ apart. shared other found one apart.1 is_named)
    (found_after_insert nat_cmp_total nat_cmp-IsAntisymmetric sessions to (with_sent session folder sequence) other found is)

pub still_shared : (folders : ByName Held) (sessions new : ByDevice Session) (to : Device) (session : Session) (folder : Folder) (sequence : ℕ) → NameShared folders sessions → get sessions to ≡ Some session → IsNamed session folder → new ≡ insert sessions to (with_sent session folder sequence) → NameShared folders new
still_shared folders sessions new to session folder sequence shared has named is = subst (NameShared folders) (sym is) (sent_shared folders sessions to session folder sequence shared has named)

-- ---- in the session

module _ (other : Device) (folder : Folder) (sight : Sight) (peer : Peer) (session : Session) (over : IsOver other sight peer session) where
  pub unnamed : get session.cursors folder ≡ None → AnnounceRow other folder sight peer (idle peer) (Refuses NotBegun)
  unnamed none = in_session other sight peer (λ s. CursorRow other folder sight.full s (get s.cursors folder) peer) session _ _ over
      (subst (λ (cursor : Option Plan). CursorRow other folder sight.full session cursor peer (idle peer) (Refuses NotBegun)) (sym none) (refl, refl))

  pub next_is : (cursor : Plan) → get session.cursors folder ≡ Some cursor → (result : Result (ℕ × Message) PeerError) → IfOk result (λ next. sight.full ≡ false) →
      IfOk result (λ next. (session : Session) → ReplicaRow folder peer (SendingRow other folder sight.full session cursor peer) (record { peer = with_session peer other (with_sent session folder next.0); deed = sending next.1 }) (Done Changed)) →
      IfOk result (λ next. IsNextAnnounced other folder sight peer next.0 next.1)
  next_is cursor named (Ok next) room made = record {
    session = session;
    over = over;
    named = subst (λ (found : Option Plan). IsSome found) (sym named) refl;
    room = room;
    made = in_session other sight peer (λ s. CursorRow other folder sight.full s (get s.cursors folder) peer) session _ _ over
        (subst (λ (cursor : Option Plan). CursorRow other folder sight.full session cursor peer (record { peer = with_session peer other (with_sent session folder next.0); deed = sending next.1 }) (Done Changed)) (sym named) (made session));
  }
  next_is cursor named (Err error) room made = tt

  pub next_refused : (cursor : Plan) → get session.cursors folder ≡ Some cursor → (result : Result (ℕ × Message) PeerError) →
      IfErr result (λ e. (session : Session) → MayRefuse (ReplicaRow folder peer (SendingRow other folder sight.full session cursor peer)) peer e) →
      IfErr result (λ e. MayRefuse (AnnounceRow other folder sight peer) peer e)
  next_refused cursor named (Ok next) made = tt
  next_refused cursor named (Err error) made = refused_in_session other sight peer (λ s. CursorRow other folder sight.full s (get s.cursors folder) peer) session error over
      (subst (λ (cursor : Option Plan). MayRefuse (CursorRow other folder sight.full session cursor peer) peer error) (sym named) (made session))
