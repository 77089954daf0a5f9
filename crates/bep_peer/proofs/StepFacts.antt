-- The ends of a device's action over a link, as a step of the table: refused, want of memory, or done.
use Rattle.std.proofs.Common.{◌≡◌, ◌<◌, Option, Some, Err, refl, sym, ap, subst, ◌∙◌, inl, inr, arith}
use Rattle.std.specs.FinMap.{insert}
use Rattle.bep_model.specs.Tables.{Device}
use Rattle.bep_machine.specs.declared.message.Message.{Message}
use Rattle.bep_machine.specs.declared.moved.Moved.TheVariants.{Changed}
use Rattle.bep_machine.specs.declared.refusal.Refusal.TheVariants.{NotShared}
use Rattle.bep_machine.specs.Answer.{Answer, Row, Done, Refused as Refuses}
use Rattle.bep_machine.specs.Exchange.{SessionRow}
use Rattle.bep_machine.specs.Link.{End, Lower, Upper, Link, Sight, end_of, sight_of, after_deed, nothing_done, sending}
use Rattle.bep_machine.specs.Peer.{Session, Peer, Acted, idle, with_session}
use Rattle.bep_machine.specs.Replica.{ByDevice}
use Rattle.bep_folder.specs.Held.{Held}
use Rattle.bep_links.specs.Link.{LinkBetween}
use Rattle.bep_peer.specs.declared.error.PeerError.{PeerError}
use Rattle.bep_peer.specs.declared.error.PeerError.TheVariants.{Refused, Stale, Memory}
use Rattle.bep_peer.specs.inner.InSession.{IsOver, MayRefuse, NothingDone}
use Rattle.bep_peer.specs.Lent.{Lent, Joins, IsAtHand, OnlySessions, StepOver, twice, untold_over}
use Rattle.bep_peer.specs.Member.{Member, Remains, nothing_told, tables_of, untold}
use Rattle.bep_peer.specs.PeerError.{Gives}

-- the device and the link, once an action began
abbrev pub begun_with : Lent → Member → Lent
begun_with old begun = record { member = begun; link = old.link }

pub nothing_carried : (end : End) (link : Link) → link ≡ after_deed end nothing_done link
nothing_carried Lower link = refl
nothing_carried Upper link = refl

-- ---- what stays

-- where the sessions alone changed, no store failed once more
remains_of : (old new : Member) → OnlySessions old new → Remains old new
remains_of old new only =
    subst (λ (member : Member). Remains old member) (sym only)
    (record {
      number = refl;
      linked = refl;
      failed = (
        λ some. absurd (cc),
        λ failed. absurd (
            let found : Some failed.was ≡ Some failed.now = sym failed.before ∙ failed.after in
            let one : failed.was ≡ failed.now = cc in
            let rose = subst (λ (h : Held). h.faults < failed.now.faults) one failed.rose in omega arith
            ),
      );
    })

-- an action began, and nothing else was done
pub begun_remains : (old begun : Member) → begun ≡ untold old → Remains old begun
begun_remains old begun same = remains_of old begun (subst (λ (member : Member). OnlySessions old member) (sym same) refl)

-- a message was sent, and the sessions became these
module _ (old begun sent new : Member) (put : Option (Message × Message)) (sessions : ByDevice Session) (same : begun ≡ untold old) (told : sent ≡ record begun { trace = record begun.trace { put = put } }) (is : new ≡ record sent { sessions = sessions }) where
  pub sent_only : OnlySessions old new
  sent_only =
      let whole : new ≡ record old { sessions = sessions; trace = record nothing_told { put = put } } =
      is ∙ ap (λ (member : Member). record member { sessions = sessions }) (told ∙ ap (λ (member : Member). record member { trace = record member.trace { put = put } }) same) in
      subst (λ (member : Member). OnlySessions old member) (sym whole) refl

  pub sent_remains : Remains old new
  sent_remains = remains_of old new sent_only

-- ---- the ends

module _ (row : Device → Sight → Peer → Row Acted) (shares : Device → Peer → Type 0) where
  -- something that the step names isn't at hand
  pub refused_as_not_shared : (old : Lent) (begun : Member) → begun ≡ untold old.member → (¬ IsAtHand shares (begun_with old begun)) →
      StepOver row shares old (begun_with old begun) (Refuses NotShared)
  refused_as_not_shared old begun same none =
      subst (λ (member : Member). (¬ IsAtHand shares (begun_with old member)) → StepOver row shares old (begun_with old member) (Refuses NotShared)) (sym same)
      (λ none. inr (inl (λ there. none (there.0, record { ends = there.1.ends; linked = there.1.linked }, there.2), (refl, refl)))) none

  -- a refusal of the row, or want of memory, before anything was done
  refused_at : (old : Lent) (other : Device) (error : PeerError) → Joins old other → shares other (tables_of old.member) →
      MayRefuse (row other (sight_of (end_of old.member.number other) old.link.link) (tables_of old.member)) (tables_of old.member) error →
      Gives (StepOver row shares old) (untold_over old) (Err error)
  refused_at old other (Refused refusal) joins shared made = inr (inr (
    λ apart. apart (other, joins, shared),
    (
      other,
      joins,
      record {
        acted = idle (tables_of old.member);
        made = made;
        tables = refl;
        carried = ap (λ (link : Link). record old.link { link = link }) (nothing_carried (end_of old.member.number other) old.link.link);
        told = refl;
      },
    ),
  ))
  refused_at old other Stale joins shared made = absurd made
  refused_at old other Memory joins shared made = inl (record { tables = refl; link = refl; silent = refl }, refl)

  pub refused_as : (old : Lent) (begun : Member) (other : Device) (error : PeerError) → begun ≡ untold old.member → Joins (begun_with old begun) other →
      shares other (tables_of begun) →
      MayRefuse (row other (sight_of (end_of begun.number other) old.link.link) (tables_of begun)) (tables_of begun) error →
      Gives (StepOver row shares old) (begun_with old begun) (Err error)
  refused_as old begun other error same joins shared made =
      subst
      (λ (member : Member). Joins (begun_with old member) other → shares other (tables_of member) → MayRefuse (row other (sight_of (end_of member.number other) old.link.link) (tables_of member)) (tables_of member) error → Gives (StepOver row shares old) (begun_with old member) (Err error))
      (sym same)
      (λ joins shared made. refused_at old other error (record { ends = joins.ends; linked = joins.linked }) shared made) joins shared made

  -- the row was made
  pub made_as : (old : Lent) (begun : Member) (other : Device) (new : Lent) (acted : Acted) (answer : Answer) → begun ≡ untold old.member → Joins (begun_with old begun) other →
      shares other (tables_of begun) → row other (sight_of (end_of begun.number other) old.link.link) (tables_of begun) acted answer →
      tables_of new.member ≡ acted.peer → new.link ≡ record old.link { link = after_deed (end_of begun.number other) acted.deed old.link.link } →
      new.member.trace.put ≡ twice acted.deed.sends → StepOver row shares old new answer
  made_as old begun other new acted answer same joins shared made tables carried told =
      subst
      (λ (member : Member). Joins (begun_with old member) other → shares other (tables_of member) → row other (sight_of (end_of member.number other) old.link.link) (tables_of member) acted answer →
      new.link ≡ record old.link { link = after_deed (end_of member.number other) acted.deed old.link.link } → StepOver row shares old new answer)
      (sym same)
      (λ joins shared made carried.
      let lent : Joins old other = record { ends = joins.ends; linked = joins.linked } in
      inr (inr (
        λ apart. apart (other, lent, shared),
        (other, lent, record { acted = acted; made = made; tables = tables; carried = carried; told = told }),
      )))
      joins shared made carried

  -- the other device was sent a message, and its session became this one
  pub sent_as : (old : Lent) (begun sent new : Member) (link : LinkBetween) (other : Device) (session : Session) (message : Message) → begun ≡ untold old.member → Joins (begun_with old begun) other →
      shares other (tables_of begun) →
      row other (sight_of (end_of begun.number other) old.link.link) (tables_of begun) (record { peer = with_session (tables_of begun) other session; deed = sending message }) (Done Changed) →
      sent ≡ record begun { trace = record begun.trace { put = Some (message, message) } } →
      link ≡ record old.link { link = after_deed (end_of begun.number other) (sending message) old.link.link } →
      new ≡ record sent { sessions = insert sent.sessions other session } → StepOver row shares old (record { member = new; link = link }) (Done Changed)
  sent_as old begun sent new link other session message same joins shared made sent_is carried new_is =
      let is = new_is ∙ ap (λ (member : Member). record member { sessions = insert member.sessions other session }) sent_is in
      made_as old begun other (record { member = new; link = link }) (record { peer = with_session (tables_of begun) other session; deed = sending message }) (Done Changed) same joins shared made
      (ap tables_of is) carried (ap (λ (member : Member). member.trace.put) is)

-- ---- in a session

-- what a session refuses is refused whatever would be done in it
session_refused_with : (other : Device) (sight : Sight) (old : Peer) (rest : Session → Row Acted) (new : Acted) (answer : Answer) →
    SessionRow other sight old NothingDone new answer → SessionRow other sight old rest new answer
session_refused_with other sight old rest new answer (inl down) = inl down
session_refused_with other sight old rest new answer (inr (up, inl none)) = inr (up, inl none)
session_refused_with other sight old rest new answer (inr (up, inr (begun, there))) = absurd there.2

pub session_refused : (other : Device) (sight : Sight) (old : Peer) (rest : Session → Row Acted) (error : PeerError) →
    Gives (SessionRow other sight old NothingDone) (idle old) (Err error) → MayRefuse (SessionRow other sight old rest) old error
session_refused other sight old rest (Refused refusal) row = session_refused_with other sight old rest _ _ row
session_refused other sight old rest Stale row = absurd row
session_refused other sight old rest Memory row = tt

-- what is done in a session
pub in_session : (other : Device) (sight : Sight) (old : Peer) (rest : Session → Row Acted) (session : Session) (new : Acted) (answer : Answer) → IsOver other sight old session → rest session new answer → SessionRow other sight old rest new answer
in_session other sight old rest session new answer over made =
    inr ((λ down. let up = over.up in absurd (cc)), inr ((λ none. none (session, over.current)), (session, over.current, made)))

pub refused_in_session : (other : Device) (sight : Sight) (old : Peer) (rest : Session → Row Acted) (session : Session) (error : PeerError) → IsOver other sight old session → MayRefuse (rest session) old error → MayRefuse (SessionRow other sight old rest) old error
refused_in_session other sight old rest session (Refused refusal) over made = in_session other sight old rest session _ _ over made
refused_in_session other sight old rest session Stale over made = made
refused_in_session other sight old rest session Memory over made = tt
