-- Taking what came over a link is the step of the table on the device and the link, and tells what it did.
use Rattle.std.proofs.Common.{◌≡◌, ℕ, Option, Result, Ok, Err, inl, refl, sym, ap, subst, ◌∙◌}
use Rattle.std.specs.FinMap.{get}
use Rattle.bep_map.specs.NameMap.{ByName}
use Rattle.bep_folder.specs.Held.{Held}
use Rattle.bep_model.specs.Tables.{Device}
use Rattle.bep_machine.specs.declared.message.Message.{Message}
use Rattle.bep_machine.specs.declared.refusal.Refusal.TheVariants.{NotShared}
use Rattle.bep_machine.specs.declared.moved.Moved.{Moved}
use Rattle.bep_machine.specs.Answer.{Answer, Row, Done, Refused as Refuses}
use Rattle.bep_machine.specs.Exchange.{DeliverRow, SessionRow, WaitingRow}
use Rattle.bep_machine.specs.Link.{End, Link, Sight, end_of, sight_of, after_deed}
use Rattle.bep_machine.specs.Peer.{Session, Peer, Acted, idle}
use Rattle.bep_links.specs.Link.{LinkBetween}
use Rattle.bep_peer.specs.declared.taking.effect.Effect.{Effect}
use Rattle.bep_peer.specs.declared.taking.effect.Effect.TheVariants.{Taken, Answered, Lost}
use Rattle.bep_peer.specs.declared.error.PeerError.{PeerError}
use Rattle.bep_peer.specs.declared.error.PeerError.TheVariants.{Refused, Stale, Memory}
use Rattle.bep_peer.specs.declared.trace.Trace.{Trace}
use Rattle.bep_peer.specs.Delivered.{TellsRead, failure_sent}
use Rattle.bep_peer.specs.inner.Effect.{TellsAnswer, Takes, deed_of, failure_answered, moved_of}
use Rattle.bep_peer.specs.inner.InSession.{IsOver, NothingDone}
use Rattle.bep_peer.specs.Lent.{Lent, Joins, NamesNone, StepOver, twice}
use Rattle.bep_peer.specs.Member.{Member, HasFailed, Remains, nothing_told, tables_of, untold}
use Rattle.bep_peer.specs.PeerError.{Gives}
use Rattle.bep_peer.proofs.StepFacts.{begun_with, in_session, made_as, nothing_carried, refused_as, refused_as_not_shared, session_refused}

-- ---- the ends of the call

-- the row of a delivery in which this call of the store failed
abbrev pub delivering : Option ℕ → Device → Sight → Peer → Row Acted
delivering failed other = DeliverRow other failed

module _ (old : Lent) (begun : Member) (same : begun ≡ untold old.member) where
  pub not_at_hand : (failed : Option ℕ) → ((other : Device) → ¬ Joins (begun_with old begun) other) →
      StepOver (delivering failed) NamesNone old (begun_with old begun) (Refuses NotShared)
  not_at_hand failed none = refused_as_not_shared (delivering failed) NamesNone old begun same (λ there. none there.0 there.1)

  pub not_begun : (failed : Option ℕ) (other : Device) (error : PeerError) → Joins (begun_with old begun) other →
      Gives (SessionRow other (sight_of (end_of begun.number other) old.link.link) (tables_of begun) NothingDone) (idle (tables_of begun)) (Err error) →
      Gives (StepOver (delivering failed) NamesNone old) (begun_with old begun) (Err error)
  not_begun failed other error joins row =
      let sight = sight_of (end_of begun.number other) old.link.link in
      refused_as (delivering failed) NamesNone old begun other error same joins tt
      (session_refused other sight (tables_of begun) (λ session. WaitingRow other failed sight.full session sight.waiting (tables_of begun)) error row)

  module _ (other : Device) (joins : Joins (begun_with old begun) other) (session : Session) (over : IsOver other (sight_of (end_of begun.number other) old.link.link) (tables_of begun) session) (end : End) (at : end ≡ end_of begun.number other) (taken : Member) where
    -- the row of the message that waits at the end
    abbrev WaitingAt : End → Row Acted
    WaitingAt there = WaitingRow other taken.trace.failed (sight_of there old.link.link).full session (sight_of there old.link.link).waiting (tables_of begun)

    -- what was done with it
    abbrev TakesFrom : Result Effect PeerError → Type 0
    TakesFrom result = Takes (WaitingAt end) begun taken result

    acts : (acted : Acted) (member : Member) (link : LinkBetween) (answer : Answer) → WaitingAt end acted answer → tables_of member ≡ acted.peer →
        link ≡ record old.link { link = after_deed end acted.deed old.link.link } → member.trace.put ≡ twice acted.deed.sends →
        StepOver (delivering taken.trace.failed) NamesNone old (record { member = member; link = link }) answer
    acts acted member link answer made tables carried told =
        let sight = sight_of (end_of begun.number other) old.link.link in
        made_as (delivering taken.trace.failed) NamesNone old begun other (record { member = member; link = link }) acted answer same joins tt
        (in_session other sight (tables_of begun) (λ session. WaitingRow other taken.trace.failed sight.full session sight.waiting (tables_of begun)) session acted answer over
        (subst (λ (there : End). WaitingAt there acted answer) at made))
        tables (carried ∙ ap (λ (there : End). record old.link { link = after_deed there acted.deed old.link.link }) at) told

    -- the message is refused, or memory is wanting
    pub refused_first : (error : PeerError) → TakesFrom (Err error) → tables_of taken ≡ tables_of begun → taken.trace ≡ nothing_told →
        Gives (StepOver (delivering taken.trace.failed) NamesNone old) (record { member = taken; link = old.link }) (Err error)
    refused_first (Refused refusal) takes tables told =
        acts (idle (tables_of taken)) taken old.link (Refuses refusal) takes refl
        (ap (λ (link : Link). record old.link { link = link }) (nothing_carried end old.link.link)) (ap (λ (trace : Trace). trace.put) told)
    refused_first Stale takes tables told = absurd takes
    refused_first Memory takes tables told = inl (record { tables = tables ∙ ap tables_of same; link = refl; silent = ap (λ (trace : Trace). trace.put) told }, refl)

    -- the message is taken
    pub delivered : (effect : Effect) (moved : Moved) (put : Option (Message × Message)) (link : LinkBetween) → TakesFrom (Ok effect) →
        moved ≡ moved_of effect → put ≡ twice (deed_of effect).sends → link ≡ record old.link { link = after_deed end (deed_of effect) old.link.link } →
        Gives (StepOver (delivering taken.trace.failed) NamesNone old) (record { member = record taken { trace = record taken.trace { put = put } }; link = link }) (Ok moved)
    delivered effect moved put link takes moves told carried =
        subst (λ (m : Moved). StepOver (delivering taken.trace.failed) NamesNone old (record { member = record taken { trace = record taken.trace { put = put } }; link = link }) (Done m)) (sym moves)
        (acts (record { peer = tables_of taken; deed = deed_of effect }) (record taken { trace = record taken.trace { put = put } }) link (Done (moved_of effect)) takes refl carried told)

-- ---- what is told of a read

sent_as_answered : (effect : Effect) → failure_sent (twice (deed_of effect).sends) ≡ failure_answered effect
sent_as_answered Taken = refl
sent_as_answered (Answered response) = refl
sent_as_answered Lost = refl

-- the answer was sent
pub answer_told : (trace : Trace) (effect : Effect) (put : Option (Message × Message)) (moved : Moved) → TellsAnswer trace (Ok effect) → put ≡ twice (deed_of effect).sends →
    TellsRead (record trace { put = put }) (Ok moved)
answer_told trace effect put moved told is = ap (λ (t : Trace). t.failed) told ∙ sym (ap failure_sent is ∙ sent_as_answered effect)

-- ---- what stays

failed_like : (old old' new new' : Member) → old'.folders ≡ old.folders → new'.folders ≡ new.folders → HasFailed old new → HasFailed old' new'
failed_like old old' new new' olds news f = record {
  folder = f.folder;
  was = f.was;
  now = f.now;
  before = ap (λ (folders : ByName Held). get folders f.folder) olds ∙ f.before;
  after = ap (λ (folders : ByName Held). get folders f.folder) news ∙ f.after;
  rose = f.rose;
}

-- a device of which nothing was told yet
pub remains_untold : (old begun taken : Member) → begun ≡ untold old → Remains begun taken → Remains old taken
remains_untold old begun taken same remains =
    let r : Remains (untold old) taken = subst (λ (b : Member). Remains b taken) same remains in record {
      number = r.number;
      linked = r.linked;
      failed = (λ some. failed_like (untold old) old taken taken refl refl (r.failed.0 some), λ f. r.failed.1 (failed_like old (untold old) taken taken refl refl f));
    }

-- and one that tells what was sent
pub remains_told : (old begun taken told : Member) (put : Option (Message × Message)) → begun ≡ untold old → Remains begun taken → told ≡ record taken { trace = record taken.trace { put = put } } → Remains old told
remains_told old begun taken told put same remains is =
    let r : Remains old taken = remains_untold old begun taken same remains in
    let now : Member = record taken { trace = record taken.trace { put = put } } in
    subst (λ (m : Member). Remains old m) (sym is)
    (record {
      number = r.number;
      linked = r.linked;
      failed = (λ some. failed_like old old taken now refl refl (r.failed.0 some), λ f. r.failed.1 (failed_like old old now taken refl refl f));
    })
