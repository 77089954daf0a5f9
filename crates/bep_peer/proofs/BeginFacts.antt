-- Beginning a session is the step of the table on the device and the link.
use Rattle.std.proofs.Common.{◌≡◌, true, List, [], ◌∷◌, ◌++◌, Option, Some, None, IfSome, is_some, Err, refl, sym, ap, subst, ◌∙◌, inr, if◌then◌else◌}
use Rattle.std.specs.List.{flat_map}
use Rattle.std.specs.FinMap.{nat_cmp-IsAntisymmetric, entries, get, insert}
use Rattle.std.specs.Cmp.{nat_cmp_total}
use Rattle.std.specs.Cmp.Lexicographic.{nat_list_cmp_total}
use Rattle.std.proofs.lemmas.Map.Lookups.{exact_bytes}
use Rattle.bep_facts.specs.Maps.{insert-twice, insert-what_is_there, remove-insert}
use Rattle.bep_model.specs.Tables.{Device, Folder}
use Rattle.bep_machine.specs.declared.message.Announced.{Announced}
use Rattle.bep_machine.specs.declared.message.Message.{Message}
use Rattle.bep_machine.specs.declared.message.Message.TheVariants as messages
use Rattle.bep_machine.specs.declared.moved.Moved.TheVariants.{Changed}
use Rattle.bep_machine.specs.Answer.{Done, Row}
use Rattle.bep_machine.specs.Exchange.{BeginRow}
use Rattle.bep_machine.specs.Link.{Sight, end_of, sight_of, after_deed, sending}
use Rattle.bep_machine.specs.Peer.{Acted, Peer, Session, announced, is_shared_with, config_for, idle, new_session, with_session}
use Rattle.bep_machine.specs.Replica.{ByDevice}
use Rattle.bep_links.specs.Link.{LinkBetween}
use Rattle.bep_folder.specs.Held.{Held}
use Rattle.bep_peer.specs.declared.error.PeerError.{PeerError}
use Rattle.bep_peer.specs.declared.error.PeerError.TheVariants.{Refused, Stale, Memory}
use Rattle.bep_peer.specs.inner.ClusterConfig.{said_of, config_of}
use Rattle.bep_peer.specs.inner.InSession.{MayRefuse}
use Rattle.bep_peer.specs.Lent.{Lent, Joins, NamesNone, StepOver, IsOpenTo, with_before}
use Rattle.bep_peer.specs.Member.{Member, tables_of, untold}
use Rattle.bep_peer.specs.PeerError.{Gives}
use Rattle.bep_peer.proofs.Mapped.{changed, entries-changed}
use Rattle.bep_peer.proofs.StepFacts.{begun_with, refused_as, sent_as}

-- ---- what is said

said_each : (other : Device) (es : List (Folder × Held)) →
    flat_map (said_of other) es ≡ flat_map (λ one. if is_shared_with other one.1 then announced other one.0 one.1 ∷ [] else []) (changed (λ (held : Held). held.tables) es)
said_each other [] = refl
said_each other (e ∷ es) = ap (λ more. said_of other e ++ more) (said_each other es)

pub config_same : (other : Device) (member : Member) → config_of other member.folders ≡ config_for other (tables_of member)
config_same other member =
    said_each other (entries member.folders)
    ∙ ap (flat_map (λ one. if is_shared_with other one.1 then announced other one.0 one.1 ∷ [] else []))
    (sym (entries-changed nat_list_cmp_total exact_bytes (λ (held : Held). held.tables) member.folders))

-- ---- the step's ends

may_refuse : (row : Row Acted) (peer : Peer) (error : PeerError) → Gives row (idle peer) (Err error) → MayRefuse row peer error
may_refuse row peer (Refused refusal) refuses = refuses
may_refuse row peer Stale never = never
may_refuse row peer Memory wanting = tt

-- a refusal of the row, before anything was done
pub refused_first : (old : Lent) (begun : Member) (other : Device) (error : PeerError) → begun ≡ untold old.member → Joins (begun_with old begun) other →
    Gives (BeginRow other (sight_of (end_of begun.number other) old.link.link) (tables_of begun)) (idle (tables_of begun)) (Err error) →
    Gives (StepOver BeginRow NamesNone old) (begun_with old begun) (Err error)
refused_first old begun other error same joins refuses =
    refused_as BeginRow NamesNone old begun other error same joins tt (may_refuse (BeginRow other (sight_of (end_of begun.number other) old.link.link) (tables_of begun)) (tables_of begun) error refuses)

pub opened_as : (old : Lent) (begun new : Member) (link : LinkBetween) (other : Device) → begun ≡ untold old.member → Joins (begun_with old begun) other →
    IsOpenTo other (sight_of (end_of begun.number other) old.link.link) (tables_of begun) →
    new ≡ record begun { sessions = insert begun.sessions other (new_session old.link.link.epoch); trace = record begun.trace { put = Some (messages.ClusterConfig (config_of other begun.folders), messages.ClusterConfig (config_of other begun.folders)) } } →
    link ≡ record old.link { link = after_deed (end_of begun.number other) (sending (messages.ClusterConfig (config_of other begun.folders))) old.link.link } →
    StepOver BeginRow NamesNone old (record { member = new; link = link }) (Done Changed)
opened_as old begun new link other same joins room member carried =
    sent_as BeginRow NamesNone old begun (record begun { trace = record begun.trace { put = Some (message, message) } }) new link other session message same joins tt
    (subst (λ (named : List Announced). BeginRow other sight (tables_of begun) (record { peer = with_session (tables_of begun) other session; deed = sending (messages.ClusterConfig named) }) (Done Changed)) (sym (config_same other begun))
    (inr (λ down. let up = room.up in absurd (cc), inr (room.fresh, inr (λ full. let full_not = room.room in absurd (cc), (refl, refl))))))
    refl carried member
  where
    sight : Sight
    sight = sight_of (end_of begun.number other) old.link.link

    session : Session
    session = new_session old.link.link.epoch

    message : Message
    message = messages.ClusterConfig (config_of other begun.folders)

-- ---- sessions

-- what is there
pub from_some : {A : Type 0} (found : Option A) (P : A → Type 0) → IfSome found P → is_some found ≡ true → (one : A) × P one
from_some None P holds has = absurd (cc)
from_some (Some one) P holds has = (one, holds)

-- a session that was given goes again
pub given_back : (sessions : ByDevice Session) (other : Device) (session : Session) → with_before (insert sessions other session) other (get sessions other) ≡ sessions
given_back sessions other session = cases (get sessions other) refl where
  cases : (before : Option Session) → get sessions other ≡ before → with_before (insert sessions other session) other before ≡ sessions
  cases None none = remove-insert nat_cmp_total nat_cmp-IsAntisymmetric sessions other session none
  cases (Some held) has =
      insert-twice nat_cmp_total nat_cmp-IsAntisymmetric sessions other session held
      ∙ insert-what_is_there nat_cmp_total nat_cmp-IsAntisymmetric sessions other held has
