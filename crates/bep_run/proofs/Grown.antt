-- A log grows by an event of the step that was made, or not at all; and the device, or the link, stays the same one.
use Rattle.std.proofs.Common.{◌≡◌, ℕ, Bool, true, false, length, Option, Some, None, option_map, if◌then◌else◌, Result, Ok, Err, inl, inr, refl, sym, ap, subst, ◌∙◌}
use Rattle.std.specs.Prelude.{IfSome}
use Rattle.std.specs.List.{slice_get}
use Rattle.atomic_table.specs.Seated.{TableId}
use Rattle.bep_fit.specs.declared.object.Object.{Object}
use Rattle.bep_fit.specs.declared.object.Object.TheVariants as objects
use Rattle.bep_fit.specs.declared.stamped.Stamped.{Stamped}
use Rattle.bep_history.specs.Chair.{MayTell}
use Rattle.bep_history.specs.Parts.{is_about}
use Rattle.bep_history.specs.View.{told, with_ticket}
use Rattle.bep_history.specs.declared.view.View.{View}
use Rattle.bep_model.specs.Tables.{Folder, FileName}
use Rattle.bep_machine.specs.declared.logged.Logged.{Logged}
use Rattle.bep_machine.specs.declared.step.Step.{Step}
use Rattle.bep_machine.specs.Halves.{OfDevice, OfLink, guards_of}
use Rattle.bep_machine.specs.Link.{Link}
use Rattle.bep_machine.specs.Answer.{Row}
use Rattle.bep_machine.specs.declared.moved.Moved.{Moved}
use Rattle.bep_peer.specs.declared.error.PeerError.{PeerError}
use Rattle.bep_peer.specs.declared.error.PeerError.TheVariants as peer
use Rattle.bep_peer.specs.declared.trace.Trace.{Trace}
use Rattle.bep_peer.specs.Member.{Member, tables_of}
use Rattle.bep_peer.specs.network.Network.{Network}
use Rattle.bep_log.specs.Acts.{ActsIn, Does, LogsIn}
use Rattle.bep_log.specs.Event.{event_of, event_told}
use Rattle.bep_log.specs.History.{last_with, with_events}
use Rattle.bep_log.specs.LoggedLink.{LinkLogs, LoggedBetween}
use Rattle.bep_log.specs.LoggedPeer.{LoggedMember}
use Rattle.bep_log.specs.declared.error.LogError.{LogError}
use Rattle.bep_log.specs.declared.error.LogError.TheVariants.{TicketOld, LogFull, Refused, Stale, Memory}
use Rattle.bep_run.specs.Based.{began_as}
use Rattle.bep_run.specs.inner.Kept.{IsKeptDevice, IsKeptLink, IsSeated}
use Rattle.bep_run.specs.Origin.{devices_in, links_in}
use Rattle.bep_run.specs.Quiet.{quiet_log}
use Rattle.bep_run.proofs.Begins.{stands_as, still_stands}
use Rattle.bep_run.proofs.Seating.{IsOf, grown_by, may_tell, of_device, of_link, seated_about, told_of}
use Rattle.bep_run.proofs.Tickets.{last_same, last_stays}

-- ---- a device

-- what became of a device that made the step, or didn't
pub record Grows (step : Step) (ticket : ℕ) (old new : LoggedMember) : Type 0 where
  pub event : Option Logged
  pub log : new.log ≡ with_events old.log ticket event
  pub last : new.last ≡ last_with old.last ticket event
  pub of : IfSome event (λ one. one.step ≡ step)
  pub round : new.round ≡ old.round
  pub base : new.base ≡ old.base
  pub number : new.now.number ≡ old.now.number

grows_same : (step : Step) (ticket : ℕ) (old new : LoggedMember) → new ≡ old → Grows step ticket old new
grows_same step ticket old new same = record {
  event = None;
  log = ap (λ (m : LoggedMember). m.log) same;
  last = ap (λ (m : LoggedMember). m.last) same;
  of = tt;
  round = ap (λ (m : LoggedMember). m.round) same;
  base = ap (λ (m : LoggedMember). m.base) same;
  number = ap (λ (m : LoggedMember). m.now.number) same;
}

of_step : (step : Step) (answer : Result Moved PeerError) (trace : Trace) → IfSome (event_told step answer trace) (λ one. one.step ≡ step)
of_step step (Ok moved) trace = refl
of_step step (Err error) trace = cases trace.copied
  where
    cases : (b : Bool) → IfSome (if b then Some (event_of step trace.failed true None) else None) (λ one. one.step ≡ step)
    cases true = refl
    cases false = tt

grows_acting : (name : Option FileName) (folder : Folder) (does : Does) (step : Step) (ticket : ℕ) (old new : LoggedMember) (answer : Result Moved PeerError) → ActsIn name folder does step ticket old new answer → Grows step ticket old new
grows_acting name folder does step ticket old new answer acts = record {
  event = event_told step answer acts.left.trace;
  log = acts.told.log;
  last = acts.told.last;
  of = of_step step answer acts.left.trace;
  round = acts.told.round;
  base = acts.told.base;
  number = ap (λ (m : Member). m.number) acts.now ∙ acts.rest.number;
}

pub grows_in : (name : Option FileName) (folder : Folder) (does : Does) (step : Step) (ticket : ℕ) (old new : LoggedMember) (answer : Result Moved LogError) → LogsIn name folder does step ticket old new answer → Grows step ticket old new
grows_in name folder does step ticket old new (Ok moved) logs = grows_acting name folder does step ticket old new (Ok moved) logs.1
grows_in name folder does step ticket old new (Err TicketOld) logs = grows_same step ticket old new logs.1
grows_in name folder does step ticket old new (Err LogFull) logs = grows_same step ticket old new logs.2
grows_in name folder does step ticket old new (Err (Refused refusal)) logs = grows_acting name folder does step ticket old new (Err (peer.Refused refusal)) logs.1
grows_in name folder does step ticket old new (Err Stale) logs = grows_acting name folder does step ticket old new (Err peer.Stale) logs.1
grows_in name folder does step ticket old new (Err Memory) (may, inl same) = grows_same step ticket old new same
grows_in name folder does step ticket old new (Err Memory) (may, inr acts) = grows_acting name folder does step ticket old new (Err peer.Memory) acts

about_of : (object : Object) (ticket : ℕ) (event : Option Logged) → IfSome event (λ one. IsOf object (record { ticket = ticket; event = one })) → IfSome event (λ one. is_about object (record { ticket = ticket; event = one }) ≡ true)
about_of object ticket None of = tt
about_of object ticket (Some event) of = of.about

of_own : (device ticket : ℕ) (step : Step) (event : Option Logged) → guards_of step ≡ OfDevice device → IfSome event (λ one. one.step ≡ step) → IfSome event (λ one. IsOf (objects.Device device) (record { ticket = ticket; event = one }))
of_own device ticket step None alone of = tt
of_own device ticket step (Some event) alone of = of_device device (record { ticket = ticket; event = event }) (ap guards_of of ∙ alone)

module _ (start : Option Network) (table : Option TableId) (place : ℕ) (old new : LoggedMember) (seat drawn : Option View) (kept : IsKeptDevice start table place old seat) (step : Step) (ticket : ℕ) (grows : Grows step ticket old new) (alone : guards_of step ≡ OfDevice old.now.number) (drew : drawn ≡ option_map (with_ticket ticket) seat) (said : Option Stamped) (got : said ≡ slice_get new.log (length old.log)) where
  says : said ≡ told_of ticket grows.event
  says = got ∙ grown_by old.log new.log ticket grows.event grows.log

  touches : IfSome grows.event (λ one. IsOf (objects.Device old.now.number) (record { ticket = ticket; event = one }))
  touches = of_own old.now.number ticket step grows.event alone grows.of

  about : IfSome grows.event (λ one. is_about (objects.Device old.now.number) (record { ticket = ticket; event = one }) ≡ true)
  about = about_of (objects.Device old.now.number) ticket grows.event touches

  pub device_may_tell : MayTell drawn said
  device_may_tell = may_tell table (objects.Device old.now.number) old.round old.log ticket grows.event seat drawn said kept.seated drew says touches

  pub device_kept : (now : Option View) → now ≡ option_map (told said) drawn → quiet_log start new.log ≡ true → IsKeptDevice start table place new now
  device_kept now is quiet = record {
    began = stands_as (devices_in start) place (began_as new) (began_as old) (λ i. (grows.number i, ap tables_of grows.base i)) kept.began;
    quiet = quiet;
    seated =
        subst (λ n. IsSeated table (objects.Device n) new.round new.log now) (sym grows.number)
        (seated_about table (objects.Device old.now.number) old.round new.round old.log new.log ticket grows.event seat drawn now said kept.seated drew says about is grows.log grows.round);
    last = last_stays table old.log new.log old.last new.last ticket grows.event grows.log grows.last kept.last;
  }

-- ---- a device whose stores were read

pub device_read : (start : Option Network) (table : Option TableId) (place : ℕ) (old new : LoggedMember) (seat : Option View) →
    new.log ≡ old.log → new.last ≡ old.last → new.round ≡ old.round → new.now.number ≡ old.now.number → tables_of new.base ≡ tables_of old.base → IsKeptDevice start table place old seat → IsKeptDevice start table place new seat
device_read start table place old new seat log last round number tables kept = record {
  began = still_stands (devices_in start) place old new number tables kept.began;
  quiet = subst (λ l. quiet_log start l ≡ true) (sym log) kept.quiet;
  seated =
      subst (λ n. IsSeated table (objects.Device n) new.round new.log seat) (sym number)
      (subst (λ r. IsSeated table (objects.Device old.now.number) r new.log seat) (sym round)
      (subst (λ l. IsSeated table (objects.Device old.now.number) old.round l seat) (sym log) kept.seated));
  last = last_same table old.log new.log old.last new.last log last kept.last;
}

-- ---- a link

-- what became of a link that made the step, or didn't
pub record LinkGrows (step : Step) (ticket : ℕ) (old new : LoggedBetween) : Type 0 where
  pub event : Option Logged
  pub log : new.log ≡ with_events old.log ticket event
  pub last : new.last ≡ last_with old.last ticket event
  pub of : IfSome event (λ one. one.step ≡ step)
  pub round : new.round ≡ old.round
  pub base : new.base ≡ old.base
  pub ends : new.now.ends ≡ old.now.ends

link_same : (step : Step) (ticket : ℕ) (old new : LoggedBetween) → new ≡ old → LinkGrows step ticket old new
link_same step ticket old new same = record {
  event = None;
  log = ap (λ (l : LoggedBetween). l.log) same;
  last = ap (λ (l : LoggedBetween). l.last) same;
  of = tt;
  round = ap (λ (l : LoggedBetween). l.round) same;
  base = ap (λ (l : LoggedBetween). l.base) same;
  ends = ap (λ (l : LoggedBetween). l.now.ends) same;
}

pub link_grows : (step : Step) (row : Link → Row Link) (ticket : ℕ) (old new : LoggedBetween) (answer : Result (Unit {0}) LogError) → LinkLogs step row ticket old new answer → LinkGrows step ticket old new
link_grows step row ticket old new (Ok done) logs = record {
  event = Some (event_of step None false None);
  log = logs.3.log;
  last = logs.3.last;
  of = refl;
  round = logs.3.round;
  base = logs.3.base;
  ends = logs.2;
}
link_grows step row ticket old new (Err TicketOld) logs = link_same step ticket old new logs.1
link_grows step row ticket old new (Err LogFull) logs = link_same step ticket old new logs.2
link_grows step row ticket old new (Err (Refused refusal)) logs = link_same step ticket old new logs.2
link_grows step row ticket old new (Err Stale) logs = elim logs [ ]
link_grows step row ticket old new (Err Memory) logs = link_same step ticket old new logs.1

of_ends : (lower upper ticket : ℕ) (step : Step) (event : Option Logged) → guards_of step ≡ OfLink lower upper → IfSome event (λ one. one.step ≡ step) → IfSome event (λ one. IsOf (objects.Link lower upper) (record { ticket = ticket; event = one }))
of_ends lower upper ticket step None alone of = tt
of_ends lower upper ticket step (Some event) alone of = of_link lower upper (record { ticket = ticket; event = event }) (ap guards_of of ∙ alone)

module _ (start : Option Network) (table : Option TableId) (place : ℕ) (old new : LoggedBetween) (seat drawn : Option View) (kept : IsKeptLink start table place old seat) (step : Step) (ticket : ℕ) (grows : LinkGrows step ticket old new) (alone : guards_of step ≡ OfLink old.now.ends.0 old.now.ends.1) (drew : drawn ≡ option_map (with_ticket ticket) seat) (said : Option Stamped) (got : said ≡ slice_get new.log (length old.log)) where
  link_says : said ≡ told_of ticket grows.event
  link_says = got ∙ grown_by old.log new.log ticket grows.event grows.log

  link_touches : IfSome grows.event (λ one. IsOf (objects.Link old.now.ends.0 old.now.ends.1) (record { ticket = ticket; event = one }))
  link_touches = of_ends old.now.ends.0 old.now.ends.1 ticket step grows.event alone grows.of

  link_about : IfSome grows.event (λ one. is_about (objects.Link old.now.ends.0 old.now.ends.1) (record { ticket = ticket; event = one }) ≡ true)
  link_about = about_of (objects.Link old.now.ends.0 old.now.ends.1) ticket grows.event link_touches

  pub link_may_tell : MayTell drawn said
  link_may_tell = may_tell table (objects.Link old.now.ends.0 old.now.ends.1) old.round old.log ticket grows.event seat drawn said kept.seated drew link_says link_touches

  pub link_kept : (now : Option View) → now ≡ option_map (told said) drawn → quiet_log start new.log ≡ true → IsKeptLink start table place new now
  link_kept now is quiet = record {
    began = stands_as (links_in start) place new.base old.base grows.base kept.began;
    quiet = quiet;
    seated =
        subst (λ (e : ℕ × ℕ). IsSeated table (objects.Link e.0 e.1) new.round new.log now) (sym grows.ends)
        (seated_about table (objects.Link old.now.ends.0 old.now.ends.1) old.round new.round old.log new.log ticket grows.event seat drawn now said kept.seated drew link_says link_about is grows.log grows.round);
    last = last_stays table old.log new.log old.last new.last ticket grows.event grows.log grows.last kept.last;
  }
