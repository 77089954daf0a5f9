-- An action over a link leaves its event in both logs, or in neither; and both stay the same device and link.
use Rattle.std.proofs.Common.{◌≡◌, ◌++◌, ℕ, Bool, true, List, [], ◌∷◌, length, Option, Some, None, option_map, Result, Ok, Err, inl, inr, sym, ap, subst, ◌∙◌}
use Rattle.std.specs.Prelude.{IfSome}
use Rattle.std.specs.List.{slice_get}
use Rattle.atomic_table.specs.Seated.{TableId}
use Rattle.bep_fit.specs.declared.object.Object.{Object}
use Rattle.bep_fit.specs.declared.object.Object.TheVariants as objects
use Rattle.bep_fit.specs.declared.stamped.Stamped.{Stamped}
use Rattle.bep_history.specs.Chair.{MayTellBoth}
use Rattle.bep_history.specs.Parts.{is_about}
use Rattle.bep_history.specs.View.{told, with_ticket}
use Rattle.bep_history.specs.declared.view.View.{View}
use Rattle.bep_links.specs.Link.{LinkBetween}
use Rattle.bep_machine.specs.declared.logged.Logged.{Logged}
use Rattle.bep_machine.specs.declared.message.Message.{Message}
use Rattle.bep_machine.specs.declared.moved.Moved.{Moved}
use Rattle.bep_machine.specs.Halves.{OfDeviceAndLink, guards_of, touches_device, touches_link}
use Rattle.bep_model.specs.Tables.{Device}
use Rattle.bep_peer.specs.declared.error.PeerError.{PeerError}
use Rattle.bep_peer.specs.declared.error.PeerError.TheVariants as peer
use Rattle.bep_peer.specs.Member.{Member, tables_of}
use Rattle.bep_peer.specs.network.Network.{Network}
use Rattle.bep_log.specs.ActsOver.{ActsOver, AreSame, LogsOver, event_for, event_over}
use Rattle.bep_log.specs.History.{last_with, with_events}
use Rattle.bep_log.specs.LoggedLink.{IsLinkReplayed, LoggedBetween, TouchLink}
use Rattle.bep_log.specs.LoggedPeer.{IsReplayed, LoggedMember, TouchDevice}
use Rattle.bep_log.specs.Over.{Doing, other_end, ready_for}
use Rattle.bep_log.specs.declared.error.LogError.{LogError}
use Rattle.bep_log.specs.declared.error.LogError.TheVariants.{TicketOld, LogFull, Refused, Stale, Memory}
use Rattle.bep_log.specs.declared.ready.Ready.{Ready}
use Rattle.bep_run.specs.Based.{began_as}
use Rattle.bep_run.specs.inner.Kept.{IsKeptDevice, IsKeptLink, IsSeated}
use Rattle.bep_run.specs.Origin.{devices_in, links_in}
use Rattle.bep_run.specs.Quiet.{quiet_log}
use Rattle.bep_run.proofs.Begins.{stands_as}
use Rattle.bep_run.proofs.Tickets.{last_stays}
use Rattle.bep_run.proofs.Seating.{IsOfBoth, grown_by, may_tell_both, of_both, seated_about, seated_beside, told_of}

-- the event is of a step of a device over a link
abbrev pub IsOver : Logged → Type 0
IsOver one = (device : Device) × (other : Device) × (guards_of one.step ≡ OfDeviceAndLink device other)

abbrev pub IsOverDoing : Doing → Type 0
IsOverDoing action = (device other : Device) → guards_of (action.step device other) ≡ OfDeviceAndLink device other

pub record BothGrow (ticket : ℕ) (old new : LoggedMember) (link after : LoggedBetween) : Type 0 where
  pub event : Option Logged
  pub log : new.log ≡ with_events old.log ticket event
  pub link_log : after.log ≡ with_events link.log ticket event
  pub last : new.last ≡ last_with old.last ticket event
  pub link_last : after.last ≡ last_with link.last ticket event
  pub over : IfSome event IsOver
  pub round : new.round ≡ old.round
  pub link_round : after.round ≡ link.round
  pub base : new.base ≡ old.base
  pub link_base : after.base ≡ link.base
  pub number : new.now.number ≡ old.now.number

both_same : (ticket : ℕ) (old new : LoggedMember) (link after : LoggedBetween) → AreSame old new link after → BothGrow ticket old new link after
both_same ticket old new link after same = record {
  event = None;
  log = ap (λ (m : LoggedMember). m.log) same.device;
  link_log = ap (λ (l : LoggedBetween). l.log) same.link;
  last = ap (λ (m : LoggedMember). m.last) same.device;
  link_last = ap (λ (l : LoggedBetween). l.last) same.link;
  over = tt;
  round = ap (λ (m : LoggedMember). m.round) same.device;
  link_round = ap (λ (l : LoggedBetween). l.round) same.link;
  base = ap (λ (m : LoggedMember). m.base) same.device;
  link_base = ap (λ (l : LoggedBetween). l.base) same.link;
  number = ap (λ (m : LoggedMember). m.now.number) same.device;
}

is_over : (ready : Ready) (answer : Result Moved PeerError) (failed : Option ℕ) (sent : Option Message) (up : Bool) → ((device : Device) × (other : Device) × (guards_of ready.step ≡ OfDeviceAndLink device other)) → IfSome (event_for ready answer failed sent up) IsOver
is_over ready (Ok moved) failed sent up is = is
is_over ready (Err error) failed sent up is = tt

both_acting : (action : Doing) (ticket : ℕ) (old new : LoggedMember) (link after : LoggedBetween) (answer : Result Moved PeerError) → ActsOver action ticket old new link after answer → IsOverDoing action → BothGrow ticket old new link after
both_acting action ticket old new link after answer acts kind = record {
  event = event_over action old.now link.now after.now acts.left.trace answer;
  log = acts.told.log;
  link_log = acts.link_told.log;
  last = acts.told.last;
  link_last = acts.link_told.last;
  over = is_over (ready_for action old.now.number link.now) answer acts.left.trace.failed (option_map (λ (put : Message × Message). put.0) acts.left.trace.put) after.now.link.up (old.now.number, other_end link.now.ends old.now.number, kind old.now.number (other_end link.now.ends old.now.number));
  round = acts.told.round;
  link_round = acts.link_told.round;
  base = acts.told.base;
  link_base = acts.link_told.base;
  number = ap (λ (m : Member). m.number) acts.now ∙ acts.rest.number;
}

pub both_grow : (action : Doing) (ticket : ℕ) (old new : LoggedMember) (link after : LoggedBetween) (answer : Result Moved LogError) → LogsOver action ticket old new link after answer → IsOverDoing action → BothGrow ticket old new link after
both_grow action ticket old new link after (Ok moved) logs kind = both_acting action ticket old new link after (Ok moved) logs.1 kind
both_grow action ticket old new link after (Err TicketOld) logs kind = both_same ticket old new link after logs.1
both_grow action ticket old new link after (Err LogFull) logs kind = both_same ticket old new link after logs.3
both_grow action ticket old new link after (Err (Refused refusal)) logs kind = both_acting action ticket old new link after (Err (peer.Refused refusal)) logs.1 kind
both_grow action ticket old new link after (Err Stale) logs kind = elim logs [ ]
both_grow action ticket old new link after (Err Memory) (may, inl same) kind = both_same ticket old new link after same
both_grow action ticket old new link after (Err Memory) (may, inr acts) kind = both_acting action ticket old new link after (Err peer.Memory) acts kind

-- ---- the last event of a log touches its object

last_device : (number : Device) (log : List Stamped) (one : Stamped) → TouchDevice number (log ++ one ∷ []) → touches_device (guards_of one.event.step) number ≡ true
last_device number [] one touch = touch.0
last_device number (first ∷ more) one touch = last_device number more one touch.1

last_link : (ends : Device × Device) (log : List Stamped) (one : Stamped) → TouchLink ends (log ++ one ∷ []) → touches_link (guards_of one.event.step) ends.0 ends.1 ≡ true
last_link ends [] one touch = touch.0
last_link ends (first ∷ more) one touch = last_link ends more one touch.1

module _ (ticket : ℕ) (old new : LoggedMember) (link after : LoggedBetween) (was : IsLinkReplayed link.now link.base link.log) (is : IsReplayed new.now new.base new.log) (link_is : IsLinkReplayed after.now after.base after.log) where
  ends : BothGrow ticket old new link after → after.now.ends ≡ link.now.ends
  ends grow = sym link_is.ends ∙ (ap (λ (l : LinkBetween). l.ends) grow.link_base ∙ was.ends)

  of_event : (grow : BothGrow ticket old new link after) (event : Option Logged) → new.log ≡ with_events old.log ticket event → after.log ≡ with_events link.log ticket event → IfSome event IsOver →
      IfSome event (λ one. IsOfBoth (objects.Device old.now.number) (objects.Link link.now.ends.0 link.now.ends.1) (record { ticket = ticket; event = one }))
  of_event grow None log link_log over = tt
  of_event grow (Some event) log link_log over =
      let one : Stamped = record { ticket = ticket; event = event } in
      of_both old.now.number link.now.ends.0 link.now.ends.1 over.0 over.1 one over.2
      (last_device old.now.number old.log one (subst (λ n. TouchDevice n (old.log ++ one ∷ [])) grow.number (subst (TouchDevice new.now.number) log is.touch)))
      (last_link link.now.ends link.log one (subst (λ e. TouchLink e (link.log ++ one ∷ [])) (ends grow) (subst (TouchLink after.now.ends) link_log link_is.touch)))

about_device : (device link : Object) (ticket : ℕ) (event : Option Logged) → IfSome event (λ one. IsOfBoth device link (record { ticket = ticket; event = one })) → IfSome event (λ one. is_about device (record { ticket = ticket; event = one }) ≡ true)
about_device device link ticket None of = tt
about_device device link ticket (Some event) of = of.about

about_link : (device link : Object) (ticket : ℕ) (event : Option Logged) → IfSome event (λ one. IsOfBoth device link (record { ticket = ticket; event = one })) → IfSome event (λ one. is_about link (record { ticket = ticket; event = one }) ≡ true)
about_link device link ticket None of = tt
about_link device link ticket (Some event) of = of.about_link

-- ---- what both keep

module _ (start : Option Network) (table : Option TableId) (place its_place : ℕ) (old new : LoggedMember) (link after : LoggedBetween) (seat drawn its : Option View)
    (kept : IsKeptDevice start table place old seat) (its_kept : IsKeptLink start table its_place link its) (ticket : ℕ) (grow : BothGrow ticket old new link after)
    (was : IsLinkReplayed link.now link.base link.log) (is : IsReplayed new.now new.base new.log) (link_is : IsLinkReplayed after.now after.base after.log)
    (drew : drawn ≡ option_map (with_ticket ticket) seat) (said : Option Stamped) (got : said ≡ slice_get new.log (length old.log)) where
  says : said ≡ told_of ticket grow.event
  says = got ∙ grown_by old.log new.log ticket grow.event grow.log

  of : IfSome grow.event (λ one. IsOfBoth (objects.Device old.now.number) (objects.Link link.now.ends.0 link.now.ends.1) (record { ticket = ticket; event = one }))
  of = of_event ticket old new link after was is link_is grow grow.event grow.log grow.link_log grow.over

  pub both_may_tell : MayTellBoth drawn its said
  both_may_tell =
      may_tell_both table (objects.Device old.now.number) (objects.Link link.now.ends.0 link.now.ends.1) old.round link.round old.log link.log ticket grow.event seat drawn its said kept.seated drew its_kept.seated says of

  pub device_kept_over : (now : Option View) → now ≡ option_map (told said) drawn → quiet_log start new.log ≡ true → IsKeptDevice start table place new now
  device_kept_over now known quiet = record {
    began = stands_as (devices_in start) place (began_as new) (began_as old) (λ i. (grow.number i, ap tables_of grow.base i)) kept.began;
    quiet = quiet;
    seated =
        subst (λ n. IsSeated table (objects.Device n) new.round new.log now) (sym grow.number)
        (seated_about table (objects.Device old.now.number) old.round new.round old.log new.log ticket grow.event seat drawn now said kept.seated drew says
        (about_device (objects.Device old.now.number) (objects.Link link.now.ends.0 link.now.ends.1) ticket grow.event of) known grow.log grow.round);
    last = last_stays table old.log new.log old.last new.last ticket grow.event grow.log grow.last kept.last;
  }

  pub link_kept_over : (now : Option View) → now ≡ option_map (told said) its → quiet_log start after.log ≡ true → IsKeptLink start table its_place after now
  link_kept_over now known quiet = record {
    began = stands_as (links_in start) its_place after.base link.base grow.link_base its_kept.began;
    quiet = quiet;
    seated =
        subst (λ (e : ℕ × ℕ). IsSeated table (objects.Link e.0 e.1) after.round after.log now) (sym (ends ticket old new link after was is link_is grow))
        (seated_beside table (objects.Link link.now.ends.0 link.now.ends.1) link.round after.round link.log after.log ticket grow.event its now said its_kept.seated says
        (about_link (objects.Device old.now.number) (objects.Link link.now.ends.0 link.now.ends.1) ticket grow.event of) known grow.link_log grow.link_round);
    last = last_stays table link.log after.log link.last after.last ticket grow.event grow.link_log grow.link_last its_kept.last;
  }
