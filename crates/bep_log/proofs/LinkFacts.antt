-- The event that tells of a link by itself makes of it what became of it.
use Rattle.std.proofs.Common.{◌≡◌, ◌⊎◌, ◌==◌, ◌&&◌, ◌||◌, ℕ, Bool, true, false, List, None, inl, inr, refl, sym, ap, subst, ◌∙◌, eq-eqb}
use Rattle.bep_model.specs.Tables.{Device}
use Rattle.bep_machine.specs.declared.logged.Logged.{Logged}
use Rattle.bep_machine.specs.declared.moved.Moved.{Moved}
use Rattle.bep_machine.specs.declared.step.Step.{Step}
use Rattle.bep_machine.specs.declared.step.Step.TheVariants.{Connect, Lose, Restart, Reset}
use Rattle.bep_machine.specs.Answer.{Done, Row}
use Rattle.bep_machine.specs.HalfLaws.{IsToldOfLink, RestartIsTold, ResetIsTold}
use Rattle.bep_machine.specs.Halves.{Guards, LinkStep, OfDeviceAndLinks, PeerStep, guards_of, touches_device, touches_link}
use Rattle.bep_machine.specs.Link.{Link, lost}
use Rattle.bep_machine.specs.Peer.{Peer}
use Rattle.bep_machine.specs.Steps.{HasIdFrom, reset_to, restarted}
use Rattle.bep_links.specs.Link.{LinkBetween}
use Rattle.bep_peer.specs.Member.{Member, Remains, tables_of, untold}
use Rattle.bep_fit.specs.declared.stamped.Stamped.{Stamped}
use Rattle.bep_log.specs.Event.{event_of}
use Rattle.bep_log.specs.History.{with_event}
use Rattle.bep_log.specs.LoggedLink.{IsLinkReplayed}
use Rattle.bep_log.specs.LoggedPeer.{IsReplayed}
use Rattle.bep_log.specs.inner.Leaving.{LosesLinks}
use Rattle.bep_log.proofs.LogFacts.{goes_on_replayed, link_goes_on_replayed, stays_replayed}

both_same : (lower upper : Device) → ((lower == lower) && (upper == upper)) ≡ true
both_same lower upper = subst (λ (b : Bool). (b && (upper == upper)) ≡ true) (sym (eq-eqb lower lower refl)) (eq-eqb upper upper refl)

pub connect_touches : (lower upper : Device) → touches_link (guards_of (Connect lower upper)) lower upper ≡ true
connect_touches lower upper = both_same lower upper

pub lose_touches : (lower upper : Device) → touches_link (guards_of (Lose lower upper)) lower upper ≡ true
lose_touches lower upper = both_same lower upper

-- a step of the link by itself
module _ (step : Device → Device → Step) (row : Link → Row Link) (touches : (lower upper : Device) → touches_link (guards_of (step lower upper)) lower upper ≡ true) (told : (lower upper : Device) → IsToldOfLink lower upper (step lower upper) row) where
  pub row_replayed : (base now new : LinkBetween) (log mid after : List Stamped) (ticket : ℕ) (ends : Device × Device) (event : Logged) (moved : Moved) →
      IsLinkReplayed now base log → mid ≡ log → after ≡ with_event mid ticket event → event ≡ event_of (step ends.0 ends.1) None false None → ends ≡ now.ends → new.ends ≡ now.ends → row now.link new.link (Done moved) → IsLinkReplayed new base after
  row_replayed base now new log mid after ticket ends event moved was same last is at joined made =
      let one : event ≡ event_of (step now.ends.0 now.ends.1) None false None = is ∙ ap (λ (e : Device × Device). event_of (step e.0 e.1) None false None) at in
      subst (λ (l : List Stamped). IsLinkReplayed new base l) (sym (last ∙ ap (λ (l : List Stamped). with_event l ticket event) same))
      (link_goes_on_replayed base now new log ticket event was joined
      (subst (λ (e : Logged). touches_link (guards_of e.step) now.ends.0 now.ends.1 ≡ true) (sym one) (touches now.ends.0 now.ends.1))
      (subst (λ (e : Logged). LinkStep now.ends.0 now.ends.1 e now.link new.link) (sym one) (told now.ends.0 now.ends.1 now.link new.link moved made)))

-- ---- a restart and a reset

or_true : (b : Bool) → (b || true) ≡ true
or_true true = refl
or_true false = refl

at_an_end : (device : Device) (ends : Device × Device) → (device ≡ ends.0) ⊎ (device ≡ ends.1) → touches_link (OfDeviceAndLinks device) ends.0 ends.1 ≡ true
at_an_end device ends (inl is) = subst (λ (b : Bool). (b || (ends.1 == device)) ≡ true) (sym (eq-eqb ends.0 device (sym is))) refl
at_an_end device ends (inr is) = subst (λ (b : Bool). ((ends.0 == device) || b) ≡ true) (sym (eq-eqb ends.1 device (sym is))) (or_true (ends.0 == device))

-- a step in which the device leaves all its links: what becomes of each
pub link_left : (step : Step) (device : Device) → LosesLinks device step → (base now new : LinkBetween) (log mid after : List Stamped) (ticket : ℕ) (event : Logged) →
    IsLinkReplayed now base log → mid ≡ log → after ≡ with_event mid ticket event → event ≡ event_of step None false None → (device ≡ now.ends.0) ⊎ (device ≡ now.ends.1) → new ≡ record now { link = lost now.link } → IsLinkReplayed new base after
link_left step device told base now new log mid after ticket event was same last is at made =
    let here = at_an_end device now.ends at in
    subst (λ (l : List Stamped). IsLinkReplayed new base l) (sym (last ∙ ap (λ (l : List Stamped). with_event l ticket event) same))
    (link_goes_on_replayed base now new log ticket event was (ap (λ (b : LinkBetween). b.ends) made)
    (subst (λ (e : Logged). touches_link (guards_of e.step) now.ends.0 now.ends.1 ≡ true) (sym is) (subst (λ (g : Guards). touches_link g now.ends.0 now.ends.1 ≡ true) (sym told.0) here))
    (subst (λ (l : Link). LinkStep now.ends.0 now.ends.1 event now.link l) (sym (ap (λ (b : LinkBetween). b.link) made))
    (subst (λ (e : Logged). LinkStep now.ends.0 now.ends.1 e now.link (lost now.link)) (sym is) (told.1 now.ends.0 now.ends.1 now.link here))))

-- and of the device, which the step makes to this
module _ (step : Device → Step) (made : Peer → Peer) (touches : (device : Device) → touches_device (guards_of (step device)) device ≡ true) where
  pub device_made : (base now new : Member) (log mid after : List Stamped) (ticket : ℕ) (number : Device) (event : Logged) →
      PeerStep now.number (event_of (step now.number) None false None) (tables_of now) (made (tables_of now)) →
      IsReplayed now base log → mid ≡ log → after ≡ with_event mid ticket event → event ≡ event_of (step number) None false None → number ≡ new.number → Remains now new → tables_of new ≡ made (tables_of now) → IsReplayed new base after
  device_made base now new log mid after ticket number event told was same last is this rest is_made =
      let one : event ≡ event_of (step now.number) None false None = is ∙ ap (λ (d : Device). event_of (step d) None false None) (this ∙ rest.number) in
      subst (λ (l : List Stamped). IsReplayed new base l) (sym (last ∙ ap (λ (l : List Stamped). with_event l ticket event) same))
      (goes_on_replayed base now new log ticket event was rest.number rest.linked
      (subst (λ (e : Logged). touches_device (guards_of e.step) now.number ≡ true) (sym one) (touches now.number))
      (subst (λ (p : Peer). PeerStep now.number event (tables_of now) p) (sym is_made)
      (subst (λ (e : Logged). PeerStep now.number e (tables_of now) (made (tables_of now))) (sym one) told)))

pub device_restarted : RestartIsTold → (base now new : Member) (log mid after : List Stamped) (ticket : ℕ) (number : Device) (event : Logged) →
    IsReplayed now base log → mid ≡ log → after ≡ with_event mid ticket event → event ≡ event_of (Restart number) None false None → number ≡ new.number → Remains now new → tables_of new ≡ restarted (tables_of now) → IsReplayed new base after
device_restarted told base now new log mid after ticket number event =
    device_made Restart restarted (λ device. eq-eqb device device refl) base now new log mid after ticket number event ((told now.number).0 (tables_of now))

pub device_reset : ResetIsTold → (id : ℕ) (base now new : Member) (log mid after : List Stamped) (ticket : ℕ) (number : Device) (event : Logged) → ¬ HasIdFrom id (tables_of now) →
    IsReplayed now base log → mid ≡ log → after ≡ with_event mid ticket event → event ≡ event_of (Reset number id) None false None → number ≡ new.number → Remains now new → tables_of new ≡ reset_to id (tables_of now) → IsReplayed new base after
device_reset told id base now new log mid after ticket number event above =
    device_made (λ device. Reset device id) (reset_to id) (λ device. eq-eqb device device refl) base now new log mid after ticket number event ((told now.number id).0 (tables_of now) above)

-- a device that is refused to start over is what it was
pub still_replayed : (base now new : Member) (log mid : List Stamped) → IsReplayed now base log → mid ≡ log → new ≡ untold now → IsReplayed new base mid
still_replayed base now new log mid was same is =
    subst (λ (l : List Stamped). IsReplayed new base l) (sym same)
    (stays_replayed base now new log was (ap (λ (m : Member). m.number) is) (ap (λ (m : Member). m.linked) is) (ap tables_of is))
