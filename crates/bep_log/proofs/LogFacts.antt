-- A log with one event more.
use Rattle.std.proofs.Common.{◌≡◌, ◌<◌, ℕ, true, List, [], ◌∷◌, refl, sym, subst, ◌∙◌, arith}
use Rattle.bep_model.specs.Tables.{Device}
use Rattle.bep_machine.specs.declared.logged.Logged.{Logged}
use Rattle.bep_machine.specs.Halves.{guards_of, touches_device, touches_link, LinkStep, PeerStep, Replays}
use Rattle.bep_machine.specs.Peer.{Peer}
use Rattle.bep_links.specs.Link.{LinkBetween}
use Rattle.bep_peer.specs.Member.{Member, tables_of}
use Rattle.bep_fit.specs.declared.stamped.Stamped.{Stamped}
use Rattle.bep_fit.specs.Logs.{events_of}
use Rattle.bep_log.specs.History.{RiseTo, with_event}
use Rattle.bep_log.specs.LoggedLink.{IsLinkReplayed, TouchLink}
use Rattle.bep_log.specs.LoggedPeer.{IsReplayed, TouchDevice}

-- a ticket above the last one goes on rising
pub rise_on : (low : ℕ) (log : List Stamped) (last ticket : ℕ) (event : Logged) → RiseTo low log last → last < ticket → RiseTo low (with_event log ticket event) ticket
rise_on low [] last ticket event rise above = (omega arith, omega arith)
rise_on low (one ∷ more) last ticket event rise above = (rise.0, rise_on one.ticket more last ticket event rise.1 above)

-- what the events lead to, and the next one from there
replays_on : {S : Type 0} (step : Logged → S → S → Type 0) (old : S) (log : List Stamped) (now : S) (ticket : ℕ) (event : Logged) (new : S) → Replays step old (events_of log) now → step event now new → Replays step old (events_of (with_event log ticket event)) new
replays_on step old [] now ticket event new replays made = (new, subst (λ s. step event s new) replays made, refl)
replays_on step old (one ∷ more) now ticket event new replays made = (replays.0, replays.1, replays_on step replays.0 more now ticket event new replays.2 made)

touch_on : (device : Device) (log : List Stamped) (ticket : ℕ) (event : Logged) → TouchDevice device log → touches_device (guards_of event.step) device ≡ true → TouchDevice device (with_event log ticket event)
touch_on device [] ticket event touch here = (here, tt)
touch_on device (one ∷ more) ticket event touch here = (touch.0, touch_on device more ticket event touch.1 here)

touch_link_on : (ends : Device × Device) (log : List Stamped) (ticket : ℕ) (event : Logged) → TouchLink ends log → touches_link (guards_of event.step) ends.0 ends.1 ≡ true → TouchLink ends (with_event log ticket event)
touch_link_on ends [] ticket event touch here = (here, tt)
touch_link_on ends (one ∷ more) ticket event touch here = (touch.0, touch_link_on ends more ticket event touch.1 here)

-- ---- a device

-- nothing was logged, and no table changed
pub stays_replayed : (base now new : Member) (log : List Stamped) → IsReplayed now base log → new.number ≡ now.number → new.linked ≡ now.linked → tables_of new ≡ tables_of now → IsReplayed new base log
stays_replayed base now new log was number linked same = record {
  number = was.number ∙ sym number;
  linked = was.linked ∙ sym linked;
  replays = subst (λ (d : Device). Replays (PeerStep d) (tables_of base) (events_of log) (tables_of new)) (sym number) (subst (λ (p : Peer). Replays (PeerStep now.number) (tables_of base) (events_of log) p) (sym same) was.replays);
  touch = subst (λ (d : Device). TouchDevice d log) (sym number) was.touch;
}

-- the event that was logged makes of the device what it is
pub goes_on_replayed : (base now new : Member) (log : List Stamped) (ticket : ℕ) (event : Logged) → IsReplayed now base log → new.number ≡ now.number → new.linked ≡ now.linked →
    touches_device (guards_of event.step) now.number ≡ true → PeerStep now.number event (tables_of now) (tables_of new) → IsReplayed new base (with_event log ticket event)
goes_on_replayed base now new log ticket event was number linked here made = record {
  number = was.number ∙ sym number;
  linked = was.linked ∙ sym linked;
  replays = subst (λ (d : Device). Replays (PeerStep d) (tables_of base) (events_of (with_event log ticket event)) (tables_of new)) (sym number) (replays_on (PeerStep now.number) (tables_of base) log (tables_of now) ticket event (tables_of new) was.replays made);
  touch = subst (λ (d : Device). TouchDevice d (with_event log ticket event)) (sym number) (touch_on now.number log ticket event was.touch here);
}

-- ---- a link

pub link_goes_on_replayed : (base now new : LinkBetween) (log : List Stamped) (ticket : ℕ) (event : Logged) → IsLinkReplayed now base log → new.ends ≡ now.ends →
    touches_link (guards_of event.step) now.ends.0 now.ends.1 ≡ true → LinkStep now.ends.0 now.ends.1 event now.link new.link → IsLinkReplayed new base (with_event log ticket event)
link_goes_on_replayed base now new log ticket event was ends here made = record {
  ends = was.ends ∙ sym ends;
  replays = subst (λ (e : Device × Device). Replays (LinkStep e.0 e.1) base.link (events_of (with_event log ticket event)) new.link) (sym ends) (replays_on (LinkStep now.ends.0 now.ends.1) base.link log now.link ticket event new.link was.replays made);
  touch = subst (λ (e : Device × Device). TouchLink e (with_event log ticket event)) (sym ends) (touch_link_on now.ends log ticket event was.touch here);
}
