-- What an action over a link leaves under a ticket, from what its parts answered.
use Rattle.std.proofs.Common.{◌≡◌, ℕ, Bool, List, Option, option_map, Result, Ok, Err, IsErr, inr, refl, sym, ap, subst, ◌∙◌}
use Rattle.bep_model.specs.Tables.{Device}
use Rattle.bep_machine.specs.declared.logged.Logged.{Logged}
use Rattle.bep_machine.specs.declared.message.Message.{Message}
use Rattle.bep_machine.specs.declared.moved.Moved.{Moved}
use Rattle.bep_links.specs.Link.{IsLink, LinkBetween}
use Rattle.bep_peer.specs.declared.error.PeerError.{PeerError}
use Rattle.bep_peer.specs.declared.error.PeerError.TheVariants as peer
use Rattle.bep_peer.specs.declared.trace.Trace.{Trace}
use Rattle.bep_peer.specs.Lent.{StepOver}
use Rattle.bep_peer.specs.Member.{Member, Remains, tables_of, untold}
use Rattle.bep_peer.specs.PeerError.{Gives}
use Rattle.bep_log.specs.declared.error.LogError.{LogError}
use Rattle.bep_log.specs.declared.over.Over.{Over}
use Rattle.bep_log.specs.declared.ready.Ready.{Ready}
use Rattle.bep_fit.specs.declared.stamped.Stamped.{Stamped}
use Rattle.bep_log.specs.ActsOver.{ActsOver, LogsOver, MayLogBoth, event_for, event_over}
use Rattle.bep_log.specs.History.{History, MayLog, last_with, with_events}
use Rattle.bep_log.specs.LogError.{answer_of}
use Rattle.bep_log.specs.LoggedLink.{IsLinkReplayed, LoggedBetween}
use Rattle.bep_log.specs.LoggedPeer.{IsReplayed, LoggedMember}
use Rattle.bep_log.specs.Over.{doing_of, other_end, ready_for}
use Rattle.bep_log.proofs.LogFacts.{goes_on_replayed, link_goes_on_replayed, stays_replayed}
use Rattle.bep_log.proofs.OverFacts.{AreToldOver, seconds_sent}
use Rattle.bep_log.proofs.OverReplayed.{event_by, over_told, over_touches}

-- what the device answered, as an answer under a ticket
over_ticket : (action : Over) (ticket : ℕ) (old new : LoggedMember) (link after : LoggedBetween) → MayLogBoth ticket old link → (answer : Result Moved PeerError) → ActsOver (doing_of action) ticket old new link after answer → LogsOver (doing_of action) ticket old new link after (answer_of answer)
over_ticket action ticket old new link after may (Ok moved) made = (may, made)
over_ticket action ticket old new link after may (Err (peer.Refused refusal)) made = (may, made)
over_ticket action ticket old new link after may (Err peer.Stale) made = absurd made.made
over_ticket action ticket old new link after may (Err peer.Memory) made = (may, inr made)

-- The device was in `was`, and the link in `link`; the action left them as `left` and `moved`, and the trace was taken. The
-- logs had `before` and `prior` in them, then `after` and `later`.
module _ (told : AreToldOver) (action : Over) (ticket : ℕ) (was : LoggedMember) (link : LoggedBetween) (left taken : Member) (moved : LinkBetween) (before after prior later : History)
    (answer : Result Moved PeerError) (trace : Trace) (number : Device) (mine its : Ready) (up : Bool) (events : Option (Logged × Logged))
    (silent : taken ≡ untold left) (traced : trace ≡ left.trace) (numbered : number ≡ was.now.number)
    (mine_ready : mine ≡ ready_for (doing_of action) number link.now) (its_ready : its ≡ ready_for (doing_of action) number link.now) (is_up : up ≡ moved.link.up)
    (my_event : option_map (λ (both : Logged × Logged). both.0) events ≡ event_for mine answer trace.failed (option_map (λ (put : Message × Message). put.0) trace.put) up)
    (its_event : option_map (λ (both : Logged × Logged). both.1) events ≡ event_for its answer trace.failed (option_map (λ (put : Message × Message). put.1) trace.put) up)
    (opened : before ≡ record { log = was.log; round = was.round; last = was.last; room = before.room }) (logged : after.log ≡ with_events before.log ticket (option_map (λ (both : Logged × Logged). both.0) events))
    (link_opened : prior ≡ record { log = link.log; round = link.round; last = link.last; room = prior.room }) (link_logged : later.log ≡ with_events prior.log ticket (option_map (λ (both : Logged × Logged). both.1) events))
    (made : Gives (StepOver ((doing_of action).row left.trace.failed) (doing_of action).shares (record { member = was.now; link = link.now })) (record { member = left; link = moved }) answer)
    (rest : Remains was.now left) (same : IsErr answer → tables_of left ≡ tables_of was.now) (unmoved : IsErr answer → moved ≡ link.now) (rule : IsLink link.now) where
  -- the event is the action's, in both logs
  event : Option Logged
  event = event_over (doing_of action) was.now link.now moved left.trace answer

  ready_is : (ready : Ready) → ready ≡ ready_for (doing_of action) number link.now → ready ≡ ready_for (doing_of action) was.now.number link.now
  ready_is ready is = is ∙ ap (λ (d : Device). ready_for (doing_of action) d link.now) numbered

  in_device : option_map (λ (both : Logged × Logged). both.0) events ≡ event
  unfolding event
  in_device =
      my_event ∙ ap (λ (r : Ready). event_for r answer trace.failed (option_map (λ (put : Message × Message). put.0) trace.put) up) (ready_is mine mine_ready)
      ∙ ap (λ (t : Trace). event_for (ready_for (doing_of action) was.now.number link.now) answer t.failed (option_map (λ (put : Message × Message). put.0) t.put) up) traced
      ∙ ap (λ (b : Bool). event_for (ready_for (doing_of action) was.now.number link.now) answer left.trace.failed (option_map (λ (put : Message × Message). put.0) left.trace.put) b) is_up

  in_device_log : after.log ≡ with_events was.log ticket event
  in_device_log =
      logged ∙ ap (λ (h : History). with_events h.log ticket (option_map (λ (both : Logged × Logged). both.0) events)) opened
      ∙ ap (with_events was.log ticket) in_device

  -- both halves of what was sent are one message
  halves_alike : (ready : Ready) (b : Bool) (answer : Result Moved PeerError) → Gives (StepOver ((doing_of action).row left.trace.failed) (doing_of action).shares (record { member = was.now; link = link.now })) (record { member = left; link = moved }) answer →
      event_for ready answer left.trace.failed (option_map (λ (put : Message × Message). put.1) left.trace.put) b ≡ event_for ready answer left.trace.failed (option_map (λ (put : Message × Message). put.0) left.trace.put) b
  halves_alike ready b (Err error) made = refl
  halves_alike ready b (Ok done) made = ap (λ (o : Option Message). event_for ready (Ok done) left.trace.failed o b) (seconds_sent ((doing_of action).row left.trace.failed) (doing_of action).shares (record { member = was.now; link = link.now }) (record { member = left; link = moved }) done made)

  in_link : option_map (λ (both : Logged × Logged). both.1) events ≡ event
  unfolding event
  in_link =
      its_event ∙ ap (λ (r : Ready). event_for r answer trace.failed (option_map (λ (put : Message × Message). put.1) trace.put) up) (ready_is its its_ready)
      ∙ ap (λ (t : Trace). event_for (ready_for (doing_of action) was.now.number link.now) answer t.failed (option_map (λ (put : Message × Message). put.1) t.put) up) traced
      ∙ ap (λ (b : Bool). event_for (ready_for (doing_of action) was.now.number link.now) answer left.trace.failed (option_map (λ (put : Message × Message). put.1) left.trace.put) b) is_up
      ∙ halves_alike (ready_for (doing_of action) was.now.number link.now) moved.link.up answer made

  in_link_log : later.log ≡ with_events link.log ticket event
  in_link_log =
      link_logged ∙ ap (λ (h : History). with_events h.log ticket (option_map (λ (both : Logged × Logged). both.1) events)) link_opened
      ∙ ap (with_events link.log ticket) in_link

  -- the device's log replays to what the device is
  device_at : (answer : Result Moved PeerError) → Gives (StepOver ((doing_of action).row left.trace.failed) (doing_of action).shares (record { member = was.now; link = link.now })) (record { member = left; link = moved }) answer → (IsErr answer → tables_of left ≡ tables_of was.now) →
      IsReplayed was.now was.base was.log → IsReplayed (untold left) was.base (with_events was.log ticket (event_over (doing_of action) was.now link.now moved left.trace answer))
  device_at (Err error) made same replayed = stays_replayed was.base was.now (untold left) was.log replayed rest.number rest.linked (same refl)
  device_at (Ok done) made same replayed =
      goes_on_replayed was.base was.now (untold left) was.log ticket (event_by action was.now left link.now moved) replayed rest.number rest.linked (over_touches action was.now.number (other_end link.now.ends was.now.number)) (over_told told action was.now left link.now moved done rule made).device_half

  pub device_replayed : IsReplayed was.now was.base was.log → IsReplayed taken was.base after.log
  unfolding event
  device_replayed replayed =
      subst (λ (m : Member). IsReplayed m was.base after.log) (sym silent)
      (subst (λ (l : List Stamped). IsReplayed (untold left) was.base l) (sym in_device_log) (device_at answer made same replayed))

  -- and so does the link's
  link_at : (answer : Result Moved PeerError) → Gives (StepOver ((doing_of action).row left.trace.failed) (doing_of action).shares (record { member = was.now; link = link.now })) (record { member = left; link = moved }) answer → (IsErr answer → moved ≡ link.now) →
      IsLinkReplayed link.now link.base link.log → IsLinkReplayed moved link.base (with_events link.log ticket (event_over (doing_of action) was.now link.now moved left.trace answer))
  link_at (Err error) made unmoved replayed = subst (λ (l : LinkBetween). IsLinkReplayed l link.base link.log) (sym (unmoved refl)) replayed
  link_at (Ok done) made unmoved replayed =
      let one = over_told told action was.now left link.now moved done rule made in
      link_goes_on_replayed link.base link.now moved link.log ticket (event_by action was.now left link.now moved) replayed one.ends one.touches one.link_half

  pub link_replayed : IsLinkReplayed link.now link.base link.log → IsLinkReplayed moved link.base later.log
  unfolding event
  link_replayed replayed = subst (λ (l : List Stamped). IsLinkReplayed moved link.base l) (sym in_link_log) (link_at answer made unmoved replayed)

  pub over_logs : after.round ≡ before.round → after.last ≡ last_with before.last ticket (option_map (λ (both : Logged × Logged). both.0) events) → later.round ≡ prior.round → later.last ≡ last_with prior.last ticket (option_map (λ (both : Logged × Logged). both.1) events) →
      MayLog ticket was.log was.last → MayLog ticket link.log link.last → (result : Result Moved LogError) → result ≡ answer_of answer →
      LogsOver (doing_of action) ticket was (record { now = taken; base = was.base; log = after.log; round = after.round; last = after.last }) link (record { now = moved; base = link.base; log = later.log; round = later.round; last = later.last }) result
  unfolding event
  over_logs rounds lasts link_rounds link_lasts may link_may result is =
      let new : LoggedMember = record { now = taken; base = was.base; log = after.log; round = after.round; last = after.last } in
      let new_link : LoggedBetween = record { now = moved; base = link.base; log = later.log; round = later.round; last = later.last } in
      subst (λ (r : Result Moved LogError). LogsOver (doing_of action) ticket was new link new_link r) (sym is)
      (over_ticket action ticket was new link new_link (record { device = may; link = link_may }) answer
      (record {
        left = left;
        now = silent;
        made = made;
        rest = rest;
        kept = λ err. (same err, unmoved err);
        told = record {
          base = refl;
          round = rounds ∙ ap (λ (h : History). h.round) opened;
          log = in_device_log;
          last = lasts ∙ ap (λ (h : History). last_with h.last ticket (option_map (λ (both : Logged × Logged). both.0) events)) opened ∙ ap (last_with was.last ticket) in_device;
        };
        link_told = record {
          base = refl;
          round = link_rounds ∙ ap (λ (h : History). h.round) link_opened;
          log = in_link_log;
          last = link_lasts ∙ ap (λ (h : History). last_with h.last ticket (option_map (λ (both : Logged × Logged). both.1) events)) link_opened ∙ ap (last_with link.last ticket) in_link;
        };
      }))
