-- The event that tells of an action over a link makes of the device, and of the link, what the action did.
use Rattle.std.proofs.Common.{◌≡◌, ◌⊎◌, ◌<◌, ℕ, Bool, true, false, Option, Some, option_map, inl, inr, refl, sym, ap, subst, ◌∙◌, eq-eqb, arith}
use Rattle.std.proofs.lemmas.Bool.Decides.{nat_tests}
use Rattle.bep_model.specs.Tables.{Device}
use Rattle.bep_machine.specs.declared.logged.Logged.{Logged}
use Rattle.bep_machine.specs.declared.logged.Traffic.{Traffic}
use Rattle.bep_machine.specs.declared.message.Message.{Message}
use Rattle.bep_machine.specs.declared.moved.Moved.{Moved}
use Rattle.bep_machine.specs.declared.step.Step.TheVariants as Steps
use Rattle.bep_machine.specs.Answer.{Done}
use Rattle.bep_machine.specs.Halves.{Carries, OfDeviceAndLink, OnlyIf, LinkStep, PeerStep, deed_told, failed_told, guards_of, logged_of, touches_device, touches_link}
use Rattle.bep_machine.specs.Link.{Deed, Link, after_deed, end_of, sight_of}
use Rattle.bep_machine.specs.Peer.{Acted, Peer}
use Rattle.bep_links.specs.Link.{IsLink, LinkBetween}
use Rattle.bep_peer.specs.Lent.{Acts, Joins, StepOver, twice}
use Rattle.bep_peer.specs.Member.{Member, tables_of}
use Rattle.bep_log.specs.declared.over.Over.{Over}
use Rattle.bep_log.specs.declared.over.Over.TheVariants.{Begin, Deliver, Announce, Ask}
use Rattle.bep_log.specs.Event.{event_of}
use Rattle.bep_log.specs.Over.{doing_of, exchanged, in_epoch, other_end, taken_by}
use Rattle.bep_log.proofs.LocalFacts.{touched}
use Rattle.bep_log.proofs.OverFacts.{AreToldOver, delivers_one, exchanged_is, over_is_told, takes_none, waiting_if}

-- ---- the ends of the link

is_joined : (device other : Device) (ends : Device × Device) → ends.0 < ends.1 → (ends ≡ (device, other)) ⊎ (ends ≡ (other, device)) → touches_link (OfDeviceAndLink device other) ends.0 ends.1 ≡ true
is_joined device other ends rising (inl is) = subst (λ (e : Device × Device). touches_link (OfDeviceAndLink device other) e.0 e.1 ≡ true) (sym is) (lower device other (subst (λ (e : Device × Device). e.0 < e.1) is rising))
  where
    lower : (device other : ℕ) → device < other → touches_link (OfDeviceAndLink device other) device other ≡ true
    lower device other below = grind (arith, nat_tests)
is_joined device other ends rising (inr is) = subst (λ (e : Device × Device). touches_link (OfDeviceAndLink device other) e.0 e.1 ≡ true) (sym is) (upper device other (subst (λ (e : Device × Device). e.0 < e.1) is rising))
  where
    upper : (device other : ℕ) → other < device → touches_link (OfDeviceAndLink device other) other device ≡ true
    upper device other below = grind (arith, nat_tests)

other_is : (device other : Device) (ends : Device × Device) → ends.0 < ends.1 → (ends ≡ (device, other)) ⊎ (ends ≡ (other, device)) → other_end ends device ≡ other
other_is device other ends rising (inl is) = subst (λ (e : Device × Device). other_end e device ≡ other) (sym is) (lower device other)
  where
    lower : (device other : ℕ) → other_end (device, other) device ≡ other
    lower device other = grind (arith, nat_tests)
other_is device other ends rising (inr is) = subst (λ (e : Device × Device). other_end e device ≡ other) (sym is) (upper device other (subst (λ (e : Device × Device). e.0 < e.1) is rising))
  where
    upper : (device other : ℕ) → other < device → other_end (other, device) device ≡ other
    upper device other below = grind (arith, nat_tests)

-- ---- the halves

-- the link that is touched makes its half
touched_link : {half : Type 0} (b : Bool) → b ≡ true → (old new : Link) → OnlyIf b half old new → half
touched_link true is old new made = made
touched_link false is old new made = absurd (cc)

-- what is logged of the action, by the traffic that the law gives
abbrev pub logged_over : Over → Device → Device → Option ℕ → Moved → Traffic → Logged
logged_over action device other failed moved traffic = logged_of (record { step = (doing_of action).step device other; failed = failed; answer = Done moved }) (Some traffic)

carries : (action : Over) (device other : Device) (failed : Option ℕ) (moved : Moved) (traffic : Traffic) (lower upper : Device) (old new : Link) →
    touches_link (OfDeviceAndLink device other) lower upper ≡ true → LinkStep lower upper (logged_over action device other failed moved traffic) old new → Carries (end_of device other) (Some traffic) old new
carries Begin device other failed moved traffic lower upper old new is made = (touched_link (touches_link (OfDeviceAndLink device other) lower upper) is old new made).1
carries Deliver device other failed moved traffic lower upper old new is made = (touched_link (touches_link (OfDeviceAndLink device other) lower upper) is old new made).1
carries (Announce folder) device other failed moved traffic lower upper old new is made = (touched_link (touches_link (OfDeviceAndLink device other) lower upper) is old new made).1
carries (Ask folder name) device other failed moved traffic lower upper old new is made = (touched_link (touches_link (OfDeviceAndLink device other) lower upper) is old new made).1

pub over_touches : (action : Over) (device other : Device) → touches_device (guards_of ((doing_of action).step device other)) device ≡ true
over_touches Begin device other = eq-eqb device device refl
over_touches Deliver device other = eq-eqb device device refl
over_touches (Announce folder) device other = eq-eqb device device refl
over_touches (Ask folder name) device other = eq-eqb device device refl

over_touches_link : (action : Over) (device other lower upper : Device) → touches_link (OfDeviceAndLink device other) lower upper ≡ true → touches_link (guards_of ((doing_of action).step device other)) lower upper ≡ true
over_touches_link Begin device other lower upper is = is
over_touches_link Deliver device other lower upper is = is
over_touches_link (Announce folder) device other lower upper is = is
over_touches_link (Ask folder name) device other lower upper is = is

-- the traffic takes a message where the action does
takes_as : (action : Over) (device other : Device) (failed : Option ℕ) (link : Link) (old : Peer) (acted : Acted) (moved : Moved) (traffic : Traffic) →
    (doing_of action).row failed other (sight_of (end_of device other) link) old acted (Done moved) → acted.deed ≡ deed_told traffic.done →
    PeerStep device (logged_over action device other failed moved traffic) old acted.peer → (deed_told traffic.done).takes ≡ (doing_of action).takes
takes_as Begin device other failed link old acted moved traffic row deed made = sym (ap (λ (d : Deed). d.takes) deed) ∙ takes_none Begin refl failed other (sight_of (end_of device other) link) old acted moved row
takes_as Deliver device other failed link old acted moved traffic row deed made =
    let half = (touched device old acted.peer made).1 in
    delivers_one (failed_told (Steps.Deliver device other) false (Some traffic) failed) other traffic.epoch traffic.done old (record { peer = acted.peer; deed = deed_told traffic.done }) half.0 half.1
takes_as (Announce folder) device other failed link old acted moved traffic row deed made = sym (ap (λ (d : Deed). d.takes) deed) ∙ takes_none (Announce folder) refl failed other (sight_of (end_of device other) link) old acted moved row
takes_as (Ask folder name) device other failed link old acted moved traffic row deed made = sym (ap (λ (d : Deed). d.takes) deed) ∙ takes_none (Ask folder name) refl failed other (sight_of (end_of device other) link) old acted moved row

-- ---- the event

-- what is logged of the action by this project's log
abbrev pub event_by : Over → Member → Member → LinkBetween → LinkBetween → Logged
event_by action old left link after =
    event_of ((doing_of action).step old.number (other_end link.ends old.number)) left.trace.failed false
    (in_epoch link.link.epoch (exchanged (taken_by (doing_of action).takes old.number link) (option_map (λ (one : Message × Message). one.0) left.trace.put) after.link.up))

-- it makes what the action did, of the device and of the link
pub record IsToldOver (action : Over) (old left : Member) (link after : LinkBetween) : Type 0 where
  pub ends : after.ends ≡ link.ends
  pub device_half : PeerStep old.number (event_by action old left link after) (tables_of old) (tables_of left)
  pub link_half : LinkStep link.ends.0 link.ends.1 (event_by action old left link after) link.link after.link
  pub touches : touches_link (guards_of (event_by action old left link after).step) link.ends.0 link.ends.1 ≡ true

waits_as : (takes : Bool) (device other : Device) (link : LinkBetween) → other_end link.ends device ≡ other → taken_by takes device link ≡ waiting_if takes (end_of device other) link.link
waits_as false device other link is = refl
waits_as true device other link is = ap (λ (d : Device). waiting_if true (end_of device d) link.link) is

in_epoch_is : (epoch : ℕ) (traffic : Traffic) → epoch ≡ traffic.epoch → in_epoch epoch (Some traffic.done) ≡ Some traffic
in_epoch_is epoch traffic is = ap (λ (e : ℕ). in_epoch e (Some traffic.done)) is

module _ (told : AreToldOver) (action : Over) (old left : Member) (link after : LinkBetween) (moved : Moved) (rule : IsLink link) where
  at_end : (other : Device) → Joins (record { member = old; link = link }) other → Acts ((doing_of action).row left.trace.failed other) (end_of old.number other) (record { member = old; link = link }) (record { member = left; link = after }) (Done moved) → IsToldOver action old left link after
  at_end other joins acts =
      let end = end_of old.number other in
      let touches = is_joined old.number other link.ends rule.rising joins.ends in
      let is = other_is old.number other link.ends rule.rising joins.ends in
      let law = over_is_told told action old.number other left.trace.failed link.link (tables_of old) acts.acted moved acts.made in
      let linked = law.3 link.ends.0 link.ends.1 touches in
      let carried = carries action old.number other left.trace.failed moved law.0 link.ends.0 link.ends.1 link.link (after_deed end acts.acted.deed link.link) touches linked in
      let takes = takes_as action old.number other left.trace.failed link.link (tables_of old) acts.acted moved law.0 acts.made law.1 law.2 in
      let now : after.link ≡ after_deed end acts.acted.deed link.link = ap (λ (l : LinkBetween). l.link) acts.carried in
      let done = exchanged_is (doing_of action).takes end link.link law.0.done left.trace.put carried.0 carried.2 (acts.told ∙ ap (λ (d : Deed). twice d.sends) law.1) takes in
      let up : after.link.up ≡ (after_deed end (deed_told law.0.done) link.link).up = ap (λ (l : Link). l.up) now ∙ ap (λ (d : Deed). (after_deed end d link.link).up) law.1 in
      let waits = waits_as (doing_of action).takes old.number other link is in
      let traffic : in_epoch link.link.epoch (exchanged (taken_by (doing_of action).takes old.number link) (option_map (λ (one : Message × Message). one.0) left.trace.put) after.link.up) ≡ Some law.0 =
      ap (λ (w : Option Message). in_epoch link.link.epoch (exchanged w (option_map (λ (one : Message × Message). one.0) left.trace.put) after.link.up)) waits
      ∙ ap (λ (b : Bool). in_epoch link.link.epoch (exchanged (waiting_if (doing_of action).takes end link.link) (option_map (λ (one : Message × Message). one.0) left.trace.put) b)) up
      ∙ ap (in_epoch link.link.epoch) done ∙ in_epoch_is link.link.epoch law.0 carried.1 in
      let event : logged_over action old.number other left.trace.failed moved law.0 ≡ event_by action old left link after =
      ap (λ (t : Option Traffic). event_of ((doing_of action).step old.number other) left.trace.failed false t) (sym traffic)
      ∙ ap (λ (d : Device). event_of ((doing_of action).step old.number d) left.trace.failed false (in_epoch link.link.epoch (exchanged (taken_by (doing_of action).takes old.number link) (option_map (λ (one : Message × Message). one.0) left.trace.put) after.link.up))) (sym is) in
      record {
        ends = ap (λ (l : LinkBetween). l.ends) acts.carried;
        device_half =
            subst (λ (p : Peer). PeerStep old.number (event_by action old left link after) (tables_of old) p) (sym acts.tables)
            (subst (λ (e : Logged). PeerStep old.number e (tables_of old) acts.acted.peer) event law.2);
        link_half =
            subst (λ (l : Link). LinkStep link.ends.0 link.ends.1 (event_by action old left link after) link.link l) (sym now)
            (subst (λ (e : Logged). LinkStep link.ends.0 link.ends.1 e link.link (after_deed end acts.acted.deed link.link)) event linked);
        touches = subst (λ (e : Logged). touches_link (guards_of e.step) link.ends.0 link.ends.1 ≡ true) event (over_touches_link action old.number other link.ends.0 link.ends.1 touches);
      }

  pub over_told : StepOver ((doing_of action).row left.trace.failed) (doing_of action).shares (record { member = old; link = link }) (record { member = left; link = after }) (Done moved) → IsToldOver action old left link after
  over_told (inl wanting) = let e = wanting.1 in absurd (cc)
  over_told (inr (inl refused)) = let e = refused.1.1 in absurd (cc)
  over_told (inr (inr made)) = at_end made.1.0 made.1.1 made.1.2
