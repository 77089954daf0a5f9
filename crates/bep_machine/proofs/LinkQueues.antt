-- What is on its way after a link was changed: what was there before, and what was sent.
use Rattle.std.proofs.Common.{◌≡◌, ◌⊎◌, ◌==◌, ◌&&◌, Bool, true, false, nat_lt, List, [], ◌∷◌, Option, Some, None, Contains, refl, sym, ap, subst, ◌∙◌, inl, inr, ⊎_elim, if◌then◌else◌, arith}
use Rattle.std.proofs.lemmas.Bool.{eqb-true, ltb-true, ltb-false}
use Rattle.std.proofs.lemmas.List.Elements.{Contains-append_cases}
use Rattle.bep_facts.specs.Members.{not_in_none, Contains-first, Contains-more, Contains-one}
use Rattle.bep_model.specs.Tables.{Device}
use Rattle.bep_machine.specs.declared.message.Message.{Message}
use Rattle.bep_machine.specs.Link.{Lower, Upper, Link, Deed, end_of, queue_to, first_of_queue, lost, after_taking, after_sending, after_deed}
use Rattle.bep_machine.specs.Cluster.{Cluster, link_between, with_link, with_link_between}

-- what is on its way from one device to another
abbrev pub queue_between : (Device → Device → Link) → Device → Device → List Message
queue_between link sender receiver = queue_to (end_of receiver sender) (if nat_lt sender receiver then link sender receiver else link receiver sender)

-- what is on its way over a link from the lower to the upper device was so before, or may be sent
pub record LinkGoesOn (MaySend : Device → Device → Message → Type 0) (lower upper : Device) (old new : Link) : Type 0 where
  pub to_upper : (message : Message) → Contains new.to_upper message → Contains old.to_upper message ⊎ MaySend lower upper message
  pub to_lower : (message : Message) → Contains new.to_lower message → Contains old.to_lower message ⊎ MaySend upper lower message

pub link_stays : (MaySend : Device → Device → Message → Type 0) (lower upper : Device) (link : Link) → LinkGoesOn MaySend lower upper link link
link_stays MaySend lower upper link = record { to_upper = λ message was. inl was; to_lower = λ message was. inl was }

pub nothing_on_its_way : (MaySend : Device → Device → Message → Type 0) (lower upper : Device) (old new : Link) → new.to_lower ≡ [] → new.to_upper ≡ [] → LinkGoesOn MaySend lower upper old new
nothing_on_its_way MaySend lower upper old new down up = record {
  to_upper = λ message has. absurd (not_in_none message (subst (λ queue. Contains queue message) up has));
  to_lower = λ message has. absurd (not_in_none message (subst (λ queue. Contains queue message) down has));
}

-- ---- between two devices

module _ (MaySend : Device → Device → Message → Type 0) (old new : Device → Device → Link) (each : (lower upper : Device) → LinkGoesOn MaySend lower upper (old lower upper) (new lower upper)) where
  pub queues_go_on : (sender receiver : Device) (message : Message) → Contains (queue_between new sender receiver) message → Contains (queue_between old sender receiver) message ⊎ MaySend sender receiver message
  queues_go_on sender receiver message = cases (nat_lt sender receiver) (nat_lt receiver sender) refl refl
    where
      cases : (up down : Bool) → nat_lt sender receiver ≡ up → nat_lt receiver sender ≡ down → Contains (queue_to (if down then Lower else Upper) (if up then new sender receiver else new receiver sender)) message → Contains (queue_to (if down then Lower else Upper) (if up then old sender receiver else old receiver sender)) message ⊎ MaySend sender receiver message
      cases true true less more has =
          let one = ltb-true sender receiver less in
          let two = ltb-true receiver sender more in
          absurd (omega arith)
      cases true false less more has = (each sender receiver).to_upper message has
      cases false true less more has = (each receiver sender).to_lower message has
      cases false false less more has =
          let one = ltb-false sender receiver less in
          let two = ltb-false receiver sender more in
          let same : sender ≡ receiver = omega arith in
          ⊎_elim (λ was. inl was) (λ may. inr (subst (λ to. MaySend sender to message) same (subst (λ from. MaySend from sender message) (sym same) may))) ((each receiver sender).to_upper message has)

-- ---- a link that was changed

pub each_link : (P : Device → Device → Link → Type 0) (cluster : Cluster) (lower upper : Device) (link : Link) → P lower upper link → ((one other : Device) → P one other (cluster.link one other)) → (one other : Device) → P one other ((with_link cluster lower upper link).link one other)
each_link P cluster lower upper link here rest one other = there (one == lower) (other == upper) refl refl
  where
    there : (a b : Bool) → (one == lower) ≡ a → (other == upper) ≡ b → P one other (if a && b then link else cluster.link one other)
    there true true first second = subst (λ d. P d other link) (sym (eqb-true one lower first)) (subst (λ d. P lower d link) (sym (eqb-true other upper second)) here)
    there true false first second = rest one other
    there false b first second = rest one other

-- ---- what an action does

taken_was_there : (takes : Bool) (queue : List Message) (message : Message) → Contains (after_taking takes queue) message → Contains queue message
taken_was_there false queue message has = has
taken_was_there true [] message has = has
taken_was_there true (first ∷ queue) message has = Contains-more first queue message has

sent_or_there : (sends : Option Message) (queue : List Message) (message : Message) → Contains (after_sending sends queue) message → Contains queue message ⊎ (sends ≡ Some message)
sent_or_there None queue message has = inl has
sent_or_there (Some sent) queue message has =
    ⊎_elim (λ was. inl was) (λ one. inr (ap (λ m. Some m) (Contains-one sent message one))) (Contains-append_cases queue (sent ∷ []) message has)

module _ (MaySend : Device → Device → Message → Type 0) (deed : Deed) where
  taken_goes_on : (from to : Device) (queue : List Message) (message : Message) → Contains (after_taking deed.takes queue) message → Contains queue message ⊎ MaySend from to message
  taken_goes_on from to queue message has = inl (taken_was_there deed.takes queue message has)

  sent_goes_on : (from to : Device) (queue : List Message) → ((message : Message) → deed.sends ≡ Some message → MaySend from to message) → (message : Message) → Contains (after_sending deed.sends queue) message → Contains queue message ⊎ MaySend from to message
  sent_goes_on from to queue may message has = ⊎_elim (λ was. inl was) (λ sent. inr (may message sent)) (sent_or_there deed.sends queue message has)

  lower_acted : (loses : Bool) (lower upper : Device) (link : Link) → ((message : Message) → deed.sends ≡ Some message → MaySend lower upper message) → LinkGoesOn MaySend lower upper link (after_deed Lower (record deed { loses = loses }) link)
  lower_acted true lower upper link may = nothing_on_its_way MaySend lower upper link (lost link) refl refl
  lower_acted false lower upper link may = record { to_upper = sent_goes_on lower upper link.to_upper may; to_lower = taken_goes_on upper lower link.to_lower }

  upper_acted : (loses : Bool) (lower upper : Device) (link : Link) → ((message : Message) → deed.sends ≡ Some message → MaySend upper lower message) → LinkGoesOn MaySend lower upper link (after_deed Upper (record deed { loses = loses }) link)
  upper_acted true lower upper link may = nothing_on_its_way MaySend lower upper link (lost link) refl refl
  upper_acted false lower upper link may = record { to_upper = taken_goes_on lower upper link.to_upper; to_lower = sent_goes_on upper lower link.to_lower may }

  -- each link after the device's deed over its link with the other one
  pub links_after_deed : (cluster : Cluster) (device other : Device) → ((message : Message) → deed.sends ≡ Some message → MaySend device other message) → (lower upper : Device) → LinkGoesOn MaySend lower upper (cluster.link lower upper) ((with_link_between cluster device other (after_deed (end_of device other) deed (link_between cluster device other))).link lower upper)
  links_after_deed cluster device other may = cases (nat_lt device other)
    where
      cases : (up : Bool) → (lower upper : Device) → LinkGoesOn MaySend lower upper (cluster.link lower upper) ((if up then with_link cluster device other (after_deed (if up then Lower else Upper) deed (if up then cluster.link device other else cluster.link other device)) else with_link cluster other device (after_deed (if up then Lower else Upper) deed (if up then cluster.link device other else cluster.link other device))).link lower upper)
      cases true = each_link (λ one two link. LinkGoesOn MaySend one two (cluster.link one two) link) cluster device other _ (lower_acted deed.loses device other (cluster.link device other) may) (λ one two. link_stays MaySend one two (cluster.link one two))
      cases false = each_link (λ one two link. LinkGoesOn MaySend one two (cluster.link one two) link) cluster other device _ (upper_acted deed.loses other device (cluster.link other device) may) (λ one two. link_stays MaySend one two (cluster.link one two))

-- ---- what waits

first_is_there : (queue : List Message) (message : Message) → first_of_queue queue ≡ Some message → Contains queue message
first_is_there [] message is = absurd (cc)
first_is_there (first ∷ queue) message is =
    let same : first ≡ message = cc in
    subst (λ m. Contains (first ∷ queue) m) same (Contains-first first queue)

-- the first message on its way to the device is on its way from the other one
pub waiting_is_there : (cluster : Cluster) (device other : Device) (message : Message) → first_of_queue (queue_to (end_of device other) (link_between cluster device other)) ≡ Some message → Contains (queue_between cluster.link other device) message
waiting_is_there cluster device other message is = first_is_there _ message (ap (λ link. first_of_queue (queue_to (end_of device other) link)) (cases (nat_lt device other) (nat_lt other device) refl refl) ∙ is)
  where
    cases : (up down : Bool) → nat_lt device other ≡ up → nat_lt other device ≡ down → (if down then cluster.link other device else cluster.link device other) ≡ (if up then cluster.link device other else cluster.link other device)
    cases true true less more =
        let one = ltb-true device other less in
        let two = ltb-true other device more in
        absurd (omega arith)
    cases true false less more = refl
    cases false true less more = refl
    cases false false less more =
        let one = ltb-false device other less in
        let two = ltb-false other device more in
        let same : device ≡ other = omega arith in
        ap (λ (pair : Device × Device). cluster.link pair.0 pair.1) (λ i. (same i, sym same i))
