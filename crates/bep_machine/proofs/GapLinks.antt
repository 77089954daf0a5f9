-- The link between two devices, whichever of them is named first, after one of them acted or a link changed.
use Rattle.std.proofs.Common.{◌≡◌, ◌≢◌, ◌==◌, ◌&&◌, Bool, true, false, nat_lt, if◌then◌else◌, refl, arith, eqb-true}
use Rattle.std.proofs.lemmas.Bool.{ltb-true, ltb-false}
use Rattle.std.proofs.lemmas.Bool.Decides.{nat_tests}
use Rattle.std.specs.Prelude.{ℕ, List, Option}
use Rattle.bep_index.specs.Listing.{Listing}
use Rattle.bep_model.specs.Tables.{Device, Folder}
use Rattle.bep_machine.specs.declared.message.Message.{Message}
use Rattle.bep_machine.specs.Link.{End, Lower, Upper, Link, Deed, end_of, queue_to, queue_from, after_deed}
use Rattle.bep_machine.specs.Peer.{Session, Peer}
use Rattle.bep_machine.specs.Cluster.{Cluster, link_between, with_link, with_link_between, with_peer}
use Rattle.bep_machine.proofs.GapPair.{IsBetween, cursor_at, up_after, queue_after, back_after}

-- ---- one folder between two devices

-- from the other end to this one
abbrev pub IsPair : Folder → End → Link → Listing → Listing → Option Session → Option Session → Type 0
IsPair folder end link index view sender receiver =
    IsBetween folder link.up index view (cursor_at link.epoch folder sender) (cursor_at link.epoch folder receiver) (queue_to end link) (queue_from end link)

-- and from this end to the other one
abbrev pub IsPairFrom : Folder → End → Link → Listing → Listing → Option Session → Option Session → Type 0
IsPairFrom folder end link index view sender receiver =
    IsBetween folder link.up index view (cursor_at link.epoch folder sender) (cursor_at link.epoch folder receiver) (queue_from end link) (queue_to end link)

-- ---- the two ends

-- of two devices one is the lower
one_is_lower : (P : Bool → Bool → Type 0) (device other : Device) → device ≢ other → P true false → P false true → P (nat_lt device other) (nat_lt other device)
one_is_lower P device other apart lower upper = cases (nat_lt device other) (nat_lt other device) refl refl
  where
    cases : (a b : Bool) → nat_lt device other ≡ a → nat_lt other device ≡ b → P a b
    cases true true less more = absurd (let one = ltb-true device other less in let two = ltb-true other device more in omega arith)
    cases true false less more = lower
    cases false true less more = upper
    cases false false less more = absurd (apart (let one = ltb-false device other less in let two = ltb-false other device more in omega arith))

module _ (folder : Folder) (device other : Device) (apart : device ≢ other) (link : Link) (index view : Listing) (sender receiver : Option Session) where
  pub seen_from_here : IsPair folder (end_of other device) link index view sender receiver → IsPairFrom folder (end_of device other) link index view sender receiver
  seen_from_here =
      one_is_lower (λ a b. IsPair folder (if b then Lower else Upper) link index view sender receiver → IsPairFrom folder (if a then Lower else Upper) link index view sender receiver) device other apart
      (λ pair. pair) (λ pair. pair)

  pub seen_from_there : IsPairFrom folder (end_of device other) link index view sender receiver → IsPair folder (end_of other device) link index view sender receiver
  seen_from_there =
      one_is_lower (λ a b. IsPairFrom folder (if a then Lower else Upper) link index view sender receiver → IsPair folder (if b then Lower else Upper) link index view sender receiver) device other apart
      (λ pair. pair) (λ pair. pair)

pub link_swap : (cluster : Cluster) (device other : Device) → device ≢ other → link_between cluster other device ≡ link_between cluster device other
link_swap cluster device other apart =
    one_is_lower (λ a b. (if b then cluster.link other device else cluster.link device other) ≡ (if a then cluster.link device other else cluster.link other device)) device other apart refl refl

-- ---- after a deed

-- what is so of the epoch, of whether the link is up and of what is on its way both ways
link_after_deed : (P : ℕ → Bool → List Message → List Message → Type 0) (end : End) (deed : Deed) (link : Link) →
    P link.epoch (up_after deed link.up) (queue_after deed (queue_to end link)) (back_after deed (queue_from end link)) →
    P (after_deed end deed link).epoch (after_deed end deed link).up (queue_to end (after_deed end deed link)) (queue_from end (after_deed end deed link))
link_after_deed P end deed link = cases deed.loses end
  where
    cases : (b : Bool) (end : End) → P link.epoch (up_after (record deed { loses = b }) link.up) (queue_after (record deed { loses = b }) (queue_to end link)) (back_after (record deed { loses = b }) (queue_from end link)) →
        P (after_deed end (record deed { loses = b }) link).epoch (after_deed end (record deed { loses = b }) link).up (queue_to end (after_deed end (record deed { loses = b }) link)) (queue_from end (after_deed end (record deed { loses = b }) link))
    cases true Lower holds = holds
    cases true Upper holds = holds
    cases false Lower holds = holds
    cases false Upper holds = holds

module _ (folder : Folder) (end : End) (link : Link) (index view : Listing) (sender receiver : Option Session) where
  pub pair_after_deed : (deed : Deed) → IsBetween folder (up_after deed link.up) index view (cursor_at link.epoch folder sender) (cursor_at link.epoch folder receiver) (queue_after deed (queue_to end link)) (back_after deed (queue_from end link)) → IsPair folder end (after_deed end deed link) index view sender receiver
  pair_after_deed deed = link_after_deed (λ epoch up to from. IsBetween folder up index view (cursor_at epoch folder sender) (cursor_at epoch folder receiver) to from) end deed link

  pub pair_from_after_deed : (deed : Deed) → IsBetween folder (up_after deed link.up) index view (cursor_at link.epoch folder sender) (cursor_at link.epoch folder receiver) (back_after deed (queue_from end link)) (queue_after deed (queue_to end link)) → IsPairFrom folder end (after_deed end deed link) index view sender receiver
  pair_from_after_deed deed = link_after_deed (λ epoch up to from. IsBetween folder up index view (cursor_at epoch folder sender) (cursor_at epoch folder receiver) from to) end deed link

pub same_epoch : (end : End) (deed : Deed) (link : Link) → (after_deed end deed link).epoch ≡ link.epoch
same_epoch end deed link = link_after_deed (λ epoch up to from. epoch ≡ link.epoch) end deed link refl

-- ---- a link that was changed

module _ (cluster : Cluster) (lower upper : Device) (link : Link) where
  pub changed_here : (with_link cluster lower upper link).link lower upper ≡ link
  changed_here = cases (lower == lower) (upper == upper) (grind (arith, nat_tests)) (grind (arith, nat_tests))
    where
      cases : (a b : Bool) → a ≡ true → b ≡ true → (if a && b then link else cluster.link lower upper) ≡ link
      cases true true e f = refl
      cases true false e f = absurd (cc)
      cases false b e f = absurd (cc)

  pub changed_apart : (one other : Device) → ¬ ((one ≡ lower) × (other ≡ upper)) → (with_link cluster lower upper link).link one other ≡ cluster.link one other
  changed_apart one other apart = cases (one == lower) (other == upper) refl refl
    where
      cases : (a b : Bool) → (one == lower) ≡ a → (other == upper) ≡ b → (if a && b then link else cluster.link one other) ≡ cluster.link one other
      cases true true e f = absurd (apart (eqb-true one lower e, eqb-true other upper f))
      cases true false e f = refl
      cases false b e f = refl

module _ (cluster : Cluster) (device other : Device) (link : Link) where
  pub between_here : link_between (with_link_between cluster device other link) device other ≡ link
  between_here = cases (nat_lt device other)
    where
      cases : (b : Bool) → (if b then (if b then with_link cluster device other link else with_link cluster other device link).link device other else (if b then with_link cluster device other link else with_link cluster other device link).link other device) ≡ link
      cases true = changed_here cluster device other link
      cases false = changed_here cluster other device link

  pub between_apart : (one third : Device) → ¬ ((one ≡ device) × (third ≡ other)) → ¬ ((one ≡ other) × (third ≡ device)) → link_between (with_link_between cluster device other link) one third ≡ link_between cluster one third
  between_apart one third here there = cases (nat_lt device other) (nat_lt one third)
    where
      cases : (b c : Bool) → (if c then (if b then with_link cluster device other link else with_link cluster other device link).link one third else (if b then with_link cluster device other link else with_link cluster other device link).link third one) ≡ (if c then cluster.link one third else cluster.link third one)
      cases true true = changed_apart cluster device other link one third here
      cases true false = changed_apart cluster device other link third one (λ both. there (both.1, both.0))
      cases false true = changed_apart cluster other device link one third there
      cases false false = changed_apart cluster other device link third one (λ both. here (both.1, both.0))

  pub same_peers : (one : Device) → (with_link_between cluster device other link).peer one ≡ cluster.peer one
  same_peers one = cases (nat_lt device other)
    where
      cases : (b : Bool) → (if b then with_link cluster device other link else with_link cluster other device link).peer one ≡ cluster.peer one
      cases true = refl
      cases false = refl

  pub same_config : (with_link_between cluster device other link).config ≡ cluster.config
  same_config = cases (nat_lt device other)
    where
      cases : (b : Bool) → (if b then with_link cluster device other link else with_link cluster other device link).config ≡ cluster.config
      cases true = refl
      cases false = refl

module _ (cluster : Cluster) (device : Device) (peer : Peer) where
  pub peer_here : (with_peer cluster device peer).peer device ≡ peer
  peer_here = cases (device == device) (grind (arith, nat_tests))
    where
      cases : (b : Bool) → b ≡ true → (if b then peer else cluster.peer device) ≡ peer
      cases true e = refl
      cases false e = absurd (cc)

  pub peer_apart : (one : Device) → one ≢ device → (with_peer cluster device peer).peer one ≡ cluster.peer one
  peer_apart one apart = cases (one == device) refl
    where
      cases : (b : Bool) → (one == device) ≡ b → (if b then peer else cluster.peer one) ≡ cluster.peer one
      cases true e = absurd (apart (eqb-true one device e))
      cases false e = refl
