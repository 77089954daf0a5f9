-- A cluster stays sound where one device, or one link, becomes another sound one.
use Rattle.std.proofs.Common.{◌≡◌, ◌==◌, ◌&&◌, ◌||◌, ◌⊎◌, ◌<◌, Bool, true, false, List, [], ◌∷◌, Contains, nat_lt, if◌then◌else◌, refl, sym, ap, subst, inl, inr, ⊎_elim, arith, eqb-true, ltb-true, ltb-false}
use Rattle.std.proofs.lemmas.Bool.{and_parts, cases_eq}
use Rattle.bep_facts.specs.Members.{not_in_none, Contains-first, Contains-more, Contains-cons_cases}
use Rattle.bep_model.specs.Tables.{Device}
use Rattle.bep_machine.specs.Link.{Link, lost}
use Rattle.bep_machine.specs.Peer.{Peer}
use Rattle.bep_machine.specs.Cluster.{Config, Cluster, link_between, with_link, with_link_between, with_peer, without_links}
use Rattle.bep_machine.specs.Steps.{AreLinked}
use Rattle.bep_machine.specs.Sound.{IsSoundPeer, IsSoundLink, IsSound}
use Rattle.bep_machine.proofs.LinkKept.{sound_lost}

pub sound_with_peer : (cluster : Cluster) (device : Device) (peer : Peer) → IsSound cluster → (Contains cluster.config.devices device → IsSoundPeer cluster.config device peer) → IsSound (with_peer cluster device peer)
sound_with_peer cluster device peer sound new = record {
  config = sound.config;
  peers = λ one member. cases one member (one == device) refl;
  links = sound.links;
}
  where
    cases : (one : Device) → Contains cluster.config.devices one → (b : Bool) → (one == device) ≡ b → IsSoundPeer cluster.config one (if b then peer else cluster.peer one)
    cases one member true same =
        let is = eqb-true one device same in
        subst (λ d. IsSoundPeer cluster.config d peer) (sym is) (new (subst (λ d. Contains cluster.config.devices d) is member))
    cases one member false apart = sound.peers one member

pub sound_with_link : (cluster : Cluster) (lower upper : Device) (link : Link) → IsSound cluster → (Contains cluster.config.links (lower, upper) → IsSoundLink link) → IsSound (with_link cluster lower upper link)
sound_with_link cluster lower upper link sound new = record {
  config = sound.config;
  peers = sound.peers;
  links = λ a b member. cases a b member ((a == lower) && (b == upper)) refl;
}
  where
    cases : (a b : Device) → Contains cluster.config.links (a, b) → (t : Bool) → ((a == lower) && (b == upper)) ≡ t → IsSoundLink (if t then link else cluster.link a b)
    cases a b member true same =
        let both = and_parts (a == lower) (b == upper) same in
        let first = eqb-true a lower both.0 in
        let second = eqb-true b upper both.1 in
        new (subst (λ d. Contains cluster.config.links (d, upper)) first (subst (λ d. Contains cluster.config.links (a, d)) second member))
    cases a b member false apart = sound.links a b member

pub sound_with_link_between : (cluster : Cluster) (device other : Device) (link : Link) → IsSound cluster → IsSoundLink link → IsSound (with_link_between cluster device other link)
sound_with_link_between cluster device other link sound new = cases (nat_lt device other)
  where
    cases : (b : Bool) → IsSound (if b then with_link cluster device other link else with_link cluster other device link)
    cases true = sound_with_link cluster device other link sound (λ member. new)
    cases false = sound_with_link cluster other device link sound (λ member. new)

pub sound_without_links : (cluster : Cluster) (device : Device) → IsSound cluster → IsSound (without_links cluster device)
sound_without_links cluster device sound = record {
  config = sound.config;
  peers = sound.peers;
  links = λ a b member. cases a b member ((a == device) || (b == device));
}
  where
    cases : (a b : Device) → Contains cluster.config.links (a, b) → (t : Bool) → IsSoundLink (if t then lost (cluster.link a b) else cluster.link a b)
    cases a b member true = sound_lost (cluster.link a b)
    cases a b member false = sound.links a b member

-- ---- two devices that are linked

-- the first is a device of the cluster, and the link between them is sound
pub linked_is_sound : (cluster : Cluster) (device other : Device) → IsSound cluster → AreLinked cluster.config device other → Contains cluster.config.devices device × IsSoundLink (link_between cluster device other)
linked_is_sound cluster device other sound (inl member) = (joins.1, cases (nat_lt device other) refl)
  where
    joins : (device < other) × Contains cluster.config.devices device × Contains cluster.config.devices other
    joins = sound.config.links device other member

    cases : (b : Bool) → nat_lt device other ≡ b → IsSoundLink (if b then cluster.link device other else cluster.link other device)
    cases true below = sound.links device other member
    cases false above = absurd (let less = joins.0 in let more = ltb-false device other above in omega arith)
linked_is_sound cluster device other sound (inr member) = (joins.2, cases (nat_lt device other) refl)
  where
    joins : (other < device) × Contains cluster.config.devices other × Contains cluster.config.devices device
    joins = sound.config.links other device member

    cases : (b : Bool) → nat_lt device other ≡ b → IsSoundLink (if b then cluster.link device other else cluster.link other device)
    cases true below = absurd (let less = joins.0 in let more = ltb-true device other below in omega arith)
    cases false above = sound.links other device member

-- ---- whether two devices are linked can be decided

same_or_not : (one other : Device × Device) → (one ≡ other) ⊎ (¬ (one ≡ other))
same_or_not one other = first (cases_eq one.0 other.0)
  where
    first : (one.0 ≡ other.0) ⊎ (¬ (one.0 ≡ other.0)) → (one ≡ other) ⊎ (¬ (one ≡ other))
    first (inr apart) = inr (λ same. apart (ap (λ p. p.0) same))
    first (inl same) = second (cases_eq one.1 other.1)
      where
        second : (one.1 ≡ other.1) ⊎ (¬ (one.1 ≡ other.1)) → (one ≡ other) ⊎ (¬ (one ≡ other))
        second (inr apart) = inr (λ both. apart (ap (λ p. p.1) both))
        second (inl also) = inl (λ i. (same i, also i))

member_or_not : (pairs : List (Device × Device)) (pair : Device × Device) → Contains pairs pair ⊎ (¬ Contains pairs pair)
member_or_not [] pair = inr (not_in_none pair)
member_or_not (first ∷ more) pair =
    ⊎_elim
    (λ same. inl (subst (λ p. Contains (first ∷ more) p) same (Contains-first first more)))
    (λ apart.
    ⊎_elim
    (λ later. inl (Contains-more first more pair later))
    (λ none. inr (λ member. ⊎_elim apart none (Contains-cons_cases first more pair member)))
    (member_or_not more pair))
    (same_or_not first pair)

pub linked_if_not_apart : (config : Config) (device other : Device) → ¬ (¬ AreLinked config device other) → AreLinked config device other
linked_if_not_apart config device other not_apart =
    ⊎_elim
    (λ one. inl one)
    (λ no_one.
    ⊎_elim
    (λ reverse. inr reverse)
    (λ none. absurd (not_apart (λ linked. ⊎_elim no_one none linked)))
    (member_or_not config.links (other, device)))
    (member_or_not config.links (device, other))
