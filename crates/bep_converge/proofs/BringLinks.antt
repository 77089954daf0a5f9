-- What a link between two devices is once one of them acted over it, as both see it.
use Rattle.std.proofs.Common.{◌≡◌, ◌≢◌, ◌∙◌, ◌==◌, ◌&&◌, ◌+◌, ℕ, nat_lt, nat_le, Bool, true, false, List, [], length, refl, ap, if◌then◌else◌, arith}
use Rattle.std.proofs.lemmas.Bool.{eq-eqb, ne_eqb, ltb-true, ltb-false, and_from, or_left, or_right}
use Rattle.bep_record.specs.declared.limits.TheConstants.{MAX_MESSAGES}
use Rattle.bep_model.specs.Tables.{Device}
use Rattle.bep_machine.specs.declared.message.Message.{Message}
use Rattle.bep_machine.specs.Link.{End, Lower, Upper, end_of, Link, queue_to, queue_from, with_queues, connected, lost, Sight, first_of_queue, sight_of, Deed, after_taking, after_sending, after_deed}
use Rattle.bep_machine.specs.Peer.{Peer, Acted}
use Rattle.bep_machine.specs.Cluster.{Cluster, link_between, with_link, with_link_between, with_peer, without_links}

-- ---- tests of devices

same_device : {X : Type 0} (one : Device) (x y : X) → (if one == one then x else y) ≡ x
same_device one x y = ap (λ (b : Bool). if b then x else y) (eq-eqb one one refl)

other_device : {X : Type 0} (one other : Device) (x y : X) → one ≢ other → (if one == other then x else y) ≡ y
other_device one other x y apart = ap (λ (b : Bool). if b then x else y) (ne_eqb one other apart)

pub peer_here : (c : Cluster) (device : Device) (peer : Peer) → (with_peer c device peer).peer device ≡ peer
peer_here c device peer = same_device device peer (c.peer device)

pub peer_apart : (c : Cluster) (device other : Device) (peer : Peer) → other ≢ device → (with_peer c device peer).peer other ≡ c.peer other
peer_apart c device other peer apart = other_device other device peer (c.peer other) apart

-- ---- the link between two devices

-- the link, by whether the first one is the smaller
abbrev pub link_by : Bool → Cluster → Device → Device → Link
link_by b c device other = if b then c.link device other else c.link other device

abbrev pub with_link_by : Bool → Cluster → Device → Device → Link → Cluster
with_link_by b c device other link = if b then with_link c device other link else with_link c other device link

both_same : {X : Type 0} (one other : Device) (x y : X) → (if (one == one) && (other == other) then x else y) ≡ x
both_same one other x y = ap (λ (b : Bool). if b then x else y) (and_from (one == one) (other == other) (eq-eqb one one refl) (eq-eqb other other refl))

pub link_here : (c : Cluster) (device other : Device) (link : Link) → link_between (with_link_between c device other link) device other ≡ link
link_here c device other link = by_test (nat_lt device other)
  where
    by_test : (b : Bool) → link_by b (with_link_by b c device other link) device other ≡ link
    by_test true = both_same device other link (c.link device other)
    by_test false = both_same other device link (c.link other device)

pub peers_stay : (c : Cluster) (device other : Device) (link : Link) (one : Device) → (with_link_between c device other link).peer one ≡ c.peer one
peers_stay c device other link one = by_test (nat_lt device other)
  where
    by_test : (b : Bool) → (with_link_by b c device other link).peer one ≡ c.peer one
    by_test true = refl
    by_test false = refl

pub config_stays : (c : Cluster) (device other : Device) (link : Link) → (with_link_between c device other link).config ≡ c.config
config_stays c device other link = by_test (nat_lt device other)
  where
    by_test : (b : Bool) → (with_link_by b c device other link).config ≡ c.config
    by_test true = refl
    by_test false = refl

-- a lost link is still the one between the two
pub link_lost_here : (c : Cluster) (device other : Device) → link_between (without_links c device) device other ≡ lost (link_between c device other)
link_lost_here c device other = by_test (nat_lt device other)
  where
    by_test : (b : Bool) → link_by b (without_links c device) device other ≡ lost (link_by b c device other)
    by_test true = ap (λ (b : Bool). if b then lost (c.link device other) else c.link device other) (or_left (device == device) (other == device) (eq-eqb device device refl))
    by_test false = ap (λ (b : Bool). if b then lost (c.link other device) else c.link other device) (or_right (other == device) (device == device) (eq-eqb device device refl))

pub link_lost_there : (c : Cluster) (device other : Device) → link_between (without_links c other) device other ≡ lost (link_between c device other)
link_lost_there c device other = by_test (nat_lt device other)
  where
    by_test : (b : Bool) → link_by b (without_links c other) device other ≡ lost (link_by b c device other)
    by_test true = ap (λ (b : Bool). if b then lost (c.link device other) else c.link device other) (or_right (device == other) (other == other) (eq-eqb other other refl))
    by_test false = ap (λ (b : Bool). if b then lost (c.link other device) else c.link other device) (or_left (other == other) (device == other) (eq-eqb other other refl))

-- ---- as both ends see it

-- the link is up, in this epoch, and these messages are on their way to the device and away from it
pub record IsUp (c : Cluster) (device other : Device) (epoch : ℕ) (here there : List Message) : Type 0 where
  pub up : (link_between c device other).up ≡ true
  pub epoch_is : (link_between c device other).epoch ≡ epoch
  pub here_is : queue_to (end_of device other) (link_between c device other) ≡ here
  pub there_is : queue_from (end_of device other) (link_between c device other) ≡ there

-- what the device sees of such a link
abbrev pub sight_with : ℕ → List Message → List Message → Sight
sight_with epoch here there = record { up = true; epoch = epoch; waiting = first_of_queue here; full = nat_le MAX_MESSAGES (length there) }

pub sees : (c : Cluster) (device other : Device) (epoch : ℕ) (here there : List Message) → IsUp c device other epoch here there →
    sight_of (end_of device other) (link_between c device other) ≡ sight_with epoch here there
sees c device other epoch here there link =
    λ i. record { up = link.up i; epoch = link.epoch_is i; waiting = first_of_queue (link.here_is i); full = nat_le MAX_MESSAGES (length (link.there_is i)) }

-- the same, by whether the first one is the smaller
abbrev IsUpBy : Bool → Cluster → Device → Device → ℕ → List Message → List Message → Type 0
IsUpBy b c device other epoch here there =
    ((link_by b c device other).up ≡ true) × ((link_by b c device other).epoch ≡ epoch) ×
    (queue_to (if b then Lower else Upper) (link_by b c device other) ≡ here) × (queue_from (if b then Lower else Upper) (link_by b c device other) ≡ there)

up_by : (c : Cluster) (device other : Device) (epoch : ℕ) (here there : List Message) → IsUpBy (nat_lt device other) c device other epoch here there → IsUp c device other epoch here there
up_by c device other epoch here there link = record { up = link.0; epoch_is = link.1; here_is = link.2; there_is = link.3 }

-- the other end sees the same link the other way round
pub turned : (c : Cluster) (device other : Device) (epoch : ℕ) (here there : List Message) → device ≢ other → IsUp c device other epoch here there → IsUp c other device epoch there here
turned c device other epoch here there apart link =
    up_by c other device epoch there here (by_tests (nat_lt device other) refl (nat_lt other device) refl (link.up, link.epoch_is, link.here_is, link.there_is))
  where
    by_tests : (b : Bool) → nat_lt device other ≡ b → (d : Bool) → nat_lt other device ≡ d → IsUpBy b c device other epoch here there → IsUpBy d c other device epoch there here
    by_tests true is true is_too link = absurd (let one = ltb-true device other is in let two = ltb-true other device is_too in omega arith)
    by_tests true is false is_too link = (link.0, link.1, link.3, link.2)
    by_tests false is true is_too link = (link.0, link.1, link.3, link.2)
    by_tests false is false is_too link = absurd (apart (let one = ltb-false device other is in let two = ltb-false other device is_too in omega arith))

-- ---- once one of them acted

-- what is left of a link that isn't lost
pub record IsLeft (end : End) (deed : Deed) (link after : Link) : Type 0 where
  pub up : after.up ≡ link.up
  pub epoch : after.epoch ≡ link.epoch
  pub here : queue_to end after ≡ after_taking deed.takes (queue_to end link)
  pub there : queue_from end after ≡ after_sending deed.sends (queue_from end link)

queues_set : (end : End) (deed : Deed) (link : Link) → IsLeft end deed link (with_queues end link (after_taking deed.takes (queue_to end link)) (after_sending deed.sends (queue_from end link)))
queues_set Lower deed link = record { up = refl; epoch = refl; here = refl; there = refl }
queues_set Upper deed link = record { up = refl; epoch = refl; here = refl; there = refl }

deed_leaves : (end : End) (deed : Deed) (link : Link) → deed.loses ≡ false → IsLeft end deed link (after_deed end deed link)
deed_leaves end deed link keeps = by_test deed.loses keeps
  where
    by_test : (b : Bool) → b ≡ false → IsLeft end deed link (if b then lost link else with_queues end link (after_taking deed.takes (queue_to end link)) (after_sending deed.sends (queue_from end link)))
    by_test true never = absurd (cc)
    by_test false keeps = queues_set end deed link

-- the cluster once the device did this over its link with the other one
abbrev pub after_act : Cluster → Device → Device → Acted → Cluster
after_act c device other acted =
    with_link_between (with_peer c device acted.peer) device other (after_deed (end_of device other) acted.deed (link_between c device other))

pub record HasActed (c next : Cluster) (device other : Device) (acted : Acted) (epoch : ℕ) (here there : List Message) : Type 0 where
  pub link : IsUp next device other epoch (after_taking acted.deed.takes here) (after_sending acted.deed.sends there)
  pub near : next.peer device ≡ acted.peer
  pub far : (one : Device) → one ≢ device → next.peer one ≡ c.peer one
  pub config : next.config ≡ c.config

pub acts : (c : Cluster) (device other : Device) (acted : Acted) (epoch : ℕ) (here there : List Message) → IsUp c device other epoch here there → acted.deed.loses ≡ false →
    HasActed c (after_act c device other acted) device other acted epoch here there
acts c device other acted epoch here there link keeps =
    let after = after_deed (end_of device other) acted.deed (link_between c device other) in
    let left : IsLeft (end_of device other) acted.deed (link_between c device other) after = deed_leaves (end_of device other) acted.deed (link_between c device other) keeps in
    let is : link_between (after_act c device other acted) device other ≡ after = link_here (with_peer c device acted.peer) device other after in
    record {
      link = record {
        up = ap (λ (l : Link). l.up) is ∙ left.up ∙ link.up;
        epoch_is = ap (λ (l : Link). l.epoch) is ∙ left.epoch ∙ link.epoch_is;
        here_is = ap (queue_to (end_of device other)) is ∙ left.here ∙ ap (after_taking acted.deed.takes) link.here_is;
        there_is = ap (queue_from (end_of device other)) is ∙ left.there ∙ ap (after_sending acted.deed.sends) link.there_is;
      };
      near = peers_stay (with_peer c device acted.peer) device other after device ∙ peer_here c device acted.peer;
      far = λ one apart. peers_stay (with_peer c device acted.peer) device other after one ∙ peer_apart c device one acted.peer apart;
      config = config_stays (with_peer c device acted.peer) device other after;
    }

-- ---- once it came up

pub comes_up : (c : Cluster) (device other : Device) → IsUp (with_link_between c device other (connected (link_between c device other))) device other ((link_between c device other).epoch + 1) [] []
comes_up c device other =
    let link = connected (link_between c device other) in
    let is : link_between (with_link_between c device other link) device other ≡ link = link_here c device other link in
    record {
      up = ap (λ (l : Link). l.up) is;
      epoch_is = ap (λ (l : Link). l.epoch) is;
      here_is = ap (queue_to (end_of device other)) is ∙ none_to (end_of device other) (link_between c device other);
      there_is = ap (queue_from (end_of device other)) is ∙ none_from (end_of device other) (link_between c device other);
    }
  where
    none_to : (end : End) (link : Link) → queue_to end (connected link) ≡ []
    none_to Lower link = refl
    none_to Upper link = refl

    none_from : (end : End) (link : Link) → queue_from end (connected link) ≡ []
    none_from Lower link = refl
    none_from Upper link = refl
