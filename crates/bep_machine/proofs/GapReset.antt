-- A device that is reset keeps each folder in step between each two devices: no view is of its new index yet.
use Rattle.std.proofs.Common.{◌≡◌, ◌≢◌, ◌⊎◌, ◌<◌, ◌==◌, ◌||◌, ℕ, Bool, true, false, nat_lt, Option, Some, Contains, if◌then◌else◌, refl, sym, ap, subst, ◌∙◌, inl, inr, ⊎_elim, arith, eqb-true, unwrap_or}
use Rattle.std.proofs.lemmas.Bool.{cases_eq}
use Rattle.std.proofs.lemmas.Bool.Decides.{nat_tests}
use Rattle.std.specs.Ordering.{nat_cmp}
use Rattle.std.specs.Cmp.Lexicographic.{nat_list_cmp_total}
use Rattle.std.specs.FinMap.{get, get-empty}
use Rattle.bep_index.specs.Listing.{Listing}
use Rattle.bep_index.specs.View.{cleared}
use Rattle.bep_model.specs.Tables.{Device, Folder}
use Rattle.bep_machine.specs.Answer.{Answer}
use Rattle.bep_machine.specs.Replica.{Replica, view_of}
use Rattle.bep_machine.specs.Link.{Link, lost}
use Rattle.bep_machine.specs.Peer.{Peer}
use Rattle.bep_machine.specs.Cluster.{Cluster, link_between, with_peer, without_links}
use Rattle.bep_machine.specs.Steps.{HasIdFrom, ResetRow, anew_under, reset_to}
use Rattle.bep_machine.specs.Sound.{IsSound}
use Rattle.bep_machine.proofs.FoundAfter.{get-mapped, some_before}
use Rattle.bep_machine.proofs.GapLinks.{peer_here, peer_apart}
use Rattle.bep_machine.proofs.GapPair.{IsOfEpoch}
use Rattle.bep_machine.proofs.GapCluster.{Exchanges, IsExchanging}
use Rattle.bep_machine.proofs.ResetKept.{id_is_above}

-- ---- the links of a device that loses all of them

-- the links of the device are down, all others stay, and each keeps its epoch
abbrev pub LinksOfLost : Device → Cluster → Cluster → Device → Device → Type 0
LinksOfLost device old after one other =
    ((one ≡ device) ⊎ (other ≡ device) → (link_between after one other).up ≡ false) ×
    ((¬ (one ≡ device)) → (¬ (other ≡ device)) → link_between after one other ≡ link_between old one other) ×
    ((link_between after one other).epoch ≡ (link_between old one other).epoch)

pub links_of_lost : (device : Device) (old : Cluster) (peer : Peer) (one other : Device) → LinksOfLost device old (without_links (with_peer old device peer) device) one other
links_of_lost device old peer one other = (
  (λ touched. down_between touched (nat_lt one other)),
  (λ not_one not_other. still_between not_one not_other (nat_lt one other)),
  epoch_between (nat_lt one other),
)
  where
    after : Cluster
    after = without_links (with_peer old device peer) device

    down : (a b : Device) → (a ≡ device) ⊎ (b ≡ device) → (after.link a b).up ≡ false
    down a b touched = cases (a == device) (b == device) refl refl
      where
        cases : (p q : Bool) → (a == device) ≡ p → (b == device) ≡ q → (if p || q then lost (old.link a b) else old.link a b).up ≡ false
        cases true q e f = refl
        cases false true e f = refl
        cases false false e f = absurd (⊎_elim (λ same. grind (arith, nat_tests)) (λ same. grind (arith, nat_tests)) touched)

    still : (a b : Device) → ¬ (a ≡ device) → ¬ (b ≡ device) → after.link a b ≡ old.link a b
    still a b not_a not_b = cases (a == device) (b == device) refl refl
      where
        cases : (p q : Bool) → (a == device) ≡ p → (b == device) ≡ q → (if p || q then lost (old.link a b) else old.link a b) ≡ old.link a b
        cases true q e f = absurd (not_a (eqb-true a device e))
        cases false true e f = absurd (not_b (eqb-true b device f))
        cases false false e f = refl

    epoch : (a b : Device) → (after.link a b).epoch ≡ (old.link a b).epoch
    epoch a b = cases ((a == device) || (b == device))
      where
        cases : (p : Bool) → (if p then lost (old.link a b) else old.link a b).epoch ≡ (old.link a b).epoch
        cases true = refl
        cases false = refl

    down_between : (one ≡ device) ⊎ (other ≡ device) → (b : Bool) → (if b then after.link one other else after.link other one).up ≡ false
    down_between touched true = down one other touched
    down_between touched false = down other one (⊎_elim (λ e. inr e) (λ e. inl e) touched)

    still_between : ¬ (one ≡ device) → ¬ (other ≡ device) → (b : Bool) → (if b then after.link one other else after.link other one) ≡ (if b then old.link one other else old.link other one)
    still_between not_one not_other true = still one other not_one not_other
    still_between not_one not_other false = still other one not_other not_one

    epoch_between : (b : Bool) → (if b then after.link one other else after.link other one).epoch ≡ (if b then old.link one other else old.link other one).epoch
    epoch_between true = epoch one other
    epoch_between false = epoch other one

-- ---- the reset

module _ (device : Device) (id : ℕ) (old : Cluster) (sound : IsSound old) (exchanging : IsExchanging old) (above : ¬ HasIdFrom id (old.peer device)) where
  abbrev after : Cluster
  after = without_links (with_peer old device (reset_to id (old.peer device))) device

  links : (one other : Device) → LinksOfLost device old after one other
  links = links_of_lost device old (reset_to id (old.peer device))

  peer_still : (one : Device) → one ≢ device → after.peer one ≡ old.peer one
  peer_still one apart = peer_apart old device (reset_to id (old.peer device)) one apart

  peer_now : after.peer device ≡ reset_to id (old.peer device)
  peer_now = peer_here old device (reset_to id (old.peer device))

  -- the replica was another one before, whose index had an id below
  begun : (folder : Folder) (replica : Replica) → get (after.peer device).replicas folder ≡ Some replica →
      (before : Replica) × (get (old.peer device).replicas folder ≡ Some before) × (replica ≡ anew_under id before) × (before.index.id < id)
  begun folder replica is =
      let found = sym (get-mapped nat_list_cmp_total (anew_under id) (old.peer device).replicas folder) ∙ ap (λ (p : Peer). get p.replicas folder) (sym peer_now) ∙ is in
      let had = some_before (anew_under id) (get (old.peer device).replicas folder) replica found in
      (had.0, had.1, sym had.2, id_is_above id (old.peer device) above folder had.0 had.1)

  -- it knows nothing of any other index
  it_knows_nothing : (other : Device) → Contains old.config.devices other → device ≢ other → Exchanges device other (link_between after device other) (after.peer device) (after.peer other)
  it_knows_nothing other member_too apart folder replica others is_replica is_others =
      let was = begun folder replica is_replica in
      let none : (view_of replica other).id ≡ 0 = ap (λ (r : Replica). (view_of r other).id) was.2 ∙ ap (λ (v : Option Listing). (unwrap_or v (cleared 0)).id) (get-empty nat_cmp other) in
      let there : get (old.peer other).replicas folder ≡ Some others = ap (λ (p : Peer). get p.replicas folder) (sym (peer_still other (λ same. apart (sym same)))) ∙ is_others in
      let first = ((sound.peers other member_too).replicas folder others there).id in
      record {
        earlier = omega (arith, none);
        keeps_up = λ same. absurd (omega (arith, none, same, first));
        in_step = λ up. let never : true ≡ false = sym up ∙ (links device other).0 (inl refl) in absurd (cc);
      }

  -- and no view is of its index yet
  none_knows_it : (other : Device) → Contains old.config.devices device → Contains old.config.devices other → other ≢ device → Exchanges other device (link_between after other device) (after.peer other) (after.peer device)
  none_knows_it other member member_too apart folder replica others is_replica is_others =
      let was = begun folder others is_others in
      let there : get (old.peer other).replicas folder ≡ Some replica = ap (λ (p : Peer). get p.replicas folder) (sym (peer_still other apart)) ∙ is_replica in
      let seen = (exchanging.between other device member_too member apart folder replica was.0 there was.1).earlier in
      let now : others.index.id ≡ id = ap (λ (r : Replica). r.index.id) was.2 in
      let below = was.3 in
      record {
        earlier = omega (arith, seen, below, now);
        keeps_up = λ same. absurd (omega (arith, seen, below, now, same));
        in_step = λ up. let never : true ≡ false = sym up ∙ (links other device).0 (inr refl) in absurd (cc);
      }

  between : (one other : Device) → Contains old.config.devices one → Contains old.config.devices other → one ≢ other → Exchanges one other (link_between after one other) (after.peer one) (after.peer other)
  between one other member member_too apart =
      ⊎_elim
      (λ (here : one ≡ device).
      subst (λ (d : Device). Exchanges d other (link_between after d other) (after.peer d) (after.peer other)) (sym here)
      (it_knows_nothing other member_too (λ same. apart (here ∙ same))))
      (λ not_one.
      ⊎_elim
      (λ (here : other ≡ device).
      subst (λ (d : Device). Exchanges one d (link_between after one d) (after.peer one) (after.peer d)) (sym here)
      (none_knows_it one (subst (λ (d : Device). Contains old.config.devices d) here member_too) member not_one))
      (λ not_other.
      subst (λ (l : Link). Exchanges one other l (after.peer one) (after.peer other)) (sym ((links one other).1 not_one not_other))
      (subst (λ (p : Peer). Exchanges one other (link_between old one other) p (after.peer other)) (sym (peer_still one not_one))
      (subst (λ (p : Peer). Exchanges one other (link_between old one other) (old.peer one) p) (sym (peer_still other not_other))
      (exchanging.between one other member member_too apart))))
      (cases_eq other device))
      (cases_eq one device)

  epochs : (one other : Device) → Contains old.config.devices one → one ≢ other → IsOfEpoch (link_between after one other).epoch (get (after.peer one).sessions other)
  epochs one other member apart =
      subst (λ (n : ℕ). IsOfEpoch n (get (after.peer one).sessions other)) (sym (links one other).2)
      (⊎_elim
      (λ (here : one ≡ device).
      subst (λ (p : Peer). IsOfEpoch (link_between old one other).epoch (get p.sessions other)) (sym (ap after.peer here ∙ peer_now))
      (subst (IsOfEpoch (link_between old one other).epoch) (sym (get-empty nat_cmp other)) tt))
      (λ not_one. subst (λ (p : Peer). IsOfEpoch (link_between old one other).epoch (get p.sessions other)) (sym (peer_still one not_one)) (exchanging.epochs one other member apart))
      (cases_eq one device))

  reset_exchanging : IsExchanging after
  reset_exchanging = record { between = between; epochs = epochs }

pub reset_step : (device : Device) (id : ℕ) (old new : Cluster) (answer : Answer) → IsSound old → IsExchanging old → ResetRow device id old new answer → IsExchanging new
reset_step device id old new answer sound exchanging (inl refused) = subst IsExchanging (sym refused.1.0) exchanging
reset_step device id old new answer sound exchanging (inr (above, made)) = subst IsExchanging (sym made.0) (reset_exchanging device id old sound exchanging above)
