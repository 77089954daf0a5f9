-- A step of one device over a link that it is lent is a step of the whole cluster.
use Rattle.std.proofs.Common.{◌≡◌, ◌⊎◌, ℕ, Bool, true, false, nat_lt, if◌then◌else◌, refl, sym, ap, subst, ◌∙◌, inl, inr, ⊎_elim}
use Rattle.bep_model.specs.Tables.{Device}
use Rattle.bep_machine.specs.Answer.{Answer, Row}
use Rattle.bep_machine.specs.Cluster.{Cluster, link_between, with_link, with_link_between, with_peer}
use Rattle.bep_machine.specs.Link.{Link, Sight, end_of, sight_of, after_deed}
use Rattle.bep_machine.specs.Peer.{Peer, Acted}
use Rattle.bep_machine.specs.Steps.{AreLinked, OverLink}
use Rattle.bep_links.specs.Link.{LinkBetween}
use Rattle.bep_peer.specs.Lent.{Lent, Joins, IsAtHand, Acts, StepOver}
use Rattle.bep_peer.specs.Member.{Member, tables_of}
use Rattle.bep_peer.specs.network.Network.{Network, IsNetwork, cluster_of, config_of, member_at, between_at, in_order, peer_of, link_of}
use Rattle.bep_core.proofs.Lift.{ReplacesLink, with_between, one_link, same_link}
use Rattle.bep_core.proofs.OneDevice.{Replaces, with_member, one_device, nothing_changed}
use Rattle.bep_core.proofs.SameFolders.{SameFolders, equal_folders}
use Rattle.bep_core.proofs.SessionsKeep.{KeepsFolders}
use Rattle.bep_core.proofs.Within.{StepOf}

-- the two devices, in this order or turned
abbrev pub ordered : Bool → Device → Device → Device × Device
ordered upward device other = if upward then (device, other) else (other, device)

-- the two devices in order are the two
either_way : (device other : Device) → (in_order device other ≡ (device, other)) ⊎ (in_order device other ≡ (other, device))
either_way device other = cases (nat_lt device other)
  where
    cases : (b : Bool) → (ordered b device other ≡ (device, other)) ⊎ (ordered b device other ≡ (other, device))
    cases true = inl refl
    cases false = inr refl

-- the link between the two, whichever is named first
pub link_found : (network : Network) (device other : Device) → link_between (cluster_of network) device other ≡ link_of (between_at network.links (in_order device other).0 (in_order device other).1)
link_found network device other = cases (nat_lt device other)
  where
    cases : (b : Bool) → (if b then link_of (between_at network.links device other) else link_of (between_at network.links other device)) ≡ link_of (between_at network.links (ordered b device other).0 (ordered b device other).1)
    cases true = refl
    cases false = refl

link_put : (cluster : Cluster) (device other : Device) (link : Link) → with_link cluster (in_order device other).0 (in_order device other).1 link ≡ with_link_between cluster device other link
link_put cluster device other link = cases (nat_lt device other)
  where
    cases : (b : Bool) → with_link cluster (ordered b device other).0 (ordered b device other).1 link ≡ (if b then with_link cluster device other link else with_link cluster other device link)
    cases true = refl
    cases false = refl

-- a link has one other end
other_end : (ends : Device × Device) (number one other : Device) → (ends ≡ (number, one)) ⊎ (ends ≡ (one, number)) → (ends ≡ (number, other)) ⊎ (ends ≡ (other, number)) → one ≡ other
other_end ends number one other (inl p) (inl q) = ap (λ x. x.1) (sym p ∙ q)
other_end ends number one other (inl p) (inr q) = ap (λ x. x.1) (sym p ∙ q) ∙ ap (λ x. x.0) (sym p ∙ q)
other_end ends number one other (inr p) (inl q) = ap (λ x. x.0) (sym p ∙ q) ∙ ap (λ x. x.1) (sym p ∙ q)
other_end ends number one other (inr p) (inr q) = ap (λ x. x.0) (sym p ∙ q)

abbrev pub with_both : Network → ℕ → Member → ℕ → LinkBetween → Network
with_both network place member between link = with_between (with_member network place member) between link

module _ (network : Network) (rules : IsNetwork network) (device other : Device)
    (place : ℕ) (was after : Member) (r : Replaces network.members device place was after)
    (between : ℕ) (had has : LinkBetween) (l : ReplacesLink network.links (in_order device other).0 (in_order device other).1 between had has) where
  abbrev lent : Lent
  lent = record { member = was; link = had }

  ends_are : (had.ends ≡ (was.number, other)) ⊎ (had.ends ≡ (other, was.number))
  ends_are =
      ⊎_elim
      (λ upward. inl (l.ends ∙ upward ∙ (λ i. (sym r.number i, other))))
      (λ downward. inr (l.ends ∙ downward ∙ (λ i. (other, sym r.number i))))
      (either_way device other)

  joins_other : AreLinked (config_of network) device other → Joins lent other
  joins_other linked = record {
    ends = ends_are;
    linked = ((rules.joined device was r.found).linked other).1 (subst (λ (n : Device). AreLinked (config_of network) n other) (sym r.number) linked);
  }

  pub other_is : (one : Device) → Joins lent one → one ≡ other
  other_is one joins = other_end had.ends was.number one other joins.ends ends_are

  pub linked_there : (one : Device) → Joins lent one → AreLinked (config_of network) device other
  linked_there one joins =
      subst (λ (ends : Device × Device). AreLinked (config_of network) ends.0 ends.1) (λ i. (r.number i, other_is one joins i))
      (((rules.joined device was r.found).linked one).0 joins.linked)

  -- nothing changed
  all_same : tables_of after ≡ tables_of was → has ≡ had → cluster_of (with_both network place after between has) ≡ cluster_of network
  all_same tables link =
      same_link (with_member network place after) between had has l.is link
      ∙ nothing_changed network device place was after r tables

  -- the device and the link alone are others
  both_changed : cluster_of (with_both network place after between has) ≡ with_link_between (with_peer (cluster_of network) device (tables_of after)) device other has.link
  both_changed =
      one_link (with_member network place after) (in_order device other).0 (in_order device other).1 between had has l
      ∙ ap (λ (c : Cluster). with_link c (in_order device other).0 (in_order device other).1 has.link) (one_device network device place was after r)
      ∙ link_put (with_peer (cluster_of network) device (tables_of after)) device other has.link

  module _ (row : Device → Sight → Peer → Row Acted) (shares : Device → Peer → Type 0) (There : Type 0)
      (to_hand : There → AreLinked (config_of network) device other × shares other (tables_of was))
      (from_hand : AreLinked (config_of network) device other → shares other (tables_of was) → There) where
    at_hand : There → IsAtHand shares lent
    at_hand there = let hand = to_hand there in (other, joins_other hand.0, hand.1)

    there_at_hand : IsAtHand shares lent → There
    there_at_hand hand =
        from_hand (linked_there hand.0 hand.1)
        (subst (λ (one : Device). shares one (tables_of was)) (other_is hand.0 hand.1) hand.2)

    -- the device makes the row at its end of the link
    acted_over : (one : Device) (answer : Answer) → Joins lent one → Acts (row one) (end_of was.number one) lent (record { member = after; link = has }) answer →
        OverLink device other (row other) (cluster_of network) (cluster_of (with_both network place after between has)) answer
    acted_over one answer joins acts =
        let link : had.link ≡ link_between (cluster_of network) device other = sym (link_found network device other ∙ ap link_of l.found) in
        let peer : tables_of was ≡ peer_of (member_at network.members device) = sym (ap peer_of r.found) in
        let same = other_is one joins in (
          acts.acted,
          subst (λ (x : (Device × Device) × (Link × Peer)). row x.0.0 (sight_of (end_of x.0.1 x.0.0) x.1.0) x.1.1 acts.acted answer)
              (λ i. ((same i, r.number i), (link i, peer i))) acts.made,
          both_changed
              ∙ (λ i. with_link_between (with_peer (cluster_of network) device (acts.tables i)) device other (acts.carried i).link)
              ∙ (λ i. with_link_between (with_peer (cluster_of network) device acts.acted.peer) device other (after_deed (end_of (r.number i) (same i)) acts.acted.deed (link i))),
        )

    -- the whole cluster makes the step
    pub over : (answer : Answer) → StepOver row shares lent (record { member = after; link = has }) answer →
        StepOf There (OverLink device other (row other) (cluster_of network)) (cluster_of network) (cluster_of (with_both network place after between has)) answer
    over answer step =
        ⊎_elim
        (λ wanting. inl (tt, (all_same wanting.0.tables wanting.0.link, wanting.1)))
        (λ rest.
        ⊎_elim
        (λ refused.
        inr (inl (
          λ there. refused.0 (at_hand there),
          (all_same (ap (λ (new : Lent). tables_of new.member) refused.1.0) (ap (λ (new : Lent). new.link) refused.1.0), refused.1.1),
        )))
        (λ made. inr (inr (λ absent. made.0 (λ hand. absent (there_at_hand hand)), acted_over made.1.0 answer made.1.1 made.1.2)))
        rest)
        step

-- ---- what stays in such a step

module _ (row : Device → Sight → Peer → Row Acted) (shares : Device → Peer → Type 0) (old new : Lent) where
  -- the device has the same folders
  pub over_keeps : ((one : Device) (sight : Sight) (peer : Peer) → KeepsFolders peer (row one sight peer)) → (answer : Answer) → StepOver row shares old new answer →
      SameFolders (tables_of old.member).replicas (tables_of new.member).replicas
  over_keeps keeps answer step =
      ⊎_elim
      (λ wanting. equal_folders _ _ (ap (λ (p : Peer). p.replicas) wanting.0.tables))
      (λ rest.
      ⊎_elim
      (λ refused. equal_folders _ _ (ap (λ (l : Lent). (tables_of l.member).replicas) refused.1.0))
      (λ made.
      let acts = made.1.2 in
      subst (λ (p : Peer). SameFolders (tables_of old.member).replicas p.replicas) (sym acts.tables)
      (keeps made.1.0 (sight_of (end_of old.member.number made.1.0) old.link.link) (tables_of old.member) acts.acted answer acts.made))
      rest)
      step

  -- the link joins the same two
  pub over_ends : (answer : Answer) → StepOver row shares old new answer → new.link.ends ≡ old.link.ends
  over_ends answer step =
      ⊎_elim
      (λ wanting. ap (λ (b : LinkBetween). b.ends) wanting.0.link)
      (λ rest. ⊎_elim (λ refused. ap (λ (l : Lent). l.link.ends) refused.1.0) (λ made. ap (λ (b : LinkBetween). b.ends) made.1.2.carried) rest)
      step
