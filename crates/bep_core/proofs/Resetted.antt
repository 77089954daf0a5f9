-- A device that starts over with empty indexes, and each of whose links is lost, is a step of the whole cluster; so is one
-- that is refused since the id isn't above its present ones.
use Rattle.std.proofs.Common.{◌≡◌, ◌↔◌, ℕ, List, map, get_or, Option, Some, None, Result, Ok, Err, IfErr, OnOk, OnErr, option_map, refl, sym, ap, subst, ◌∙◌, inl, inr}
use Rattle.std.specs.Prelude.{IsErrOf}
use Rattle.std.specs.List.{position}
use Rattle.std.specs.Cmp.Lexicographic.{nat_list_cmp_total}
use Rattle.std.specs.FinMap.{get, slice_cmp-IsAntisymmetric, nat_cmp-IsAntisymmetric}
use Rattle.bep_model.specs.Tables.{Device}
use Rattle.bep_machine.specs.declared.moved.Moved.TheVariants.{Changed}
use Rattle.bep_machine.specs.declared.step.Step.TheVariants.{Reset}
use Rattle.bep_machine.specs.declared.refusal.Refusal.TheVariants.{IndexIdOld, NotShared}
use Rattle.bep_machine.specs.Answer.{Done, Refused as Refuses}
use Rattle.bep_machine.specs.Cluster.{Cluster, with_peer, without_links}
use Rattle.bep_machine.specs.Peer.{Peer}
use Rattle.bep_machine.specs.Replica.{Replica}
use Rattle.bep_machine.specs.Steps.{IsStep, HasIdFrom, anew_under, reset_to}
use Rattle.bep_links.specs.Link.{LinkBetween}
use Rattle.bep_peer.specs.declared.error.PeerError.{PeerError}
use Rattle.bep_peer.specs.declared.error.PeerError.TheVariants as peer
use Rattle.bep_peer.specs.declared.trace.Trace.{Trace}
use Rattle.bep_peer.specs.Member.{Member, Remains, nothing_told, tables_of, untold}
use Rattle.bep_peer.specs.network.Network.{Network, IsNetwork, is_number, cluster_of, ends_of, member_at, peer_of}
use Rattle.bep_core.specs.inner.Restart.{left_by}
use Rattle.bep_core.specs.Counts.{IsCounted}
use Rattle.bep_core.specs.declared.why.Why.TheVariants.{Refused}
use Rattle.bep_peer.proofs.Mapped.{get-changed}
use Rattle.bep_peer.proofs.RowsKeep.{outline}
use Rattle.bep_peer.proofs.Members.{listed, not_listed}
use Rattle.bep_core.proofs.Counted.{counted_at, counted_none}
use Rattle.bep_core.proofs.Lift.{network_after_links}
use Rattle.bep_core.proofs.OneDevice.{Replaces, with_member, one_device, network_after, nothing_changed}
use Rattle.bep_core.proofs.Restarted.{ends_left, links_left}
use Rattle.bep_core.proofs.SameFolders.{SameFolders, equal_folders}
use Rattle.bep_core.proofs.Within.{replaces}

-- ---- what the device answered

pub err_says : {X : Type 0} (result : Result (Unit {0}) PeerError) (error : PeerError) → result ≡ Err error → OnErr result X → X
err_says {X} result error is says = subst (λ (r : Result (Unit {0}) PeerError). OnErr r X) is says

pub ok_says : {X : Type 0} (result : Result (Unit {0}) PeerError) (done : Unit {0}) → result ≡ Ok done → OnOk result X → X
ok_says {X} result done is says = subst (λ (r : Result (Unit {0}) PeerError). OnOk r X) is says

pub err_is_old : {X : Type 0} (result : Result (Unit {0}) PeerError) (error : PeerError) → result ≡ Err error →
    IfErr result (λ e. e ≡ peer.Refused IndexIdOld) → (IsErrOf result (peer.Refused IndexIdOld) ↔ X) → X
err_is_old result error is only old =
    old.0 (is ∙ ap Err (subst (λ (r : Result (Unit {0}) PeerError). IfErr r (λ e. e ≡ peer.Refused IndexIdOld)) is only))

pub ok_is_new : {X : Type 0} (result : Result (Unit {0}) PeerError) (done : Unit {0}) → result ≡ Ok done → (IsErrOf result (peer.Refused IndexIdOld) ↔ X) → ¬ X
ok_is_new result done is old has = let both = sym is ∙ old.1 has in absurd (cc)

-- ---- the cluster's step

-- a device that starts over has the same folders
reset_keeps : (id : ℕ) (old new : Peer) → new ≡ reset_to id old → SameFolders old.replicas new.replicas
reset_keeps id old new is folder =
    ap (λ (p : Peer). option_map outline (get p.replicas folder)) is
    ∙ ap (option_map outline) (get-changed nat_list_cmp_total (slice_cmp-IsAntisymmetric nat_cmp-IsAntisymmetric) (anew_under id) old.replicas folder)
    ∙ outlines (get old.replicas folder)
  where
    outlines : (found : Option Replica) → option_map outline (option_map (anew_under id) found) ≡ option_map outline found
    outlines None = refl
    outlines (Some replica) = refl

-- a device that isn't there doesn't start over
pub none_resets : (network : Network) (device : Device) (id : ℕ) (failed : Option ℕ) → member_at network.members device ≡ None → IsStep (Reset device id) failed (cluster_of network) (cluster_of network) (Refuses NotShared)
none_resets network device id failed none = inr (inl (not_listed network.members device none, (refl, refl)))

pub none_reset_counts : (network : Network) (device : Device) (id : ℕ) → member_at network.members device ≡ None → IsCounted (Reset device id) network network (Err (Refused NotShared))
none_reset_counts network device id none =
    counted_none (Reset device id) device refl network (Err (Refused NotShared)) network (none ∙ sym (ap (option_map untold) none)) (λ other apart. refl) refl

module _ (self network : Network) (seen : network ≡ self) (rules : IsNetwork network) (device : Device) (id : ℕ) (place : ℕ) (was after : Member)
    (found : position (is_number device) self.members ≡ Some place) (value : was ≡ get_or network.members place was)
    (numbered : after.number ≡ was.number) (linked : after.linked ≡ was.linked) where
  replaced : SameFolders (tables_of was).replicas (tables_of after).replicas → Replaces network.members device place was after
  replaced = replaces network.members device place was after (ap (λ (n : Network). position (is_number device) n.members) seen ∙ found) value numbered linked

  -- ---- the device starts over

  module _ (is : tables_of after ≡ reset_to id (tables_of was)) (links : List LinkBetween) (left : links ≡ map (left_by device) network.links) where
    over : Replaces network.members device place was after
    over = replaced (reset_keeps id (tables_of was) (tables_of after) is)

    abbrev pub later : List LinkBetween → Network
    later all = record (with_member network place after) { links = all }

    pub reset_rules : IsNetwork (later links)
    reset_rules =
        network_after_links (with_member network place after) links (ap ends_of left ∙ ends_left device network.links)
        (network_after network device place was after over rules)

    resets : ¬ HasIdFrom id (tables_of was) → (failed : Option ℕ) → IsStep (Reset device id) failed (cluster_of network) (cluster_of (later (map (left_by device) network.links))) (Done Changed)
    resets above failed =
        let here : peer_of (member_at network.members device) ≡ tables_of was = ap peer_of over.found in
        inr (inr (
          λ absent. absent (listed network.members device was over.found),
          inr (
            λ has. above (subst (HasIdFrom id) here has),
            (
              links_left (with_member network place after) device
                  ∙ ap (λ (c : Cluster). without_links c device) (one_device network device place was after over)
                  ∙ ap (λ (p : Peer). without_links (with_peer (cluster_of network) device p) device) (is ∙ ap (reset_to id) (sym here)),
              refl,
            ),
          ),
        ))

    pub reset_made : ¬ HasIdFrom id (tables_of was) → (failed : Option ℕ) → IsStep (Reset device id) failed (cluster_of self) (cluster_of (later links)) (Done Changed)
    reset_made above failed =
        subst (λ (n : Network). IsStep (Reset device id) failed (cluster_of n) (cluster_of (later links)) (Done Changed)) seen
        (subst (λ (all : List LinkBetween). IsStep (Reset device id) failed (cluster_of network) (cluster_of (later all)) (Done Changed)) (sym left)
        (resets above failed))

    pub reset_counts : Remains was after → after.trace ≡ nothing_told → IsCounted (Reset device id) self (later links) (Ok Changed)
    reset_counts rest silent =
        subst (λ (n : Network). IsCounted (Reset device id) n (later links) (Ok Changed)) seen
        (counted_at (Reset device id) device refl network (Ok Changed) place was after over links rest (ap (λ (t : Trace). t.failed) silent))

  -- ---- the id is an old one

  module _ (same : tables_of after ≡ tables_of was) where
    kept : Replaces network.members device place was after
    kept = replaced (equal_folders _ _ (ap (λ (p : Peer). p.replicas) same))

    pub refused_rules : IsNetwork (with_member network place after)
    refused_rules = network_after network device place was after kept rules

    pub reset_refused : HasIdFrom id (tables_of was) → (failed : Option ℕ) → IsStep (Reset device id) failed (cluster_of self) (cluster_of (with_member network place after)) (Refuses IndexIdOld)
    reset_refused has failed =
        let here : peer_of (member_at network.members device) ≡ tables_of was = ap peer_of kept.found in
        subst (λ (n : Network). IsStep (Reset device id) failed (cluster_of n) (cluster_of (with_member network place after)) (Refuses IndexIdOld)) seen
        (inr (inr (
          λ absent. absent (listed network.members device was kept.found),
          inl (subst (HasIdFrom id) (sym here) has, (nothing_changed network device place was after kept same, refl)),
        )))

    pub refused_counts : Remains was after → after.trace ≡ nothing_told → IsCounted (Reset device id) self (with_member network place after) (Err (Refused IndexIdOld))
    refused_counts rest silent =
        subst (λ (n : Network). IsCounted (Reset device id) n (with_member network place after) (Err (Refused IndexIdOld))) seen
        (counted_at (Reset device id) device refl network (Err (Refused IndexIdOld)) place was after kept network.links rest (ap (λ (t : Trace). t.failed) silent))
