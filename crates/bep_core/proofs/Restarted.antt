-- A device that starts again, and each of whose links is lost, is a step of the whole cluster.
use Rattle.std.proofs.Common.{◌≡◌, ◌==◌, ◌||◌, ◌&&◌, ℕ, Bool, true, false, cond, if◌then◌else◌, List, [], ◌∷◌, map, get_or, Option, Some, None, Ok, Err, option_map, refl, sym, ap, subst, ◌∙◌, inl, inr}
use Rattle.std.specs.List.{position}
use Rattle.std.proofs.Math.Path.{fun_ext}
use Rattle.std.specs.Cmp.Lexicographic.{nat_list_cmp_total}
use Rattle.std.specs.FinMap.{get, slice_cmp-IsAntisymmetric, nat_cmp-IsAntisymmetric}
use Rattle.bep_model.specs.Tables.{Device}
use Rattle.bep_machine.specs.declared.moved.Moved.TheVariants.{Changed}
use Rattle.bep_machine.specs.declared.step.Step.TheVariants.{Restart}
use Rattle.bep_machine.specs.declared.refusal.Refusal.TheVariants.{NotShared}
use Rattle.bep_machine.specs.Answer.{Done, Refused as Refuses}
use Rattle.bep_machine.specs.Cluster.{Cluster, with_peer, without_links}
use Rattle.bep_machine.specs.Link.{lost}
use Rattle.bep_machine.specs.Peer.{Peer}
use Rattle.bep_machine.specs.Replica.{Replica}
use Rattle.bep_machine.specs.Steps.{IsStep, restarted, without_pulls}
use Rattle.bep_links.specs.Link.{LinkBetween}
use Rattle.bep_peer.specs.declared.trace.Trace.{Trace}
use Rattle.bep_peer.specs.Member.{Member, Remains, nothing_told, tables_of, untold}
use Rattle.bep_peer.specs.network.Network.{Network, IsNetwork, is_between as joins, is_number, cluster_of, ends_of, numbers_of, sharing_of, member_at, between_at, peer_of, link_of}
use Rattle.bep_core.specs.inner.Restart.{left_by}
use Rattle.bep_peer.proofs.Mapped.{get-changed}
use Rattle.bep_core.specs.Counts.{IsCounted}
use Rattle.bep_core.specs.declared.why.Why.TheVariants.{Refused}
use Rattle.bep_core.proofs.Counted.{counted_at, counted_none}
use Rattle.bep_core.proofs.Lift.{joins_ends, network_after_links}
use Rattle.bep_core.proofs.OneDevice.{Replaces, with_member, one_device, network_after}
use Rattle.bep_peer.proofs.RowsKeep.{outline}
use Rattle.bep_core.proofs.SameFolders.{SameFolders}
use Rattle.bep_peer.proofs.Members.{listed, not_listed}
use Rattle.bep_core.proofs.Within.{replaces}

-- a device that starts again has the same folders
pub restart_keeps : (old new : Peer) → new ≡ restarted old → SameFolders old.replicas new.replicas
restart_keeps old new is folder =
    ap (λ (p : Peer). option_map outline (get p.replicas folder)) is
    ∙ ap (option_map outline) (get-changed nat_list_cmp_total (slice_cmp-IsAntisymmetric nat_cmp-IsAntisymmetric) without_pulls old.replicas folder)
    ∙ outlines (get old.replicas folder)
  where
    outlines : (found : Option Replica) → option_map outline (option_map without_pulls found) ≡ option_map outline found
    outlines None = refl
    outlines (Some replica) = refl

module _ (device : Device) where
  pub left_ends : (between : LinkBetween) → (left_by device between).ends ≡ between.ends
  left_ends between = cases ((between.ends.0 == device) || (between.ends.1 == device))
    where
      cases : (b : Bool) → (if b then record between { link = lost between.link } else between).ends ≡ between.ends
      cases true = refl
      cases false = refl

  -- the links have the same ends as before
  pub ends_left : (links : List LinkBetween) → ends_of (map (left_by device) links) ≡ ends_of links
  ends_left [] = refl
  ends_left (between ∷ links) = λ i. left_ends between i ∷ ends_left links i

  found_left : (links : List LinkBetween) (lower upper : Device) → link_of (between_at (map (left_by device) links) lower upper) ≡ (if (lower == device) || (upper == device) then lost (link_of (between_at links lower upper)) else link_of (between_at links lower upper))
  found_left [] lower upper = none ((lower == device) || (upper == device))
    where
      none : (b : Bool) → link_of None ≡ (if b then lost (link_of None) else link_of None)
      none true = refl
      none false = refl
  found_left (between ∷ links) lower upper =
      ap (λ (b : Bool). link_of (cond b (Some (left_by device between)) (between_at (map (left_by device) links) lower upper))) (ap (λ (ends : Device × Device). (ends.0 == lower) && (ends.1 == upper)) (left_ends between))
      ∙ cases (joins lower upper between) refl (found_left links lower upper)
    where
      here : (b : Bool) → link_of (Some (if b then record between { link = lost between.link } else between)) ≡ (if b then lost between.link else between.link)
      here true = refl
      here false = refl

      cases : (t : Bool) → joins lower upper between ≡ t → link_of (between_at (map (left_by device) links) lower upper) ≡ (if (lower == device) || (upper == device) then lost (link_of (between_at links lower upper)) else link_of (between_at links lower upper)) →
          link_of (cond t (Some (left_by device between)) (between_at (map (left_by device) links) lower upper)) ≡ (if (lower == device) || (upper == device) then lost (link_of (cond t (Some between) (between_at links lower upper))) else link_of (cond t (Some between) (between_at links lower upper)))
      cases true is rest =
          here ((between.ends.0 == device) || (between.ends.1 == device))
          ∙ ap (λ (ends : Device × Device). if (ends.0 == device) || (ends.1 == device) then lost between.link else between.link) (joins_ends lower upper between is)
      cases false is rest = rest

-- each link of the device is lost, and all else stays
pub links_left : (network : Network) (device : Device) → cluster_of (record network { links = map (left_by device) network.links }) ≡ without_links (cluster_of network) device
links_left network device = λ i. record {
  config = record { devices = numbers_of network.members; sharing = sharing_of network.members; links = ends_left device network.links i };
  peer = λ one. peer_of (member_at network.members one);
  link = fun_ext (λ lower. fun_ext (λ upper. found_left device network.links lower upper)) i;
}

-- the whole cluster makes the step
restarts : (network : Network) (device : Device) (place : ℕ) (was after : Member) → Replaces network.members device place was after → tables_of after ≡ restarted (tables_of was) → (failed : Option ℕ) →
    IsStep (Restart device) failed (cluster_of network) (cluster_of (record (with_member network place after) { links = map (left_by device) network.links })) (Done Changed)
restarts network device place was after r is failed =
    let here : peer_of (member_at network.members device) ≡ tables_of was = ap peer_of r.found in
    inr (inr (
      λ absent. absent (listed network.members device was r.found),
      (
        links_left (with_member network place after) device
            ∙ ap (λ (c : Cluster). without_links c device) (one_device network device place was after r)
            ∙ ap (λ (p : Peer). without_links (with_peer (cluster_of network) device p) device) (is ∙ ap restarted (sym here)),
        refl,
      ),
    ))

-- a device that isn't there starts nothing
pub none_restarts : (network : Network) (device : Device) (failed : Option ℕ) → member_at network.members device ≡ None → IsStep (Restart device) failed (cluster_of network) (cluster_of network) (Refuses NotShared)
none_restarts network device failed none = inr (inl (not_listed network.members device none, (refl, refl)))

pub none_restarted_counts : (network : Network) (device : Device) → member_at network.members device ≡ None → IsCounted (Restart device) network network (Err (Refused NotShared))
none_restarted_counts network device none =
    counted_none (Restart device) device refl network (Err (Refused NotShared)) network (none ∙ sym (ap (option_map untold) none)) (λ other apart. refl) refl

module _ (self network : Network) (seen : network ≡ self) (rules : IsNetwork network) (device : Device) (place : ℕ) (was after : Member) (links : List LinkBetween)
    (found : position (is_number device) self.members ≡ Some place) (value : was ≡ get_or network.members place was)
    (is : tables_of after ≡ restarted (tables_of was)) (numbered : after.number ≡ was.number) (linked : after.linked ≡ was.linked)
    (left : links ≡ map (left_by device) network.links) where
  replaced : Replaces network.members device place was after
  replaced =
      replaces network.members device place was after (ap (λ (n : Network). position (is_number device) n.members) seen ∙ found) value numbered linked
      (restart_keeps (tables_of was) (tables_of after) is)

  abbrev pub later : List LinkBetween → Network
  later all = record (with_member network place after) { links = all }

  -- the cluster is a network still
  pub restart_rules : IsNetwork (later links)
  restart_rules =
      network_after_links (with_member network place after) links (ap ends_of left ∙ ends_left device network.links)
      (network_after network device place was after replaced rules)

  -- and it made the step
  pub restart_made : (failed : Option ℕ) → IsStep (Restart device) failed (cluster_of self) (cluster_of (later links)) (Done Changed)
  restart_made failed =
      subst (λ (n : Network). IsStep (Restart device) failed (cluster_of n) (cluster_of (later links)) (Done Changed)) seen
      (subst (λ (all : List LinkBetween). IsStep (Restart device) failed (cluster_of network) (cluster_of (later all)) (Done Changed)) (sym left)
      (restarts network device place was after replaced is failed))

  -- no store was called
  pub restart_counts : Remains was after → after.trace ≡ nothing_told → IsCounted (Restart device) self (later links) (Ok Changed)
  restart_counts rest silent =
      subst (λ (n : Network). IsCounted (Restart device) n (later links) (Ok Changed)) seen
      (counted_at (Restart device) device refl network (Ok Changed) place was after replaced links rest (ap (λ (t : Trace). t.failed) silent))
