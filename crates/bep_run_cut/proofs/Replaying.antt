-- Copies of devices and links lead from the cluster of their bases to the cluster of what they are.
use Rattle.std.proofs.Common.{◌≡◌, ◌==◌, ◌&&◌, ◌∙◌, ℕ, Bool, true, false, List, [], ◌∷◌, ◌++◌, map, Option, Some, None, option_map, Contains, refl, sym, ap, subst, ⊎_elim, eqb-true}
use Rattle.std.proofs.Math.Path.{fun_ext}
use Rattle.std.proofs.lemmas.Bool.{eq-eqb}
use Rattle.std.proofs.lemmas.Cmp.{on_total, then_total}
use Rattle.std.proofs.lemmas.List.{map-append}
use Rattle.std.proofs.lemmas.List.Elements.{Contains-append_cases}
use Rattle.std.proofs.lemmas.Map.Keys.{sorted_from_strictly_increasing}
use Rattle.std.specs.Cmp.{IsTotalOrder, nat_cmp_total}
use Rattle.std.specs.Ordering.{nat_cmp}
use Rattle.std.specs.List.{AllByRecursion}
use Rattle.std.specs.List.Sorted.{IsStrictlySortedBy}
use Rattle.std.specs.FinMap.{get}
use Rattle.bep_facts.specs.Members.{Contains-from_image, Contains-image, holds_of_member}
use Rattle.bep_record.specs.declared.folder_kind.FolderKind.{FolderKind}
use Rattle.bep_model.specs.Tables.{Device, Folder}
use Rattle.bep_machine.specs.Cluster.{Cluster}
use Rattle.bep_machine.specs.HalfLaws.{ReplaysKeepSharing, shared_as}
use Rattle.bep_machine.specs.Halves.{LinkReplays, PeerReplays}
use Rattle.bep_machine.specs.Link.{Link, lost}
use Rattle.bep_machine.specs.Peer.{Peer}
use Rattle.bep_machine.specs.Replica.{Replica}
use Rattle.bep_links.specs.Link.{LinkBetween}
use Rattle.bep_peer.specs.Member.{Member, tables_of}
use Rattle.bep_peer.specs.network.Network.{between_at, ends_of, is_between, is_number, kind_of, link_of, member_at, numbers_of, peer_of, sharing_of}
use Rattle.bep_log.specs.LoggedLink.{LoggedBetween}
use Rattle.bep_log.specs.LoggedPeer.{LoggedMember}
use Rattle.bep_tables.specs.Cut.{ends_cmp}
use Rattle.bep_cut.specs.Parts.{AreParts}
use Rattle.bep_cut.specs.Says.{cluster_at}
use Rattle.bep_fit.specs.declared.object.Object.TheVariants as objects
use Rattle.bep_fit.specs.Logs.{ObjectLog, events_of}
use Rattle.bep_fit.specs.Replayed.{AreReplayed, ObjectReplays, objects_of}
use Rattle.bep_run_cut.specs.RunCut.{IsLinkReplayedCopy, IsReplayedCopy, device_log, link_log, links_base, links_now, logs_of, members_base, members_now}
use Rattle.bep_run_cut.proofs.FoundByKey.{found, none}

-- ---- finding devices and links

has_number : (member : Member) → is_number member.number member ≡ true
has_number member = eq-eqb member.number member.number refl

number_is : (device : Device) (member : Member) → is_number device member ≡ true → member.number ≡ device
number_is device member is = eqb-true member.number device is

abbrev number_of : Member → Device
number_of member = member.number

device_found : (members : List Member) (member : Member) → IsStrictlySortedBy nat_cmp (numbers_of members) → Contains members member → member_at members member.number ≡ Some member
device_found members member sorted there = found nat_cmp nat_cmp_total number_of is_number has_number number_is members member sorted there

no_device : (members : List Member) (device : Device) → ¬ Contains (numbers_of members) device → member_at members device ≡ None
no_device members device absent = none nat_cmp nat_cmp_total number_of is_number has_number number_is members device absent

total_ends : IsTotalOrder ends_cmp
total_ends = then_total (on_total (λ (ends : ℕ × ℕ). ends.0) nat_cmp_total) (on_total (λ (ends : ℕ × ℕ). ends.1) nat_cmp_total)

abbrev joins : Device × Device → LinkBetween → Bool
joins ends between = is_between ends.0 ends.1 between

joins_its_ends : (between : LinkBetween) → joins between.ends between ≡ true
joins_its_ends between = both (eq-eqb between.ends.0 between.ends.0 refl) (eq-eqb between.ends.1 between.ends.1 refl) where
  both : {a b : Bool} → a ≡ true → b ≡ true → (a && b) ≡ true
  both one other = λ i. one i && other i

ends_are : (ends : Device × Device) (between : LinkBetween) → joins ends between ≡ true → between.ends ≡ ends
ends_are ends between is =
    let parts = both (between.ends.0 == ends.0) (between.ends.1 == ends.1) is in
    λ i. (eqb-true between.ends.0 ends.0 parts.0 i, eqb-true between.ends.1 ends.1 parts.1 i)
  where
    both : (c d : Bool) → (c && d) ≡ true → (c ≡ true) × (d ≡ true)
    both true d is = (refl, is)
    both false d is = absurd (cc)

abbrev its_ends : LinkBetween → Device × Device
its_ends between = between.ends

link_found : (links : List LinkBetween) (between : LinkBetween) → IsStrictlySortedBy ends_cmp (ends_of links) → Contains links between → between_at links between.ends.0 between.ends.1 ≡ Some between
link_found links between sorted there = found ends_cmp total_ends its_ends joins joins_its_ends ends_are links between sorted there

no_link_found : (links : List LinkBetween) (ends : Device × Device) → ¬ Contains (ends_of links) ends → between_at links ends.0 ends.1 ≡ None
no_link_found links ends absent = none ends_cmp total_ends its_ends joins joins_its_ends ends_are links ends absent

-- ---- what no event changes

pub numbers_kept : (peers : List LoggedMember) → AllByRecursion IsReplayedCopy peers → numbers_of (members_base peers) ≡ numbers_of (members_now peers)
numbers_kept [] each = refl
numbers_kept (peer ∷ more) each = λ i. each.0.number i ∷ numbers_kept more each.1 i

pub ends_kept : (links : List LoggedBetween) → AllByRecursion IsLinkReplayedCopy links → ends_of (links_base links) ≡ ends_of (links_now links)
ends_kept [] each = refl
ends_kept (link ∷ more) each = λ i. each.0.ends i ∷ ends_kept more each.1 i

abbrev kind_as : Device → Option (FolderKind × List Device) → List (Device × FolderKind)
kind_as device None = []
kind_as device (Some shared) = (device, shared.0) ∷ []

kind_is : (device : Device) (replica : Option Replica) → kind_as device (option_map shared_as replica) ≡ kind_of device replica
kind_is device None = refl
kind_is device (Some replica) = refl

module _ (keeps : ReplaysKeepSharing) (folder : Folder) where
  kind_kept : (peer : LoggedMember) → IsReplayedCopy peer →
      kind_of peer.base.number (get (tables_of peer.base).replicas folder) ≡ kind_of peer.now.number (get (tables_of peer.now).replicas folder)
  kind_kept peer replayed =
      let same = keeps peer.now.number (tables_of peer.base) (tables_of peer.now) (events_of peer.log) replayed.replays folder in
      sym (kind_is peer.base.number (get (tables_of peer.base).replicas folder))
      ∙ (λ i. kind_as (replayed.number i) (sym same i))
      ∙ kind_is peer.now.number (get (tables_of peer.now).replicas folder)

  sharing_kept : (peers : List LoggedMember) → AllByRecursion IsReplayedCopy peers → sharing_of (members_base peers) folder ≡ sharing_of (members_now peers) folder
  sharing_kept [] each = refl
  sharing_kept (peer ∷ more) each = λ i. kind_kept peer each.0 i ++ sharing_kept more each.1 i

-- ---- the objects

of_devices : (peers : List LoggedMember) → map (λ (log : ObjectLog). log.object) (map device_log peers) ≡ map (λ (device : Device). objects.Device device) (numbers_of (members_now peers))
of_devices [] = refl
of_devices (peer ∷ more) = ap (λ os. objects.Device peer.now.number ∷ os) (of_devices more)

of_links : (links : List LoggedBetween) → map (λ (log : ObjectLog). log.object) (map link_log links) ≡ map (λ (ends : Device × Device). objects.Link ends.0 ends.1) (ends_of (links_now links))
of_links [] = refl
of_links (link ∷ more) = ap (λ os. objects.Link link.now.ends.0 link.now.ends.1 ∷ os) (of_links more)

-- ---- the whole

module _ (keeps : ReplaysKeepSharing) (peers : List LoggedMember) (links : List LoggedBetween) (each : AllByRecursion IsReplayedCopy peers) (links_each : AllByRecursion IsLinkReplayedCopy links) (parts : AreParts (members_now peers) (links_now links)) (base_parts : AreParts (members_base peers) (links_base links)) where
  abbrev bases : Cluster
  bases = cluster_at (members_base peers) (links_base links)

  abbrev present : Cluster
  present = cluster_at (members_now peers) (links_now links)

  config_kept : present.config ≡ bases.config
  config_kept =
      let kept : bases.config ≡ present.config = λ i. record {
        devices = numbers_kept peers each i;
        sharing = fun_ext (λ folder. sharing_kept keeps folder peers each) i;
        links = ends_kept links links_each i;
      } in
      sym kept

  objects_are : map (λ (log : ObjectLog). log.object) (logs_of peers links) ≡ objects_of bases.config
  objects_are =
      map-append (λ (log : ObjectLog). log.object) (map device_log peers) (map link_log links)
      ∙ (λ i. of_devices peers i ++ of_links links i)
      ∙ ap objects_of config_kept

  device_leads : (peer : LoggedMember) → Contains peers peer → ObjectReplays bases present (objects.Device peer.now.number) peer.log
  device_leads peer there =
      let replayed = holds_of_member IsReplayedCopy peers peer each there in
      let is_base : bases.peer peer.now.number ≡ tables_of peer.base =
      ap bases.peer (sym replayed.number)
      ∙ ap peer_of (device_found (members_base peers) peer.base (sorted_from_strictly_increasing (numbers_of (members_base peers)) base_parts.devices) (Contains-image (λ (copy : LoggedMember). copy.base) peers peer there)) in
      let is_now : present.peer peer.now.number ≡ tables_of peer.now =
      ap peer_of (device_found (members_now peers) peer.now (sorted_from_strictly_increasing (numbers_of (members_now peers)) parts.devices) (Contains-image (λ (copy : LoggedMember). copy.now) peers peer there)) in
      subst (λ (old : Peer). PeerReplays peer.now.number old (events_of peer.log) (present.peer peer.now.number)) (sym is_base)
      (subst (λ (new : Peer). PeerReplays peer.now.number (tables_of peer.base) (events_of peer.log) new) (sym is_now) replayed.replays)

  link_leads : (link : LoggedBetween) → Contains links link → ObjectReplays bases present (objects.Link link.now.ends.0 link.now.ends.1) link.log
  link_leads link there =
      let replayed = holds_of_member IsLinkReplayedCopy links link links_each there in
      let is_base : bases.link link.now.ends.0 link.now.ends.1 ≡ link.base.link =
      ap (λ (ends : Device × Device). bases.link ends.0 ends.1) (sym replayed.ends)
      ∙ ap link_of (link_found (links_base links) link.base base_parts.rising (Contains-image (λ (copy : LoggedBetween). copy.base) links link there)) in
      let is_now : present.link link.now.ends.0 link.now.ends.1 ≡ link.now.link =
      ap link_of (link_found (links_now links) link.now parts.rising (Contains-image (λ (copy : LoggedBetween). copy.now) links link there)) in
      subst (λ (old : Link). LinkReplays link.now.ends.0 link.now.ends.1 old (events_of link.log) (present.link link.now.ends.0 link.now.ends.1)) (sym is_base)
      (subst (λ (new : Link). LinkReplays link.now.ends.0 link.now.ends.1 link.base.link (events_of link.log) new) (sym is_now) replayed.replays)

  abbrev Leads : ObjectLog → Type 0
  Leads log = ObjectReplays bases present log.object log.events

  each_leads : (log : ObjectLog) → Contains (logs_of peers links) log → Leads log
  each_leads log there =
      ⊎_elim
      (λ device. let peer = Contains-from_image device_log peers log device in subst Leads peer.2 (device_leads peer.0 peer.1))
      (λ between. let link = Contains-from_image link_log links log between in subst Leads link.2 (link_leads link.0 link.1))
      (Contains-append_cases (map device_log peers) (map link_log links) log there)

  no_more_devices : (device : Device) → ¬ Contains bases.config.devices device → present.peer device ≡ bases.peer device
  no_more_devices device absent =
      ap peer_of (no_device (members_now peers) device (λ there. absent (subst (λ ds. Contains ds device) (sym (numbers_kept peers each)) there)))
      ∙ sym (ap peer_of (no_device (members_base peers) device absent))

  no_more_links : (lower upper : Device) → ¬ Contains bases.config.links (lower, upper) →
      (present.link lower upper ≡ bases.link lower upper) × (lost (bases.link lower upper) ≡ bases.link lower upper)
  no_more_links lower upper absent =
      let no_base = ap link_of (no_link_found (links_base links) (lower, upper) absent) in
      let no_now = ap link_of (no_link_found (links_now links) (lower, upper) (λ there. absent (subst (λ es. Contains es (lower, upper)) (sym (ends_kept links links_each)) there))) in
      (no_now ∙ sym no_base, ap lost no_base ∙ sym no_base)

  pub copies_replay : AreReplayed (logs_of peers links) (cluster_at (members_base peers) (links_base links)) (cluster_at (members_now peers) (links_now links))
  copies_replay = record {
    config = config_kept;
    objects = objects_are;
    replayed = each_leads;
    no_device = no_more_devices;
    no_link = no_more_links;
  }
