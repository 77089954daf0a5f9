-- What the devices have of a folder, as a cut has it.
use Rattle.std.proofs.Common.{◌≡◌, ◌≢◌, ◌⊎◌, ◌∙◌, List, [], ◌∷◌, map, flat_map, Option, Some, None, IfSome, IsSome, Contains, option_map, inl, inr, refl, ap, sym, subst}
use Rattle.std.specs.Ordering.{nat_cmp}
use Rattle.std.specs.FinMap.{get}
use Rattle.std.specs.List.Sorted.{IsStrictlySortedBy}
use Rattle.std.proofs.lemmas.Map.Keys.{IsStrictlyIncreasing-from_sorted, sorted_from_strictly_increasing}
use Rattle.bep_facts.specs.Members.{Contains-first, Contains-flat_map, Contains-from_flat_map, Contains-from_image, Contains-image, Contains-one, holds_of_member, not_in_none}
use Rattle.bep_model.specs.Tables.{Device, Folder}
use Rattle.bep_index.specs.Index.{IsIndex}
use Rattle.bep_machine.specs.Replica.{Replica}
use Rattle.bep_folder.specs.Held.{Held}
use Rattle.bep_links.specs.Link.{LinkBetween}
use Rattle.bep_peer.specs.Laws.{TablesAreFound}
use Rattle.bep_peer.specs.Member.{Member, tables_of}
use Rattle.bep_tables.specs.declared.share.Share.{Share}
use Rattle.bep_tables.specs.Cut.{ArePulls, AreShares, AreViews, devices_of, index_of}
use Rattle.bep_cut.specs.Share.{IsSoundAt, share_cut}
use Rattle.bep_cut.specs.Cut.{AreSoundIn, IsSoundIn, Seen, seen, share_at, shared_by}
use Rattle.bep_cut.specs.Parts.{AreParts, Has}
use Rattle.bep_cut.proofs.Gathered.{all_each, gathered_rise}
use Rattle.bep_cut.proofs.PullsCut.{are_pulls}
use Rattle.bep_cut.proofs.ViewsCut.{are_views}

-- ---- of each device that has the folder, and of no other

share_or_none : (device : Device) (found : Option Replica) → (shared_by device found ≡ []) ⊎ ((share : Share) × (shared_by device found ≡ share ∷ []) × (share.device ≡ device))
share_or_none device None = inl refl
share_or_none device (Some replica) = inr (share_cut device replica, refl, refl)

share_from : (device : Device) (found : Option Replica) (share : Share) → Contains (shared_by device found) share → (replica : Replica) × (found ≡ Some replica) × (share_cut device replica ≡ share)
share_from device None share stands = absurd (not_in_none share stands)
share_from device (Some replica) share stands = (replica, refl, Contains-one (share_cut device replica) share stands)

-- the device is one of these, and has the folder
pub record Shows (all : List Seen) (folder : Folder) (device : Device) : Type 0 where
  pub one : Seen
  pub there : Contains all one
  pub number : one.0 ≡ device
  pub replica : Replica
  pub found : get one.1.replicas folder ≡ Some replica

module _ (all : List Seen) (folder : Folder) where
  -- what each of them has of it
  abbrev pub shares : List Share
  shares = flat_map (share_at folder) all

  pub stands_in : (device : Device) → Shows all folder device → Contains (devices_of shares) device
  stands_in device shows =
      subst (Contains (devices_of shares)) shows.number
      (Contains-image (λ (share : Share). share.device) shares (share_cut shows.one.0 shows.replica)
      (Contains-flat_map (share_at folder) all shows.one (share_cut shows.one.0 shows.replica) shows.there
      (subst (λ (o : Option Replica). Contains (shared_by shows.one.0 o) (share_cut shows.one.0 shows.replica)) (sym shows.found) (Contains-first (share_cut shows.one.0 shows.replica) []))))

  of_device : (share : Share) → Contains shares share → (is : Shows all folder share.device) × (share_cut is.one.0 is.replica ≡ share)
  of_device share stands =
      let from = Contains-from_flat_map (share_at folder) all share stands in
      let has = share_from from.0.0 (get from.0.1.replicas folder) share from.2 in
      (record { one = from.0; there = from.1; number = ap (λ (one : Share). one.device) has.2; replica = has.0; found = has.1 }, has.2)

  pub shown_by : (device : Device) → Contains (devices_of shares) device → Shows all folder device
  shown_by device stands =
      let from = Contains-from_image (λ (share : Share). share.device) shares device stands in
      let is = of_device from.0 from.1 in
      record { one = is.0.one; there = is.0.there; number = is.0.number ∙ from.2; replica = is.0.replica; found = is.0.found }

  pub shares_rise : IsStrictlySortedBy nat_cmp (map (λ (one : Seen). one.0) all) → IsStrictlySortedBy nat_cmp (devices_of shares)
  shares_rise rise =
      gathered_rise (λ (one : Seen). one.0) (λ (share : Share). share.device) (share_at folder) (λ one. share_or_none one.0 (get one.1.replicas folder)) all rise

-- ---- of devices that agree on who shares what

pub numbers_seen : (members : List Member) → map (λ (one : Seen). one.0) (map seen members) ≡ map (λ (member : Member). member.number) members
numbers_seen [] = refl
numbers_seen (member ∷ members) = ap (λ (numbers : List Device). member.number ∷ numbers) (numbers_seen members)

module _ (law : TablesAreFound) (members : List Member) (links : List LinkBetween) (parts : AreParts members links) where
  abbrev all : List Seen
  all = map seen members

  pub numbers_rise : IsStrictlySortedBy nat_cmp (map (λ (one : Seen). one.0) (map seen members))
  numbers_rise = subst (IsStrictlySortedBy nat_cmp) (sym (numbers_seen members)) (sorted_from_strictly_increasing (map (λ (member : Member). member.number) members) parts.devices)

  pub shows_of : (device : Device) (folder : Folder) → Has members device folder → Shows (map seen members) folder device
  shows_of device folder has = cases (get has.member.folders folder) refl has.shares where
    cases : (held : Option Held) → get has.member.folders folder ≡ held → IsSome held → Shows all folder device
    cases None is some = absurd (cc)
    cases (Some held) is some = record {
      one = seen has.member;
      there = Contains-image seen members has.member has.there;
      number = has.number;
      replica = held.tables;
      found = law has.member folder ∙ ap (option_map (λ (h : Held). h.tables)) is;
    }

  -- the folder as the device holds it
  pub held_at : (member : Member) (folder : Folder) (replica : Replica) → get (tables_of member).replicas folder ≡ Some replica → (held : Held) × (get member.folders folder ≡ Some held) × (held.tables ≡ replica)
  held_at member folder replica found = cases (get member.folders folder) refl where
    cases : (held : Option Held) → get member.folders folder ≡ held → (held : Held) × (get member.folders folder ≡ Some held) × (held.tables ≡ replica)
    cases None is = absurd (let e : None ≡ Some replica = sym (law member folder ∙ ap (option_map (λ (h : Held). h.tables)) is) ∙ found in cc)
    cases (Some held) is = (held, is, let e : Some held.tables ≡ Some replica = sym (law member folder ∙ ap (option_map (λ (h : Held). h.tables)) is) ∙ found in cc)

  -- the others that a device names share the folder
  others_share : (one : Seen) (folder : Folder) (replica : Replica) → Contains all one → get one.1.replicas folder ≡ Some replica → (other : Device) → Contains replica.others other →
      (other ≢ one.0) × Contains (devices_of (shares all folder)) other
  others_share one folder replica there found other stands =
      let from = Contains-from_image seen members one there in
      let held = held_at from.0 folder replica (ap (λ (s : Seen). get s.1.replicas folder) from.2 ∙ found) in
      let agree = (parts.sharing from.0 folder held.0 other from.1 held.1).0 (subst (λ (r : Replica). Contains r.others other) (sym held.2) stands) in
      (λ same. agree.0 (same ∙ sym (ap (λ (s : Seen). s.0) from.2)), stands_in all folder other (shows_of other folder agree.1))

  pub are_shares : (folder : Folder) → AreSoundIn (map seen members) folder → AreShares (shares (map seen members) folder)
  are_shares folder sound = record {
    rise = IsStrictlyIncreasing-from_sorted (devices_of (shares all folder)) (shares_rise all folder numbers_rise);
    indexes = all_each (λ (share : Share). IsIndex (index_of share)) (shares all folder) (λ share stands.
        let is = of_device all folder share stands in
        subst (λ (one : Share). IsIndex (index_of one)) is.1 (sound_at is.0).index);
    views = all_each (λ (share : Share). AreViews (devices_of (shares all folder)) share.device share.views) (shares all folder) (λ share stands.
        let is = of_device all folder share stands in
        let sound = sound_at is.0 in
        subst (λ (one : Share). AreViews (devices_of (shares all folder)) one.device one.views) is.1
        (are_views (devices_of (shares all folder)) is.0.one.0 is.0.replica.views is.0.replica.others sound.others.rise
        (others_share is.0.one folder is.0.replica is.0.there is.0.found) sound.views));
    pulls = all_each (λ (share : Share). ArePulls share.pulls) (shares all folder) (λ share stands.
        let is = of_device all folder share stands in
        let sound = sound_at is.0 in
        subst (λ (one : Share). ArePulls one.pulls) is.1 (are_pulls is.0.replica.pulls sound.pulls sound.each));
  } where
    sound_at : {device : Device} (shows : Shows all folder device) → IsSoundAt shows.one.0 shows.replica
    sound_at shows =
        subst (λ (o : Option Replica). IfSome o (IsSoundAt shows.one.0)) shows.found (holds_of_member (IsSoundIn folder) all shows.one sound shows.there)
