-- What the tables of a cluster are where one of its devices was changed.
use Rattle.std.proofs.Common.{zero, suc, ◌↔◌, ◌≡◌, ◌<◌, ◌≤◌, ◌==◌, ℕ, Bool, true, false, if◌then◌else◌, List, [], ◌∷◌, ◌++◌, length, set, get_or, Option, Some, Contains, refl, sym, ap, subst, ◌∙◌}
use Rattle.std.specs.List.{flat_map, position_or_len}
use Rattle.std.specs.FinMap.{get}
use Rattle.std.specs.List.Sorted.{IsStrictlyIncreasing}
use Rattle.std.proofs.Math.Path.{fun_ext}
use Rattle.std.proofs.Math.Seq.{map-set_same}
use Rattle.std.proofs.lemmas.List.{length-set}
use Rattle.std.proofs.lemmas.List.Folds.{find-set, find_past}
use Rattle.std.proofs.lemmas.Option.{same_Some}
use Rattle.bep_record.specs.declared.limits.TheConstants.{MAX_DEVICES}
use Rattle.bep_model.specs.Tables.{Device, Folder}
use Rattle.bep_machine.specs.Cluster.{Config, with_peer}
use Rattle.bep_machine.specs.Sound.{FitsFolder}
use Rattle.bep_machine.specs.Steps.{AreLinked}
use Rattle.bep_peer.specs.Member.{Member, tables_of}
use Rattle.bep_peer.specs.network.Network.{Network, IsNetwork, IsJoined, AreFew, ShareSome, is_number, numbers_of, ends_of, member_at, between_at, peer_of, link_of, config_of, sharing_of, kind_of, cluster_of, failed_of, failed_at}
use Rattle.bep_peer.proofs.Numbers.{itself, same_number}
use Rattle.bep_core.proofs.SameFolders.{SameFolders, same_kinds, same_fit, was_there}

flat_map-set_same : {X Y : Type 0} (f : X → List Y) (xs : List X) (i : ℕ) (y d : X) → f y ≡ f (get_or xs i d) → flat_map f (set xs i y) ≡ flat_map f xs
flat_map-set_same f [] i y d same = refl
flat_map-set_same f (x ∷ xs) zero y d same = ap (λ ys. ys ++ flat_map f xs) same
flat_map-set_same f (x ∷ xs) (suc i) y d same = ap (λ ys. f x ++ ys) (flat_map-set_same f xs i y d same)

-- the first device of this number, at this place, is replaced by another that differs in its tables alone, within the
-- outlines of its folders
pub record Replaces (members : List Member) (device : Device) (place : ℕ) (was after : Member) : Type 0 where
  pub first : place ≡ position_or_len (is_number device) members
  pub there : place < length members
  pub is : get_or members place was ≡ was
  pub found : member_at members device ≡ Some was
  pub number : was.number ≡ device
  pub same : after.number ≡ was.number
  pub linked : after.linked ≡ was.linked
  pub folders : SameFolders (tables_of was).replicas (tables_of after).replicas

abbrev pub with_member : Network → ℕ → Member → Network
with_member network place after = record network { members = set network.members place after }

module _ (network : Network) (device : Device) (place : ℕ) (was after : Member) (r : Replaces network.members device place was after) where
  number_is : is_number device after ≡ true
  number_is = ap (λ (n : Device). n == device) (r.same ∙ r.number) ∙ itself device

  apart_from : (other : Device) (member : Member) → (other == device) ≡ false → member.number ≡ device → is_number other member ≡ false
  apart_from other member apart is = decide (is_number other member) refl
    where
      decide : (t : Bool) → is_number other member ≡ t → is_number other member ≡ false
      decide true tied =
          let same : other ≡ device = sym (same_number member.number other tied) ∙ is in
          let both : true ≡ false = sym (itself device) ∙ ap (λ (n : Device). n == device) (sym same) ∙ apart in
          absurd (cc)
      decide false tied = tied

  -- what stands at a number afterwards
  pub at : (other : Device) → member_at (set network.members place after) other ≡ (if other == device then Some after else member_at network.members other)
  at other = cases (other == device) refl
    where
      cases : (b : Bool) → (other == device) ≡ b → member_at (set network.members place after) other ≡ (if b then Some after else member_at network.members other)
      cases true tied =
          ap (member_at (set network.members place after)) (same_number other device tied)
          ∙ find-set (is_number device) network.members place after r.first r.there number_is
      cases false apart =
          find_past (is_number other) network.members place after was
          (ap (is_number other) r.is ∙ apart_from other was apart r.number) (apart_from other after apart (r.same ∙ r.number))

  pub at_itself : member_at (set network.members place after) device ≡ Some after
  at_itself = at device ∙ ap (λ (b : Bool). if b then Some after else member_at network.members device) (itself device)

  pub failed_now : failed_at (set network.members place after) device ≡ after.trace.failed
  failed_now = ap failed_of at_itself

  numbers_same : numbers_of (set network.members place after) ≡ numbers_of network.members
  numbers_same = map-set_same (λ (member : Member). member.number) network.members place after was (r.same ∙ ap (λ (member : Member). member.number) (sym r.is))

  sharing_same : (folder : Folder) → sharing_of (set network.members place after) folder ≡ sharing_of network.members folder
  sharing_same folder =
      flat_map-set_same (λ (member : Member). kind_of member.number (get (tables_of member).replicas folder)) network.members place after was
      (ap (λ (n : Device). kind_of n (get (tables_of after).replicas folder)) r.same
      ∙ same_kinds was.number (get (tables_of was).replicas folder) (get (tables_of after).replicas folder) (r.folders folder)
      ∙ ap (λ (member : Member). kind_of member.number (get (tables_of member).replicas folder)) (sym r.is))

  -- the configuration stays
  pub config_same : config_of (with_member network place after) ≡ config_of network
  config_same = λ i. record {
    devices = numbers_same i;
    sharing = fun_ext sharing_same i;
    links = ends_of network.links;
  }

  -- the device alone is another one
  pub one_device : cluster_of (with_member network place after) ≡ with_peer (cluster_of network) device (tables_of after)
  one_device = λ i. record {
    config = config_same i;
    peer = fun_ext peers i;
    link = λ lower upper. link_of (between_at network.links lower upper);
  }
    where
      choose : (b : Bool) (found : Option Member) → peer_of (if b then Some after else found) ≡ (if b then tables_of after else peer_of found)
      choose true found = refl
      choose false found = refl

      peers : (other : Device) → peer_of (member_at (set network.members place after) other) ≡ (if other == device then tables_of after else peer_of (member_at network.members other))
      peers other = ap peer_of (at other) ∙ choose (other == device) (member_at network.members other)

  -- where nothing of its tables changed, nothing did
  pub nothing_changed : tables_of after ≡ tables_of was → cluster_of (with_member network place after) ≡ cluster_of network
  nothing_changed same = one_device ∙ ap (with_peer (cluster_of network) device) same ∙ (λ i. record {
    config = config_of network;
    peer = fun_ext peers i;
    link = λ lower upper. link_of (between_at network.links lower upper);
  })
    where
      peers : (other : Device) → (if other == device then tables_of was else peer_of (member_at network.members other)) ≡ peer_of (member_at network.members other)
      peers other = cases (other == device) refl
        where
          cases : (b : Bool) → (other == device) ≡ b → (if b then tables_of was else peer_of (member_at network.members other)) ≡ peer_of (member_at network.members other)
          cases true tied = sym (ap peer_of (ap (member_at network.members) (same_number other device tied) ∙ r.found))
          cases false apart = refl

  joined_after : IsJoined (config_of network) was → IsJoined (config_of network) after
  joined_after joined = record {
    linked = λ other. subst (λ (links : List Device). Contains links other ↔ AreLinked (config_of network) after.number other) (sym r.linked) (subst (λ (n : Device). Contains was.linked other ↔ AreLinked (config_of network) n other) (sym r.same) (joined.linked other));
    folders = λ folder replica is.
        let earlier = was_there (get (tables_of was).replicas folder) (get (tables_of after).replicas folder) replica (r.folders folder) is in
        subst (λ (n : Device). FitsFolder (config_of network) n folder replica) (sym r.same)
        (same_fit (config_of network) was.number folder earlier.0 replica earlier.2 (joined.folders folder earlier.0 earlier.1));
  }

  -- what holds of every network holds still
  pub network_after : IsNetwork network → IsNetwork (with_member network place after)
  network_after rules = record {
    devices = subst IsStrictlyIncreasing (sym numbers_same) rules.devices;
    few = subst (λ (n : ℕ). n ≤ MAX_DEVICES) (sym (length-set network.members place after)) rules.few;
    links = rules.links;
    ends = λ one other stands. subst (λ (numbers : List Device). (one < other) × Contains numbers one × Contains numbers other) (sym numbers_same) (rules.ends one other stands);
    joined = λ one member is. subst (λ (config : Config). IsJoined config member) (sym config_same) (cases one member (one == device) (sym (at one) ∙ is));
    folders = subst AreFew (sym config_same) rules.folders;
    some = subst ShareSome (sym config_same) rules.some;
  }
    where
      cases : (one : Device) (member : Member) (b : Bool) → (if b then Some after else member_at network.members one) ≡ Some member → IsJoined (config_of network) member
      cases one member true is = subst (IsJoined (config_of network)) (same_Some after member is) (joined_after (rules.joined device was r.found))
      cases one member false is = rules.joined one member is
