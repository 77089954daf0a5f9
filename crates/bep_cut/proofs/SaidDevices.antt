-- What a cluster says of who shares a folder, and what its cut has of a folder at a device.
use Rattle.std.proofs.Common.{◌≡◌, ◌==◌, ◌||◌, ◌∙◌, Bool, true, false, cond, List, [], ◌∷◌, ◌++◌, map, fold, flat_map, Option, Some, None, IsSome, is_some, option_map, unwrap_or, Contains, refl, ap, sym, subst, eq-eqb, eqb-true}
use Rattle.std.specs.declared.cmp.Ordering.TheVariants.{Less}
use Rattle.std.specs.Ordering.{nat_cmp, eq_by_cmp, is_eq, ordering_reverse}
use Rattle.std.specs.Cmp.{nat_cmp_total}
use Rattle.std.specs.Cmp.Lexicographic.{slice_cmp, nat_list_cmp_total}
use Rattle.std.specs.FinMap.{empty, get, get-empty, nat_cmp-IsAntisymmetric}
use Rattle.std.specs.List.{AllByRecursion, find}
use Rattle.std.specs.List.Sorted.{IsStrictlySortedBy}
use Rattle.std.proofs.lemmas.Cmp.{tied_itself}
use Rattle.std.proofs.lemmas.Map.Keys.{sorted_head, sorted_tail}
use Rattle.std.proofs.lemmas.Map.Lookups.{exact_bytes}
use Rattle.bep_facts.specs.Maps.{key_has_value, same_key}
use Rattle.bep_facts.specs.Members.{Contains-first, Contains-more}
use Rattle.bep_record.specs.declared.folder_kind.FolderKind.{FolderKind}
use Rattle.bep_model.specs.Tables.{Device, Folder}
use Rattle.bep_machine.specs.Replica.{Replica}
use Rattle.bep_machine.specs.Said.{is_among, replica_said}
use Rattle.bep_peer.specs.Member.{Member, tables_of}
use Rattle.bep_peer.specs.network.Network.{Network, cluster_of, kind_of, member_at, numbers_of, peer_of, sharing_of}
use Rattle.bep_tables.specs.declared.share.Share.{Share}
use Rattle.bep_tables.specs.declared.share.SharedFolder.{SharedFolder}
use Rattle.bep_tables.specs.Cut.{is_device, is_folder, share_of, shares_of}
use Rattle.bep_cut.specs.Share.{share_cut}
use Rattle.bep_cut.specs.Cut.{Seen, seen, folder_cut, folders_of, share_at, shared_by, with_folders}
use Rattle.bep_cut.proofs.FoldersCut.{all_added, cuts, found_cut}
use Rattle.bep_cut.proofs.SharesCut.{shares}

-- ---- the shares of any folder

module _ (all : List Seen) (folder : Folder) where
  none_found : (names : List Folder) → ¬ Contains names folder → find (is_folder folder) (map (folder_cut all) names) ≡ None
  none_found [] without = refl
  none_found (name ∷ names) without = cases (eq_by_cmp (slice_cmp nat_cmp) name folder) refl (none_found names (λ later. without (Contains-more name names folder later)))
    where
      cases : (b : Bool) → eq_by_cmp (slice_cmp nat_cmp) name folder ≡ b → find (is_folder folder) (map (folder_cut all) names) ≡ None →
          cond b (Some (folder_cut all name)) (find (is_folder folder) (map (folder_cut all) names)) ≡ None
      cases true tied rest = absurd (without (subst (Contains (name ∷ names)) (same_key exact_bytes name folder tied) (Contains-first name names)))
      cases false apart rest = rest

  no_shares : (some : List Seen) → ((one : Seen) → Contains some one → get one.1.replicas folder ≡ None) → flat_map (share_at folder) some ≡ []
  no_shares [] none = refl
  no_shares (one ∷ some) none =
      ap (λ (o : Option Replica). shared_by one.0 o ++ flat_map (share_at folder) some) (none one (Contains-first one some))
      ∙ no_shares some (λ other stands. none other (Contains-more one some other stands))

  nobody_shows : get (fold with_folders empty all) folder ≡ None → (one : Seen) → Contains all one → (o : Option Replica) → get one.1.replicas folder ≡ o → get one.1.replicas folder ≡ None
  nobody_shows is one stands None there = there
  nobody_shows is one stands (Some replica) there =
      let has : IsSome (get (fold with_folders empty all) folder) = all_added empty all one folder stands (ap is_some there) in
      absurd (let e : true ≡ false = sym has ∙ ap is_some is in cc)

  pub said_shares : shares_of folder (cuts all) ≡ shares all folder
  said_shares = cases (get (fold with_folders empty all) folder) refl where
    cases : (there : Option (Unit {0})) → get (fold with_folders empty all) folder ≡ there → shares_of folder (cuts all) ≡ shares all folder
    cases (Some there) is =
        ap (λ (o : Option SharedFolder). unwrap_or (option_map (λ (s : SharedFolder). s.shares) o) [])
        (found_cut all (folders_of all) folder ((key_has_value nat_list_cmp_total exact_bytes (fold with_folders empty all) folder).1 (ap is_some is)))
    cases None is =
        ap (λ (o : Option SharedFolder). unwrap_or (option_map (λ (s : SharedFolder). s.shares) o) [])
        (none_found (folders_of all) (λ stands.
        let has : IsSome (get (fold with_folders empty all) folder) = (key_has_value nat_list_cmp_total exact_bytes (fold with_folders empty all) folder).0 stands in
        absurd (let e : true ≡ false = sym has ∙ ap is_some is in cc)))
        ∙ sym (no_shares all (λ one stands. nobody_shows is one stands (get one.1.replicas folder) refl))

-- ---- what a device has of it

pub itself : (n : Device) → (n == n) ≡ true
itself n = eq-eqb n n refl

pub tie_same : (one other : Device) → is_eq (nat_cmp one other) ≡ (one == other)
tie_same one other = cases (one == other) refl (eq_by_cmp nat_cmp one other) refl
  where
    cases : (b : Bool) → (one == other) ≡ b → (c : Bool) → eq_by_cmp nat_cmp one other ≡ c → is_eq (nat_cmp one other) ≡ (one == other)
    cases true same c tied = ap is_eq (ap (nat_cmp one) (sym (eqb-true one other same)) ∙ tied_itself nat_cmp_total one) ∙ sym same
    cases false apart true tied = let same : one ≡ other = same_key nat_cmp-IsAntisymmetric one other tied in tied ∙ sym (ap (λ (n : Device). one == n) (sym same) ∙ itself one)
    cases false apart false tied = tied ∙ sym apart

module _ (folder : Folder) (device : Device) where
  -- what the device of this number has of the folder
  abbrev pub there : List Member → Option Replica
  there members = get (peer_of (member_at members device)).replicas folder

  -- devices above it
  apart_above : (number : Device) → nat_cmp device number ≡ Less → (number == device) ≡ false
  apart_above number less = sym (tie_same number device) ∙ ap is_eq (nat_cmp_total.antisymm number device ∙ ap ordering_reverse less)

  no_share_above : (members : List Member) → AllByRecursion (λ (number : Device). nat_cmp device number ≡ Less) (numbers_of members) → find (is_device device) (shares (map seen members) folder) ≡ None
  no_share_above [] above = refl
  no_share_above (member ∷ members) above = cases (get (tables_of member).replicas folder) (no_share_above members above.1)
    where
      cases : (o : Option Replica) → find (is_device device) (shares (map seen members) folder) ≡ None → find (is_device device) (shared_by member.number o ++ shares (map seen members) folder) ≡ None
      cases None rest = rest
      cases (Some replica) rest =
          ap (λ b. cond b (Some (share_cut member.number replica)) (find (is_device device) (shares (map seen members) folder))) (tie_same member.number device ∙ apart_above member.number above.0) ∙ rest

  no_kind_above : (members : List Member) → AllByRecursion (λ (number : Device). nat_cmp device number ≡ Less) (numbers_of members) → is_among device (sharing_of members folder) ≡ false
  no_kind_above [] above = refl
  no_kind_above (member ∷ members) above = cases (get (tables_of member).replicas folder) (no_kind_above members above.1)
    where
      cases : (o : Option Replica) → is_among device (sharing_of members folder) ≡ false → is_among device (kind_of member.number o ++ sharing_of members folder) ≡ false
      cases None rest = rest
      cases (Some replica) rest = ap (λ b. b || is_among device (sharing_of members folder)) (apart_above member.number above.0) ∙ rest

  share_there : (members : List Member) → IsStrictlySortedBy nat_cmp (numbers_of members) → share_of device (shares (map seen members) folder) ≡ option_map (share_cut device) (there members)
  share_there [] rise = sym (ap (option_map (share_cut device)) (get-empty (slice_cmp nat_cmp) folder))
  share_there (member ∷ members) rise =
      cases (member.number == device) refl (get (tables_of member).replicas folder) refl (share_there members (sorted_tail nat_cmp member.number (numbers_of members) rise))
    where
      cases : (b : Bool) → (member.number == device) ≡ b → (o : Option Replica) → get (tables_of member).replicas folder ≡ o →
          share_of device (shares (map seen members) folder) ≡ option_map (share_cut device) (there members) →
          find (is_device device) (shared_by member.number o ++ shares (map seen members) folder) ≡ option_map (share_cut device) (get (peer_of (cond b (Some member) (member_at members device))).replicas folder)
      cases true same None is rest =
          let number = eqb-true member.number device same in
          no_share_above members (subst (λ (n : Device). AllByRecursion (λ (number : Device). nat_cmp n number ≡ Less) (numbers_of members)) number (sorted_head nat_cmp member.number (numbers_of members) rise))
          ∙ sym (ap (option_map (share_cut device)) is)
      cases true same (Some replica) is rest =
          ap (λ b. cond b (Some (share_cut member.number replica)) (find (is_device device) (shares (map seen members) folder))) (tie_same member.number device ∙ same)
          ∙ ap (λ (n : Device). Some (share_cut n replica)) (eqb-true member.number device same)
          ∙ sym (ap (option_map (share_cut device)) is)
      cases false apart None is rest = rest
      cases false apart (Some replica) is rest =
          ap (λ b. cond b (Some (share_cut member.number replica)) (find (is_device device) (shares (map seen members) folder))) (tie_same member.number device ∙ apart) ∙ rest

  pub among_there : (members : List Member) → IsStrictlySortedBy nat_cmp (numbers_of members) → is_among device (sharing_of members folder) ≡ is_some (there members)
  among_there [] rise = sym (ap is_some (get-empty (slice_cmp nat_cmp) folder))
  among_there (member ∷ members) rise =
      cases (member.number == device) refl (get (tables_of member).replicas folder) refl (among_there members (sorted_tail nat_cmp member.number (numbers_of members) rise))
    where
      cases : (b : Bool) → (member.number == device) ≡ b → (o : Option Replica) → get (tables_of member).replicas folder ≡ o → is_among device (sharing_of members folder) ≡ is_some (there members) →
          is_among device (kind_of member.number o ++ sharing_of members folder) ≡ is_some (get (peer_of (cond b (Some member) (member_at members device))).replicas folder)
      cases true same None is rest =
          let number = eqb-true member.number device same in
          no_kind_above members (subst (λ (n : Device). AllByRecursion (λ (number : Device). nat_cmp n number ≡ Less) (numbers_of members)) number (sorted_head nat_cmp member.number (numbers_of members) rise))
          ∙ sym (ap is_some is)
      cases true same (Some replica) is rest = ap (λ b. b || is_among device (sharing_of members folder)) same ∙ sym (ap is_some is)
      cases false apart None is rest = rest
      cases false apart (Some replica) is rest = ap (λ b. b || is_among device (sharing_of members folder)) apart ∙ rest

  pub said_there : (network : Network) → IsStrictlySortedBy nat_cmp (numbers_of network.members) → replica_said (cluster_of network) device folder ≡ there network.members
  said_there network rise = ap (λ b. cond b (there network.members) None) (among_there network.members rise) ∙ cases (there network.members) where
    cases : (o : Option Replica) → cond (is_some o) o None ≡ o
    cases None = refl
    cases (Some replica) = refl

  -- the cut's share is of what the cluster says
  pub said_share : (network : Network) → IsStrictlySortedBy nat_cmp (numbers_of network.members) →
      share_of device (shares_of folder (cuts (map seen network.members))) ≡ option_map (share_cut device) (replica_said (cluster_of network) device folder)
  said_share network rise =
      ap (share_of device) (said_shares (map seen network.members) folder)
      ∙ share_there network.members rise
      ∙ ap (option_map (share_cut device)) (sym (said_there network rise))

-- ---- who shares it

kinds : (folder : Folder) (members : List Member) → map (λ (share : Share). (share.device, share.kind)) (shares (map seen members) folder) ≡ sharing_of members folder
kinds folder [] = refl
kinds folder (member ∷ members) = cases (get (tables_of member).replicas folder) (kinds folder members)
  where
    cases : (o : Option Replica) → map (λ (share : Share). (share.device, share.kind)) (shares (map seen members) folder) ≡ sharing_of members folder →
        map (λ (share : Share). (share.device, share.kind)) (shared_by member.number o ++ shares (map seen members) folder) ≡ kind_of member.number o ++ sharing_of members folder
    cases None rest = rest
    cases (Some replica) rest = ap (λ (more : List (Device × FolderKind)). (member.number, replica.kind) ∷ more) rest

pub said_sharing : (members : List Member) (folder : Folder) → map (λ (share : Share). (share.device, share.kind)) (shares_of folder (cuts (map seen members))) ≡ sharing_of members folder
said_sharing members folder = ap (map (λ (share : Share). (share.device, share.kind))) (said_shares (map seen members) folder) ∙ kinds folder members
