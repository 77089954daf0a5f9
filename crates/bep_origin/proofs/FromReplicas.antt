-- What the devices of a cluster that a cut is of have of each folder.
use Rattle.std.proofs.Common.{◌≡◌, ◌≢◌, ◌⊎◌, ◌==◌, ◌||◌, ◌∙◌, true≢false, Bool, true, false, cond, List, [], ◌∷◌, map, Option, Some, None, IsSome, is_some, option_map, unwrap_or, Contains, inl, inr, refl, ap, sym, subst, ⊎_elim}
use Rattle.std.specs.declared.cmp.Ordering.{Ordering}
use Rattle.std.specs.declared.cmp.Ordering.TheVariants.{Less, Equal, Greater}
use Rattle.std.specs.Ordering.{nat_cmp, eq_by_cmp, is_eq, ordering_reverse}
use Rattle.std.specs.Cmp.{nat_cmp_total}
use Rattle.std.specs.Cmp.Lexicographic.{slice_cmp, nat_list_cmp_total}
use Rattle.std.specs.FinMap.{get, get-empty, nat_cmp-IsAntisymmetric}
use Rattle.std.specs.List.{AllByRecursion, find}
use Rattle.std.specs.List.Sorted.{IsStrictlySortedBy}
use Rattle.std.proofs.lemmas.Cmp.{tied_itself}
use Rattle.std.proofs.lemmas.Map.Keys.{sorted_head, sorted_tail}
use Rattle.std.proofs.lemmas.Map.Lookups.{exact_bytes}
use Rattle.bep_facts.specs.Maps.{get-insert_apart, get-insert_here, same_key}
use Rattle.bep_facts.specs.Members.{not_in_none, Contains-cons_cases, Contains-first, Contains-more}
use Rattle.bep_model.specs.Tables.{Device, Folder}
use Rattle.bep_machine.specs.Replica.{Replica}
use Rattle.bep_machine.specs.Said.{is_among, replica_said}
use Rattle.bep_tables.specs.declared.cut.CutParts.{CutParts}
use Rattle.bep_tables.specs.declared.share.Share.{Share}
use Rattle.bep_tables.specs.declared.share.SharedFolder.{SharedFolder}
use Rattle.bep_tables.specs.Cut.{devices_of, is_device, is_folder, share_of, shares_of}
use Rattle.bep_origin.specs.FromCut.{cluster_from, config_from, replica_from, replicas_from, with_share}
use Rattle.bep_origin.proofs.Ties.{tie_same}

-- ---- folders

abbrev names_of : List SharedFolder → List Folder
names_of folders = map (λ (shared : SharedFolder). shared.folder) folders

none_above : (name : Folder) (folders : List SharedFolder) → AllByRecursion (λ (n : Folder). slice_cmp nat_cmp name n ≡ Less) (names_of folders) → find (is_folder name) folders ≡ None
none_above name [] above = refl
none_above name (shared ∷ folders) above =
    ap (λ (b : Bool). cond b (Some shared) (find (is_folder name) folders)) (ap is_eq (nat_list_cmp_total.antisymm shared.folder name ∙ ap ordering_reverse above.0))
    ∙ none_above name folders above.1

abbrev shares_in : Option SharedFolder → List Share
shares_in found = unwrap_or (option_map (λ (shared : SharedFolder). shared.shares) found) []

-- what shares a folder are the shares of one that is there, if any is
pub found_shares : (folder : Folder) (folders : List SharedFolder) → ((shared : SharedFolder) × Contains folders shared × (shares_of folder folders ≡ shared.shares)) ⊎ (shares_of folder folders ≡ [])
found_shares folder [] = inr refl
found_shares folder (shared ∷ folders) = cases (is_folder folder shared) (found_shares folder folders) where
  cases : (b : Bool) → ((one : SharedFolder) × Contains folders one × (shares_of folder folders ≡ one.shares)) ⊎ (shares_of folder folders ≡ []) →
      ((one : SharedFolder) × Contains (shared ∷ folders) one × (shares_in (cond b (Some shared) (find (is_folder folder) folders)) ≡ one.shares)) ⊎ (shares_in (cond b (Some shared) (find (is_folder folder) folders)) ≡ [])
  cases true rest = inl (shared, Contains-first shared folders, refl)
  cases false rest = ⊎_elim (λ there. inl (there.0, Contains-more shared folders there.0 there.1, there.2)) (λ none. inr none) rest

abbrev replica_at : Device → List Share → Option Replica
replica_at device shares = option_map (replica_from shares) (share_of device shares)

-- a device's replica of a folder is of the share that it has there
pub found_replica : (device : Device) (folder : Folder) (folders : List SharedFolder) → IsStrictlySortedBy (slice_cmp nat_cmp) (names_of folders) →
    get (replicas_from device folders) folder ≡ option_map (replica_from (shares_of folder folders)) (share_of device (shares_of folder folders))
found_replica device folder [] rise = get-empty (slice_cmp nat_cmp) folder
found_replica device folder (shared ∷ folders) rise =
    cases (is_folder folder shared) refl (share_of device shared.shares) refl (found_replica device folder folders (sorted_tail (slice_cmp nat_cmp) shared.folder (names_of folders) rise))
  where
    same_name : is_folder folder shared ≡ true → shared.folder ≡ folder
    same_name tied = same_key exact_bytes shared.folder folder tied

    gone : is_folder folder shared ≡ true → find (is_folder folder) folders ≡ None
    gone tied =
        subst (λ (name : Folder). find (is_folder name) folders ≡ None) (same_name tied)
        (none_above shared.folder folders (sorted_head (slice_cmp nat_cmp) shared.folder (names_of folders) rise))

    another : is_folder folder shared ≡ false → folder ≢ shared.folder
    another apart same =
        true≢false (sym (ap is_eq (tied_itself nat_list_cmp_total shared.folder)) ∙ ap (λ (name : Folder). is_folder name shared) (sym same) ∙ apart)

    cases : (b : Bool) → is_folder folder shared ≡ b → (o : Option Share) → share_of device shared.shares ≡ o →
        get (replicas_from device folders) folder ≡ replica_at device (shares_of folder folders) →
        get (with_share shared o (replicas_from device folders)) folder ≡ replica_at device (shares_in (cond b (Some shared) (find (is_folder folder) folders)))
    cases true tied None is rest = rest ∙ ap (λ (found : Option SharedFolder). replica_at device (shares_in found)) (gone tied) ∙ sym (ap (option_map (replica_from shared.shares)) is)
    cases true tied (Some share) is rest =
        ap (get (with_share shared (Some share) (replicas_from device folders))) (sym (same_name tied))
        ∙ get-insert_here nat_list_cmp_total exact_bytes (replicas_from device folders) shared.folder (replica_from shared.shares share)
        ∙ sym (ap (option_map (replica_from shared.shares)) is)
    cases false apart None is rest = rest
    cases false apart (Some share) is rest =
        get-insert_apart nat_list_cmp_total exact_bytes (replicas_from device folders) shared.folder (replica_from shared.shares share) folder (another apart) ∙ rest

-- ---- shares

-- a share that is found is of the device, and one of them
pub share_there : (device : Device) (shares : List Share) (share : Share) → share_of device shares ≡ Some share → (share.device ≡ device) × Contains shares share
share_there device [] share is = absurd (cc)
share_there device (first ∷ shares) share is = cases (is_device device first) refl (share_there device shares share) is where
  cases : (b : Bool) → is_device device first ≡ b → (share_of device shares ≡ Some share → (share.device ≡ device) × Contains shares share) →
      cond b (Some first) (share_of device shares) ≡ Some share → (share.device ≡ device) × Contains (first ∷ shares) share
  cases true tied rest here =
      let same : first ≡ share = cc in
      (ap (λ (one : Share). one.device) (sym same) ∙ same_key nat_cmp-IsAntisymmetric first.device device tied, subst (Contains (first ∷ shares)) same (Contains-first first shares))
  cases false apart rest later = let there = rest later in (there.0, Contains-more first shares share there.1)

-- the device is said to share exactly where a share of it is found
pub among_found : (device : Device) (shares : List Share) → is_among device (map (λ (share : Share). (share.device, share.kind)) shares) ≡ is_some (share_of device shares)
among_found device [] = refl
among_found device (first ∷ shares) =
    ap (λ (b : Bool). b || is_among device (map (λ (share : Share). (share.device, share.kind)) shares)) (sym (tie_same first.device device)) ∙ cases (is_device device first) (among_found device shares)
  where
    cases : (b : Bool) → is_among device (map (λ (share : Share). (share.device, share.kind)) shares) ≡ is_some (share_of device shares) →
        (b || is_among device (map (λ (share : Share). (share.device, share.kind)) shares)) ≡ is_some (cond b (Some first) (share_of device shares))
    cases true rest = refl
    cases false rest = rest

-- one of the devices has a share
pub share_of_one : (device : Device) (shares : List Share) → Contains (devices_of shares) device → is_some (share_of device shares) ≡ true
share_of_one device [] stands = absurd (not_in_none device stands)
share_of_one device (first ∷ shares) stands =
    ⊎_elim
    (λ here. ap (λ (b : Bool). is_some (cond b (Some first) (share_of device shares))) (ap (λ (n : Device). is_eq (nat_cmp n device)) here ∙ ap is_eq (tied_itself nat_cmp_total device)))
    (λ later. cases (is_device device first) (share_of_one device shares later))
    (Contains-cons_cases first.device (devices_of shares) device stands)
  where
    cases : (b : Bool) → is_some (share_of device shares) ≡ true → is_some (cond b (Some first) (share_of device shares)) ≡ true
    cases true rest = refl
    cases false rest = rest

-- ---- what the cluster says of a device's folder

pub said_replica : (cut : CutParts) (device : Device) (folder : Folder) → IsStrictlySortedBy (slice_cmp nat_cmp) (names_of cut.folders) →
    replica_said (cluster_from cut) device folder ≡ option_map (replica_from (shares_of folder cut.folders)) (share_of device (shares_of folder cut.folders))
said_replica cut device folder rise =
    ap (λ (b : Bool). cond b (get (replicas_from device cut.folders) folder) None) (among_found device (shares_of folder cut.folders))
    ∙ ap (λ (o : Option Replica). cond (is_some (share_of device (shares_of folder cut.folders))) o None) (found_replica device folder cut.folders rise)
    ∙ cases (share_of device (shares_of folder cut.folders))
  where
    cases : (o : Option Share) → cond (is_some o) (option_map (replica_from (shares_of folder cut.folders)) o) None ≡ option_map (replica_from (shares_of folder cut.folders)) o
    cases None = refl
    cases (Some share) = refl
