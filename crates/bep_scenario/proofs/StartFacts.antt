-- What has no fault may start: each folder, device and link may be added in its turn.
use Rattle.std.proofs.Common.{◌≡◌, ◌≢◌, ◌≤◌, ◌+◌, ◌∙◌, ◌||◌, ℕ, true, false, List, [], ◌∷◌, length, Contains, true≢false, refl, sym, ap, subst, ⊎_elim, arith}
use Rattle.std.specs.List.{AllByRecursion, list_any}
use Rattle.std.specs.List.Sorted.{IsStrictlySortedBy}
use Rattle.std.specs.Ordering.{nat_cmp}
use Rattle.std.specs.Cmp.{nat_cmp_total}
use Rattle.std.specs.Cmp.Lexicographic.{slice_cmp, nat_list_cmp_total}
use Rattle.std.specs.BTreeMap.{is_at}
use Rattle.std.proofs.lemmas.Map.Lookups.{CmpEqualImpliesEq, exact_unsigned, exact_bytes, exact_pairs}
use Rattle.bep_facts.specs.Members.{not_in_none, Contains-cons_cases}
use Rattle.bep_record.specs.FolderName.{IsFolderName}
use Rattle.bep_record.specs.declared.limits.TheConstants.{MAX_FOLDERS, MAX_DEVICES}
use Rattle.bep_config.specs.Config.{by_name, by_share, by_ends, has_folder, has_device, shares_folder, has_link, Joins, nothing, with_folder, with_share, with_link}
use Rattle.bep_document.specs.declared.parts.ShareParts.{ShareParts}
use Rattle.bep_document.specs.declared.parts.FolderParts.{FolderParts}
use Rattle.bep_document.specs.declared.parts.LinkParts.{LinkParts}
use Rattle.bep_document.specs.Faultless.{HasNoKey, KeysDiffer, AreOf, IsDeviceOf, ends_of}
use Rattle.bep_document.proofs.BoolFacts.{both_false}
use Rattle.bep_document.proofs.Given.{all_map}
use Rattle.bep_scenario.specs.declared.parts.ScenarioParts.{ScenarioParts}
use Rattle.bep_scenario.specs.Configured.{Start, sharing_of, with_shares, with_shared, with_folders, MayShare, MayFolders, MayLink, MayStart}
use Rattle.bep_scenario.specs.Faultless.{HasIndexId, IsFaultless}
use Rattle.bep_scenario.proofs.InsertFacts.{neither, or_first, or_second, not_at, at_itself, any_insert, length_insert, sorted_insert, found_insert, AreAmong, among_insert, fewer}

abbrev Name : Type 0
Name = List ℕ

exact_share : CmpEqualImpliesEq by_share
exact_share = exact_pairs (slice_cmp nat_cmp) nat_cmp exact_bytes exact_unsigned

exact_ends : CmpEqualImpliesEq by_ends
exact_ends = exact_pairs nat_cmp nat_cmp exact_unsigned exact_unsigned

each : {A : Type 0} {P : A → Type 0} → ((x : A) → P x) → (xs : List A) → AllByRecursion P xs
each holds [] = tt
each holds (x ∷ more) = (holds x, each holds more)

-- ---- the devices that share a folder

-- they rise, and each is one of these
record AreDevices (devices : List ℕ) (config : Start) : Type 0 where
  sorted : IsStrictlySortedBy nat_cmp config.devices
  among : AreAmong devices config.devices

-- another share of the same folder is still new
still_new : (config : Start) (name : Name) (share : ShareParts) (more : List ShareParts) → HasNoKey (λ (s : ShareParts). s.device) share.device more → AllByRecursion (λ (s : ShareParts). shares_folder config name s.device ≡ false) more
    → AllByRecursion (λ (s : ShareParts). shares_folder (with_share config name share.device (sharing_of share)) name s.device ≡ false) more
still_new config name share [] apart new = tt
still_new config name share (s ∷ more) apart new = (
  found_insert exact_share config.shares (name, share.device) (name, s.device) (sharing_of share)
      ∙ neither _ _ (not_at exact_share (name, s.device) (name, share.device) (λ same. apart.0 (ap (λ (k : Name × ℕ). k.1) same))) new.0,
  still_new config name share more apart.1 new.1,
)

may_share : (devices : List ℕ) → length devices ≤ MAX_DEVICES → (config : Start) (name : Name) (shares : List ShareParts) → has_folder config name ≡ true → AllByRecursion HasIndexId shares → KeysDiffer (λ (s : ShareParts). s.device) shares
    → AllByRecursion (λ (s : ShareParts). Contains devices s.device) shares → AllByRecursion (λ (s : ShareParts). shares_folder config name s.device ≡ false) shares → AreDevices devices config
    → MayShare config name shares × AreDevices devices (with_shares config name shares)
may_share devices few config name [] there numbered differ of new are = (tt, are)
may_share devices few config name (share ∷ more) there numbered differ of new are =
    let next = with_share config name share.device (sharing_of share) in
    let rest = may_share devices few next name more there numbered.1 differ.1 of.1 (still_new config name share more differ.0 new.1)
    (record { sorted = sorted_insert nat_cmp_total config.devices share.device are.sorted; among = among_insert devices config.devices share.device are.among of.0 }) in (
      (
        record {
          index = numbered.0;
          there = there;
          few = λ none. let less = fewer devices config.devices share.device are.sorted are.among of.0 none in omega arith;
          new = new.0;
        },
        rest.0,
      ),
      rest.1,
    )

-- ---- what stays when a folder's devices are added

folders_stay : (config : Start) (name : Name) (shares : List ShareParts) → (with_shares config name shares).folders ≡ config.folders
folders_stay config name [] = refl
folders_stay config name (share ∷ more) = folders_stay (with_share config name share.device (sharing_of share)) name more

links_stay : (config : Start) (name : Name) (shares : List ShareParts) → (with_shares config name shares).links ≡ config.links
links_stay config name [] = refl
links_stay config name (share ∷ more) = links_stay (with_share config name share.device (sharing_of share)) name more

others_stay : (config : Start) (name : Name) (shares : List ShareParts) (other : Name) (device : ℕ) → other ≢ name → shares_folder config other device ≡ false → shares_folder (with_shares config name shares) other device ≡ false
others_stay config name [] other device apart none = none
others_stay config name (share ∷ more) other device apart none =
    others_stay (with_share config name share.device (sharing_of share)) name more other device apart
    (found_insert exact_share config.shares (name, share.device) (other, device) (sharing_of share)
    ∙ neither _ _ (not_at exact_share (other, device) (name, share.device) (λ same. apart (ap (λ (k : Name × ℕ). k.0) same))) none)

device_stays : (config : Start) (name : Name) (shares : List ShareParts) (q : ℕ) → has_device config q ≡ true → has_device (with_shares config name shares) q ≡ true
device_stays config name [] q there = there
device_stays config name (share ∷ more) q there =
    device_stays (with_share config name share.device (sharing_of share)) name more q (any_insert exact_unsigned config.devices share.device q ∙ or_second _ _ there)

share_there : (config : Start) (name : Name) (shares : List ShareParts) (share : ShareParts) → Contains shares share → has_device (with_shares config name shares) share.device ≡ true
share_there config name [] share none = absurd (not_in_none share none)
share_there config name (first ∷ more) share there =
    let next = with_share config name first.device (sharing_of first) in
    ⊎_elim
    (λ same.
    subst (λ (s : ShareParts). has_device (with_shares next name more) s.device ≡ true) same
    (device_stays next name more first.device (any_insert exact_unsigned config.devices first.device first.device ∙ or_first _ _ (at_itself nat_cmp_total first.device))))
    (λ later. share_there next name more share later)
    (Contains-cons_cases first more share there)

-- ---- folders

-- there is room for these folders, which are new, and no folder is shared that isn't there
record IsReady (devices : List ℕ) (config : Start) (folders : List FolderParts) : Type 0 where
  room : length config.folders + length folders ≤ MAX_FOLDERS
  new : AllByRecursion (λ folder. has_folder config folder.folder ≡ false) folders
  unshared : (name : Name) (device : ℕ) → has_folder config name ≡ false → shares_folder config name device ≡ false
  are : AreDevices devices config

-- what holds of each folder
record IsGood (devices : List ℕ) (folder : FolderParts) : Type 0 where
  named : IsFolderName folder.folder
  numbered : AllByRecursion HasIndexId folder.devices
  differ : KeysDiffer (λ (s : ShareParts). s.device) folder.devices
  of : AllByRecursion (λ (s : ShareParts). Contains devices s.device) folder.devices

module _ (devices : List ℕ) (few : length devices ≤ MAX_DEVICES) where
  module _ (config : Start) (folder : FolderParts) (more : List FolderParts) (good : IsGood devices folder) (ready : IsReady devices config (folder ∷ more)) where
    added : Start
    added = with_folder config folder.folder

    there : has_folder (with_folder config folder.folder) folder.folder ≡ true
    there = any_insert exact_bytes config.folders folder.folder folder.folder ∙ or_first _ _ (at_itself nat_list_cmp_total folder.folder)

    shared : MayShare (with_folder config folder.folder) folder.folder folder.devices × AreDevices devices (with_shared config folder)
    shared =
        may_share devices few (with_folder config folder.folder) folder.folder folder.devices there good.numbered good.differ good.of
        (each (λ share. ready.unshared folder.folder share.device ready.new.0) folder.devices)
        (record { sorted = ready.are.sorted; among = ready.are.among })

    has_next : (name : Name) → has_folder (with_shared config folder) name ≡ (is_at (by_name name) folder.folder || has_folder config name)
    has_next name =
        ap (list_any (is_at (by_name name))) (folders_stay (with_folder config folder.folder) folder.folder folder.devices)
        ∙ any_insert exact_bytes config.folders folder.folder name

    still : (later : List FolderParts) → HasNoKey (λ (f : FolderParts). f.folder) folder.folder later → AllByRecursion (λ f. has_folder config f.folder ≡ false) later → AllByRecursion (λ f. has_folder (with_shared config folder) f.folder ≡ false) later
    still [] apart new = tt
    still (f ∷ later) apart new = (has_next f.folder ∙ neither _ _ (not_at exact_bytes f.folder folder.folder apart.0) new.0, still later apart.1 new.1)

    unshared_next : (name : Name) (device : ℕ) → has_folder (with_shared config folder) name ≡ false → shares_folder (with_shared config folder) name device ≡ false
    unshared_next name device none =
        let both = both_false _ _ (sym (has_next name) ∙ none) in
        let apart : name ≢ folder.folder = λ same. true≢false (sym (at_itself nat_list_cmp_total name) ∙ ap (is_at (by_name name)) same ∙ both.0) in
        others_stay (with_folder config folder.folder) folder.folder folder.devices name device apart (ready.unshared name device both.1)

    next : HasNoKey (λ (f : FolderParts). f.folder) folder.folder more → IsReady devices (with_shared config folder) more
    next apart = record {
      room =
          let same = ap length (folders_stay (with_folder config folder.folder) folder.folder folder.devices) in
          let one = length_insert by_name config.folders folder.folder in
          let had = ready.room in
          omega arith;
      new = still more apart ready.new.1;
      unshared = unshared_next;
      are = shared.1;
    }

  may_folders : (config : Start) (folders : List FolderParts) → AllByRecursion (IsGood devices) folders → KeysDiffer (λ (f : FolderParts). f.folder) folders → IsReady devices config folders → MayFolders config folders
  may_folders config [] good differ ready = tt
  may_folders config (folder ∷ more) good differ ready = (
    (record { named = good.0.named; few = (let room = ready.room in omega arith); new = ready.new.0 }, (shared config folder more good.0 ready).0),
    may_folders (with_shared config folder) more good.1 differ.1 (next config folder more good.0 ready differ.0),
  )

folders_keep_links : (config : Start) (folders : List FolderParts) → (with_folders config folders).links ≡ config.links
folders_keep_links config [] = refl
folders_keep_links config (folder ∷ more) =
    folders_keep_links (with_shared config folder) more ∙ links_stay (with_folder config folder.folder) folder.folder folder.devices

folders_keep_device : (config : Start) (folders : List FolderParts) (q : ℕ) → has_device config q ≡ true → has_device (with_folders config folders) q ≡ true
folders_keep_device config [] q there = there
folders_keep_device config (folder ∷ more) q there =
    folders_keep_device (with_shared config folder) more q (device_stays (with_folder config folder.folder) folder.folder folder.devices q there)

folder_there : (config : Start) (folders : List FolderParts) (folder : FolderParts) (share : ShareParts) → Contains folders folder → Contains folder.devices share → has_device (with_folders config folders) share.device ≡ true
folder_there config [] folder share none has = absurd (not_in_none folder none)
folder_there config (first ∷ more) folder share there has =
    ⊎_elim
    (λ same.
    folders_keep_device (with_shared config first) more share.device
    (share_there (with_folder config first.folder) first.folder first.devices share (subst (λ (f : FolderParts). Contains f.devices share) (sym same) has)))
    (λ later. folder_there (with_shared config first) more folder share later has)
    (Contains-cons_cases first more folder there)

device_there : (config : Start) (folders : List FolderParts) (q : ℕ) → IsDeviceOf folders q → has_device (with_folders config folders) q ≡ true
device_there config folders q of =
    let folder = of.1 in
    let has = of.4 in
    subst (λ d. has_device (with_folders config folders) d ≡ true) has.4
    (folder_there config folders folder has.1 (of.0, of.2, of.3) (has.0, has.2, has.3))

-- ---- links

links_new : (config : Start) (a b : ℕ) (links : List LinkParts) → HasNoKey ends_of (a, b) links → AllByRecursion (λ (l : LinkParts). has_link config l.a l.b ≡ false) links → AllByRecursion (λ (l : LinkParts). has_link (with_link config a b) l.a l.b ≡ false) links
links_new config a b [] apart new = tt
links_new config a b (l ∷ more) apart new = (
  any_insert exact_ends config.links (a, b) (l.a, l.b) ∙ neither _ _ (not_at exact_ends (l.a, l.b) (a, b) apart.0) new.0,
  links_new config a b more apart.1 new.1,
)

may_link : (config : Start) (links : List LinkParts) → AllByRecursion (λ (l : LinkParts). Joins config.devices (l.a, l.b)) links → KeysDiffer ends_of links → AllByRecursion (λ (l : LinkParts). has_link config l.a l.b ≡ false) links → MayLink config links
may_link config [] joins differ new = tt
may_link config (l ∷ more) joins differ new =
    (record { joins = joins.0; new = new.0 }, may_link (with_link config l.a l.b) more joins.1 differ.1 (links_new config l.a l.b more differ.0 new.1))

-- ---- the whole

goods : (devices : List ℕ) (folders : List FolderParts) → AllByRecursion (λ (f : FolderParts). IsFolderName f.folder) folders → AllByRecursion (λ (f : FolderParts). AllByRecursion HasIndexId f.devices) folders → AllByRecursion (λ (f : FolderParts). KeysDiffer (λ (s : ShareParts). s.device) f.devices) folders → AreOf devices folders → AllByRecursion (IsGood devices) folders
goods devices [] named numbered differ of = tt
goods devices (folder ∷ more) named numbered differ of =
    (record { named = named.0; numbered = numbered.0; differ = differ.0; of = of.0 }, goods devices more named.1 numbered.1 differ.1 of.1)

unfoldable ready_first : (devices : List ℕ) (folders : List FolderParts) → length folders ≤ MAX_FOLDERS → IsReady devices nothing folders
unfolding IsStrictlySortedBy
ready_first devices folders few = record {
  room = omega arith;
  new = each (λ folder. refl) folders;
  unshared = λ name device none. refl;
  are = record { sorted = tt; among = λ q has. absurd (true≢false (sym has)) };
}

pub may_start : (parts : ScenarioParts) → IsFaultless parts → MayStart parts.cluster
may_start parts is =
    let folders = parts.cluster.folders in
    let links = parts.cluster.links in
    let devices = is.few_devices.0 in
    let good = goods devices folders is.named is.numbered is.devices is.few_devices.2 in
    let start = with_folders nothing folders in
    let joins = all_map (λ (l : LinkParts) ends. (ends.0, device_there nothing folders l.a ends.1, device_there nothing folders l.b ends.2)) links is.joined in
    let new = each (λ (l : LinkParts). ap (list_any (is_at (by_ends (l.a, l.b)))) (folders_keep_links nothing folders)) links in
    (may_folders devices is.few_devices.1 nothing folders good is.folders (ready_first devices folders is.few_folders), may_link start links joins is.links new)
