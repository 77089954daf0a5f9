-- The devices and the links of a cluster agree on who shares what, and on which links there are.
use Rattle.std.proofs.Common.{◌≡◌, ◌⊎◌, ◌↔◌, ◌≤◌, Bool, true, false, cond, List, [], ◌∷◌, length, map, fold, Option, Some, None, IsSome, Contains, refl, sym, ap, subst, ◌∙◌, inl, inr, ⊎_elim, arith, option_map}
use Rattle.std.specs.FinMap.{empty, get, insert, keys, entries, entries_sorted, get-insert}
use Rattle.std.specs.Ordering.{nat_cmp, eq_by_cmp}
use Rattle.std.specs.Cmp.{eq_by_cmp_equiv}
use Rattle.std.specs.Cmp.Lexicographic.{slice_cmp, nat_list_cmp_total}
use Rattle.std.specs.List.Sorted.{IsStrictlySortedBy}
use Rattle.std.proofs.lemmas.Map.Keys.{IsDistinct-from_sorted}
use Rattle.std.proofs.lemmas.Map.Lookups.{exact_bytes}
use Rattle.std.proofs.lemmas.Map.Made.{length-le_from_is_member}
use Rattle.std.proofs.lemmas.Map.Views.{Contains-from_any, list_any-from_Contains}
use Rattle.bep_facts.specs.Maps.{key_has_value, nothing_in_empty, same_key}
use Rattle.bep_facts.specs.Members.{Contains-first, Contains-from_image, Contains-image, Contains-more}
use Rattle.bep_model.specs.Tables.{Device, Folder}
use Rattle.bep_machine.specs.Replica.{Replica}
use Rattle.bep_machine.specs.Steps.{AreLinked, SharesFolder}
use Rattle.bep_folder.specs.Held.{Held}
use Rattle.bep_peer.specs.Laws.{TablesAreFound}
use Rattle.bep_peer.specs.Member.{Member, tables_of}
use Rattle.bep_peer.specs.network.Network.{Network, IsNetwork, config_of, numbers_of, member_at}
use Rattle.bep_peer.specs.network.Sharing.{FoundByNumber, SharingIsHaving}
use Rattle.bep_cut.specs.Cut.{Seen, folders_of, seen, with_folders}
use Rattle.bep_cut.specs.Parts.{AgreeOnLinks, AgreeOnSharing, AreParts, Has, Knows, ShareSome}
use Rattle.bep_cut.proofs.FoldersCut.{rising_keys}
use Rattle.bep_tables.specs.Names.{Names, with_names}

-- ---- the folders that some device has

named_by : (names : Names) (more : List Folder) (folder : Folder) → IsSome (get (with_names names more) folder) → IsSome (get names folder) ⊎ Contains more folder
named_by names [] folder has = inl has
named_by names (one ∷ more) folder has =
    ⊎_elim
    (λ earlier. before (eq_by_cmp (slice_cmp nat_cmp) folder one) refl (subst (λ (o : Option (Unit {0})). IsSome o) (get-insert nat_list_cmp_total names one tt folder) earlier))
    (λ later. inr (Contains-more one more folder later))
    (named_by (insert names one tt) more folder has)
  where
    before : (b : Bool) → eq_by_cmp (slice_cmp nat_cmp) folder one ≡ b → IsSome (cond b (Some tt) (get names folder)) → IsSome (get names folder) ⊎ Contains (one ∷ more) folder
    before true tied is = inr (subst (Contains (one ∷ more)) (sym (same_key exact_bytes folder one tied)) (Contains-first one more))
    before false apart is = inl is

pub record HasSeen (all : List Seen) (folder : Folder) : Type 0 where
  pub one : Seen
  pub there : Contains all one
  pub has : IsSome (get one.1.replicas folder)

all_named : (names : Names) (all : List Seen) (folder : Folder) → IsSome (get (fold with_folders names all) folder) → IsSome (get names folder) ⊎ HasSeen all folder
all_named names [] folder has = inl has
all_named names (first ∷ all) folder has =
    ⊎_elim
    (λ earlier.
    ⊎_elim
    (λ before. inl before)
    (λ here. inr (record { one = first; there = Contains-first first all; has = (key_has_value nat_list_cmp_total exact_bytes first.1.replicas folder).0 here }))
    (named_by names (keys first.1.replicas) folder earlier))
    (λ later. inr (record { one = later.one; there = Contains-more first all later.one later.there; has = later.has }))
    (all_named (with_folders names first) all folder has)

abbrev no_names : Names
no_names = empty

nothing_named : (folder : Folder) → ¬ IsSome (get no_names folder)
nothing_named folder has = nothing_in_empty (slice_cmp nat_cmp) folder tt (named (get no_names folder) has)
  where
    named : (o : Option (Unit {0})) → IsSome o → o ≡ Some tt
    named None is = absurd (cc)
    named (Some tt) is = refl

some_of : {A B : Type 0} (f : A → B) (found : Option A) → IsSome (option_map f found) → IsSome found
some_of f None has = absurd (cc)
some_of f (Some one) has = refl

-- keys that differ, each of them among others, are at most as many
at_most : (ks folders : List Folder) → IsStrictlySortedBy (slice_cmp nat_cmp) ks → ((folder : Folder) → Contains ks folder → Contains folders folder) → length ks ≤ length folders
at_most ks folders rise among =
    length-le_from_is_member (eq_by_cmp_equiv nat_list_cmp_total) ks folders (IsDistinct-from_sorted (slice_cmp nat_cmp) ks rise)
    (λ folder is. list_any-from_Contains (eq_by_cmp_equiv nat_list_cmp_total) folder folders (among folder (Contains-from_any (same_key exact_bytes) folder ks is)))

module _ (sharing : SharingIsHaving) (found : FoundByNumber) (tables : TablesAreFound) (network : Network) (rules : IsNetwork network) where
  has : (device : Device) (folder : Folder) → SharesFolder (config_of network) device folder ↔ Has network.members device folder
  has device folder =
      let is = sharing network device folder rules in (
        λ shares. let there = is.0 shares in record { member = there.member; there = there.there; number = there.number; shares = there.has },
        λ having. is.1 (record { member = having.member; there = having.there; number = having.number; has = having.shares }),
      )

  agree_on_sharing : AgreeOnSharing network.members
  agree_on_sharing member folder held device there is =
      let joined = rules.joined member.number member (found network member rules there) in
      let fits = (joined.folders folder held.tables (tables member folder ∙ ap (option_map (λ (one : Held). one.tables)) is)).others device in (
        λ named. let apart = fits.0 named in (apart.0, (has device folder).0 apart.1),
        λ having. fits.1 (having.0, (has device folder).1 having.1),
      )

  -- a device of the cluster
  device_of : (device : Device) → Contains (numbers_of network.members) device → (member : Member) × Contains network.members member × (member.number ≡ device)
  device_of device listed = Contains-from_image (λ (member : Member). member.number) network.members device listed

  knows : (device other : Device) → Contains (numbers_of network.members) device → AreLinked (config_of network) device other → Knows network.members device other
  knows device other listed linked =
      let one = device_of device listed in
      let joined = rules.joined one.0.number one.0 (found network one.0 rules one.1) in
      record {
        member = one.0;
        there = one.1;
        number = one.2;
        linked = (joined.linked other).1 (subst (λ (number : Device). AreLinked (config_of network) number other) (sym one.2) linked);
      }

  known : (device other : Device) → Knows network.members device other → AreLinked (config_of network) device other
  known device other one =
      let joined = rules.joined one.member.number one.member (found network one.member rules one.there) in
      subst (λ (number : Device). AreLinked (config_of network) number other) one.number ((joined.linked other).0 one.linked)

  agree_on_links : AgreeOnLinks network.members network.links
  agree_on_links lower upper = (
    λ stands.
        let ends = rules.ends lower upper stands in
        (ends.0, knows lower upper ends.1 (inl stands), knows upper lower ends.2 (inr stands)),
    λ both.
        ⊎_elim
        (λ stands. stands)
        (λ turned. let less = both.0 in let more = (rules.ends upper lower turned).0 in absurd (omega arith))
        (known lower upper both.1),
  )

  share_some : ShareSome network.members
  share_some member there =
      let shared = rules.some member.number (Contains-image (λ (one : Member). one.number) network.members member there) in
      let having = (has member.number shared.0).0 shared.1 in
      let same : having.member ≡ member =
      let e : Some having.member ≡ Some member = sym (found network having.member rules having.there) ∙ ap (λ (number : Device). member_found number) having.number ∙ found network member rules there in cc in
      (shared.0, subst (λ (one : Member). IsSome (get one.folders shared.0)) same having.shares)
    where
      member_found : Device → Option Member
      member_found number = member_at network.members number

  shared_folder : (folder : Folder) → Contains (folders_of (map seen network.members)) folder → Contains rules.folders.folders folder
  shared_folder folder stands =
      ⊎_elim
      (λ before. absurd (nothing_named folder before))
      (λ shows.
      let from = Contains-from_image seen network.members shows.one shows.there in
      let replica : IsSome (get (tables_of from.0).replicas folder) = subst (λ (one : Seen). IsSome (get one.1.replicas folder)) (sym from.2) shows.has in
      let held : IsSome (get from.0.folders folder) = some_of (λ (one : Held). one.tables) (get from.0.folders folder) (subst (λ (o : Option Replica). IsSome o) (tables from.0 folder) replica) in
      rules.folders.all from.0.number folder ((has from.0.number folder).1 (record { member = from.0; there = from.1; number = refl; shares = held })))
      (all_named empty (map seen network.members) folder ((key_has_value nat_list_cmp_total exact_bytes (fold with_folders empty (map seen network.members)) folder).0 stands))

  pub are_parts : AreParts network.members network.links
  are_parts = record {
    devices = rules.devices;
    rising = rules.links;
    few_devices = rules.few;
    few_folders =
        let most = at_most (folders_of (map seen network.members)) rules.folders.folders (rising_keys (entries (fold with_folders empty (map seen network.members))) (entries_sorted (fold with_folders empty (map seen network.members)))) shared_folder in
        let few = rules.folders.few in
        omega (arith, most, few);
    sharing = agree_on_sharing;
    linked = agree_on_links;
    some = share_some;
  }
