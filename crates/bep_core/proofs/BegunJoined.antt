-- A cluster that begins from a configuration is a network: its devices know their links, and who shares their folders.
use Rattle.std.proofs.Common.{◌≡◌, ◌≢◌, ◌⊎◌, ◌↔◌, ◌<◌, ◌≤◌, ◌==◌, ◌&&◌, ◌||◌, not, ℕ, Bool, true, false, cond, if◌then◌else◌, List, [], ◌∷◌, ◌++◌, Option, Some, None, option_map, Contains, refl, sym, ap, subst, ◌∙◌, inl, inr, ⊎_elim, arith}
use Rattle.std.specs.List.{filter, flat_map, list_any}
use Rattle.std.specs.List.Sorted.{IsStrictlyIncreasing, IsStrictlySortedBy}
use Rattle.std.specs.Map.{keys_of}
use Rattle.std.specs.BTreeMap.{is_at}
use Rattle.std.specs.Ordering.{nat_cmp, eq_by_cmp}
use Rattle.std.specs.Cmp.{IsTotalOrder, nat_cmp_total, eq_by_cmp_equiv}
use Rattle.std.specs.Cmp.Lexicographic.{slice_cmp, nat_list_cmp_total}
use Rattle.std.specs.FinMap.{get, from_entries, insert, get-insert, nat_cmp-IsAntisymmetric}
use Rattle.std.proofs.lemmas.Cmp.{on_total, then_total}
use Rattle.std.proofs.lemmas.List.{length-map}
use Rattle.std.proofs.lemmas.List.Elements.{All-contains}
use Rattle.std.proofs.lemmas.Map.Lookups.{CmpEqualImpliesEq, exact_pairs, exact_unsigned, exact_bytes}
use Rattle.std.proofs.lemmas.Map.Views.{Contains-from_any, list_any-from_Contains}
use Rattle.bep_facts.specs.Maps.{same_key, nothing_in_empty, found_after_insert, get-insert_here}
use Rattle.bep_facts.specs.Members.{not_in_none, Contains-cons_cases, Contains-first, Contains-more, Contains-image, Contains-from_image, Contains-flat_map}
use Rattle.bep_map.specs.NameMap.{ByName}
use Rattle.bep_record.specs.declared.limits.TheConstants.{MAX_DEVICES}
use Rattle.bep_record.specs.declared.node.NodeParts.{NodeParts}
use Rattle.bep_config.specs.declared.sharing.Sharing.{Sharing}
use Rattle.bep_config.specs.Config.{Configuration, IsConfig, has_folder, Joins, by_ends, by_share}
use Rattle.bep_model.specs.Tables.{Device, Folder}
use Rattle.bep_machine.specs.Replica.{Replica}
use Rattle.bep_machine.specs.Steps.{AreLinked, SharesFolder}
use Rattle.bep_folder.specs.Held.{Held}
use Rattle.bep_peer.specs.Member.{Member, tables_of}
use Rattle.bep_peer.specs.network.Network.{Network, IsNetwork, IsJoined, AreFew, ShareSome, numbers_of, ends_of, config_of, kind_of}
use Rattle.bep_core.specs.Begin.{others_that, is_shared, is_linked, linked_with, sharing_with, own_share, begun_share, begun_folders, begun_member, begun}
use Rattle.bep_core.proofs.Begun.{numbers-begun, ends-begun}
use Rattle.bep_core.proofs.Lift.{both_true}
use Rattle.bep_peer.proofs.Changed.{tables_at}
use Rattle.bep_peer.proofs.Numbers.{itself, same_number, another_number}
use Rattle.bep_core.proofs.OthersThat.{kept_passes}
use Rattle.bep_peer.proofs.Members.{has_number, sharing_there}

-- ---- what is kept by a test

kept_there : {X : Type 0} (p : X → Bool) (xs : List X) (x : X) → Contains xs x → p x ≡ true → Contains (filter p xs) x
kept_there p [] x stands passes = absurd (not_in_none x stands)
kept_there p (y ∷ xs) x stands passes = cases (λ more. kept_there p xs x more passes) (p y) refl
  where
    cases : (Contains xs x → Contains (filter p xs) x) → (b : Bool) → p y ≡ b → Contains (cond b (y ∷ filter p xs) (filter p xs)) x
    cases rest true is =
        ⊎_elim (λ same. subst (Contains (y ∷ filter p xs)) same (Contains-first y (filter p xs))) (λ more. Contains-more y (filter p xs) x (rest more))
        (Contains-cons_cases y xs x stands)
    cases rest false is =
        ⊎_elim (λ same. let both : true ≡ false = sym passes ∙ ap p (sym same) ∙ is in absurd (cc)) rest
        (Contains-cons_cases y xs x stands)

kept_was : {X : Type 0} (p : X → Bool) (xs : List X) (x : X) → Contains (filter p xs) x → Contains xs x
kept_was p [] x stands = stands
kept_was p (y ∷ xs) x stands = cases (kept_was p xs x) (p y) stands
  where
    cases : (Contains (filter p xs) x → Contains xs x) → (b : Bool) → Contains (cond b (y ∷ filter p xs) (filter p xs)) x → Contains (y ∷ xs) x
    cases rest true kept =
        ⊎_elim (λ same. subst (Contains (y ∷ xs)) same (Contains-first y xs)) (λ more. Contains-more y xs x (rest more)) (Contains-cons_cases y (filter p xs) x kept)
    cases rest false kept = Contains-more y xs x (rest kept)

one_passes : (a b : Bool) → (a || b) ≡ true → (a ≡ true) ⊎ (b ≡ true)
one_passes true b e = inl refl
one_passes false b e = inr e

-- the others that pass the test are those of the devices that aren't this one and pass it
others_are : (test : Device → Bool) (devices : List Device) (device other : Device) → Contains (others_that test devices device) other ↔ (Contains devices other × (other ≢ device) × (test other ≡ true))
others_are test devices device other = (
  λ kept.
      let passes = both_true (not (other == device)) (test other) (kept_passes (λ one. not (one == device) && test one) devices other kept) in
      (kept_was (λ one. not (one == device) && test one) devices other kept, apart passes.0, passes.1),
  λ there. kept_there (λ one. not (one == device) && test one) devices other there.0 (passing there.1 there.2),
)
  where
    apart : not (other == device) ≡ true → other ≢ device
    apart e same = let both : true ≡ false = sym e ∙ ap not (ap (λ (n : Device). n == device) same ∙ itself device) in absurd (cc)

    passing : other ≢ device → test other ≡ true → (not (other == device) && test other) ≡ true
    passing different e = decide (other == device) refl
      where
        decide : (b : Bool) → (other == device) ≡ b → (not b && test other) ≡ true
        decide true tied = absurd (different (same_number other device tied))
        decide false distinct = e

-- one of them passes the test
first_any : {X : Type 0} (p : X → Bool) (xs : List X) → list_any p xs ≡ true → (x : X) × Contains xs x × (p x ≡ true)
first_any p [] e = absurd (cc)
first_any p (y ∷ xs) e = ⊎_elim (λ here. (y, Contains-first y xs, here)) (λ more. let later = first_any p xs more in (later.0, Contains-more y xs later.0 later.1, later.2)) (one_passes (p y) (list_any p xs) e)

-- ---- keys of two parts

exact_ends : CmpEqualImpliesEq by_ends
exact_ends = exact_pairs nat_cmp nat_cmp exact_unsigned exact_unsigned

total_ends : IsTotalOrder by_ends
total_ends = then_total (on_total (λ (ends : ℕ × ℕ). ends.0) nat_cmp_total) (on_total (λ (ends : ℕ × ℕ). ends.1) nat_cmp_total)

exact_shares : CmpEqualImpliesEq by_share
exact_shares = exact_pairs (slice_cmp nat_cmp) nat_cmp exact_bytes exact_unsigned

total_shares : IsTotalOrder by_share
total_shares = then_total (on_total (λ (key : List ℕ × ℕ). key.0) nat_list_cmp_total) (on_total (λ (key : List ℕ × ℕ). key.1) nat_cmp_total)

linked_iff : (links : List (Device × Device)) (device other : Device) → (is_linked links device other ≡ true) ↔ (Contains links (device, other) ⊎ Contains links (other, device))
linked_iff links device other = (
  λ e.
      ⊎_elim
      (λ one. inl (Contains-from_any {eq = eq_by_cmp by_ends} (same_key exact_ends) (device, other) links one))
      (λ turned. inr (Contains-from_any {eq = eq_by_cmp by_ends} (same_key exact_ends) (other, device) links turned))
      (one_passes _ _ e),
  λ stands. ⊎_elim (λ one. first (listed_there device other one)) (λ turned. second (list_any (is_at (by_ends (device, other))) links) (listed_there other device turned)) stands,
)
  where
    listed_there : (one more : Device) → Contains links (one, more) → list_any (is_at (by_ends (one, more))) links ≡ true
    listed_there one more stands = list_any-from_Contains {eq = eq_by_cmp by_ends} (eq_by_cmp_equiv total_ends) (one, more) links stands

    first : list_any (is_at (by_ends (device, other))) links ≡ true → is_linked links device other ≡ true
    first e = ap (λ (b : Bool). b || list_any (is_at (by_ends (other, device))) links) e

    second : (b : Bool) → list_any (is_at (by_ends (other, device))) links ≡ true → (b || list_any (is_at (by_ends (other, device))) links) ≡ true
    second true e = refl
    second false e = e

shared_iff : (keys : List (Folder × Device)) (folder : Folder) (device : Device) → (is_shared keys folder device ≡ true) ↔ Contains keys (folder, device)
shared_iff keys folder device = (
  λ e. Contains-from_any {eq = eq_by_cmp by_share} (same_key exact_shares) (folder, device) keys e,
  λ stands. list_any-from_Contains {eq = eq_by_cmp by_share} (eq_by_cmp_equiv total_shares) (folder, device) keys stands,
)

-- ---- what begins

module _ {S : Type 0} (contents : S → ByName NodeParts) (faults : S → ℕ) where
  -- what a device has of a folder is of a share
  begun_of : (devices : List Device) (keys : List (Folder × Device)) (shares : List ((Folder × Device) × Sharing S)) (device : Device) (folder : Folder) (held : Held) →
      get (begun_folders contents faults devices keys shares device) folder ≡ Some held →
      (sharing : Sharing S) × Contains shares ((folder, device), sharing) × (held ≡ begun_share contents faults devices keys (folder, device) sharing)
  begun_of devices keys [] device folder held is = nothing_in_empty (slice_cmp nat_cmp) folder held is
  begun_of devices keys (share ∷ shares) device folder held is = cases (begun_of devices keys shares device folder held) (share.0.1 == device) refl is
    where
      later : (sharing : Sharing S) × Contains shares ((folder, device), sharing) × (held ≡ begun_share contents faults devices keys (folder, device) sharing) →
          (sharing : Sharing S) × Contains (share ∷ shares) ((folder, device), sharing) × (held ≡ begun_share contents faults devices keys (folder, device) sharing)
      later of = (of.0, Contains-more share shares ((folder, device), of.0) of.1, of.2)

      here : share.0.1 ≡ device → folder ≡ share.0.0 → held ≡ begun_share contents faults devices keys share.0 share.1 →
          (sharing : Sharing S) × Contains (share ∷ shares) ((folder, device), sharing) × (held ≡ begun_share contents faults devices keys (folder, device) sharing)
      here number name same = (
        share.1,
        subst (Contains (share ∷ shares)) (λ i. ((sym name i, number i), share.1)) (Contains-first share shares),
        same ∙ (λ i. begun_share contents faults devices keys (sym name i, number i) share.1),
      )

      cases : (get (begun_folders contents faults devices keys shares device) folder ≡ Some held → (sharing : Sharing S) × Contains shares ((folder, device), sharing) × (held ≡ begun_share contents faults devices keys (folder, device) sharing)) →
          (b : Bool) → (share.0.1 == device) ≡ b →
          get (from_entries {R = slice_cmp nat_cmp} ((if b then (share.0.0, begun_share contents faults devices keys share.0 share.1) ∷ [] else []) ++ flat_map (own_share contents faults devices keys device) shares)) folder ≡ Some held →
          (sharing : Sharing S) × Contains (share ∷ shares) ((folder, device), sharing) × (held ≡ begun_share contents faults devices keys (folder, device) sharing)
      cases rest true tied found =
          ⊎_elim (λ same. here (same_number share.0.1 device tied) same.0 same.1) (λ more. later (rest more.1))
          (found_after_insert nat_list_cmp_total exact_bytes (begun_folders contents faults devices keys shares device) share.0.0 (begun_share contents faults devices keys share.0 share.1) folder held found)
      cases rest false apart found = later (rest found)

  -- a device has each folder of which it has a share
  begun_there : (devices : List Device) (keys : List (Folder × Device)) (shares : List ((Folder × Device) × Sharing S)) (device : Device) (folder : Folder) →
      Contains (keys_of shares) (folder, device) → (held : Held) × (get (begun_folders contents faults devices keys shares device) folder ≡ Some held)
  begun_there devices keys [] device folder stands = absurd (not_in_none _ stands)
  begun_there devices keys (share ∷ shares) device folder stands = cases (begun_there devices keys shares device folder) (share.0.1 == device) refl
    where
      before : ByName Held
      before = begun_folders contents faults devices keys shares device

      made : Held
      made = begun_share contents faults devices keys share.0 share.1

      split : (share.0 ≡ (folder, device)) ⊎ Contains (keys_of shares) (folder, device)
      split = Contains-cons_cases share.0 (keys_of shares) (folder, device) stands

      over : (b : Bool) → (held : Held) × (get before folder ≡ Some held) → (held : Held) × (cond b (Some made) (get before folder) ≡ Some held)
      over true earlier = (made, refl)
      over false earlier = earlier

      given : (held : Held) × (get before folder ≡ Some held) → (held : Held) × (get (insert before share.0.0 made) folder ≡ Some held)
      given earlier =
          let found = over (eq_by_cmp (slice_cmp nat_cmp) folder share.0.0) earlier in
          (found.0, get-insert nat_list_cmp_total before share.0.0 made folder ∙ found.1)

      cases : (Contains (keys_of shares) (folder, device) → (held : Held) × (get before folder ≡ Some held)) → (b : Bool) → (share.0.1 == device) ≡ b →
          (held : Held) × (get (from_entries {R = slice_cmp nat_cmp} ((if b then (share.0.0, begun_share contents faults devices keys share.0 share.1) ∷ [] else []) ++ flat_map (own_share contents faults devices keys device) shares)) folder ≡ Some held)
      cases rest true tied =
          ⊎_elim
          (λ same. (made, ap (get (insert before share.0.0 made)) (sym (ap (λ (key : Folder × Device). key.0) same)) ∙ get-insert_here nat_list_cmp_total exact_bytes before share.0.0 made))
          (λ more. given (rest more))
          split
      cases rest false apart =
          ⊎_elim
          (λ same. absurd (another_number share.0.1 device apart (ap (λ (key : Folder × Device). key.1) same)))
          rest
          split

  module _ (config : Configuration S) (rules : IsConfig config) where
    abbrev pub keys : List (Folder × Device)
    keys = keys_of config.shares

    abbrev pub made : Network
    made = begun contents faults config

    pub numbers_made : numbers_of made.members ≡ config.devices
    numbers_made = numbers-begun (begun_member contents faults config) (λ device. refl) config.devices

    pub ends_made : ends_of made.links ≡ config.links
    ends_made = ends-begun config.links

    device_there : (device : Device) → list_any (is_at (nat_cmp device)) config.devices ≡ true → Contains config.devices device
    device_there device e = Contains-from_any {eq = eq_by_cmp nat_cmp} (same_key nat_cmp-IsAntisymmetric) device config.devices e

    pub ends_there : (one other : Device) → Contains config.links (one, other) → (one < other) × Contains config.devices one × Contains config.devices other
    ends_there one other stands =
        let joins : Joins config.devices (one, other) = All-contains (Joins config.devices) config.links (one, other) rules.joined stands in
        (joins.0, device_there one joins.1, device_there other joins.2)

    -- a device's links are the configured ones
    links_known : (device other : Device) → Contains (linked_with config.devices config.links device) other ↔ AreLinked (config_of made) device other
    links_known device other = (
      λ known. configured ((linked_iff config.links device other).0 ((others_are (is_linked config.links device) config.devices device other).0 known).2),
      λ linked. (others_are (is_linked config.links device) config.devices device other).1 (known (there linked)),
    )
      where
        configured : Contains config.links (device, other) ⊎ Contains config.links (other, device) → AreLinked (config_of made) device other
        configured one = subst (λ (links : List (Device × Device)). Contains links (device, other) ⊎ Contains links (other, device)) (sym ends_made) one

        there : AreLinked (config_of made) device other → Contains config.links (device, other) ⊎ Contains config.links (other, device)
        there linked = subst (λ (links : List (Device × Device)). Contains links (device, other) ⊎ Contains links (other, device)) ends_made linked

        known : Contains config.links (device, other) ⊎ Contains config.links (other, device) → Contains config.devices other × (other ≢ device) × (is_linked config.links device other ≡ true)
        known stands =
            ⊎_elim
            (λ one. let ends = ends_there device other one in let less = ends.0 in (ends.2, (λ same. let e : device < device = subst (λ (n : ℕ). device < n) same less in absurd (omega arith)), (linked_iff config.links device other).1 stands))
            (λ turned. let ends = ends_there other device turned in let less = ends.0 in (ends.1, (λ same. let e : device < device = subst (λ (n : ℕ). n < device) same less in absurd (omega arith)), (linked_iff config.links device other).1 stands))
            stands

    -- the device has the folder where it has a share of it
    pub replica_begun : (device : Device) (folder : Folder) (replica : Replica) → get (tables_of (begun_member contents faults config device)).replicas folder ≡ Some replica →
        (sharing : Sharing S) × Contains config.shares ((folder, device), sharing) × (replica ≡ (begun_share contents faults config.devices keys (folder, device) sharing).tables)
    replica_begun device folder replica is = cases (get (begun_folders contents faults config.devices keys config.shares device) folder) refl
      where
        cases : (found : Option Held) → get (begun_folders contents faults config.devices keys config.shares device) folder ≡ found →
            (sharing : Sharing S) × Contains config.shares ((folder, device), sharing) × (replica ≡ (begun_share contents faults config.devices keys (folder, device) sharing).tables)
        cases None none =
            let e = sym is ∙ tables_at (begun_folders contents faults config.devices keys config.shares device) folder ∙ ap (option_map (λ (held : Held). held.tables)) none in
            absurd (cc)
        cases (Some held) has =
            let e : Some replica ≡ Some held.tables = sym is ∙ tables_at (begun_folders contents faults config.devices keys config.shares device) folder ∙ ap (option_map (λ (held : Held). held.tables)) has in
            let same : replica ≡ held.tables = cc in
            let of = begun_of config.devices keys config.shares device folder held has in
            (of.0, of.1, same ∙ ap (λ (h : Held). h.tables) of.2)

    shares_where : (device : Device) (folder : Folder) (replica : Replica) → get (tables_of (begun_member contents faults config device)).replicas folder ≡ Some replica →
        Contains keys (folder, device) × (replica.others ≡ sharing_with config.devices keys folder device)
    shares_where device folder replica is =
        let of = replica_begun device folder replica is in
        (Contains-image (λ (share : (Folder × Device) × Sharing S). share.0) config.shares ((folder, device), of.0) of.1, ap (λ (r : Replica). r.others) of.2)

    in_kind : (device : Device) (replica : Replica) (found : Option Replica) → found ≡ Some replica → Contains (kind_of device found) (device, replica.kind)
    in_kind device replica found is = subst (λ (o : Option Replica). Contains (kind_of device o) (device, replica.kind)) (sym is) (Contains-first (device, replica.kind) [])

    shares_kind : (device : Device) (folder : Folder) (replica : Replica) → Contains config.devices device → get (tables_of (begun_member contents faults config device)).replicas folder ≡ Some replica →
        Contains ((config_of made).sharing folder) (device, replica.kind)
    shares_kind device folder replica stands is =
        Contains-flat_map (λ (member : Member). kind_of member.number (get (tables_of member).replicas folder)) made.members (begun_member contents faults config device) (device, replica.kind)
        (Contains-image (begun_member contents faults config) config.devices device stands) (in_kind device replica _ is)

    rising_made : IsStrictlyIncreasing config.devices → IsStrictlyIncreasing (numbers_of made.members)
    rising_made rising = subst IsStrictlyIncreasing (sym numbers_made) rising

    shares_iff : IsStrictlyIncreasing config.devices → (folder : Folder) (other : Device) → SharesFolder (config_of made) other folder ↔ (Contains config.devices other × Contains keys (folder, other))
    shares_iff rising folder other = (
      λ shares.
          let there = sharing_there made other folder (rising_made rising) shares in
          let here = has_number made.members other there.0 there.2 in
          let of = Contains-from_image (begun_member contents faults config) config.devices there.0 here.1 in
          let number : of.0 ≡ other = ap (λ (m : Member). m.number) of.2 ∙ here.0 in (
            subst (Contains config.devices) number of.1,
            subst (λ (n : Device). Contains keys (folder, n)) number
                (shares_where of.0 folder there.1 (ap (λ (m : Member). get (tables_of m).replicas folder) of.2 ∙ there.3)).0,
          ),
      λ there.
          let held = begun_there config.devices keys config.shares other folder there.1 in
          let is = tables_at (begun_folders contents faults config.devices keys config.shares other) folder ∙ ap (option_map (λ (h : Held). h.tables)) held.1 in
          (held.0.tables.kind, shares_kind other folder held.0.tables there.0 is),
    )

    begun_joined : IsStrictlyIncreasing config.devices → (device : Device) → Contains config.devices device → IsJoined (config_of made) (begun_member contents faults config device)
    begun_joined rising device stands = record {
      linked = links_known device;
      folders = λ folder replica is. record {
        kind = shares_kind device folder replica stands is;
        others = λ other. subst (λ (others : List Device). Contains others other ↔ ((other ≢ device) × SharesFolder (config_of made) other folder)) (sym (shares_where device folder replica is).1) (sharing folder other);
      };
    }
      where
        sharing : (folder : Folder) (other : Device) → Contains (sharing_with config.devices keys folder device) other ↔ ((other ≢ device) × SharesFolder (config_of made) other folder)
        sharing folder other = (
          λ among.
              let is = (others_are (is_shared keys folder) config.devices device other).0 among in
              (is.1, (shares_iff rising folder other).1 (is.0, (shared_iff keys folder other).0 is.2)),
          λ shares.
              let is = (shares_iff rising folder other).0 shares.1 in
              (others_are (is_shared keys folder) config.devices device other).1 (is.0, shares.0, (shared_iff keys folder other).1 is.1),
        )

    -- the folders are the configured ones, and each device has a share
    few_made : IsStrictlyIncreasing config.devices → AreFew (config_of made)
    few_made rising = record {
      folders = config.folders;
      few = rules.few_folders;
      all = λ device folder shares.
          let key = ((shares_iff rising folder device).0 shares).1 in
          let has : has_folder config folder ≡ true = All-contains (λ (key : Folder × Device). has_folder config key.0 ≡ true) keys (folder, device) rules.of_folders key in
          Contains-from_any {eq = eq_by_cmp (slice_cmp nat_cmp)} (same_key exact_bytes) folder config.folders has;
    }

    some_made : IsStrictlyIncreasing config.devices → ShareSome (config_of made)
    some_made rising device stands =
        let there : Contains config.devices device = subst (λ (numbers : List Device). Contains numbers device) numbers_made stands in
        let key = first_any (λ (key : Folder × Device). key.1 == device) keys (All-contains (λ (one : Device). list_any (λ (key : Folder × Device). key.1 == one) keys ≡ true) config.devices device rules.sharing there) in
        let mine : Contains keys (key.0.0, device) = subst (λ (number : Device). Contains keys (key.0.0, number)) (same_number key.0.1 device key.2) key.1 in
        (key.0.0, (shares_iff rising key.0.0 device).1 (there, mine))

    pub begun_network : IsStrictlyIncreasing config.devices → IsStrictlySortedBy by_ends config.links → IsNetwork made
    begun_network rising sorted = record {
      devices = rising_made rising;
      few = subst (λ (n : ℕ). n ≤ MAX_DEVICES) (sym (length-map config.devices (begun_member contents faults config))) rules.few_devices;
      links = subst (IsStrictlySortedBy by_ends) (sym ends_made) sorted;
      ends = λ one other stands.
          subst (λ (numbers : List Device). (one < other) × Contains numbers one × Contains numbers other) (sym numbers_made)
          (ends_there one other (subst (λ (links : List (Device × Device)). Contains links (one, other)) ends_made stands));
      joined = λ device member is.
          let here = has_number made.members device member is in
          let of = Contains-from_image (begun_member contents faults config) config.devices member here.1 in
          subst (IsJoined (config_of made)) of.2 (begun_joined rising of.0 of.1);
      folders = few_made rising;
      some = some_made rising;
    }
