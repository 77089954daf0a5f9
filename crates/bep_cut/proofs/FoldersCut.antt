-- The folders of a cut.
use Rattle.std.proofs.Common.{◌≡◌, ◌∙◌, Bool, true, false, cond, List, [], ◌∷◌, map, fold, Option, Some, IsSome, is_some, Contains, unwrap_or, option_map, refl, ap, sym, subst, ⊎_elim}
use Rattle.std.specs.Ordering.{nat_cmp, eq_by_cmp, is_eq}
use Rattle.std.specs.Cmp.Lexicographic.{slice_cmp, nat_list_cmp_total}
use Rattle.std.specs.FinMap.{empty, get, insert, keys, entries, entries_sorted, is_sorted, get-insert}
use Rattle.std.specs.List.{find}
use Rattle.std.specs.List.Sorted.{IsStrictlySortedBy}
use Rattle.std.proofs.Math.Dec.{T}
use Rattle.std.proofs.lemmas.Cmp.{tied_itself}
use Rattle.std.proofs.lemmas.List.Elements.{recursion_from_All}
use Rattle.std.proofs.lemmas.Map.Lookups.{exact_bytes}
use Rattle.std.specs.declared.cmp.Ordering.TheVariants.{Less}
use Rattle.bep_facts.specs.Entries.{both_hold, later_is_above}
use Rattle.bep_facts.specs.Maps.{get-insert_here, key_has_value, same_key}
use Rattle.bep_facts.specs.Members.{Contains-cons_cases, Contains-from_image, Contains-image, not_in_none}
use Rattle.bep_model.specs.Tables.{Device, Folder}
use Rattle.bep_tables.specs.declared.share.SharedFolder.{SharedFolder}
use Rattle.bep_tables.specs.Cut.{HasDevice, devices_of, is_folder, shares_of}
use Rattle.bep_tables.specs.Names.{Names, with_names}
use Rattle.bep_cut.specs.Cut.{Seen, folder_cut, folders_of, with_folders}
use Rattle.bep_cut.proofs.Gathered.{all_each}
use Rattle.bep_cut.proofs.SharesCut.{Shows, shown_by, stands_in}

-- ---- their names

stays : (names : Names) (more : List Folder) (folder : Folder) → IsSome (get names folder) → IsSome (get (with_names names more) folder)
stays names [] folder has = has
stays names (one ∷ more) folder has =
    stays (insert names one tt) more folder (subst (λ (o : Option (Unit {0})). IsSome o) (sym (get-insert nat_list_cmp_total names one tt folder)) (either (eq_by_cmp (slice_cmp nat_cmp) folder one)))
  where
    either : (b : Bool) → IsSome (cond b (Some tt) (get names folder))
    either true = refl
    either false = has

added : (names : Names) (more : List Folder) (folder : Folder) → Contains more folder → IsSome (get (with_names names more) folder)
added names [] folder stands = absurd (not_in_none folder stands)
added names (one ∷ more) folder stands =
    ⊎_elim
    (λ same.
    stays (insert names one tt) more folder
    (subst (λ (n : Folder). IsSome (get (insert names one tt) n)) same (subst (λ (o : Option (Unit {0})). IsSome o) (sym (get-insert_here nat_list_cmp_total exact_bytes names one tt)) refl)))
    (λ later. added (insert names one tt) more folder later)
    (Contains-cons_cases one more folder stands)

all_stay : (names : Names) (all : List Seen) (folder : Folder) → IsSome (get names folder) → IsSome (get (fold with_folders names all) folder)
all_stay names [] folder has = has
all_stay names (one ∷ all) folder has = all_stay (with_folders names one) all folder (stays names (keys one.1.replicas) folder has)

pub all_added : (names : Names) (all : List Seen) (one : Seen) (folder : Folder) → Contains all one → IsSome (get one.1.replicas folder) → IsSome (get (fold with_folders names all) folder)
all_added names [] one folder stands has = absurd (not_in_none one stands)
all_added names (first ∷ all) one folder stands has =
    ⊎_elim
    (λ same.
    all_stay (with_folders names first) all folder
    (added names (keys first.1.replicas) folder
    ((key_has_value nat_list_cmp_total exact_bytes first.1.replicas folder).1 (subst (λ (s : Seen). IsSome (get s.1.replicas folder)) (sym same) has))))
    (λ later. all_added (with_folders names first) all one folder later has)
    (Contains-cons_cases first all one stands)

pub rising_keys : {V : Type 0} (es : List (Folder × V)) → T (is_sorted (slice_cmp nat_cmp) es) → IsStrictlySortedBy (slice_cmp nat_cmp) (map (λ (e : Folder × V). e.0) es)
unfolding IsStrictlySortedBy
rising_keys [] sorted = tt
rising_keys {V} (e ∷ es) sorted =
    let parts = both_hold _ _ sorted in (
      recursion_from_All (λ (name : Folder). slice_cmp nat_cmp e.0 name ≡ Less) (map (λ (e : Folder × V). e.0) es) (all_each (λ (name : Folder). slice_cmp nat_cmp e.0 name ≡ Less) (map (λ (e : Folder × V). e.0) es) (λ name stands.
          let from = Contains-from_image (λ (e : Folder × V). e.0) es name stands in
          subst (λ (name : Folder). slice_cmp nat_cmp e.0 name ≡ Less) from.2 (later_is_above nat_list_cmp_total exact_bytes e.0 es from.0 parts.0 from.1))),
      rising_keys es parts.1,
    )

module _ (all : List Seen) where
  abbrev pub cuts : List SharedFolder
  cuts = map (folder_cut all) (folders_of all)

  names_cut : (names : List Folder) → map (λ (shared : SharedFolder). shared.folder) (map (folder_cut all) names) ≡ names
  names_cut [] = refl
  names_cut (name ∷ names) = ap (λ (rest : List Folder). name ∷ rest) (names_cut names)

  pub folders_rise : IsStrictlySortedBy (slice_cmp nat_cmp) (map (λ (shared : SharedFolder). shared.folder) cuts)
  folders_rise =
      subst (IsStrictlySortedBy (slice_cmp nat_cmp)) (sym (names_cut (folders_of all)))
      (rising_keys (entries (fold with_folders empty all)) (entries_sorted (fold with_folders empty all)))

  -- ---- one of them

  folder_there : (device : Device) (folder : Folder) → Shows all folder device → Contains (folders_of all) folder
  folder_there device folder shows =
      (key_has_value nat_list_cmp_total exact_bytes (fold with_folders empty all) folder).1
      (all_added empty all shows.one folder shows.there (ap is_some shows.found))

  pub found_cut : (names : List Folder) (folder : Folder) → Contains names folder → find (is_folder folder) (map (folder_cut all) names) ≡ Some (folder_cut all folder)
  found_cut [] folder stands = absurd (not_in_none folder stands)
  found_cut (name ∷ names) folder stands = cases (eq_by_cmp (slice_cmp nat_cmp) name folder) refl (λ later. found_cut names folder later)
    where
      cases : (b : Bool) → eq_by_cmp (slice_cmp nat_cmp) name folder ≡ b → (Contains names folder → find (is_folder folder) (map (folder_cut all) names) ≡ Some (folder_cut all folder)) →
          cond b (Some (folder_cut all name)) (find (is_folder folder) (map (folder_cut all) names)) ≡ Some (folder_cut all folder)
      cases true tied later = ap (λ (n : Folder). Some (folder_cut all n)) (same_key exact_bytes name folder tied)
      cases false apart later =
          ⊎_elim
          (λ (same : name ≡ folder). absurd (let tied : true ≡ false = sym (ap is_eq (tied_itself nat_list_cmp_total name)) ∙ ap (eq_by_cmp (slice_cmp nat_cmp) name) same ∙ apart in cc))
          later
          (Contains-cons_cases name names folder stands)

  pub shares_found : (device : Device) (folder : Folder) → Shows all folder device → Contains (devices_of (shares_of folder cuts)) device
  shares_found device folder shows =
      subst (λ (shared : Option SharedFolder). Contains (devices_of (unwrap_or (option_map (λ (s : SharedFolder). s.shares) shared) [])) device)
      (sym (found_cut (folders_of all) folder (folder_there device folder shows)))
      (stands_in all folder device shows)

  -- ---- its devices

  pub has_device : (device : Device) (folder : Folder) → Shows all folder device → HasDevice cuts device
  has_device device folder shows = (
    folder_cut all folder,
    Contains-image (folder_cut all) (folders_of all) folder (folder_there device folder shows),
    stands_in all folder device shows,
  )

  pub device_there : (device : Device) → HasDevice cuts device → Contains (map (λ (one : Seen). one.0) all) device
  device_there device has =
      let from = Contains-from_image (folder_cut all) (folders_of all) has.0 has.1 in
      let shows = shown_by all from.0 device (subst (λ (shared : SharedFolder). Contains (devices_of shared.shares) device) (sym from.2) has.2) in
      subst (Contains (map (λ (one : Seen). one.0) all)) shows.number (Contains-image (λ (one : Seen). one.0) all shows.one shows.there)
