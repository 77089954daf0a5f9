-- All devices of a cut stand in a list of at most as many as a cut may have.
use Rattle.std.proofs.Common.{◌≡◌, ◌↔◌, ℕ, List, [], ◌∷◌, map, flat_map, length, ◌≤◌, Contains, All, is_some, refl, sym, ap, ◌∙◌}
use Rattle.std.specs.Ordering.{nat_cmp, eq_by_cmp}
use Rattle.std.specs.Cmp.{nat_cmp_total}
use Rattle.std.specs.FinMap.{FinMap, get, keys, entries, from_entries, entries_sorted, get-from_entries, nat_cmp-IsAntisymmetric}
use Rattle.std.specs.FinMap.Entries.{is_some-find}
use Rattle.std.specs.List.{AllByRecursion, list_any}
use Rattle.std.proofs.lemmas.Map.Keys.{IsStrictlyIncreasing-from_sorted}
use Rattle.bep_facts.specs.Maps.{key_has_value}
use Rattle.bep_facts.specs.Members.{Contains-image, Contains-flat_map, Contains-from_flat_map}
use Rattle.bep_model.specs.Tables.{Device}
use Rattle.bep_record.specs.declared.limits.TheConstants.{MAX_DEVICES}
use Rattle.bep_document.specs.declared.parts.ShareParts.{ShareParts}
use Rattle.bep_document.specs.declared.parts.FolderParts.{FolderParts}
use Rattle.bep_document.specs.Faultless.{AreOf}
use Rattle.bep_tables.specs.declared.share.Share.{Share}
use Rattle.bep_tables.specs.declared.share.SharedFolder.{SharedFolder}
use Rattle.bep_tables.specs.declared.cut.CutParts.{CutParts}
use Rattle.bep_tables.specs.Cut.{HasDevice, IsCut, devices_of}
use Rattle.bep_cut_document.specs.inner.Told.{share_parts, folder_parts}
use Rattle.bep_tables.proofs.Found.{all_from_each, any_tied, one_tied}
use Rattle.bep_cut_document.proofs.back.Parts.{each_part}
use Rattle.bep_cut_document.proofs.back.PutAgain.{keys_rise}

-- ---- a list without its repetitions, rising
pairs : List ℕ → List (ℕ × Unit {0})
pairs = map (λ n. (n, tt))

firsts : (ns : List ℕ) → map (λ e. e.0) (pairs ns) ≡ ns
unfolding pairs
firsts [] = refl
firsts (n ∷ ns) = ap (λ l. n ∷ l) (firsts ns)

once : List ℕ → FinMap nat_cmp (Unit {0})
once ns = from_entries (pairs ns)

found_once : (ns : List ℕ) (n : ℕ) → is_some (get (once ns) n) ≡ list_any (eq_by_cmp nat_cmp n) ns
unfolding once
found_once ns n =
    ap is_some (get-from_entries nat_cmp_total (pairs ns) n) ∙ is_some-find nat_cmp n (pairs ns) ∙ ap (list_any (eq_by_cmp nat_cmp n)) (firsts ns)

stands_once : (ns : List ℕ) (n : ℕ) → Contains (keys (once ns)) n ↔ Contains ns n
stands_once ns n = (
  λ h. one_tied nat_cmp-IsAntisymmetric n ns (sym (found_once ns n) ∙ (key_has_value nat_cmp_total nat_cmp-IsAntisymmetric (once ns) n).0 h),
  λ h. (key_has_value nat_cmp_total nat_cmp-IsAntisymmetric (once ns) n).1 (found_once ns n ∙ any_tied nat_cmp_total n ns h),
)

-- ---- the devices of a cut
all_devices : CutParts → List Device
all_devices cut = flat_map (λ shared. devices_of shared.shares) cut.folders

device_stands : (cut : CutParts) (shared : SharedFolder) (share : Share) → Contains cut.folders shared → Contains shared.shares share → Contains (keys (once (all_devices cut))) share.device
unfolding all_devices
device_stands cut shared share folder h =
    (stands_once (all_devices cut) share.device).1
    (Contains-flat_map (λ (one : SharedFolder). devices_of one.shares) cut.folders shared share.device folder
    (Contains-image (λ (one : Share). one.device) shared.shares share h))

each_is_device : (cut : CutParts) → All (HasDevice cut.folders) (keys (once (all_devices cut)))
unfolding all_devices
each_is_device cut =
    all_from_each (HasDevice cut.folders) (keys (once (all_devices cut))) (λ device h.
    Contains-from_flat_map (λ (one : SharedFolder). devices_of one.shares) cut.folders device ((stands_once (all_devices cut) device).0 h))

pub few_devices : (cut : CutParts) → IsCut cut → (devices : List ℕ) × (length devices ≤ MAX_DEVICES) × AreOf devices (map folder_parts cut.folders)
few_devices cut is =
    let devices = keys (once (all_devices cut)) in
    let rise = IsStrictlyIncreasing-from_sorted devices (keys_rise nat_cmp (entries (once (all_devices cut))) (entries_sorted (once (all_devices cut)))) in (
      devices,
      is.few_devices devices rise (each_is_device cut),
      each_part (λ (one : FolderParts). AllByRecursion (λ (share : ShareParts). Contains devices share.device) one.devices) folder_parts cut.folders (λ shared folder.
          each_part (λ (share : ShareParts). Contains devices share.device) share_parts shared.shares (λ share h. device_stands cut shared share folder h)),
    )
