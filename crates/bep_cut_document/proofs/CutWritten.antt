-- What a document without faults writes down is a cut.
use Rattle.std.proofs.Common.{ℕ, ◌≤◌, List, [], map, length, All, Contains, sym, ap, subst, ◌∙◌, arith}
use Rattle.std.specs.Ordering.{nat_cmp}
use Rattle.std.specs.Cmp.{nat_cmp_total, eq_by_cmp_equiv}
use Rattle.std.specs.Cmp.Lexicographic.{nat_list_cmp_total}
use Rattle.std.specs.FinMap.{nat_cmp-IsAntisymmetric}
use Rattle.std.specs.List.{AllByRecursion}
use Rattle.std.specs.List.Sorted.{IsStrictlyIncreasing}
use Rattle.std.proofs.lemmas.List.{length-map}
use Rattle.std.proofs.lemmas.List.Elements.{All-contains}
use Rattle.std.proofs.lemmas.Map.Keys.{sorted_from_strictly_increasing, IsDistinct-from_sorted}
use Rattle.std.proofs.lemmas.Map.Lookups.{exact_bytes}
use Rattle.std.proofs.lemmas.Map.Made.{length-le_from_is_member}
use Rattle.bep_facts.specs.Members.{Contains-from_image, holds_of_member}
use Rattle.bep_index.specs.Laws.{RecordsMakeAnIndex, RecordsAreFound}
use Rattle.bep_model.specs.Tables.{Device}
use Rattle.bep_document.specs.declared.parts.ShareParts.{ShareParts}
use Rattle.bep_document.specs.declared.parts.FolderParts.{FolderParts}
use Rattle.bep_document.specs.declared.parts.CheckParts.{CheckParts}
use Rattle.bep_document.specs.Faultless.{IsFaultlessFolder, IsFaultless, AreOf}
use Rattle.bep_tables.specs.declared.share.Share.{Share}
use Rattle.bep_tables.specs.declared.share.SharedFolder.{SharedFolder}
use Rattle.bep_tables.specs.Cut.{AreShares, HasDevice, IsCut, devices_of, ends_of}
use Rattle.bep_cut_document.specs.Written.{by_device, by_folder, share_written, folder_written, link_written, cut_written}
use Rattle.bep_tables.proofs.Found.{all_from_each, any_tied, one_tied}
use Rattle.bep_cut_document.proofs.SortingFacts.{length-in_order}
use Rattle.bep_cut_document.proofs.WrittenFacts.{from_part, rise_written, shares_in_order}
use Rattle.bep_tables.proofs.Tables.{ends_total, same_ends}
use Rattle.bep_cut_document.proofs.LinksWritten.{folders_in_order, links_in_order}

device_known : (folders : List FolderParts) (devices : List ℕ) (device : Device) → AreOf devices folders → HasDevice (folders_in_order folders) device → Contains devices device
device_known folders devices device known has =
    let folder = from_part by_folder folder_written folders has.0 has.1 in
    let here : Contains (devices_of (folder_written folder.0).shares) device = subst (λ (held : SharedFolder). Contains (devices_of held.shares) device) (sym folder.2) has.2 in
    let share = Contains-from_image (λ (s : Share). s.device) (folder_written folder.0).shares device here in
    let part = from_part by_device share_written folder.0.devices share.0 share.1 in
    let all = holds_of_member (λ (f : FolderParts). AllByRecursion (λ (s : ShareParts). Contains devices s.device) f.devices) folders folder.0 known folder.1 in
    let one = holds_of_member (λ (s : ShareParts). Contains devices s.device) folder.0.devices part.0 all part.1 in
    subst (Contains devices) (ap (λ (s : Share). s.device) part.2 ∙ share.2) one

few : (folders : List FolderParts) (devices : List ℕ) → AreOf devices folders → (some : List Device) → IsStrictlyIncreasing some → All (HasDevice (folders_in_order folders)) some → length some ≤ length devices
few folders devices known some rise all =
    length-le_from_is_member (eq_by_cmp_equiv nat_cmp_total) some devices
    (IsDistinct-from_sorted nat_cmp some (sorted_from_strictly_increasing some rise))
    (λ q h. any_tied nat_cmp_total q devices (device_known folders devices q known (All-contains (HasDevice (folders_in_order folders)) some q all (one_tied nat_cmp-IsAntisymmetric q some h))))

abbrev pub CutIsWritten : Type 0
CutIsWritten = (parts : CheckParts) → IsFaultless parts → IsCut (cut_written parts.folders parts.links)

pub cut_is_written : RecordsMakeAnIndex → RecordsAreFound → CutIsWritten
cut_is_written law found parts faultless =
    let folders_rise = rise_written nat_list_cmp_total exact_bytes (λ (held : SharedFolder). held.folder) folder_written parts.folders faultless.different in record {
      rise = folders_rise;
      shares = all_from_each (λ (held : SharedFolder). AreShares held.shares) (folders_in_order parts.folders) (λ held h.
          let part = from_part by_folder folder_written parts.folders held h in
          subst (λ (one : SharedFolder). AreShares one.shares) part.2 (shares_in_order law found part.0 (holds_of_member IsFaultlessFolder parts.folders part.0 faultless.each_folder part.1)));
      few_folders =
          let l = length-in_order by_folder [] (map folder_written parts.folders) in
          let m = length-map parts.folders folder_written in
          let most = faultless.few_folders in
          omega arith;
      few_devices = λ some rise all.
          let most = few parts.folders faultless.few_devices.0 faultless.few_devices.2 some rise all in
          let within = faultless.few_devices.1 in
          omega arith;
      links_rise = rise_written ends_total same_ends ends_of link_written parts.links faultless.different_links;
      links = links_in_order parts.folders parts.links folders_rise faultless.each_link;
    }
