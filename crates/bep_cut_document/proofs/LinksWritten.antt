-- What a document without faults writes down of its links.
use Rattle.std.proofs.Common.{◌≡◌, List, [], ◌∷◌, map, unwrap_or, option_map, All, Contains, sym, ap, subst, ◌∙◌, arith}
use Rattle.std.specs.Ordering.{nat_cmp}
use Rattle.std.specs.Cmp.Lexicographic.{slice_cmp, nat_list_cmp_total}
use Rattle.std.specs.List.{AllByRecursion}
use Rattle.std.specs.List.Sorted.{IsStrictlySortedBy}
use Rattle.std.proofs.lemmas.List.{length-map}
use Rattle.bep_facts.specs.Members.{Contains-from_image, holds_of_member}
use Rattle.bep_record.specs.Entry.{IsWellFormed}
use Rattle.bep_model.specs.Tables.{Device, Folder}
use Rattle.bep_document.specs.declared.parts.FolderParts.{FolderParts}
use Rattle.bep_document.specs.declared.parts.FlightParts.{FlightParts}
use Rattle.bep_document.specs.declared.parts.LinkParts.{LinkParts}
use Rattle.bep_document.specs.Faultless.{IsSharedBy, IsDeviceOf, SharesFolder, IsFaultlessFlight, IsFaultlessLink}
use Rattle.bep_tables.specs.declared.share.SharedFolder.{SharedFolder}
use Rattle.bep_tables.specs.Cut.{HasDevice, IsFlight, IsLink, devices_of, shares_of}
use Rattle.bep_cut_document.specs.Sorting.{in_order}
use Rattle.bep_cut_document.specs.Written.{by_folder, by_ends, AreWellFormed, IsWellFormedLink, folder_written, flight_written, link_written}
use Rattle.bep_tables.proofs.Found.{all_from_each, any_gives, found_itself}
use Rattle.bep_cut_document.proofs.WrittenFacts.{device_written, from_part, part_there}

-- ---- the folders that the ends of a link share
abbrev pub folders_in_order : List FolderParts → List SharedFolder
folders_in_order folders = in_order by_folder [] (map folder_written folders)

-- a folder's shares are found by its name
shares_found : (folders : List SharedFolder) (held : SharedFolder) → IsStrictlySortedBy (slice_cmp nat_cmp) (map (λ (one : SharedFolder). one.folder) folders) → Contains folders held → shares_of held.folder folders ≡ held.shares
shares_found folders held rise h =
    ap (λ found. unwrap_or (option_map (λ (one : SharedFolder). one.shares) found) [])
    (found_itself nat_list_cmp_total (λ (one : SharedFolder). one.folder) folders held rise h)

-- the folders, by rising names
abbrev Rise : List FolderParts → Type 0
Rise folders = IsStrictlySortedBy (slice_cmp nat_cmp) (map (λ (one : SharedFolder). one.folder) (folders_in_order folders))

-- a device that the document has in a folder of this name shares it
folder_shared : (folders : List FolderParts) (name : Folder) (device : Device) → Rise folders → SharesFolder folders name device → Contains (devices_of (shares_of name (folders_in_order folders))) device
folder_shared folders name device rise has =
    let folder = any_gives (λ (f : FolderParts). (f.folder ≡ name) × IsSharedBy device f) folders has in
    let found = shares_found (folders_in_order folders) (folder_written folder.0) rise (part_there by_folder folder_written folders folder.0 folder.1) in
    subst (λ held. Contains (devices_of held) device) (sym found ∙ ap (λ f. shares_of f (folders_in_order folders)) folder.2.0)
    (device_written folder.0 device folder.2.1)

-- a device that the document has in some folder is one of the cut's devices
device_there : (folders : List FolderParts) (device : Device) → IsDeviceOf folders device → HasDevice (folders_in_order folders) device
device_there folders device has =
    let folder = any_gives (IsSharedBy device) folders has in
    (folder_written folder.0, part_there by_folder folder_written folders folder.0 folder.1, device_written folder.0 device folder.2)

-- ---- links
flights_of_link : (folders : List FolderParts) (link : LinkParts) (parts : List FlightParts) → Rise folders → AllByRecursion (IsFaultlessFlight folders link) parts → All (IsFlight (folders_in_order folders) link.a link.b) (map flight_written parts)
flights_of_link folders link parts rise faultless =
    all_from_each (IsFlight (folders_in_order folders) link.a link.b) (map flight_written parts) (λ flight h.
    let part = Contains-from_image flight_written parts flight h in
    let one = holds_of_member (IsFaultlessFlight folders link) parts part.0 faultless part.1 in
    subst (IsFlight (folders_in_order folders) link.a link.b) part.2 (record {
      batch = one.batch;
      shared_by_a = folder_shared folders part.0.folder link.a rise one.shared_by_a;
      shared_by_b = folder_shared folders part.0.folder link.b rise one.shared_by_b;
    }))

nothing_written : (parts : List FlightParts) → parts ≡ [] → map flight_written parts ≡ []
nothing_written parts none = ap (map flight_written) none

link_in_order : (folders : List FolderParts) (link : LinkParts) → Rise folders → IsFaultlessLink folders link → IsLink (folders_in_order folders) (link_written link)
link_in_order folders link rise faultless = record {
  ends = faultless.ends;
  a_device = device_there folders link.a faultless.a_device;
  b_device = device_there folders link.b faultless.b_device;
  epoch = faultless.epoch;
  few_to_a = let l = length-map link.to_a flight_written in let few = faultless.few_to_a in omega arith;
  few_to_b = let l = length-map link.to_b flight_written in let few = faultless.few_to_b in omega arith;
  quiet = λ down. let none = faultless.quiet down in (nothing_written link.to_a none.0, nothing_written link.to_b none.1);
  to_a = flights_of_link folders link link.to_a rise faultless.to_a;
  to_b = flights_of_link folders link link.to_b rise faultless.to_b;
}

pub links_in_order : (folders : List FolderParts) (links : List LinkParts) → Rise folders → AllByRecursion (IsFaultlessLink folders) links → All (IsLink (folders_in_order folders)) (in_order by_ends [] (map link_written links))
links_in_order folders links rise faultless =
    all_from_each (IsLink (folders_in_order folders)) (in_order by_ends [] (map link_written links)) (λ link h.
    let part = from_part by_ends link_written links link h in
    subst (IsLink (folders_in_order folders)) part.2
    (link_in_order folders part.0 rise (holds_of_member (IsFaultlessLink folders) links part.0 faultless part.1)))

-- ---- what links carry is well formed
weaker : {X : Type 0} (P Q : X → Type 0) → ((x : X) → P x → Q x) → (xs : List X) → AllByRecursion P xs → AllByRecursion Q xs
weaker P Q so [] all = tt
weaker P Q so (x ∷ more) all = (so x all.0, weaker P Q so more all.1)

pub links_well_formed : (folders : List FolderParts) (links : List LinkParts) → AllByRecursion (IsFaultlessLink folders) links → AllByRecursion IsWellFormedLink links
links_well_formed folders links faultless = weaker (IsFaultlessLink folders) IsWellFormedLink (λ link one. (flights link link.to_a one.to_a, flights link link.to_b one.to_b)) links faultless where
  flights : (link : LinkParts) (parts : List FlightParts) → AllByRecursion (IsFaultlessFlight folders link) parts → AreWellFormed parts
  flights link parts all = weaker (IsFaultlessFlight folders link) (λ (flight : FlightParts). AllByRecursion IsWellFormed flight.records) (λ flight one. one.well_formed) parts all
