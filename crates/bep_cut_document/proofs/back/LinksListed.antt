-- The links of a cut, listed as a document has them, are without faults.
use Rattle.std.proofs.Common.{◌≡◌, List, map, All, Contains, sym, ap, subst, ◌∙◌, arith}
use Rattle.std.specs.List.{AllByRecursion}
use Rattle.std.proofs.lemmas.List.{length-map}
use Rattle.std.proofs.lemmas.List.Elements.{All-contains}
use Rattle.bep_facts.specs.Members.{Contains-from_image, holds_of_member}
use Rattle.bep_model.specs.Tables.{Device, Folder}
use Rattle.bep_model.specs.declared.flight.Flight.{Flight}
use Rattle.bep_document.specs.declared.parts.FolderParts.{FolderParts}
use Rattle.bep_document.specs.Faultless.{IsSharedBy, IsDeviceOf, SharesFolder, IsFaultlessFlight, IsFaultlessLink}
use Rattle.bep_tables.specs.declared.share.Share.{Share}
use Rattle.bep_tables.specs.declared.link.LinkState.{LinkState}
use Rattle.bep_tables.specs.declared.cut.CutParts.{CutParts}
use Rattle.bep_tables.specs.Cut.{HasDevice, IsFlight, IsLink, IsCut, devices_of, shares_of}
use Rattle.bep_cut_document.specs.inner.Sound.{IsFlightSound, IsLinkSound}
use Rattle.bep_cut_document.specs.inner.Told.{folder_parts, flight_parts, link_parts}
use Rattle.bep_tables.proofs.Tables.{folder_is_found, share_has_folder}
use Rattle.bep_cut_document.proofs.back.FoldersListed.{shared_by}
use Rattle.bep_cut_document.proofs.back.Parts.{each_part, any_part}

-- ---- devices
device_of : (cut : CutParts) (device : Device) → HasDevice cut.folders device → IsDeviceOf (map folder_parts cut.folders) device
device_of cut device has = any_part (IsSharedBy device) folder_parts cut.folders has.0 has.1 (shared_by has.0 device has.2)

shares_folder : (cut : CutParts) (folder : Folder) (device : Device) → IsCut cut → Contains (devices_of (shares_of folder cut.folders)) device → SharesFolder (map folder_parts cut.folders) folder device
shares_folder cut folder device is h =
    let share = Contains-from_image (λ (one : Share). one.device) (shares_of folder cut.folders) device h in
    let held = share_has_folder cut folder share.0 share.1 in
    let same : shares_of folder cut.folders ≡ held.0.shares = ap (λ f. shares_of f cut.folders) (sym held.2) ∙ folder_is_found cut held.0 is held.1 in
    any_part (λ (one : FolderParts). (one.folder ≡ folder) × IsSharedBy device one) folder_parts cut.folders held.0 held.1
    (held.2, shared_by held.0 device (subst (λ shares. Contains (devices_of shares) device) same h))

-- ---- messages
flights_listed : (cut : CutParts) (link : LinkState) (flights : List Flight) → IsCut cut → All (IsFlight cut.folders link.a link.b) flights → AllByRecursion IsFlightSound flights → AllByRecursion (IsFaultlessFlight (map folder_parts cut.folders) (link_parts link)) (map flight_parts flights)
flights_listed cut link flights is each sound =
    each_part (IsFaultlessFlight (map folder_parts cut.folders) (link_parts link)) flight_parts flights (λ flight h.
    let one = All-contains (IsFlight cut.folders link.a link.b) flights flight each h in
    record {
      batch = one.batch;
      well_formed = holds_of_member IsFlightSound flights flight sound h;
      shared_by_a = shares_folder cut flight.folder link.a is one.shared_by_a;
      shared_by_b = shares_folder cut flight.folder link.b is one.shared_by_b;
    })

-- ---- links
pub link_listed : (cut : CutParts) (link : LinkState) → IsCut cut → IsLink cut.folders link → IsLinkSound link → IsFaultlessLink (map folder_parts cut.folders) (link_parts link)
link_listed cut link is one sound = record {
  ends = one.ends;
  a_device = device_of cut link.a one.a_device;
  b_device = device_of cut link.b one.b_device;
  epoch = one.epoch;
  quiet = λ down. let none = one.quiet down in (ap (map flight_parts) none.0, ap (map flight_parts) none.1);
  few_to_a = let same = length-map link.to_a flight_parts in let most = one.few_to_a in omega arith;
  few_to_b = let same = length-map link.to_b flight_parts in let most = one.few_to_b in omega arith;
  to_a = flights_listed cut link link.to_a is one.to_a sound.to_a;
  to_b = flights_listed cut link link.to_b is one.to_b sound.to_b;
}
