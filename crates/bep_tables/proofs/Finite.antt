-- Only finitely many names are known in a cut, and only finitely many devices viewed.
use Rattle.std.proofs.Common.{◌≡◌, flat_map, Option, Some, None, IsSome, Contains, option_and_then, refl, sym, ap, subst, ◌∙◌}
use Rattle.std.specs.Ordering.{nat_cmp, is_eq}
use Rattle.std.specs.FinMap.{get, keys, nat_cmp-IsAntisymmetric}
use Rattle.std.proofs.lemmas.List.Elements.{All-contains}
use Rattle.std.specs.Cmp.{Equal-is}
use Rattle.bep_facts.specs.Members.{Contains-flat_map, Contains-image}
use Rattle.bep_model.specs.Tables.{Device, Folder, FileName}
use Rattle.bep_model.specs.Foreign.{IsKnown}
use Rattle.bep_tables.specs.declared.share.Share.{Share}
use Rattle.bep_tables.specs.declared.share.PeerView.{PeerView}
use Rattle.bep_tables.specs.declared.share.SharedFolder.{SharedFolder}
use Rattle.bep_tables.specs.declared.cut.CutParts.{CutParts}
use Rattle.bep_tables.specs.Cut.{IsCut, devices_of, is_device, shares_of, share_of, view_of, tables_of}
use Rattle.bep_tables.specs.Laws.{CutIsFinite}
use Rattle.bep_tables.specs.Names.{known_names, names_of, all_names}
use Rattle.bep_tables.proofs.Found.{find_gives}
use Rattle.bep_tables.proofs.Values.{key_has_value}
use Rattle.bep_tables.proofs.Tables.{folder_is_found, share_has_folder, sharing_is_said, are_views}
use Rattle.bep_tables.proofs.Known.{names_are_known}

known_is_listed : (cut : CutParts) (folder : Folder) (name : FileName) → IsCut cut → IsKnown (tables_of cut) folder name → Contains (all_names cut cut.folders) (folder, name)
known_is_listed cut folder name is_cut is_known =
    let share = (sharing_is_said cut folder is_known.0 is_known.1.0).0 is_known.1.1 in
    let held = share_has_folder cut folder share.0 share.1 in
    let here = subst (λ f. IsKnown (tables_of cut) f name) (sym held.2) is_known in
    let listed = (key_has_value (known_names cut held.0.folder) name).1 ((names_are_known cut held.0.folder name is_cut).1 here) in
    subst (λ f. Contains (all_names cut cut.folders) (f, name)) held.2
    (Contains-flat_map (names_of cut) cut.folders held.0 (held.0.folder, name) held.1 (Contains-image (λ n. (held.0.folder, n)) (keys (known_names cut held.0.folder)) name listed))

-- a device of a folder is one of the devices of all folders
device_is_listed : (cut : CutParts) (folder : Folder) (share : Share) (device : Device) → IsCut cut → Contains (shares_of folder cut.folders) share → Contains (devices_of (shares_of folder cut.folders)) device → Contains (flat_map (λ held. devices_of held.shares) cut.folders) device
device_is_listed cut folder share device is_cut h there =
    let held = share_has_folder cut folder share h in
    let same : shares_of folder cut.folders ≡ held.0.shares = ap (λ f. shares_of f cut.folders) (sym held.2) ∙ folder_is_found cut held.0 is_cut held.1 in
    Contains-flat_map (λ (one : SharedFolder). devices_of one.shares) cut.folders held.0 device held.1
    (subst (λ shares. Contains (devices_of shares) device) same there)

viewed_is_listed : (cut : CutParts) (device other : Device) (folder : Folder) (name : FileName) → IsCut cut → IsSome ((tables_of cut).viewed device other folder name) → Contains (flat_map (λ held. devices_of held.shares) cut.folders) other
unfolding tables_of
viewed_is_listed cut device other folder name is_cut some = of_share (share_of device (shares_of folder cut.folders)) refl some where
  of_view : (share : Share) → Contains (shares_of folder cut.folders) share → (view : Option PeerView) → view_of other share.views ≡ view → IsSome (option_and_then (λ (one : PeerView). get one.records name) view) → Contains (flat_map (λ held. devices_of held.shares) cut.folders) other
  of_view share h None e none = absurd (cc)
  of_view share h (Some view) e some =
      let gives = find_gives (λ (one : PeerView). is_eq (nat_cmp one.of other)) share.views view e in
      let shared = All-contains (λ (one : PeerView). (one.of ≡ share.device → ⊥) × Contains (devices_of (shares_of folder cut.folders)) one.of) share.views view (are_views cut folder share is_cut h).others gives.0 in
      device_is_listed cut folder share other is_cut h
      (subst (Contains (devices_of (shares_of folder cut.folders))) (nat_cmp-IsAntisymmetric view.of other ((Equal-is _).0 gives.1)) shared.1)

  of_share : (share : Option Share) → share_of device (shares_of folder cut.folders) ≡ share → IsSome (option_and_then (λ (one : Share). option_and_then (λ (view : PeerView). get view.records name) (view_of other one.views)) share) → Contains (flat_map (λ held. devices_of held.shares) cut.folders) other
  of_share None e none = absurd (cc)
  of_share (Some share) e some = of_view share (find_gives (is_device device) (shares_of folder cut.folders) share e).0 (view_of other share.views) refl some

pub cut_is_finite : CutIsFinite
cut_is_finite cut is_cut = record {
  viewed = flat_map (λ held. devices_of held.shares) cut.folders;
  names = all_names cut cut.folders;
  all_viewed = λ device other folder name some. viewed_is_listed cut device other folder name is_cut some;
  all_known = λ folder name is_known. known_is_listed cut folder name is_cut is_known;
}
