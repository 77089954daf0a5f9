-- The cut of a cluster's parts is one.
use Rattle.std.proofs.Common.{◌≡◌, ◌≤◌, ◌∙◌, List, map, length, All, ap, sym, subst, arith}
use Rattle.std.specs.List.{AllByRecursion}
use Rattle.std.specs.List.Sorted.{IsStrictlyIncreasing, IsStrictlySortedBy}
use Rattle.std.proofs.lemmas.List.{length-map}
use Rattle.std.proofs.lemmas.List.Elements.{All-contains}
use Rattle.std.proofs.lemmas.Map.Keys.{sorted_from_strictly_increasing}
use Rattle.bep_facts.specs.Members.{Contains-from_image, holds_of_member}
use Rattle.bep_record.specs.declared.limits.TheConstants.{MAX_DEVICES}
use Rattle.bep_model.specs.Tables.{Device}
use Rattle.bep_links.specs.Link.{LinkBetween}
use Rattle.bep_peer.specs.Laws.{TablesAreFound}
use Rattle.bep_peer.specs.Member.{Member}
use Rattle.bep_tables.specs.declared.cut.CutParts.{CutParts}
use Rattle.bep_tables.specs.declared.share.SharedFolder.{SharedFolder}
use Rattle.bep_tables.specs.Cut.{AreShares, HasDevice, IsCut, IsLink, ends_cmp}
use Rattle.bep_cut.specs.Cut.{AreSoundIn, IsSoundLink, Seen, seen, cut_at, folder_cut, folders_of, link_at, parts_at}
use Rattle.bep_cut.specs.Parts.{AreParts}
use Rattle.bep_cut.proofs.Gathered.{all_each, no_longer}
use Rattle.bep_cut.proofs.FoldersCut.{cuts, device_there, folders_rise}
use Rattle.bep_cut.proofs.LinksCut.{ends_cut, is_link}
use Rattle.bep_cut.proofs.SharesCut.{are_shares, numbers_rise}

module _ (law : TablesAreFound) (members : List Member) (links : List LinkBetween) (parts : AreParts members links) where
  abbrev all : List Seen
  all = map seen members

  few : (devices : List Device) → IsStrictlyIncreasing devices → All (HasDevice (cuts all)) devices → length devices ≤ MAX_DEVICES
  few devices rise have =
      let short = no_longer devices (map (λ (one : Seen). one.0) all) (sorted_from_strictly_increasing devices rise) (numbers_rise law members links parts)
      (λ device stands. device_there all device (All-contains (HasDevice (cuts all)) devices device have stands)) in
      let numbers = length-map all (λ (one : Seen). one.0) in
      let seen_all = length-map members seen in
      let most = parts.few_devices in
      omega (arith, short, numbers, seen_all, most)

  pub is_cut : AllByRecursion (AreSoundIn all) (folders_of all) → AllByRecursion (IsSoundLink all) links → IsCut (parts_at all links)
  is_cut sound carried = record {
    rise = folders_rise all;
    shares = all_each (λ (shared : SharedFolder). AreShares shared.shares) (cuts all) (λ shared stands.
        let from = Contains-from_image (folder_cut all) (folders_of all) shared stands in
        subst (λ (one : SharedFolder). AreShares one.shares) from.2
        (are_shares law members links parts from.0 (holds_of_member (AreSoundIn all) (folders_of all) from.0 sound from.1)));
    few_folders = let same = length-map (folders_of all) (folder_cut all) in let most = parts.few_folders in omega (arith, same, most);
    few_devices = few;
    links_rise = subst (IsStrictlySortedBy ends_cmp) (sym (ends_cut all links)) parts.rising;
    links = all_each (IsLink (cuts all)) (map (link_at all) links) (λ link stands.
        let from = Contains-from_image (link_at all) links link stands in
        subst (IsLink (cuts all)) from.2 (is_link law members links parts from.0 from.1 (holds_of_member (IsSoundLink all) links from.0 carried from.1)));
  }

-- ---- what was made of them

module _ (members now : List Member) (links : List LinkBetween) (made : CutParts) (same : map seen now ≡ map seen members)
    (folders : made.folders ≡ map (folder_cut (map seen members)) (folders_of (map seen members))) (states : made.links ≡ map (link_at (map seen now)) links) where
  made_parts : made ≡ parts_at (map seen members) links
  made_parts = λ i. record { folders = folders i; links = (states ∙ ap (λ (all : List Seen). map (link_at all) links) same) i }

  pub made_cut : made ≡ cut_at members links
  unfolding cut_at
  made_cut = made_parts

  pub made_is_cut : TablesAreFound → AreParts members links → AllByRecursion (AreSoundIn (map seen members)) (folders_of (map seen members)) → AllByRecursion (IsSoundLink (map seen now)) links → IsCut made
  made_is_cut law parts sound carried =
      subst IsCut (sym made_parts) (is_cut law members links parts sound (subst (λ (all : List Seen). AllByRecursion (IsSoundLink all) links) same carried))
