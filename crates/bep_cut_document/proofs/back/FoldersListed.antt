-- The folders of a cut, listed as a document has them, are without faults.
use Rattle.std.proofs.Common.{◌≡◌, ◌≢◌, ◌≤◌, List, map, length, Contains, arith}
use Rattle.std.specs.Cmp.{nat_cmp_total}
use Rattle.std.specs.FinMap.{entries}
use Rattle.std.specs.List.{AllByRecursion}
use Rattle.std.proofs.lemmas.List.{length-map}
use Rattle.std.proofs.lemmas.List.Elements.{All-contains}
use Rattle.std.proofs.lemmas.Map.Keys.{sorted_from_strictly_increasing}
use Rattle.bep_facts.specs.Members.{Contains-from_image, holds_of_member}
use Rattle.bep_record.specs.Node.{IsNode}
use Rattle.bep_record.specs.declared.limits.TheConstants.{MAX_DEVICES}
use Rattle.bep_index.specs.Index.{IsIndex}
use Rattle.bep_json.specs.declared.nodes.NamedParts.{NamedParts}
use Rattle.bep_model.specs.Tables.{Device}
use Rattle.bep_document.specs.declared.parts.ShareParts.{ShareParts}
use Rattle.bep_document.specs.declared.parts.ViewParts.{ViewParts}
use Rattle.bep_document.specs.Faultless.{IsFaultlessIndex, IsFaultlessShare, IsSharedBy, IsOfAnother, IsFaultlessFolder}
use Rattle.bep_tables.specs.declared.share.Share.{Share}
use Rattle.bep_tables.specs.declared.share.PeerView.{PeerView}
use Rattle.bep_tables.specs.declared.share.SharedFolder.{SharedFolder}
use Rattle.bep_tables.specs.declared.cut.CutParts.{CutParts}
use Rattle.bep_tables.specs.Cut.{AreViews, ArePulls, AreShares, HasDevice, IsCut, devices_of, index_of, known_of}
use Rattle.bep_cut_document.specs.inner.Sound.{IsViewSound, IsShareSound, IsFolderSound}
use Rattle.bep_cut_document.specs.inner.Told.{node_parts, view_parts, share_parts, folder_parts}
use Rattle.bep_tables.proofs.Found.{all_from_each}
use Rattle.bep_cut_document.proofs.WrittenFacts.{differ_written}
use Rattle.bep_cut_document.proofs.back.InOrder.{differ_where_rising}
use Rattle.bep_cut_document.proofs.back.Parts.{each_part, all_parts, any_part}
use Rattle.bep_cut_document.proofs.back.TablesListed.{keys_differ, index_listed, pulls_listed}

-- ---- a device
share_listed : (devices : List Device) (share : Share) → IsIndex (index_of share) → AreViews devices share.device share.views → ArePulls share.pulls → IsShareSound share → IsFaultlessShare (share_parts share)
share_listed devices share index views pulls sound = record {
  own_records = index_listed share.index_id share.max_sequence share.own index sound.own;
  store_names = differ_written (λ (node : NamedParts). node.name) node_parts (entries share.store) (keys_differ share.store);
  nodes = all_parts (λ (node : NamedParts). IsNode node.parts) node_parts (entries share.store) sound.store;
  viewed = differ_written (λ (view : ViewParts). view.of) view_parts share.views
      (differ_where_rising nat_cmp_total (λ (view : PeerView). view.of) share.views (sorted_from_strictly_increasing (map (λ (view : PeerView). view.of) share.views) views.rise));
  views = each_part (λ (view : ViewParts). IsFaultlessIndex view.max view.records) view_parts share.views (λ view h.
      index_listed view.index_id view.max_sequence view.records
      (All-contains (λ (one : PeerView). IsIndex (known_of one)) share.views view views.indexes h)
      (holds_of_member IsViewSound share.views view sound.views h));
  pulled = pulls_listed share.pulls pulls sound.pulls;
}

-- ---- a folder
-- a device of the folder shares it
pub shared_by : (shared : SharedFolder) (device : Device) → Contains (devices_of shared.shares) device → IsSharedBy device (folder_parts shared)
shared_by shared device h =
    let share = Contains-from_image (λ (one : Share). one.device) shared.shares device h in
    any_part (λ (one : ShareParts). one.device ≡ device) share_parts shared.shares share.0 share.1 share.2

of_others : (shared : SharedFolder) (share : Share) → AreViews (devices_of shared.shares) share.device share.views → AllByRecursion (IsOfAnother (folder_parts shared) (share_parts share)) (map view_parts share.views)
of_others shared share views =
    each_part (IsOfAnother (folder_parts shared) (share_parts share)) view_parts share.views (λ view h.
    let other = All-contains (λ (one : PeerView). (one.of ≢ share.device) × Contains (devices_of shared.shares) one.of) share.views view views.others h in
    (other.0, shared_by shared view.of other.1))

few_shares : (cut : CutParts) (shared : SharedFolder) → IsCut cut → Contains cut.folders shared → AreShares shared.shares → length (map share_parts shared.shares) ≤ MAX_DEVICES
few_shares cut shared is folder are =
    let devices = devices_of shared.shares in
    let most = is.few_devices devices are.rise (all_from_each (HasDevice cut.folders) devices (λ device h. (shared, folder, h))) in
    let same = length-map shared.shares (λ (one : Share). one.device) in
    let listed = length-map shared.shares share_parts in
    omega arith

pub folder_listed : (cut : CutParts) (shared : SharedFolder) → IsCut cut → Contains cut.folders shared → IsFolderSound shared → IsFaultlessFolder (folder_parts shared)
folder_listed cut shared is folder sound =
    let devices = devices_of shared.shares in
    let are = All-contains (λ (one : SharedFolder). AreShares one.shares) cut.folders shared is.shares folder in
    record {
      few = few_shares cut shared is folder are;
      different = differ_written (λ (share : ShareParts). share.device) share_parts shared.shares
          (differ_where_rising nat_cmp_total (λ (share : Share). share.device) shared.shares (sorted_from_strictly_increasing devices are.rise));
      shares = each_part IsFaultlessShare share_parts shared.shares (λ share h.
          share_listed devices share
          (All-contains (λ (one : Share). IsIndex (index_of one)) shared.shares share are.indexes h)
          (All-contains (λ (one : Share). AreViews devices one.device one.views) shared.shares share are.views h)
          (All-contains (λ (one : Share). ArePulls one.pulls) shared.shares share are.pulls h)
          (holds_of_member IsShareSound shared.shares share sound h));
      views = each_part (λ (share : ShareParts). AllByRecursion (IsOfAnother (folder_parts shared) share) share.views) share_parts shared.shares (λ share h.
          of_others shared share (All-contains (λ (one : Share). AreViews devices one.device one.views) shared.shares share are.views h));
    }
