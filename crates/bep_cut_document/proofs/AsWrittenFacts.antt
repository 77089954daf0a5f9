-- The tables of the cut that a document writes down, from what the document lists.
use Rattle.std.proofs.Common.{◌≡◌, ◌⊎◌, ◌↔◌, inl, inr, List, [], ◌∷◌, Some, Contains, refl, sym, ap, subst, ◌∙◌, ⊎_elim}
use Rattle.std.specs.Ordering.{nat_cmp}
use Rattle.std.specs.Cmp.Lexicographic.{slice_cmp, nat_list_cmp_total}
use Rattle.std.specs.FinMap.{get, insert, empty}
use Rattle.std.proofs.lemmas.Map.Lookups.{exact_bytes}
use Rattle.bep_facts.specs.Members.{Contains-cons_cases, Contains-first, Contains-more, holds_of_member, not_in_none}
use Rattle.bep_facts.specs.Maps.{nothing_in_empty, get-insert_here, get-insert_apart, found_after_insert}
use Rattle.bep_map.specs.NameMap.{ByName}
use Rattle.bep_record.specs.declared.entry.Entry.{Entry}
use Rattle.bep_record.specs.declared.node.NodeParts.{NodeParts}
use Rattle.bep_index.specs.After.{IsAmong}
use Rattle.bep_index.specs.Batch.{NamesDiffer, with_all}
use Rattle.bep_index.specs.Laws.{RecordsAreFound}
use Rattle.bep_json.specs.declared.nodes.NamedParts.{NamedParts}
use Rattle.bep_model.specs.Tables.{FileName}
use Rattle.bep_document.specs.declared.parts.ShareParts.{ShareParts}
use Rattle.bep_document.specs.declared.parts.FolderParts.{FolderParts}
use Rattle.bep_document.specs.declared.parts.CheckParts.{CheckParts}
use Rattle.bep_document.specs.Faultless.{HasNoKey, KeysDiffer, IsFaultless, IsFaultlessShare, IsFaultlessFolder}
use Rattle.bep_tables.specs.declared.share.Share.{Share}
use Rattle.bep_tables.specs.declared.share.SharedFolder.{SharedFolder}
use Rattle.bep_cut_document.specs.AsWritten.{IsWrittenIn, SharingIsAsWritten, OwnIsAsWritten, NodeIsAsWritten, TargetIsAsWritten}
use Rattle.bep_tables.specs.Cut.{shares_of}
use Rattle.bep_cut_document.specs.Written.{by_device, by_folder, with_nodes, share_written, folder_written, cut_written}
use Rattle.bep_tables.proofs.Tables.{folder_is_found, share_has_folder, sharing_is_said, own_is_said, node_is_said, target_is_said}
use Rattle.bep_cut_document.proofs.WrittenFacts.{from_part, part_there}
use Rattle.bep_cut_document.proofs.CutWritten.{CutIsWritten}

-- ---- a listed device's share
shares_written : CutIsWritten → (parts : CheckParts) (folder : FolderParts) → IsFaultless parts → Contains parts.folders folder → shares_of folder.folder (cut_written parts.folders parts.links).folders ≡ (folder_written folder).shares
shares_written is_cut parts folder faultless h =
    folder_is_found (cut_written parts.folders parts.links) (folder_written folder) (is_cut parts faultless)
    (part_there by_folder folder_written parts.folders folder h)

pub share_there : CutIsWritten → (parts : CheckParts) (folder : FolderParts) (share : ShareParts) → IsFaultless parts → IsWrittenIn parts folder share → Contains (shares_of folder.folder (cut_written parts.folders parts.links).folders) (share_written share)
share_there is_cut parts folder share faultless h =
    subst (λ shares. Contains shares (share_written share)) (sym (shares_written is_cut parts folder faultless h.0))
    (part_there by_device share_written folder.devices share h.1)

pub sharing_is_as_written : CutIsWritten → SharingIsAsWritten
sharing_is_as_written is_cut parts name device kind faultless = (
  λ shares.
      let share = (sharing_is_said (cut_written parts.folders parts.links) name device kind).0 shares in
      let held = share_has_folder (cut_written parts.folders parts.links) name share.0 share.1 in
      let folder = from_part by_folder folder_written parts.folders held.0 held.1 in
      let called : folder.0.folder ≡ name = ap (λ (one : SharedFolder). one.folder) folder.2 ∙ held.2 in
      let there : Contains (folder_written folder.0).shares share.0 =
      subst (λ shares. Contains shares share.0) (ap (λ n. shares_of n (cut_written parts.folders parts.links).folders) (sym called) ∙ shares_written is_cut parts folder.0 faultless folder.1) share.1
      in
      let part = from_part by_device share_written folder.0.devices share.0 there in
      (folder.0, part.0, (folder.1, part.1), called, ap (λ (s : Share). s.device) part.2 ∙ share.2, ap (λ (s : Share). s.kind) part.2 ∙ share.3),
  λ h.
      let there = subst (λ n. Contains (shares_of n (cut_written parts.folders parts.links).folders) (share_written h.1)) h.3 (share_there is_cut parts h.0 h.1 faultless h.2) in
      (sharing_is_said (cut_written parts.folders parts.links) name device kind).1 (share_written h.1, there, h.4, h.5),
)

-- ---- its records and nodes
pub faultless_share : (parts : CheckParts) (folder : FolderParts) (share : ShareParts) → IsFaultless parts → IsWrittenIn parts folder share → IsFaultlessShare share
faultless_share parts folder share faultless h =
    holds_of_member IsFaultlessShare folder.devices share (holds_of_member IsFaultlessFolder parts.folders folder faultless.each_folder h.0).shares h.1

among_is_contained : (entries : List Entry) (entry : Entry) → IsAmong entry entries ↔ Contains entries entry
among_is_contained [] entry = (λ h. absurd h, λ h. absurd (not_in_none entry h))
among_is_contained (first ∷ more) entry =
    let rest = among_is_contained more entry in (
      λ h. ⊎_elim (λ same. subst (Contains (first ∷ more)) (sym same) (Contains-first first more)) (λ later. Contains-more first more entry (rest.0 later)) h,
      λ h. ⊎_elim (λ same. inl (sym same)) (λ later. inr (rest.1 later)) (Contains-cons_cases first more entry h),
    )

-- the record found at a name is the one that is listed
pub found_as_listed : RecordsAreFound → (records : List Entry) (name : FileName) (entry : Entry) → NamesDiffer records → (get (with_all empty records) name ≡ Some entry) ↔ (Contains records entry × (entry.name ≡ name))
found_as_listed found records name entry differ =
    let lists = found records name entry differ in
    let among = among_is_contained records entry in (
      λ is. let l = lists.0 is in (among.0 l.0, l.1),
      λ is. lists.1 (among.1 is.0, is.1),
    )

pub own_is_as_written : CutIsWritten → RecordsAreFound → OwnIsAsWritten
own_is_as_written is_cut found parts folder share name entry faultless h =
    let own = own_is_said (cut_written parts.folders parts.links) folder.folder name (share_written share) (is_cut parts faultless) (share_there is_cut parts folder share faultless h) in
    let lists = found_as_listed found share.own name entry (faultless_share parts folder share faultless h).own_records.names in
    (λ is. lists.0 (sym own ∙ is), λ is. own ∙ lists.1 is)

pub target_is_as_written : CutIsWritten → RecordsAreFound → TargetIsAsWritten
target_is_as_written is_cut found parts folder share name entry faultless h =
    let target = target_is_said (cut_written parts.folders parts.links) folder.folder name (share_written share) (is_cut parts faultless) (share_there is_cut parts folder share faultless h) in
    let lists = found_as_listed found share.pulls name entry (faultless_share parts folder share faultless h).pulled.names in
    (λ is. lists.0 (sym target ∙ is), λ is. target ∙ lists.1 is)

abbrev pub named : FileName → NodeParts → NamedParts
named name node = record { name = name; parts = node }

pub found_node : (m : ByName NodeParts) (nodes : List NamedParts) (q : FileName) (found : NodeParts) → get (with_nodes m nodes) q ≡ Some found → Contains nodes (named q found) ⊎ (get m q ≡ Some found)
found_node m [] q found is = inr is
found_node m (first ∷ more) q found is =
    ⊎_elim
    (λ later. inl (Contains-more first more (named q found) later))
    (λ before. ⊎_elim
    (λ here. inl (subst (Contains (first ∷ more)) (sym (λ i. named (here.0 i) (here.1 i))) (Contains-first first more)))
    (λ old. inr old.1)
    (found_after_insert nat_list_cmp_total exact_bytes m first.name first.parts q found before))
    (found_node (insert m first.name first.parts) more q found is)

kept_node : (m : ByName NodeParts) (nodes : List NamedParts) (q : FileName) → HasNoKey (λ (n : NamedParts). n.name) q nodes → get (with_nodes m nodes) q ≡ get m q
kept_node m [] q none = refl
kept_node m (first ∷ more) q none =
    kept_node (insert m first.name first.parts) more q none.1 ∙ get-insert_apart nat_list_cmp_total exact_bytes m first.name first.parts q (λ same. none.0 (sym same))

listed_node : (m : ByName NodeParts) (nodes : List NamedParts) (node : NamedParts) → KeysDiffer (λ (n : NamedParts). n.name) nodes → Contains nodes node → get (with_nodes m nodes) node.name ≡ Some node.parts
listed_node m [] node differ h = absurd (not_in_none node h)
listed_node m (first ∷ more) node differ h =
    ⊎_elim
    (λ same. subst (λ (n : NamedParts). get (with_nodes (insert m first.name first.parts) more) n.name ≡ Some n.parts) same
    (kept_node (insert m first.name first.parts) more first.name differ.0 ∙ get-insert_here nat_list_cmp_total exact_bytes m first.name first.parts))
    (λ later. listed_node (insert m first.name first.parts) more node differ.1 later)
    (Contains-cons_cases first more node h)

pub node_is_as_written : CutIsWritten → NodeIsAsWritten
node_is_as_written is_cut parts folder share name node faultless h =
    let held = node_is_said (cut_written parts.folders parts.links) folder.folder name (share_written share) (is_cut parts faultless) (share_there is_cut parts folder share faultless h) in (
      λ is. ⊎_elim (λ listed. listed) (λ none. nothing_in_empty (slice_cmp nat_cmp) name node none) (found_node empty share.store name node (sym held ∙ is)),
      λ listed. held ∙ listed_node empty share.store (named name node) (faultless_share parts folder share faultless h).store_names listed,
    )
