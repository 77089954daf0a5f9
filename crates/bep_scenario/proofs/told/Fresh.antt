-- What is told of the members of a device, of a folder, and of the ends of a link, is what is told of each.
use Rattle.std.specs.Prelude.{codes, nat_le}
use Rattle.std.proofs.Common.{◌≡◌, ◌∙◌, ℕ, ◌&&◌, Bool, true, false, Option, Some, None, Ok, refl, sym, ap, ap₂}
use Rattle.serde_json.specs.Data.{Data}
use Rattle.serde_json.specs.Find.{get}
use Rattle.bep_json.specs.Lists.{is_list, read_list, is_pair, read_pair}
use Rattle.bep_json.specs.Numbers.{is_whole, read_number, greatest_id}
use Rattle.bep_json.specs.Reading.{◌>>=◌, read_member}
use Rattle.bep_json.specs.Texts.{is_text, read_folder_kind, read_folder_name}
use Rattle.bep_json.specs.Tree.{has_member}
use Rattle.bep_json.specs.Taking.{judged, Fills, both, told_as}
use Rattle.bep_json.proofs.TakingFacts.{due_is, both_is, told_as_is, pair, read_2, read_3}
use Rattle.bep_scenario.specs.Fresh.{is_fresh_share, read_fresh_share, is_fresh_folder, read_fresh_folder, read_fresh_link, if_devices}
use Rattle.bep_scenario.specs.declared.fresh.shares.ShareSlots.{ShareSlots}
use Rattle.bep_scenario.specs.declared.fresh.folders.FolderSlots.{FolderSlots}
use Rattle.bep_scenario.specs.inner.Fresh.{share_names, share_slots, share_of, share_told, folder_names, folder_slots, folder_of, folder_told, link_told}

-- ---- devices that share a folder

module _ (d : Data) where
  abbrev has_device : Bool
  has_device = has_member (codes "device") is_whole d

  abbrev has_kind : Bool
  has_kind = has_member (codes "kind") is_text d

  abbrev has_index_id : Bool
  has_index_id = has_member (codes "index_id") is_whole d

  abbrev share_shape : Bool
  share_shape = has_device && (has_kind && has_index_id)

  -- of the members that a device has
  share_members : share_told (Some (share_slots (λ name. get name d))) ≡ judged share_shape (read_fresh_share d)
  unfolding read_fresh_share
  share_members =
      let device = read_member (codes "device") (read_number 1 greatest_id) d in
      let kind = read_member (codes "kind") read_folder_kind d in
      let index_id = read_member (codes "index_id") (read_number 1 greatest_id) d in
      ap (told_as share_of)
      (ap₂ both (due_is (codes "device") is_whole (read_number 1 greatest_id) d)
      (ap₂ both (due_is (codes "kind") is_text read_folder_kind d) (due_is (codes "index_id") is_whole (read_number 1 greatest_id) d)
      ∙ both_is has_kind has_index_id kind index_id)
      ∙ both_is has_device (has_kind && has_index_id) device (pair kind index_id))
      ∙ told_as_is share_of share_shape (pair device (pair kind index_id))
      ∙ ap (judged share_shape) (read_3 share_of device kind index_id)

pub share_is : (slots : Option ShareSlots) (d : Data) → Fills share_names share_slots slots d → share_told slots ≡ judged (is_fresh_share d) (read_fresh_share d)
unfolding is_fresh_share
share_is None d strange = sym (ap (λ only. judged (only && share_shape d) (read_fresh_share d)) strange)
share_is (Some slots) d (only, known) =
    ap (λ s. share_told (Some s)) known ∙ share_members d ∙ sym (ap (λ only. judged (only && share_shape d) (read_fresh_share d)) only)

-- ---- folders

module _ (d : Data) where
  abbrev has_folder : Bool
  has_folder = has_member (codes "folder") is_text d

  abbrev has_devices : Bool
  has_devices = has_member (codes "devices") (is_list is_fresh_share) d

  -- of the members that a folder has
  folder_members : folder_told (Some (folder_slots (λ name. get name d))) ≡ judged (has_folder && has_devices) (read_fresh_folder d)
  unfolding read_fresh_folder
  folder_members =
      let folder = read_member (codes "folder") read_folder_name d in
      let devices = read_member (codes "devices") (read_list read_fresh_share) d in
      ap (told_as folder_of)
      (ap₂ both (due_is (codes "folder") is_text read_folder_name d) (due_is (codes "devices") (is_list is_fresh_share) (read_list read_fresh_share) d)
      ∙ both_is has_folder has_devices folder devices)
      ∙ told_as_is folder_of (has_folder && has_devices) (pair folder devices)
      ∙ ap (judged (has_folder && has_devices)) (read_2 folder_of folder devices)

pub folder_is : (slots : Option FolderSlots) (d : Data) → Fills folder_names folder_slots slots d → folder_told slots ≡ judged (is_fresh_folder d) (read_fresh_folder d)
unfolding is_fresh_folder
folder_is None d strange = sym (ap (λ only. judged (only && (has_folder d && has_devices d)) (read_fresh_folder d)) strange)
folder_is (Some slots) d (only, known) =
    ap (λ s. folder_told (Some s)) known ∙ folder_members d ∙ sym (ap (λ only. judged (only && (has_folder d && has_devices d)) (read_fresh_folder d)) only)

-- ---- links

by_ends : (ends : ℕ × ℕ) (are : Bool) → (nat_le 1 ends.0 && nat_le 1 ends.1) ≡ are → link_told (Ok ends) ≡ judged true (if_devices ends)
by_ends ends true is = rw is
by_ends ends false is = rw is

of_pair : (shape : Bool) (read : Option (ℕ × ℕ)) → link_told (judged shape read) ≡ judged shape (read >>= if_devices)
of_pair false read = refl
of_pair true None = refl
of_pair true (Some ends) = by_ends ends (nat_le 1 ends.0 && nat_le 1 ends.1) refl

pub link_is : (d : Data) → link_told (judged (is_pair d) (read_pair d)) ≡ judged (is_pair d) (read_fresh_link d)
unfolding read_fresh_link
link_is d = of_pair (is_pair d) (read_pair d)
