-- What is in range in each scenario that is read.
use Rattle.std.proofs.Common.{◌≡◌, ◌≤◌, ℕ, ◌&&◌, true, List, length, codes, leb, leb-true, option_and_then}
use Rattle.std.specs.List.{AllByRecursion}
use Rattle.serde_json.specs.Find.{as_str, as_number, as_u64}
use Rattle.bep_record.specs.FolderName.{IsFolderName}
use Rattle.bep_record.specs.declared.limits.TheConstants.{MAX_FOLDERS}
use Rattle.bep_json.specs.declared.version.DocVersion.{DocVersion}
use Rattle.bep_json.specs.Reading.{read_member}
use Rattle.bep_json.specs.Lists.{read_list}
use Rattle.bep_json.specs.Numbers.{read_number, greatest_id}
use Rattle.bep_json.specs.Texts.{is_folder_name, read_folder_name, read_folder_kind}
use Rattle.bep_json.proofs.TextFacts.{folder_name_decides}
use Rattle.bep_document.specs.declared.parts.FolderParts.{FolderParts}
use Rattle.bep_document.specs.read.Devices.{has_few_devices}
use Rattle.bep_document.proofs.BoolFacts.{both_true}
use Rattle.bep_document.proofs.Steps.{made, keep, skip, tested}
use Rattle.bep_document.proofs.Given.{Reads, list_read, few_read, member_read}
use Rattle.bep_scenario.specs.declared.parts.ScenarioParts.{ScenarioParts}
use Rattle.bep_scenario.specs.Faultless.{HasIndexId}
use Rattle.bep_scenario.specs.Fresh.{read_fresh_share, read_fresh_folder, read_fresh_link}
use Rattle.bep_scenario.specs.Reading.{read_scenario}
use Rattle.bep_scenario.specs.Steps.{read_step}

number_from : (low high : ℕ) → Reads (λ n. low ≤ n) (read_number low high)
number_from low high d =
    skip (option_and_then as_u64 (as_number d)) (λ n. tested (λ m. low ≤ m) (leb low n && leb n high) n (λ within. leb-true low n (both_true (leb low n) (leb n high) within).0))

share_in_range : Reads HasIndexId read_fresh_share
unfolding read_fresh_share
share_in_range d =
    skip (read_member (codes "device") (read_number 1 greatest_id) d) (λ device.
    skip (read_member (codes "kind") read_folder_kind d) (λ kind.
    keep (member_read (number_from 1 greatest_id) (codes "index_id") d) (λ index_id from. made HasIndexId _ from)))

name_in_range : Reads IsFolderName read_folder_name
unfolding read_folder_name
name_in_range d =
    skip (as_str d) (λ text. tested IsFolderName (is_folder_name text) text (λ is. (folder_name_decides text).0 is))

-- a folder's name, and the index ids of those that share it
pub record IsFolderInRange (folder : FolderParts) : Type 0 where
  pub named : IsFolderName folder.folder
  pub numbered : AllByRecursion HasIndexId folder.devices

folder_in_range : Reads IsFolderInRange read_fresh_folder
unfolding read_fresh_folder
folder_in_range d =
    keep (member_read name_in_range (codes "folder") d) (λ folder named.
    keep (member_read (list_read share_in_range) (codes "devices") d) (λ devices numbered.
    made IsFolderInRange _ (record { named = named; numbered = numbered })))

-- the folders, and how many devices share them
pub record AreFoldersInRange (folders : List FolderParts) : Type 0 where
  pub few : length folders ≤ MAX_FOLDERS
  pub few_devices : has_few_devices folders ≡ true
  pub each : AllByRecursion IsFolderInRange folders

abbrev pub IsInRange : ScenarioParts → Type 0
IsInRange parts = AreFoldersInRange parts.cluster.folders

pub scenario_in_range : (version : DocVersion) → Reads IsInRange (read_scenario version)
unfolding read_scenario
scenario_in_range version d =
    keep (member_read (few_read MAX_FOLDERS folder_in_range) (codes "folders") d) (λ folders few.
    keep (tested AreFoldersInRange (has_few_devices folders) folders (λ devices. record { few = few.0; few_devices = devices; each = few.1 })) (λ known range.
    skip (read_member (codes "links") (read_list read_fresh_link) d) (λ links.
    skip (read_member (codes "steps") (read_list (read_step version)) d) (λ steps. made IsInRange _ range))))
