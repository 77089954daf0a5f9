-- What is told of the members of a scenario document is what is told of it, and its reading.
use Rattle.std.specs.Prelude.{codes, option_map, unwrap_or}
use Rattle.std.proofs.Common.{◌≡◌, ◌∙◌, ◌&&◌, Bool, true, false, List, Option, Some, None, refl, sym, ap, ap₂}
use Rattle.serde_json.specs.Data.{Data}
use Rattle.serde_json.specs.Find.{get}
use Rattle.bep_json.specs.declared.version.DocVersion.{DocVersion}
use Rattle.bep_json.specs.Lists.{is_list, read_list, is_pair}
use Rattle.bep_json.specs.Numbers.{is_whole, read_number}
use Rattle.bep_json.specs.Reading as json
use Rattle.bep_json.specs.Reading.{read_member}
use Rattle.bep_json.specs.Tree.{has_member}
use Rattle.bep_json.specs.Taking.{judged, Fills, both}
use Rattle.bep_json.proofs.TakingFacts.{due_is, noted_is, stands, both_is, pair}
use Rattle.bep_record.specs.declared.limits.TheConstants.{MAX_FOLDERS}
use Rattle.bep_document.specs.declared.fault.Fault.TheVariants.{VersionBad}
use Rattle.bep_document.specs.declared.parts.FolderParts.{FolderParts}
use Rattle.bep_document.specs.declared.parts.LinkParts.{LinkParts}
use Rattle.bep_document.specs.read.Checks.{doc_version, if_few_devices}
use Rattle.bep_document.specs.read.Devices.{has_few_devices}
use Rattle.bep_document.specs.read.Few.{read_few}
use Rattle.bep_document.specs.Reading.{◌>>=◌, given, of_shape, without_rows}
use Rattle.bep_document.proofs.told.Readings.{shape_told}
use Rattle.bep_scenario.specs.declared.members.ScenarioSlots.{ScenarioSlots}
use Rattle.bep_scenario.specs.declared.parts.ScenarioParts.{ScenarioParts}
use Rattle.bep_scenario.specs.declared.parts.StepParts.{StepParts}
use Rattle.bep_scenario.specs.Faults.{first_fault}
use Rattle.bep_scenario.specs.Fresh.{is_fresh_folder, read_fresh_folder, read_fresh_link}
use Rattle.bep_scenario.specs.Reading.{is_scenario, read_scenario, reading_of_tree}
use Rattle.bep_scenario.specs.Steps.{is_step, read_step}
use Rattle.bep_scenario.specs.inner.Members.{scenario_names, scenario_slots, scenario_of_told, scenario_told, parts_read}

-- ---- what is made of the lists

-- the scenario with these lists, where not too many different devices share its folders
abbrev of_lists : DocVersion → Option (List FolderParts) → Option (List LinkParts) → Option (List StepParts) → Option ScenarioParts
of_lists version folders links steps =
    json.◌>>=◌ folders (λ all.
    json.◌>>=◌ (if_few_devices all) (λ few.
    json.◌>>=◌ links (λ joined.
    json.◌>>=◌ steps (λ taken.
    Some (record { cluster = without_rows version (few, joined); steps = taken })))))

by_devices : (version : DocVersion) (folders : List FolderParts) (links : Option (List LinkParts)) (steps : Option (List StepParts)) (few : Bool) → has_few_devices folders ≡ few
    → scenario_of_told version (judged true (pair (Some true) (pair (Some folders) (pair links steps)))) ≡ judged true (of_lists version (Some folders) links steps)
by_devices version folders (Some links) (Some steps) true is = rw is
by_devices version folders (Some links) (Some steps) false is = rw is
by_devices version folders (Some links) None true is = rw is
by_devices version folders (Some links) None false is = rw is
by_devices version folders None steps true is = rw is
by_devices version folders None steps false is = rw is

by_lists : (version : DocVersion) (shape : Bool) (folders : Option (List FolderParts)) (links : Option (List LinkParts)) (steps : Option (List StepParts))
    → scenario_of_told version (judged shape (pair (Some true) (pair folders (pair links steps)))) ≡ judged shape (of_lists version folders links steps)
by_lists version false folders links steps = refl
by_lists version true None links steps = refl
by_lists version true (Some folders) links steps = by_devices version folders links steps (has_few_devices folders) refl

-- where the version doesn't stand there, the shape is another
by_version : (version : DocVersion) (found : Option Data) (others : Bool) (folders : Option (List FolderParts)) (links : Option (List LinkParts)) (steps : Option (List StepParts))
    → scenario_of_told version (judged (unwrap_or (option_map is_whole found) false && others) (pair (stands found) (pair folders (pair links steps))))
    ≡ judged (unwrap_or (option_map is_whole found) false && others) (of_lists version folders links steps)
by_version version None others folders links steps = refl
by_version version (Some d) others folders links steps = by_lists version (is_whole d && others) folders links steps

-- ---- the document

module _ (version : DocVersion) (d : Data) where
  abbrev has_folders : Bool
  has_folders = has_member (codes "folders") (is_list is_fresh_folder) d

  abbrev has_links : Bool
  has_links = has_member (codes "links") (is_list is_pair) d

  abbrev has_steps : Bool
  has_steps = has_member (codes "steps") (is_list (is_step version)) d

  abbrev all : Bool
  all = has_member (codes "version") is_whole d && (has_folders && (has_links && has_steps))

  scenario_members : scenario_told version (Some (scenario_slots version (λ name. get name d))) ≡ judged all (read_scenario version d)
  unfolding read_scenario
  scenario_members =
      let folders = read_member (codes "folders") (read_few MAX_FOLDERS read_fresh_folder) d in
      let links = read_member (codes "links") (read_list read_fresh_link) d in
      let steps = read_member (codes "steps") (read_list (read_step version)) d in
      ap (scenario_of_told version)
      (ap₂ both (noted_is is_whole (read_number 1 2) (get (codes "version") d))
      (ap₂ both (due_is (codes "folders") (is_list is_fresh_folder) (read_few MAX_FOLDERS read_fresh_folder) d)
      (ap₂ both (due_is (codes "links") (is_list is_pair) (read_list read_fresh_link) d) (due_is (codes "steps") (is_list (is_step version)) (read_list (read_step version)) d)
      ∙ both_is has_links has_steps links steps)
      ∙ both_is has_folders (has_links && has_steps) folders (pair links steps))
      ∙ both_is (has_member (codes "version") is_whole d) (has_folders && (has_links && has_steps)) (stands (get (codes "version") d)) (pair folders (pair links steps)))
      ∙ by_version version (get (codes "version") d) (has_folders && (has_links && has_steps)) folders links steps

pub scenario_is : (version : DocVersion) (slots : Option ScenarioSlots) (d : Data) → Fills scenario_names (scenario_slots version) slots d → scenario_told version slots ≡ judged (is_scenario version d) (read_scenario version d)
unfolding is_scenario
scenario_is version None d strange = sym (ap (λ only. judged (only && all version d) (read_scenario version d)) strange)
scenario_is version (Some slots) d (only, known) =
    ap (λ s. scenario_told version (Some s)) known ∙ scenario_members version d ∙ sym (ap (λ only. judged (only && all version d) (read_scenario version d)) only)

-- ---- its reading

pub scenario_reading : (version : DocVersion) (d : Data) → doc_version d ≡ Some version
    → parts_read (judged (is_scenario version d) (read_scenario version d)) ≡ reading_of_tree d
unfolding reading_of_tree
scenario_reading version d is =
    shape_told (is_scenario version d) (read_scenario version d) first_fault d (read_scenario version) refl
    ∙ sym (ap (λ v. given VersionBad v >>= λ known. of_shape (is_scenario known) (read_scenario known) first_fault d) is)
