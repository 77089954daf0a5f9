-- What is told of the members of a scenario document.
use Rattle.std.specs.Prelude.{ℕ, Bool, List, [], ◌∷◌, Option, None, Some, Result, Ok, Err, codes, if◌then◌else◌}
use Rattle.serde_json.specs.Data.{Data}
use Rattle.bep_record.specs.declared.limits.TheConstants.{MAX_FOLDERS}
use Rattle.bep_json.specs.declared.told.Misread.{Misread}
use Rattle.bep_json.specs.declared.told.Misread.TheVariants.{Shape, Range}
use Rattle.bep_json.specs.declared.version.DocVersion.{DocVersion}
use Rattle.bep_json.specs.Lists.{is_list, read_list, is_pair}
use Rattle.bep_json.specs.Numbers.{is_whole, read_number}
use Rattle.bep_json.specs.Taking.{slot, due, noted, both}
use Rattle.bep_document.specs.declared.parts.FolderParts.{FolderParts}
use Rattle.bep_document.specs.declared.parts.LinkParts.{LinkParts}
use Rattle.bep_document.specs.read.Devices.{has_few_devices}
use Rattle.bep_document.specs.read.Few.{read_few}
use Rattle.bep_document.specs.Reading.{Reading, ◌>>=◌, of_told, unless, without_rows}
use Rattle.bep_scenario.specs.declared.members.ScenarioSlots.{ScenarioSlots}
use Rattle.bep_scenario.specs.declared.parts.ScenarioParts.{ScenarioParts}
use Rattle.bep_scenario.specs.declared.parts.StepParts.{StepParts}
use Rattle.bep_scenario.specs.Faults.{first_fault}
use Rattle.bep_scenario.specs.Fresh.{is_fresh_folder, read_fresh_folder, read_fresh_link}
use Rattle.bep_scenario.specs.Steps.{is_step, read_step}

-- the names of the members
abbrev pub scenario_names : List (List ℕ)
scenario_names = codes "version" ∷ codes "folders" ∷ codes "links" ∷ codes "steps" ∷ []

-- what is told of the members, by what stands at each name
abbrev pub scenario_slots : DocVersion → (List ℕ → Option Data) → ScenarioSlots
scenario_slots version look = record {
  version = slot is_whole (read_number 1 2) (look (codes "version"));
  folders = slot (is_list is_fresh_folder) (read_few MAX_FOLDERS read_fresh_folder) (look (codes "folders"));
  links = slot (is_list is_pair) (read_list read_fresh_link) (look (codes "links"));
  steps = slot (is_list (is_step version)) (read_list (read_step version)) (look (codes "steps"));
}

-- what is told of all members
abbrev pub scenario_things : ScenarioSlots → Result (Bool × (List FolderParts × (List LinkParts × List StepParts))) Misread
scenario_things slots = both (noted slots.version) (both (due slots.folders) (both (due slots.links) (due slots.steps)))

-- the scenario of this version with these things, where not too many different devices share its folders
abbrev pub scenario_of : DocVersion → Bool × (List FolderParts × (List LinkParts × List StepParts)) → Result ScenarioParts Misread
scenario_of version t = if has_few_devices t.1.0 then Ok (record { cluster = without_rows version (t.1.0, t.1.1.0); steps = t.1.1.1 }) else Err Range

-- what is told of the scenario that is made of these things
abbrev pub scenario_of_told : DocVersion → Result (Bool × (List FolderParts × (List LinkParts × List StepParts))) Misread → Result ScenarioParts Misread
scenario_of_told version (Ok things) = scenario_of version things
scenario_of_told version (Err misread) = Err misread

-- what is told of the scenario
abbrev pub scenario_told : DocVersion → Option ScenarioSlots → Result ScenarioParts Misread
scenario_told version None = Err Shape
scenario_told version (Some slots) = scenario_of_told version (scenario_things slots)

-- what is read of parts that were told
abbrev pub parts_read : Result ScenarioParts Misread → Reading ScenarioParts
parts_read told = of_told told >>= λ parts. unless (first_fault parts) parts
