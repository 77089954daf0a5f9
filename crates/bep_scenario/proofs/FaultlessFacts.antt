-- What is read has no fault.
use Rattle.std.proofs.Common.{◌≡◌, ℕ, List, [], length, None, leb-true}
use Rattle.serde_json.specs.Data.{Data}
use Rattle.bep_document.specs.declared.fault.Fault.TheVariants.{VersionBad, RecordBad}
use Rattle.bep_document.specs.Fault.{at_name}
use Rattle.bep_document.specs.faults.Judge.{first_in}
use Rattle.bep_document.specs.faults.Twice.{first_twice}
use Rattle.bep_document.specs.faults.Links.{first_bad_link}
use Rattle.bep_document.specs.read.Checks.{doc_version}
use Rattle.bep_document.specs.Reading.{Read}
use Rattle.bep_record.specs.declared.limits.TheConstants.{MAX_DEVICES}
use Rattle.bep_document.specs.read.Devices.{with_devices}
use Rattle.bep_document.proofs.Given.{devices_known, known_are_of, all_map}
use Rattle.bep_document.proofs.Steps.{given_and, of_bytes_and, of_shape_and}
use Rattle.bep_document.proofs.CleanFacts.{neither_fault, each_without_fault, node_without_fault, folders_differ, devices_differ, links_differ, links_join}
use Rattle.bep_scenario.specs.declared.parts.StepParts.{StepParts}
use Rattle.bep_scenario.specs.declared.parts.StepParts.TheVariants.{Edit, Other}
use Rattle.bep_scenario.specs.declared.parts.ScenarioParts.{ScenarioParts}
use Rattle.bep_scenario.specs.Faults.{bad_step, first_fault}
use Rattle.bep_scenario.specs.Reading.{is_scenario, read_scenario, reading_of_tree, reading_of}
use Rattle.bep_scenario.specs.Faultless.{HasNode, IsFaultless}
use Rattle.bep_scenario.proofs.RangeFacts.{IsInRange, scenario_in_range}

good_step : (earlier : List StepParts) (part : StepParts) → bad_step earlier part ≡ None → HasNode part
good_step earlier (Edit device folder node) none = node_without_fault node.parts (at_name RecordBad folder device node.name) none
good_step earlier (Other step) none = tt

faultless : (parts : ScenarioParts) → IsInRange parts → first_fault parts ≡ None → IsFaultless parts
unfolding first_fault
faultless parts range none =
    let folders = parts.cluster.folders in
    let devices = with_devices [] folders in
    let twice = neither_fault (first_twice parts.cluster) _ none in
    let rest = neither_fault (first_in bad_step [] parts.steps) (first_bad_link parts.cluster) twice.1 in
    record {
      few_folders = range.few;
      few_devices = (devices, leb-true (length devices) MAX_DEVICES range.few_devices, known_are_of devices folders (devices_known [] folders));
      named = all_map (λ folder in_range. in_range.named) folders range.each;
      numbered = all_map (λ folder in_range. in_range.numbered) folders range.each;
      folders = folders_differ parts.cluster twice.0;
      devices = devices_differ parts.cluster twice.0;
      links = links_differ parts.cluster twice.0;
      joined = links_join parts.cluster rest.1;
      nodes = each_without_fault bad_step HasNode good_step [] parts.steps rest.0;
    }

tree_faultless : (tree : Data) (parts : ScenarioParts) → reading_of_tree tree ≡ Read parts → IsFaultless parts
unfolding reading_of_tree
tree_faultless tree parts e =
    let known = given_and VersionBad (doc_version tree) _ e in
    let found = of_shape_and (is_scenario known.0) (read_scenario known.0) first_fault tree known.2 in
    faultless parts (scenario_in_range known.0 tree parts found.0) found.1

pub scenario_faultless : (bytes : List ℕ) (parts : ScenarioParts) → reading_of bytes ≡ Read parts → IsFaultless parts
unfolding reading_of
scenario_faultless bytes parts e = let tree = of_bytes_and reading_of_tree bytes e in tree_faultless tree.0 parts tree.1
