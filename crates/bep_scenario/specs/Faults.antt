-- The faults of a scenario that have a place (this project's profile).
use Rattle.std.specs.Prelude.{List, [], Option, Some, None, if◌then◌else◌}
use Rattle.bep_document.specs.declared.fault.DocFault.{DocFault}
use Rattle.bep_document.specs.declared.fault.Fault.TheVariants.{RecordBad}
use Rattle.bep_document.specs.Fault.{at_name}
use Rattle.bep_document.specs.faults.Judge.{◌else_at◌, first_in}
use Rattle.bep_document.specs.faults.Twice.{first_twice}
use Rattle.bep_document.specs.faults.Records.{is_node}
use Rattle.bep_document.specs.faults.Links.{first_bad_link}
use Rattle.bep_scenario.specs.declared.parts.StepParts.{StepParts}
use Rattle.bep_scenario.specs.declared.parts.StepParts.TheVariants.{Edit, Other}
use Rattle.bep_scenario.specs.declared.parts.ScenarioParts.{ScenarioParts}

-- an edit's node doesn't fit its kind; the device that would have it is the place
abbrev pub bad_step : List StepParts → StepParts → Option DocFault
bad_step earlier (Edit device folder node) =
    if is_node node.parts then None else Some (at_name RecordBad folder device node.name)
bad_step earlier (Other step) = None

-- what stands twice, then a node that doesn't fit its kind, then a link that can't be
unfoldable pub first_fault : ScenarioParts → Option DocFault
first_fault parts =
    first_twice parts.cluster else_at (first_in bad_step [] parts.steps else_at first_bad_link parts.cluster)
