use Rattle.std.proofs.Common.{◌∙◌, ap}
use Rattle.std.specs.Prelude.{option_and_then}
use Rattle.bep_json.specs.Version.{version_of}
use Rattle.bep_tree.specs.Read.{tree_of}
use Rattle.bep_document.specs.Reading.{given}
use Rattle.bep_document.specs.declared.fault.Fault.TheVariants.{NotJson}
use Rattle.bep_document.proofs.told.Readings.{version_is}
use Rattle.bep_document.proofs.reading.text_of.Goals as goal

pub returns-in-Some : goal.returns-in-Some
returns-in-Some c =
    let known = rw c.in-Some.is at c.in_ok-found.ensures in
    let d = known.1 in
    (d, ap (given NotJson) known.2, ap tree_of known.0 ∙ known.2, c.version_of.ensures ∙ ap (option_and_then version_of) known.3 ∙ version_is d)
