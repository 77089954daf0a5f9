use Rattle.bep_document.proofs.faults.RecordTests.{well_formed_decides, node_decides}
use Rattle.bep_document.proofs.laws.records_are_told.Goals as goal

pub returns : goal.returns
returns c = record { records = well_formed_decides; nodes = node_decides }
