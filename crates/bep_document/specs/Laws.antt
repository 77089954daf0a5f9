-- What the tests of records and nodes tell.
use Rattle.std.specs.Prelude.{◌↔◌, IsTrue}
use Rattle.bep_record.specs.Entry.{IsWellFormed}
use Rattle.bep_record.specs.Node.{IsNode}
use Rattle.bep_record.specs.declared.entry.Entry.{Entry}
use Rattle.bep_record.specs.declared.node.NodeParts.{NodeParts}
use Rattle.bep_document.specs.faults.Records.{is_well_formed, is_node}

-- the tests tell which fields are a record, and which parts are a node
abbrev pub RecordsAreTold : Type 0
RecordsAreTold = (entry : Entry) → IsTrue (is_well_formed entry) ↔ IsWellFormed entry

abbrev pub NodesAreTold : Type 0
NodesAreTold = (parts : NodeParts) → IsTrue (is_node parts) ↔ IsNode parts
