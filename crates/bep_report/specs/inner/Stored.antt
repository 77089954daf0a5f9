-- A device's store, walked beside the known names.
use Rattle.std.specs.Prelude.{List, IsTrue}
use Rattle.std.specs.FinMap.{contains_key}
use Rattle.bep_map.specs.NameMap.{ByName}
use Rattle.bep_record.specs.declared.node.NodeParts.{NodeParts}
use Rattle.bep_model.specs.Tables.{FileName}
use Rattle.bep_tables.specs.declared.share.Share.{Share}
use Rattle.bep_report.specs.Report.{is_stored}

-- what the store holds, some device's store holds
abbrev pub HoldsStored : List Share → ByName NodeParts → Type 0
HoldsStored shares store = (name : FileName) → IsTrue (contains_key store name) → IsTrue (is_stored shares name)
