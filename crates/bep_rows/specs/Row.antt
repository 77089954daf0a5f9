-- Of which cuts a row is, beside its header (this project's profile).
use Rattle.bep_parts.specs.Document.{IsCutOf}
use Rattle.bep_row.specs.Row.{cut_with}
use Rattle.bep_row.specs.declared.row.NameRow.{NameRow}
use Rattle.bep_tables.specs.declared.cut.CutParts.{CutParts}
use Rattle.bep_rows.specs.Names.{is_name}

-- the cut has all else as the header has it, and of the row's name what the row says
abbrev pub IsRowOf : CutParts → CutParts → NameRow → Type 0
IsRowOf whole header row = IsCutOf (is_name (row.folder, row.name)) whole (cut_with header row)
