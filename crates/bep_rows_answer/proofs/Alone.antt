-- What holds of the cut that has a row's name alone holds of what each cut says of that name of which this is a row.
use Rattle.std.proofs.Common.{◌≡◌, ◌∙◌, ap, subst}
use Rattle.bep_model.specs.Tables.{Tables}
use Rattle.bep_parts.specs.Laws.{DocumentsSayOnly}
use Rattle.bep_parts.specs.Parts.{only}
use Rattle.bep_row.specs.Row.{cut_with}
use Rattle.bep_row.specs.declared.row.NameRow.{NameRow}
use Rattle.bep_rows.specs.Names.{is_name}
use Rattle.bep_rows.specs.Row.{IsRowOf}
use Rattle.bep_tables.specs.Cut.{tables_of}
use Rattle.bep_tables.specs.declared.cut.CutParts.{CutParts}

pub alone_says : DocumentsSayOnly → (header : CutParts) (row : NameRow) (cut : CutParts) → cut ≡ cut_with header row →
    (P : Tables → Type 0) → P (tables_of cut) → (whole : CutParts) → IsRowOf whole header row → P (only (is_name (row.folder, row.name)) (tables_of whole))
alone_says says header row cut alone P holds whole of =
    subst P (ap tables_of alone ∙ says (is_name (row.folder, row.name)) whole (cut_with header row) of) holds
