-- What is known of a plain row without its cut (this project's profile).
use Rattle.bep_row.specs.Fits.{Fits}
use Rattle.bep_row.specs.Plain.{IsPlain}
use Rattle.bep_row.specs.Row.{cut_with}
use Rattle.bep_row.specs.declared.row.NameRow.{NameRow}
use Rattle.bep_tables.specs.Cut.{IsCut, tables_of}
use Rattle.bep_tables.specs.declared.cut.CutParts.{CutParts}
use Rattle.bep_rows.specs.Standing.{IsStanding}
use Rattle.bep_rows.specs.declared.aim.Aim.{Aim}
use Rattle.bep_rows.specs.declared.standing.Standing.TheVariants.{Met}

-- the cut that has a plain row's name alone is what is asked of it, whichever that is
abbrev pub PlainRowsAreFirm : Type 0
PlainRowsAreFirm = (header : CutParts) (row : NameRow) → IsCut header → Fits header row → IsPlain header row → (aim : Aim) → IsStanding aim (tables_of (cut_with header row)) Met
