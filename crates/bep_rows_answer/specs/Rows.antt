-- What a stream of rows says so far, and why its next line is refused (this project's profile).
use Rattle.std.specs.Prelude.{◌≡◌, ◌⊎◌, ℕ, ⊤, List, [], ◌∷◌, Option, Some, None}
use Rattle.bep_document.specs.Reading.{IsRefusal, Read}
use Rattle.bep_document.specs.declared.error.DocError.{DocError}
use Rattle.bep_document.specs.declared.error.DocError.TheVariants as errors
use Rattle.bep_document.specs.declared.fault.DocFault.{DocFault}
use Rattle.bep_document.specs.declared.fault.Fault.TheVariants.{SequenceBad}
use Rattle.bep_model.specs.Tables.{Device}
use Rattle.bep_row.specs.Fits.{Fits, IsShareFit}
use Rattle.bep_row.specs.Row.{cell_of}
use Rattle.bep_row.specs.declared.row.NameRow.{NameRow}
use Rattle.bep_row_document.specs.Reading.{reading_of_row}
use Rattle.bep_rows.specs.AllRows.{key_of_row}
use Rattle.bep_tables.specs.Cut.{shares_of}
use Rattle.bep_tables.specs.declared.cut.CutParts.{CutParts}
use Rattle.bep_tables.specs.declared.share.Share.{Share}
use Rattle.bep_rows_answer.specs.Header.{reading_of_header}
use Rattle.bep_rows_answer.specs.declared.rows.Rows.{Rows}

-- ---- the header

-- the line is the header of a stream, and no row came yet
pub record IsHeading (line : List ℕ) (rows : Rows) : Type 0 where
  pub says : reading_of_header line ≡ Read (rows.version, rows.header)
  pub no_last : rows.last ≡ None

-- the line is refused as a header for this
abbrev pub IsHeaderRefusal : List ℕ → DocError → Type 0
IsHeaderRefusal line error = IsRefusal error (reading_of_header line)

-- ---- a row

-- the next line is this row, which fits the header
pub record IsTaken (line : List ℕ) (row : NameRow) (old new : Rows) : Type 0 where
  pub read : reading_of_row old.version old.header old.last line ≡ Read row
  pub fits : Fits old.header row
  pub version : new.version ≡ old.version
  pub header : new.header ≡ old.header
  pub last : new.last ≡ Some (key_of_row row)

-- the first of these devices where what the row says can't stand; none where it can at all
pub data IsFirstUnfit (row : NameRow) : List Share → Option Device → Type 0 where
  UnfitNowhere : IsFirstUnfit row [] None
  UnfitHere : (share : Share) (more : List Share) → ¬ IsShareFit row (cell_of row.devices share.device) share → IsFirstUnfit row (share ∷ more) (Some share.device)
  UnfitLater : (share : Share) (more : List Share) (found : Option Device) → IsShareFit row (cell_of row.devices share.device) share → IsFirstUnfit row more found → IsFirstUnfit row (share ∷ more) found

-- the fault of a row that doesn't fit the header
pub record IsUnfit (header : CutParts) (row : NameRow) (fault : DocFault) : Type 0 where
  pub unfit : ¬ Fits header row
  pub device : Option Device
  pub first : IsFirstUnfit row (shares_of row.folder header.folders) device
  pub is : fault ≡ record { fault = SequenceBad; folder = Some row.folder; device = device; name = Some row.name }

abbrev pub IsSequenceFault : CutParts → NameRow → DocError → Type 0
IsSequenceFault header row errors.Memory = ⊤
IsSequenceFault header row (errors.Refused fault) = IsUnfit header row fault

-- the next line is refused for this: as a row beside the header, or since it doesn't fit
pub record IsUnfitRow (line : List ℕ) (rows : Rows) (error : DocError) : Type 0 where
  pub row : NameRow
  pub read : reading_of_row rows.version rows.header rows.last line ≡ Read row
  pub fault : IsSequenceFault rows.header row error

abbrev pub IsRowRefusal : List ℕ → Rows → DocError → Type 0
IsRowRefusal line rows error = IsRefusal error (reading_of_row rows.version rows.header rows.last line) ⊎ IsUnfitRow line rows error
