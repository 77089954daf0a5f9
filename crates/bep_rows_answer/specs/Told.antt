-- What came of a stream of rows, and what an exit status of 0 says of it (this project's profile).
use Rattle.std.specs.Prelude.{◌≡◌, ℕ, List, [], ◌∷◌, Option, None, Result, MatchResult}
use Rattle.std.specs.Io.KnownBytes.{Consumes, IsAtEnd}
use Rattle.bep_answer.specs.Heard.{Hears}
use Rattle.bep_answer.specs.declared.person.Said.{Said}
use Rattle.bep_answer.specs.declared.person.Said.TheVariants.{Why}
use Rattle.bep_document.specs.Reading.{Read}
use Rattle.bep_json.specs.declared.version.DocVersion.{DocVersion}
use Rattle.bep_machine.specs.FreeLaws.{FirmStaysPut}
use Rattle.bep_machine.specs.Laws.{StaysPut, StaysSettled}
use Rattle.bep_model.specs.Firm.{IsFirm, StaysFirm}
use Rattle.bep_model.specs.Settled.{IsListOfWinners, IsSettled}
use Rattle.bep_model.specs.Tables.{Tables}
use Rattle.bep_model.specs.declared.row.Row.{Row}
use Rattle.bep_report.specs.declared.error.ReportError.{ReportError}
use Rattle.bep_row.specs.declared.row.NameRow.{NameRow}
use Rattle.bep_rows.specs.AllRows.{cut_by}
use Rattle.bep_rows.specs.declared.aim.Aim.TheVariants as aims
use Rattle.bep_tables.specs.Cut.{tables_of}
use Rattle.bep_tables.specs.declared.cut.CutParts.{CutParts}
use Rattle.bep_rows_answer.specs.Header.{reading_of_header}
use Rattle.bep_rows_answer.specs.Input.{newline_at}
use Rattle.bep_rows_answer.specs.Outcome.{rows_status_of}
use Rattle.bep_rows_answer.specs.Stream.{AreLines, AreRead, EndsRows, IsAnswered, IsGrownText, TellsRow, all_lines}
use Rattle.bep_rows_answer.specs.UnderWinners.{EndsUnderWinners, TellsStanding}
use Rattle.bep_rows_answer.specs.declared.outcome.RowsOutcome.{RowsOutcome}

-- A stream was answered so, to its end or to the first line that is refused, or it was cut short, and the status tells which.
pub record IsRowsTold (Tells : TellsRow) (Ends : EndsRows) (status_after : Result RowsOutcome ReportError → ℕ) (unread left held now : Option (List ℕ)) (status : ℕ) : Type 0 where
  pub answer : Result RowsOutcome ReportError
  pub told : status ≡ status_after answer
  pub done : MatchResult answer (IsAnswered Tells Ends unread left held now) (λ _. IsGrownText held now)

-- beside it nothing is told: a person hears why there is no answer, and else nothing
pub record IsRowsHeard (status_after : Result RowsOutcome ReportError → ℕ) (heard now : Option (List Said)) (status : ℕ) : Type 0 where
  pub answer : Result RowsOutcome ReportError
  pub told : status ≡ status_after answer
  pub hears : MatchResult answer (λ _. Hears heard now []) (λ error. Hears heard now (Why error ∷ []))

-- the two that may be asked, where a line is written for each name that isn't what is asked
abbrev pub IsSettledRowsTold : Option (List ℕ) → Option (List ℕ) → Option (List ℕ) → Option (List ℕ) → ℕ → Type 0
IsSettledRowsTold = IsRowsTold (TellsStanding aims.Settled) (EndsUnderWinners aims.Settled) (rows_status_of aims.Settled)

abbrev pub IsFirmRowsTold : Option (List ℕ) → Option (List ℕ) → Option (List ℕ) → Option (List ℕ) → ℕ → Type 0
IsFirmRowsTold = IsRowsTold (TellsStanding aims.Firm) (EndsUnderWinners aims.Firm) (rows_status_of aims.Firm)

abbrev pub IsSettledRowsHeard : Option (List Said) → Option (List Said) → ℕ → Type 0
IsSettledRowsHeard = IsRowsHeard (rows_status_of aims.Settled)

abbrev pub IsFirmRowsHeard : Option (List Said) → Option (List Said) → ℕ → Type 0
IsFirmRowsHeard = IsRowsHeard (rows_status_of aims.Firm)

-- settled under the list of the winners, and so it stays: of every cluster with these tables
pub record StaysUnderWinners (t : Tables) : Type 0 where
  pub winners : List Row
  pub are : IsListOfWinners t winners
  pub settled : IsSettled t winners
  pub stays_put : StaysPut t winners
  pub stays_settled : StaysSettled t winners

-- firm under the list of the winners, and so it stays, whatever free peers do, too; it is settled, too
pub record StaysFirmUnderWinners (t : Tables) : Type 0 where
  pub winners : List Row
  pub are : IsListOfWinners t winners
  pub firm : IsFirm t winners
  pub stays_firm : StaysFirm t winners
  pub stays_put : FirmStaysPut t winners
  pub settled : StaysUnderWinners t

-- the lines are a header and rows, and this holds of the cut for which they stand
pub record TellsRows (Stays : Tables → Type 0) (lines : List (List ℕ)) : Type 0 where
  pub version : DocVersion
  pub header : CutParts
  pub rows : List NameRow
  pub heading : List ℕ
  pub row_lines : List (List ℕ)
  pub are : lines ≡ heading ∷ row_lines
  pub says : reading_of_header heading ≡ Read (version, header)
  pub read : AreRead version header None row_lines rows
  pub stays : Stays (tables_of (cut_by header rows))

-- all that was there to read was read, and says so
pub record SaysRows (Stays : Tables → Type 0) (unread left : Option (List ℕ)) : Type 0 where
  pub bytes : List ℕ
  pub taken : Consumes unread left bytes
  pub at_end : IsAtEnd left
  pub lines : List (List ℕ)
  pub rest : List ℕ
  pub are : AreLines bytes lines rest
  pub no_end : newline_at rest ≡ None
  pub tells : TellsRows Stays (all_lines lines rest)

-- it says a cut that is settled under the list of its winners
abbrev pub SaysSettledRows : Option (List ℕ) → Option (List ℕ) → Type 0
SaysSettledRows = SaysRows StaysUnderWinners

-- it says a cut that is firm
abbrev pub SaysFirmRows : Option (List ℕ) → Option (List ℕ) → Type 0
SaysFirmRows = SaysRows StaysFirmUnderWinners
