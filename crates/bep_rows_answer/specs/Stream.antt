-- The answer to a stream of rows: what its lines say, and what is written (this project's profile).
use Rattle.std.specs.Prelude.{◌≡◌, ◌⊎◌, ◌++◌, ◌+◌, ◌<◌, ℕ, ⊤, List, [], ◌∷◌, length, take, slice_index_or, ◌==◌, false, Option, Some, None}
use Rattle.std.specs.Io.KnownBytes.{Appends, Consumes, IsAtEnd}
use Rattle.std.specs.List.{AllByRecursion, AllZip, concat, flat_map}
use Rattle.bep_document.specs.Fault.{nowhere}
use Rattle.bep_document.specs.Reading.{Read}
use Rattle.bep_document.specs.declared.error.DocError.{DocError}
use Rattle.bep_document.specs.declared.error.DocError.TheVariants as errors
use Rattle.bep_document.specs.declared.fault.DocFault.{DocFault}
use Rattle.bep_document.specs.declared.fault.Fault.TheVariants.{Range}
use Rattle.bep_json.specs.declared.version.DocVersion.{DocVersion}
use Rattle.bep_lines.specs.Lines.{newline}
use Rattle.bep_row.specs.Fits.{Fits}
use Rattle.bep_row.specs.declared.row.NameRow.{NameRow}
use Rattle.bep_row_document.specs.Faults.{Last}
use Rattle.bep_row_document.specs.Reading.{reading_of_row}
use Rattle.bep_rows.specs.AllRows.{key_of_row}
use Rattle.bep_tables.specs.declared.cut.CutParts.{CutParts}
use Rattle.bep_rows_answer.specs.Auditor.{last_of}
use Rattle.bep_rows_answer.specs.Header.{reading_of_header}
use Rattle.bep_rows_answer.specs.Input.{newline_at}
use Rattle.bep_rows_answer.specs.Lines.{refusal_line}
use Rattle.bep_rows_answer.specs.Rows.{IsHeaderRefusal, IsRowRefusal}
use Rattle.bep_rows_answer.specs.declared.outcome.RowsOutcome.{RowsOutcome}
use Rattle.bep_rows_answer.specs.declared.outcome.RowsOutcome.TheVariants as outcomes
use Rattle.bep_rows_answer.specs.declared.rows.Rows.{Rows}

-- ---- lines

-- these lines, each with its end
abbrev pub joined : List (List ℕ) → List ℕ
joined lines = flat_map (λ line. line ++ newline) lines

-- no byte of it is a line's end
abbrev pub IsPlain : List ℕ → Type 0
IsPlain line = (i : ℕ) → i < length line → (slice_index_or line i 0 == 10) ≡ false

-- the bytes are these lines, and then the rest; no line has another in it
pub record AreLines (bytes : List ℕ) (lines : List (List ℕ)) (rest : List ℕ) : Type 0 where
  pub joined : bytes ≡ joined lines ++ rest
  pub whole : AllByRecursion IsPlain lines

-- ---- rows

-- the lines are these rows beside the header, each behind the one before, and fit it
abbrev pub AreRead : DocVersion → CutParts → Last → List (List ℕ) → List NameRow → Type 0
AreRead version header last [] [] = ⊤
AreRead version header last [] (row ∷ rows) = ⊥
AreRead version header last (line ∷ lines) [] = ⊥
AreRead version header last (line ∷ lines) (row ∷ rows) =
    (reading_of_row version header last line ≡ Read row) × Fits header row × AreRead version header (Some (key_of_row row)) lines rows

-- ---- the answer

-- what is written to a row behind a header, and the outcome and what is written behind the last row
abbrev pub TellsRow : Type 1
TellsRow = CutParts → NameRow → List ℕ → Type 0

abbrev pub EndsRows : Type 1
EndsRows = CutParts → List NameRow → RowsOutcome → List ℕ → Type 0

-- the lines are a header and rows, each of which was answered, by this text all together
pub record AreAnswered (Tells : TellsRow) (lines : List (List ℕ)) (text : List ℕ) (version : DocVersion) (header : CutParts) (rows : List NameRow) : Type 0 where
  pub heading : List ℕ
  pub row_lines : List (List ℕ)
  pub are : lines ≡ heading ∷ row_lines
  pub says : reading_of_header heading ≡ Read (version, header)
  pub read : AreRead version header None row_lines rows
  pub answers : List (List ℕ)
  pub told : AllZip (Tells header) rows answers
  pub written : text ≡ concat answers

-- the lines are a header and rows, and the text is the answers to these, and then what is written at the end
pub record IsWholeAnswer (Tells : TellsRow) (Ends : EndsRows) (lines : List (List ℕ)) (outcome : RowsOutcome) (text : List ℕ) : Type 0 where
  pub version : DocVersion
  pub header : CutParts
  pub rows : List NameRow
  pub so_far : List ℕ
  pub answered : AreAnswered Tells lines so_far version header rows
  pub last : List ℕ
  pub ends : Ends header rows outcome last
  pub written : text ≡ so_far ++ last

-- ---- what is known while lines come

-- so far the lines are a header and rows, which were answered by this text
pub record IsSoFarRows (Tells : TellsRow) (lines : List (List ℕ)) (text : List ℕ) (state : Rows) : Type 0 where
  pub rows : List NameRow
  pub answered : AreAnswered Tells lines text state.version state.header rows
  pub last : state.last ≡ last_of None rows

-- the same, or no line came yet
abbrev pub IsSoFar : TellsRow → List (List ℕ) → List ℕ → Option Rows → Type 0
IsSoFar Tells lines text None = (lines ≡ []) × (text ≡ [])
IsSoFar Tells lines text (Some rows) = IsSoFarRows Tells lines text rows

-- the next line is refused for this
abbrev pub IsLineRefusal : List ℕ → Option Rows → DocError → Type 0
IsLineRefusal line None error = IsHeaderRefusal line error
IsLineRefusal line (Some rows) error = IsRowRefusal line rows error

-- ---- the whole stream

-- the next line of what is left of a stream: up to the first line's end, or all
abbrev pub IsNextLine : List ℕ → List ℕ → Type 0
IsNextLine rest line = ((len : ℕ) × (newline_at rest ≡ Some len) × (line ≡ take len rest)) ⊎ ((newline_at rest ≡ None) × (line ≡ rest))

-- it is too long
pub record IsTooLong (rest : List ℕ) (fault : DocFault) : Type 0 where
  pub long : 1048576 < length rest
  pub no_end : (len : ℕ) → newline_at rest ≡ Some len → 1048576 < len
  pub is : fault ≡ nowhere Range

-- it is refused for this fault
pub record IsRefusedLine (rest : List ℕ) (state : Option Rows) (fault : DocFault) : Type 0 where
  pub line : List ℕ
  pub next : IsNextLine rest line
  pub refused : IsLineRefusal line state (errors.Refused fault)

-- these lines were answered, and the next one is refused: the last line of the text says so, with its number and fault
pub record IsRefusedAnswer (Tells : TellsRow) (lines : List (List ℕ)) (rest : List ℕ) (outcome : RowsOutcome) (text : List ℕ) : Type 0 where
  pub so_far : List ℕ
  pub state : Option Rows
  pub known : IsSoFar Tells lines so_far state
  pub fault : DocFault
  pub why : IsRefusedLine rest state fault ⊎ IsTooLong rest fault
  pub told : outcome ≡ outcomes.Refused
  pub written : text ≡ so_far ++ refusal_line (length lines + 1) fault

-- all lines of a stream, whose last may have no end; a stream without bytes is one line
abbrev pub all_lines : List (List ℕ) → List ℕ → List (List ℕ)
all_lines [] rest = rest ∷ []
all_lines (line ∷ lines) [] = line ∷ lines
all_lines (line ∷ lines) (byte ∷ more) = (line ∷ lines) ++ (byte ∷ more) ∷ []

-- the whole stream was read and answered
pub record IsEndedAnswer (Tells : TellsRow) (Ends : EndsRows) (left : Option (List ℕ)) (lines : List (List ℕ)) (rest : List ℕ) (outcome : RowsOutcome) (text : List ℕ) : Type 0 where
  pub at_end : IsAtEnd left
  pub no_end : newline_at rest ≡ None
  pub answer : IsWholeAnswer Tells Ends (all_lines lines rest) outcome text

-- a stream was read and answered, to its end or to the first line that is refused
pub record IsAnswered (Tells : TellsRow) (Ends : EndsRows) (unread left held now : Option (List ℕ)) (outcome : RowsOutcome) : Type 0 where
  pub bytes : List ℕ
  pub taken : Consumes unread left bytes
  pub lines : List (List ℕ)
  pub rest : List ℕ
  pub are : AreLines bytes lines rest
  pub text : List ℕ
  pub written : Appends held now text
  pub says : IsEndedAnswer Tells Ends left lines rest outcome text ⊎ IsRefusedAnswer Tells lines rest outcome text

-- after an error what was written before stays
abbrev pub IsGrownText : Option (List ℕ) → Option (List ℕ) → Type 0
IsGrownText held now = (text : List ℕ) × Appends held now text
