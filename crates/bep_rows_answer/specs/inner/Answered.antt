-- What is written to a line of a stream, and at its end.
use Rattle.std.specs.Prelude.{◌≡◌, ◌⊎◌, ◌++◌, ◌+◌, ℕ, Bool, true, false, List, [], ◌∷◌, length, take, drop, Option, None, Some, IsSome}
use Rattle.std.specs.Io.KnownBytes.{Appends, Consumes}
use Rattle.bep_document.specs.declared.error.DocError.TheVariants as errors
use Rattle.bep_document.specs.declared.fault.DocFault.{DocFault}
use Rattle.bep_row.specs.declared.row.NameRow.{NameRow}
use Rattle.bep_tables.specs.declared.cut.CutParts.{CutParts}
use Rattle.bep_rows_answer.specs.Auditor.{last_of}
use Rattle.bep_rows_answer.specs.Input.{newline_at}
use Rattle.bep_rows_answer.specs.Lines.{refusal_line}
use Rattle.bep_rows_answer.specs.Stream.{AreAnswered, AreLines, EndsRows, IsAnswered, IsLineRefusal, IsRefusedAnswer, IsWholeAnswer, TellsRow, all_lines}
use Rattle.bep_rows_answer.specs.declared.outcome.RowsOutcome.{RowsOutcome}
use Rattle.bep_rows_answer.specs.declared.outcome.RowsOutcome.TheVariants as outcomes
use Rattle.bep_rows_answer.specs.declared.rows.Rows.{Rows}

-- what an auditor of this type tells, whichever was asked, and what it knows then
abbrev pub TellsOf : Type 0 → Type 1
TellsOf A = A → TellsRow

abbrev pub EndsOf : Type 0 → Type 1
EndsOf A = A → EndsRows

abbrev pub KnowsOf : Type 0 → Type 1
KnowsOf A = A → CutParts → List NameRow → A → Type 0

-- so far the lines are a header and rows, which were answered by this text, and of which the auditor knows
pub record AreGivenRows {A : Type 0} (Tells : TellsOf A) (Knows : KnowsOf A) (asked : A) (lines : List (List ℕ)) (text : List ℕ) (state : Rows) (auditor : A) : Type 0 where
  pub rows : List NameRow
  pub answered : AreAnswered (Tells asked) lines text state.version state.header rows
  pub last : state.last ≡ last_of None rows
  pub known : Knows asked state.header rows auditor

-- the same, or no line came yet
abbrev pub AreGiven : {A : Type 0} → TellsOf A → KnowsOf A → A → List (List ℕ) → List ℕ → Option Rows → A → Type 0
AreGiven Tells Knows asked lines text None auditor = (lines ≡ []) × (text ≡ []) × (auditor ≡ asked)
AreGiven Tells Knows asked lines text (Some rows) auditor = AreGivenRows Tells Knows asked lines text rows auditor

-- one more line was taken, and answered by this text
abbrev pub IsTakenNext : {A : Type 0} → TellsOf A → KnowsOf A → List ℕ → Option Rows → A → Option Rows → A → List ℕ → Type 0
IsTakenNext {A} Tells Knows line old before new after more =
    (asked : A) (lines : List (List ℕ)) (text : List ℕ) → AreGiven Tells Knows asked lines text old before → AreGiven Tells Knows asked (lines ++ line ∷ []) (text ++ more) new after

-- the line was taken, and its answer written
pub record IsWrittenNext {A : Type 0} (Tells : TellsOf A) (Knows : KnowsOf A) (line : List ℕ) (old : Option Rows) (before : A) (new : Option Rows) (after : A) (held now : Option (List ℕ)) : Type 0 where
  pub more : List ℕ
  pub taken : IsTakenNext Tells Knows line old before new after more
  pub some : IsSome new
  pub written : Appends held now more

-- the line is refused, and that was written
pub record IsRefusedNext (line : List ℕ) (number : ℕ) (old : Option Rows) (held now : Option (List ℕ)) : Type 0 where
  pub fault : DocFault
  pub refused : IsLineRefusal line old (errors.Refused fault)
  pub written : Appends held now (refusal_line number fault)

abbrev pub IsAnsweredNext : {A : Type 0} → TellsOf A → KnowsOf A → List ℕ → ℕ → Option Rows → A → Option Rows → A → Option (List ℕ) → Option (List ℕ) → Bool → Type 0
IsAnsweredNext Tells Knows line number old before new after held now true = IsWrittenNext Tells Knows line old before new after held now
IsAnsweredNext Tells Knows line number old before new after held now false = IsRefusedNext line number old held now

-- the end was written
pub record IsEnded {A : Type 0} (Tells : TellsOf A) (Ends : EndsOf A) (Knows : KnowsOf A) (state : Option Rows) (auditor : A) (held now : Option (List ℕ)) (outcome : RowsOutcome) : Type 0 where
  pub more : List ℕ
  pub written : Appends held now more
  pub says : (asked : A) (lines : List (List ℕ)) (text : List ℕ) → AreGiven Tells Knows asked lines text state auditor → IsWholeAnswer (Tells asked) (Ends asked) lines outcome (text ++ more)

-- the last line was answered, which has no end, and then the end was written
pub record IsAnsweredLast {A : Type 0} (Tells : TellsOf A) (Ends : EndsOf A) (Knows : KnowsOf A) (line : List ℕ) (number : ℕ) (old : Option Rows) (auditor : A) (held now : Option (List ℕ)) (outcome : RowsOutcome) : Type 0 where
  pub more : List ℕ
  pub written : Appends held now more
  pub says : (asked : A) (lines : List (List ℕ)) (text : List ℕ) → AreGiven Tells Knows asked lines text old auditor → newline_at line ≡ None → number ≡ length lines + 1 →
      IsWholeAnswer (Tells asked) (Ends asked) (all_lines lines line) outcome (text ++ more) ⊎ IsRefusedAnswer (Tells asked) lines line outcome (text ++ more)

-- so many lines were read and answered, and these bytes are pending
pub record IsStreamedTo {A : Type 0} (Tells : TellsOf A) (Knows : KnowsOf A) (asked : A) (unread left held now : Option (List ℕ)) (state : Option Rows) (auditor : A) (pending : List ℕ) (number : ℕ) : Type 0 where
  pub bytes : List ℕ
  pub taken : Consumes unread left bytes
  pub lines : List (List ℕ)
  pub are : AreLines bytes lines pending
  pub text : List ℕ
  pub written : Appends held now text
  pub known : AreGiven Tells Knows asked lines text state auditor
  pub numbered : number ≡ length lines + 1

-- the next line was answered, or the stream ended with this outcome
abbrev pub IsNextStreamed : {A : Type 0} → TellsOf A → EndsOf A → KnowsOf A → A → Option (List ℕ) → Option (List ℕ) → Option (List ℕ) → Option (List ℕ) → Option Rows → A → List ℕ → ℕ → Option RowsOutcome → Type 0
IsNextStreamed Tells Ends Knows asked unread left held now state auditor pending number None = IsStreamedTo Tells Knows asked unread left held now state auditor pending (number + 1)
IsNextStreamed Tells Ends Knows asked unread left held now state auditor pending number (Some outcome) = IsAnswered (Tells asked) (Ends asked) unread left held now outcome

-- the first of the pending lines, of so many bytes, was answered and passed; or it is refused
abbrev pub IsFrontAnswered : {A : Type 0} → TellsOf A → KnowsOf A → ℕ → ℕ → List ℕ → List ℕ → Option Rows → A → Option Rows → A → Option (List ℕ) → Option (List ℕ) → Option RowsOutcome → Type 0
IsFrontAnswered Tells Knows len number pending rest old before new after held now None = IsWrittenNext Tells Knows (take len pending) old before new after held now × (rest ≡ drop (len + 1) pending)
IsFrontAnswered Tells Knows len number pending rest old before new after held now (Some outcome) = IsRefusedNext (take len pending) number old held now × (outcome ≡ outcomes.Refused)
