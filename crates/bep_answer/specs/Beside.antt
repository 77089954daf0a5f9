-- What a person is told beside an answer (this project's profile).
use Rattle.std.specs.Prelude.{◌≡◌, ℕ, List, [], Option, Some, None, true, false}
use Rattle.std.specs.List.{flat_map}
use Rattle.std.specs.String.{string_bytes}
use Rattle.bep_audit.specs.Certifier.{AreWinners}
use Rattle.bep_document.specs.Fault.{has_place}
use Rattle.bep_document.specs.Reading.{Reading, Read, Refused}
use Rattle.bep_document.specs.declared.fault.DocFault.{DocFault}
use Rattle.bep_hints.specs.declared.members.Expected.{Expected}
use Rattle.bep_hints.specs.declared.members.Expected.TheVariants.{Check, Cut}
use Rattle.bep_json.specs.declared.version.DocVersion.{DocVersion}
use Rattle.bep_lines.specs.Lines.{verdict_line}
use Rattle.bep_model.specs.Reasons.{Place}
use Rattle.bep_model.specs.Verdict.{Not}
use Rattle.bep_model.specs.declared.reason.Reason.TheVariants.{NotWinner}
use Rattle.bep_model.specs.declared.row.Row.{Row}
use Rattle.bep_tables.specs.Cut.{tables_of}
use Rattle.bep_tables.specs.declared.cut.CutParts.{CutParts}
use Rattle.bep_report.specs.Input.{IsRead}
use Rattle.bep_cut_document.specs.Written.{check_of, cut_of_document}
use Rattle.bep_answer.specs.declared.exchanging.Beside.{Beside}
use Rattle.bep_answer.specs.declared.exchanging.Beside.TheVariants.{Hint, NotFound, Lines}

-- where a refused document is at fault as the one that was expected, or that this was looked for and not found
abbrev pub IsHint : Expected → Option Beside → Type 0
IsHint expected None = ⊥
IsHint expected (Some (Hint hint)) = hint.expected ≡ expected
IsHint expected (Some (NotFound missed)) = missed.expected ≡ expected
IsHint expected (Some (Lines lines)) = ⊥

-- beside a document that is refused for this fault: such a hint; nothing where the fault has a place, which its line tells
abbrev pub IsHintOn : Expected → DocFault → Option Beside → Type 0
IsHintOn expected fault beside = (has_place fault.fault ≡ false → IsHint expected beside) × (has_place fault.fault ≡ true → beside ≡ None)

-- these lines, or nothing where there are none
abbrev pub AreLines : List ℕ → Option Beside → Type 0
AreLines told None = told ≡ []
AreLines told (Some (Hint hint)) = ⊥
AreLines told (Some (NotFound missed)) = ⊥
AreLines told (Some (Lines lines)) = string_bytes lines ≡ told

-- the line of a name that has no winner
abbrev pub line_without : Place → List ℕ
line_without place = verdict_line (Not NotWinner place.folder place.name None)

-- the known names of the cut that have no winner are told, in order, with a line each, and nothing else is
pub record TellsWithout (cut : CutParts) (beside : Option Beside) : Type 0 where
  pub rows : List Row
  pub without : List Place
  pub winners : AreWinners (tables_of cut) rows without
  pub lines : AreLines (flat_map line_without without) beside

-- nothing beside the answer to a document that is read, and a hint for one that is refused
abbrev pub IsHintOfRefused : {A : Type 0} → Expected → Reading A → Option Beside → Type 0
IsHintOfRefused expected (Read says) beside = beside ≡ None
IsHintOfRefused expected (Refused fault) beside = IsHintOn expected fault beside

-- beside the answer to a document that is read, a line for each of its cut's names without a winner, and a hint for one that is
-- refused
abbrev pub IsHintOrWithout : Reading (DocVersion × CutParts) → Option Beside → Type 0
IsHintOrWithout (Read said) beside = TellsWithout said.1 beside
IsHintOrWithout (Refused fault) beside = IsHintOn Cut fault beside

-- beside the answer to the bytes of a check document
abbrev pub TellsOfCheck : List ℕ → Option Beside → Type 0
TellsOfCheck bytes = IsHintOfRefused Check (check_of bytes)

-- beside the answer where a certificate is asked for
abbrev pub TellsOfCut : List ℕ → Option Beside → Type 0
TellsOfCut bytes = IsHintOfRefused Cut (cut_of_document bytes)

-- the same where the names without a winner are told
abbrev pub TellsOfPart : List ℕ → Option Beside → Type 0
TellsOfPart bytes = IsHintOrWithout (cut_of_document bytes)

-- a document was read, and this is told beside its answer
pub record IsTelling (Tells : List ℕ → Option Beside → Type 0) (unread left : Option (List ℕ)) (beside : Option Beside) : Type 0 where
  pub bytes : List ℕ
  pub read : IsRead unread left bytes
  pub tells : Tells bytes beside
