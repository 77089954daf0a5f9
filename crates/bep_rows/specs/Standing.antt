-- What is answered of a cut under the list of its names' winners, and of two parts of a cut together (this project's profile).
use Rattle.std.specs.Prelude.{Bool, true, false, List, Option, Some, if◌then◌else◌}
use Rattle.std.specs.Ordering.{is_lt}
use Rattle.bep_audit.specs.Loose.{Loosening, loose_cmp}
use Rattle.bep_audit.specs.Walk.{Failure, failure_cmp}
use Rattle.bep_model.specs.FirmVerdict as firm_verdicts
use Rattle.bep_model.specs.declared.firm_reason.FirmReason.{FirmReason}
use Rattle.bep_model.specs.declared.reason.Reason.{Reason}
use Rattle.bep_model.specs.declared.row.Row.{Row}
use Rattle.bep_model.specs.Settled.{IsListOfWinners}
use Rattle.bep_model.specs.Tables.{Tables, Device, Folder, FileName}
use Rattle.bep_model.specs.Verdict as verdicts
use Rattle.bep_model.specs.WithoutWinner.{IsFirstWithoutWinner}
use Rattle.bep_rows.specs.declared.aim.Aim.{Aim}
use Rattle.bep_rows.specs.declared.aim.Aim.TheVariants as aims
use Rattle.bep_rows.specs.declared.standing.Standing.{Standing}
use Rattle.bep_rows.specs.declared.standing.Standing.TheVariants.{Met, Not, Loose, Unwon}

-- The verdict on what is asked of the cut, under these rows. Only where firm is asked for a cut is loose.
abbrev pub IsJudged : Aim → Tables → List Row → Standing → Type 0
IsJudged aims.Settled t rows Met = verdicts.IsVerdict t rows verdicts.Settled
IsJudged aims.Settled t rows (Not reason folder name device) = verdicts.IsVerdict t rows (verdicts.Not reason folder name device)
IsJudged aims.Settled t rows (Loose reason folder name device) = ⊥
IsJudged aims.Settled t rows (Unwon folder name) = ⊥
IsJudged aims.Firm t rows Met = firm_verdicts.IsFirmVerdict t rows firm_verdicts.Firm
IsJudged aims.Firm t rows (Not reason folder name device) = firm_verdicts.IsFirmVerdict t rows (firm_verdicts.Unsettled reason folder name device)
IsJudged aims.Firm t rows (Loose reason folder name device) = firm_verdicts.IsFirmVerdict t rows (firm_verdicts.Loose reason folder name device)
IsJudged aims.Firm t rows (Unwon folder name) = ⊥

-- the verdict under the list of the winners
pub record IsUnderWinners (aim : Aim) (t : Tables) (standing : Standing) : Type 0 where
  pub rows : List Row
  pub winners : IsListOfWinners t rows
  pub judged : IsJudged aim t rows standing

-- the verdict under the list of the winners; or the first known name that has none
abbrev pub IsStanding : Aim → Tables → Standing → Type 0
IsStanding aim t Met = IsUnderWinners aim t Met
IsStanding aim t (Not reason folder name device) = IsUnderWinners aim t (Not reason folder name device)
IsStanding aim t (Loose reason folder name device) = IsUnderWinners aim t (Loose reason folder name device)
IsStanding aim t (Unwon folder name) = IsFirstWithoutWinner t folder name

-- a reason at a place
abbrev pub failing : Reason → Folder → FileName → Option Device → Failure
failing reason folder name device = record { reason = reason; place = record { folder = folder; name = name; device = device } }

-- one of the four further reasons at a place
abbrev pub loosening : FirmReason → Folder → FileName → Device → Loosening
loosening reason folder name device = record { reason = reason; place = record { folder = folder; name = name; device = Some device } }

-- Whether the answer to a later part comes before that to an earlier one. A name without a winner comes first, and the first
-- such name first of all; then what isn't settled, and then what isn't firm, each by its reason's number and then by place; what
-- is met comes last.
abbrev pub precedes : Standing → Standing → Bool
precedes later (Unwon folder name) = false
precedes (Unwon folder name) Met = true
precedes (Unwon folder name) (Not other in_folder at_name of) = true
precedes (Unwon folder name) (Loose other in_folder at_name of) = true
precedes Met Met = false
precedes Met (Not other in_folder at_name of) = false
precedes Met (Loose other in_folder at_name of) = false
precedes (Not reason folder name device) Met = true
precedes (Not reason folder name device) (Not other in_folder at_name of) =
    is_lt (failure_cmp (failing reason folder name device) (failing other in_folder at_name of))
precedes (Not reason folder name device) (Loose other in_folder at_name of) = true
precedes (Loose reason folder name device) Met = true
precedes (Loose reason folder name device) (Not other in_folder at_name of) = false
precedes (Loose reason folder name device) (Loose other in_folder at_name of) =
    is_lt (loose_cmp (loosening reason folder name device) (loosening other in_folder at_name of))

-- the answer to both parts
abbrev pub joined : Standing → Standing → Standing
joined earlier later = if precedes later earlier then later else earlier
