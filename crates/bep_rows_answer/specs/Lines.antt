-- The lines that are written to a stream of rows (this project's profile).
use Rattle.std.specs.Prelude.{ℕ, ◌++◌, List, [], ◌∷◌, Option, None, Some, codes}
use Rattle.std.specs.List.{concat}
use Rattle.std.specs.Fmt.{decimal}
use Rattle.bep_answer.specs.Answer.{fault_text}
use Rattle.bep_document.specs.declared.fault.DocFault.{DocFault}
use Rattle.bep_lines.specs.Lines.{failure_line, firm_verdict_line, firm_word_of, reason_line, verdict_line}
use Rattle.bep_model.specs.FirmVerdict as firm_verdicts
use Rattle.bep_model.specs.Tables.{Device, Folder, FileName}
use Rattle.bep_model.specs.Verdict as verdicts
use Rattle.bep_model.specs.declared.reason.Reason.{Reason}
use Rattle.bep_model.specs.declared.reason.Reason.TheVariants.{NotWinner}
use Rattle.bep_rows.specs.declared.aim.Aim.{Aim}
use Rattle.bep_rows.specs.declared.aim.Aim.TheVariants as aims
use Rattle.bep_rows.specs.declared.standing.Standing.{Standing}
use Rattle.bep_rows.specs.declared.standing.Standing.TheVariants.{Met, Not, Loose, Unwon}

-- the line of a name that isn't what is asked; none for another: a name without a winner fails as a row that isn't its name's
-- winner
abbrev pub standing_line : Standing → List ℕ
standing_line Met = []
standing_line (Not reason folder name device) = failure_line reason folder name device
standing_line (Loose reason folder name device) = reason_line (firm_word_of reason) folder name (Some device)
standing_line (Unwon folder name) = failure_line NotWinner folder name None

-- the line of a cut that is what is asked
abbrev pub met_line : Aim → List ℕ
met_line aims.Settled = verdict_line verdicts.Settled
met_line aims.Firm = firm_verdict_line firm_verdicts.Firm

-- the line of a cut that isn't settled
abbrev pub not_met_line : Aim → Reason → Folder → FileName → Option Device → List ℕ
not_met_line aims.Settled reason folder name device = verdict_line (verdicts.Not reason folder name device)
not_met_line aims.Firm reason folder name device = firm_verdict_line (firm_verdicts.Unsettled reason folder name device)

-- the line of the verdict on all names
abbrev pub verdict_line_of : Aim → Standing → List ℕ
verdict_line_of aim Met = met_line aim
verdict_line_of aim (Not reason folder name device) = not_met_line aim reason folder name device
verdict_line_of aim (Loose reason folder name device) = firm_verdict_line (firm_verdicts.Loose reason folder name device)
verdict_line_of aim (Unwon folder name) = not_met_line aim NotWinner folder name None

-- the line of a line that is refused, counted from 1
abbrev pub refusal_line : ℕ → DocFault → List ℕ
refusal_line line fault = concat (codes "line " ∷ decimal line ∷ codes ": " ∷ []) ++ fault_text fault
