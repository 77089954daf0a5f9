-- A stream whose answer says converging has a cut that does, and so goes on.
use Rattle.std.proofs.Common.{◌≡◌, ℕ, List, Option, refl, arith}
use Rattle.std.specs.Prelude.{Result, Ok, Err}
use Rattle.bep_converge.specs.ConvergeVerdict as verdicts
use Rattle.bep_converge.specs.Laws.{PrevailingGoesOn}
use Rattle.bep_converge.specs.Prevails.{AllPrevail}
use Rattle.bep_model.specs.Tables.{Tables}
use Rattle.bep_report.specs.declared.error.ReportError.{ReportError}
use Rattle.bep_report.specs.declared.error.ReportError.TheVariants.{Memory, Read, Write}
use Rattle.bep_row.specs.declared.row.NameRow.{NameRow}
use Rattle.bep_rows.specs.AllRows.{cut_by}
use Rattle.bep_rows_answer.specs.Stream.{TellsRow}
use Rattle.bep_rows_answer.specs.Told.{IsRowsTold}
use Rattle.bep_rows_answer.specs.declared.outcome.RowsOutcome.{RowsOutcome}
use Rattle.bep_rows_answer.specs.declared.outcome.RowsOutcome.TheVariants.{Met, NotMet, Refused}
use Rattle.bep_rows_answer.proofs.Ended.{told_says}
use Rattle.bep_tables.specs.Cut.{tables_of}
use Rattle.bep_tables.specs.declared.cut.CutParts.{CutParts}
use Rattle.bep_rows_converge.specs.Converging.{EndsConverging, converge_rows_status, outcome_of}
use Rattle.bep_rows_converge.specs.Stays.{SaysConvergingRows, StaysConverging}

-- 0 says that the cut converges
zero_is_met : (answer : Result RowsOutcome ReportError) → converge_rows_status answer ≡ 0 → answer ≡ Ok Met
zero_is_met (Ok Met) zero = refl
zero_is_met (Ok NotMet) zero = absurd (omega (arith, zero))
zero_is_met (Ok Refused) zero = absurd (omega (arith, zero))
zero_is_met (Err Memory) zero = absurd (omega (arith, zero))
zero_is_met (Err Read) zero = absurd (omega (arith, zero))
zero_is_met (Err Write) zero = absurd (omega (arith, zero))

all_prevail : (t : Tables) (verdict : verdicts.ConvergeVerdict) → verdicts.IsConvergeVerdict t verdict → Met ≡ outcome_of verdict → AllPrevail t
all_prevail t verdicts.Converging judged told = judged
all_prevail t (verdicts.NotConverging reason folder name device) judged told = absurd (cc)

pub converging_rows : PrevailingGoesOn → (Tells : TellsRow) (unread left held now : Option (List ℕ)) (status : ℕ) → IsRowsTold Tells EndsConverging converge_rows_status unread left held now status → status ≡ 0 → SaysConvergingRows unread left
converging_rows goes_on Tells = told_says StaysConverging Tells EndsConverging stays converge_rows_status zero_is_met
  where
    stays : (header : CutParts) (rows : List NameRow) (text : List ℕ) → EndsConverging header rows Met text → StaysConverging (tables_of (cut_by header rows))
    stays header rows text ends =
        let all = all_prevail (tables_of (cut_by header rows)) ends.verdict ends.judged ends.told in
        record { all = all; goes_on = goes_on (tables_of (cut_by header rows)) all }
