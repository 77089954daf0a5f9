-- A stream whose answer says settled, or firm, has a cut that is, and so stays.
use Rattle.std.proofs.Common.{◌≡◌, ℕ, List, Option, refl, arith}
use Rattle.std.specs.Prelude.{Result, Ok, Err}
use Rattle.bep_machine.specs.FreeLaws.{FirmCutsStayPut}
use Rattle.bep_machine.specs.Laws.{SettledStaysPut, SettledStaysSettled}
use Rattle.bep_model.specs.Laws.{FirmStaysFirm}
use Rattle.bep_model.specs.Settled.{IsListOfWinners, IsSettled}
use Rattle.bep_model.specs.Tables.{Tables}
use Rattle.bep_model.specs.declared.row.Row.{Row}
use Rattle.bep_report.specs.declared.error.ReportError.{ReportError}
use Rattle.bep_report.specs.declared.error.ReportError.TheVariants.{Memory, Read, Write}
use Rattle.bep_rows.specs.AllRows.{cut_by}
use Rattle.bep_rows.specs.Standing.{IsStanding}
use Rattle.bep_rows.specs.declared.aim.Aim.{Aim}
use Rattle.bep_rows.specs.declared.aim.Aim.TheVariants as aims
use Rattle.bep_rows.specs.declared.standing.Standing.{Standing}
use Rattle.bep_rows.specs.declared.standing.Standing.TheVariants as standings
use Rattle.bep_tables.specs.Cut.{tables_of}
use Rattle.bep_rows_answer.specs.Outcome.{outcome_of, rows_status_of}
use Rattle.bep_rows_answer.specs.Stream.{TellsRow}
use Rattle.bep_rows_answer.specs.Told.{IsRowsTold, SaysFirmRows, SaysRows, SaysSettledRows, StaysFirmUnderWinners, StaysUnderWinners}
use Rattle.bep_rows_answer.specs.UnderWinners.{EndsUnderWinners}
use Rattle.bep_rows_answer.specs.declared.outcome.RowsOutcome.{RowsOutcome}
use Rattle.bep_rows_answer.specs.declared.outcome.RowsOutcome.TheVariants.{Met, NotMet, Refused}
use Rattle.bep_rows_answer.proofs.Ended.{told_says}

-- 0 says that the cut is what was asked of it
zero_is_met : (aim : Aim) (answer : Result RowsOutcome ReportError) → rows_status_of aim answer ≡ 0 → answer ≡ Ok Met
zero_is_met aims.Settled (Ok Met) zero = refl
zero_is_met aims.Settled (Ok NotMet) zero = absurd (omega (arith, zero))
zero_is_met aims.Settled (Ok Refused) zero = absurd (omega (arith, zero))
zero_is_met aims.Settled (Err Memory) zero = absurd (omega (arith, zero))
zero_is_met aims.Settled (Err Read) zero = absurd (omega (arith, zero))
zero_is_met aims.Settled (Err Write) zero = absurd (omega (arith, zero))
zero_is_met aims.Firm (Ok Met) zero = refl
zero_is_met aims.Firm (Ok NotMet) zero = absurd (omega (arith, zero))
zero_is_met aims.Firm (Ok Refused) zero = absurd (omega (arith, zero))
zero_is_met aims.Firm (Err Memory) zero = absurd (omega (arith, zero))
zero_is_met aims.Firm (Err Read) zero = absurd (omega (arith, zero))
zero_is_met aims.Firm (Err Write) zero = absurd (omega (arith, zero))

-- what is told of these under the winners, where each cut that is what was asked stays so
says_rows : (Stays : Tables → Type 0) (aim : Aim) (Tells : TellsRow) → ((t : Tables) (standing : Standing) → IsStanding aim t standing → Met ≡ outcome_of standing → Stays t) → (unread left held now : Option (List ℕ)) (status : ℕ) →
    IsRowsTold Tells (EndsUnderWinners aim) (rows_status_of aim) unread left held now status → status ≡ 0 → SaysRows Stays unread left
says_rows Stays aim Tells stays =
    told_says Stays Tells (EndsUnderWinners aim) (λ header rows text ends. stays (tables_of (cut_by header rows)) ends.standing ends.judged ends.told)
    (rows_status_of aim) (zero_is_met aim)

-- ---- settled, and firm

module _ (put : SettledStaysPut) (again : SettledStaysSettled) where
  under_winners : (t : Tables) (rows : List Row) → IsListOfWinners t rows → IsSettled t rows → StaysUnderWinners t
  under_winners t rows winners settled = record {
    winners = rows;
    are = winners;
    settled = settled;
    stays_put = put t rows settled;
    stays_settled = again t rows settled;
  }

  stays_settled : (t : Tables) (standing : Standing) → IsStanding aims.Settled t standing → Met ≡ outcome_of standing → StaysUnderWinners t
  stays_settled t standings.Met judged told = under_winners t judged.rows judged.winners judged.judged
  stays_settled t (standings.Not reason folder name device) judged told = absurd (cc)
  stays_settled t (standings.Loose reason folder name device) judged told = absurd (cc)
  stays_settled t (standings.Unwon folder name) judged told = absurd (cc)

  pub settled_rows : (Tells : TellsRow) (unread left held now : Option (List ℕ)) (status : ℕ) → IsRowsTold Tells (EndsUnderWinners aims.Settled) (rows_status_of aims.Settled) unread left held now status → status ≡ 0 → SaysSettledRows unread left
  settled_rows Tells = says_rows StaysUnderWinners aims.Settled Tells stays_settled

  module _ (firm_again : FirmStaysFirm) (firm_put : FirmCutsStayPut) where
    stays_firm : (t : Tables) (standing : Standing) → IsStanding aims.Firm t standing → Met ≡ outcome_of standing → StaysFirmUnderWinners t
    stays_firm t standings.Met judged told = record {
      winners = judged.rows;
      are = judged.winners;
      firm = judged.judged;
      stays_firm = firm_again t judged.rows judged.judged;
      stays_put = firm_put t judged.rows judged.judged;
      settled = under_winners t judged.rows judged.winners judged.judged.settled;
    }
    stays_firm t (standings.Not reason folder name device) judged told = absurd (cc)
    stays_firm t (standings.Loose reason folder name device) judged told = absurd (cc)
    stays_firm t (standings.Unwon folder name) judged told = absurd (cc)

    pub firm_rows : (Tells : TellsRow) (unread left held now : Option (List ℕ)) (status : ℕ) → IsRowsTold Tells (EndsUnderWinners aims.Firm) (rows_status_of aims.Firm) unread left held now status → status ≡ 0 → SaysFirmRows unread left
    firm_rows Tells = says_rows StaysFirmUnderWinners aims.Firm Tells stays_firm
