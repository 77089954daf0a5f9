-- What is answered under the winners of a cut: it leaves no choice, it is what is answered to the document that has them, and
-- what it says where it is settled or firm.
use Rattle.std.proofs.Common.{◌≡◌, ◌∙◌, ◌≤◌, ◌++◌, inl, inr, ℕ, List, Option, Some, None, length, refl, sym, ap, subst}
use Rattle.std.proofs.lemmas.List.{append_cancel_right}
use Rattle.bep_document.specs.Reading.{Reading, Read, Refused, most_bytes}
use Rattle.bep_json.specs.declared.version.DocVersion.{DocVersion}
use Rattle.bep_lines.specs.Lines.{newline}
use Rattle.bep_machine.specs.FreeLaws.{FirmCutsStayPut}
use Rattle.bep_machine.specs.Laws.{SettledStaysPut, SettledStaysSettled}
use Rattle.bep_model.specs.Firm.{IsFirm}
use Rattle.bep_model.specs.FirmVerdict as firm_verdicts
use Rattle.bep_model.specs.Laws.{FirmStaysFirm, FirmVerdictIsUnique, FirstWithoutIsUnique, ListOfWinnersIsUnique, VerdictIsUnique, WinnersLeaveNoneOut}
use Rattle.bep_model.specs.Settled.{IsListOfWinners, IsSettled}
use Rattle.bep_model.specs.Tables.{Folder, FileName}
use Rattle.bep_model.specs.Verdict as verdicts
use Rattle.bep_model.specs.declared.reason.Reason.TheVariants.{NotWinner}
use Rattle.bep_model.specs.declared.row.Row.{Row}
use Rattle.bep_report.specs.Report.{firm_report_text, report_text}
use Rattle.bep_tables.specs.Cut.{tables_of}
use Rattle.bep_origin.specs.FromCut.{HasCluster}
use Rattle.bep_tables.specs.declared.cut.CutParts.{CutParts}
use Rattle.bep_cut_document.specs.Room.{CutsOfDocumentsHaveRoom, HasRoom}
use Rattle.bep_cut_document.specs.Trees.{check_document_text}
use Rattle.bep_cut_document.specs.Written.{check_of, cut_of_document}
use Rattle.bep_answer.specs.Answer.{IsAnswer, IsAnswerOfBytes, IsReport}
use Rattle.bep_answer.specs.Certified.{IsCertified, IsDocumentOf}
use Rattle.bep_answer.specs.Exchange.{IsWhole}
use Rattle.bep_answer.specs.Firm.{IsFirmAnswer, IsFirmAnswerOfBytes, IsFirmReport}
use Rattle.bep_answer.specs.Laws.{AnswerUnderWinnersIsUnique, CheckAnswersAsUnderWinners, FirmAnswerUnderWinnersIsUnique, FirmAnswersAsUnderWinners, ReportUnderIsUnique}
use Rattle.bep_answer.specs.UnderWinners.{IsAnswerUnderWinners, IsAnswerUnderWinnersOfBytes, IsFirmAnswerUnderWinners, IsFirmAnswerUnderWinnersOfBytes, IsFirmReportUnder, IsReportUnder, SaysFirmUnderWinners, SaysSettledUnderWinners, TellsFirmUnderWinners, TellsSettledUnderWinners}
use Rattle.bep_answer.specs.declared.outcome.Certified.TheVariants.{Written}
use Rattle.bep_answer.specs.declared.outcome.Firmness.{Firmness}
use Rattle.bep_answer.specs.declared.outcome.Firmness.TheVariants as firmness
use Rattle.bep_answer.specs.declared.outcome.Outcome.{Outcome}
use Rattle.bep_answer.specs.declared.outcome.Outcome.TheVariants as outcomes
use Rattle.bep_answer.proofs.FirmSaid.{firm_judged, firm_tells}
use Rattle.bep_answer.proofs.OneAnswer.{one_audit, one_firm_audit}
use Rattle.bep_answer.proofs.SettledSaid.{settled_tells, settled_verdict}

-- ---- it leaves no choice

module _ (lists : ListOfWinnersIsUnique) (none_left_out : WinnersLeaveNoneOut) (first : FirstWithoutIsUnique) where
  module _ (unique : VerdictIsUnique) where
    pub report_under_is_unique : ReportUnderIsUnique
    report_under_is_unique cut (Some rows) (Some others) one other text more is also =
        let same = lists (tables_of cut) rows others is.winners also.winners in
        let told = one_audit unique (Read (cut, rows)) one other text more is.report (subst (λ (all : List Row). IsReport cut all other more) (sym same) also.report) in
        (ap Some same, told.0, told.1)
    report_under_is_unique cut None None one other text more is also =
        let same = first (tables_of cut) (is.folder, is.name) (also.folder, also.name) is.unwon.without also.unwon.without in (
          refl,
          is.told ∙ sym also.told,
          is.reported ∙ ap (λ (at : Folder × FileName). report_text cut (verdicts.Not NotWinner at.0 at.1 None)) same ∙ sym also.reported,
        )
    report_under_is_unique cut (Some rows) None one other text more is also =
        absurd (none_left_out (tables_of cut) rows also.folder also.name is.winners also.unwon.without.without)
    report_under_is_unique cut None (Some others) one other text more is also =
        absurd (none_left_out (tables_of cut) others is.folder is.name also.winners is.unwon.without.without)

    one_answer : (reading : Reading (DocVersion × CutParts)) (one other : Outcome) (text more : List ℕ) → IsAnswerUnderWinners reading one text → IsAnswerUnderWinners reading other more → (one ≡ other) × (text ≡ more)
    one_answer (Read said) one other text more is also =
        let same = report_under_is_unique said.1 is.0 also.0 one other text more is.1 also.1 in (same.1, same.2)
    one_answer (Refused fault) one other text more is also = (is.0 ∙ sym also.0, is.1 ∙ sym also.1)

    pub answer_under_winners_is_unique : AnswerUnderWinnersIsUnique
    answer_under_winners_is_unique bytes = one_answer (cut_of_document bytes)

  module _ (unique : FirmVerdictIsUnique) where
    one_firm_report : (cut : CutParts) (one other : Firmness) (text more : List ℕ) → IsFirmReportUnder cut one text → IsFirmReportUnder cut other more → (one ≡ other) × (text ≡ more)
    one_firm_report cut one other text more (inl is) (inl also) =
        let same = lists (tables_of cut) is.rows also.rows is.winners also.winners in
        one_firm_audit unique (Read (cut, is.rows)) one other text more is.report (subst (λ (all : List Row). IsFirmReport cut all other more) (sym same) also.report)
    one_firm_report cut one other text more (inr is) (inr also) =
        let same = first (tables_of cut) (is.folder, is.name) (also.folder, also.name) is.unwon.without also.unwon.without in (
          is.told ∙ sym also.told,
          is.reported ∙ ap (λ (at : Folder × FileName). firm_report_text cut (firm_verdicts.Unsettled NotWinner at.0 at.1 None)) same ∙ sym also.reported,
        )
    one_firm_report cut one other text more (inl is) (inr also) =
        absurd (none_left_out (tables_of cut) is.rows also.folder also.name is.winners also.unwon.without.without)
    one_firm_report cut one other text more (inr is) (inl also) =
        absurd (none_left_out (tables_of cut) also.rows is.folder is.name also.winners is.unwon.without.without)

    one_firm_answer : (reading : Reading (DocVersion × CutParts)) (one other : Firmness) (text more : List ℕ) → IsFirmAnswerUnderWinners reading one text → IsFirmAnswerUnderWinners reading other more → (one ≡ other) × (text ≡ more)
    one_firm_answer (Read said) one other text more is also = one_firm_report said.1 one other text more is also
    one_firm_answer (Refused fault) one other text more is also = (is.0 ∙ sym also.0, is.1 ∙ sym also.1)

    pub firm_answer_under_winners_is_unique : FirmAnswerUnderWinnersIsUnique
    firm_answer_under_winners_is_unique bytes = one_firm_answer (cut_of_document bytes)

-- ---- it is what is answered to the document that has them

-- the document of the cut says the very cut and its winners
reads_so : (version : DocVersion) (cut : CutParts) (json : List ℕ) → HasRoom version cut → (is : IsDocumentOf version cut (json ++ newline)) → length json ≤ most_bytes → check_of json ≡ Read (cut, is.rows)
reads_so version cut json room is short =
    let same : json ≡ check_document_text version cut is.rows = append_cancel_right json (check_document_text version cut is.rows) newline is.written in
    ap check_of same ∙ is.read_back room (subst (λ (text : List ℕ). length text ≤ most_bytes) same short)

-- what is read has room in the version of its document
abbrev HasRoomIn : Reading (DocVersion × CutParts) → Type 0
HasRoomIn reading = (said : DocVersion × CutParts) → reading ≡ Read said → HasRoom said.0 said.1

answers_so : (reading : Reading (DocVersion × CutParts)) → HasRoomIn reading → (json : List ℕ) (outcome : Outcome) (text : List ℕ) → IsCertified reading Written (json ++ newline) → length json ≤ most_bytes → IsAnswerOfBytes json outcome text → IsAnswerUnderWinners reading outcome text
answers_so (Read said) room json outcome text certified short answer = (
  Some certified.rows,
  record {
    winners = certified.winners;
    report = subst (λ (reading : Reading (CutParts × List Row)). IsAnswer reading outcome text) (reads_so said.0 said.1 json (room said refl) certified short) answer;
  },
)
answers_so (Refused fault) room json outcome text certified short answer = let e = certified.0 in absurd (cc)

pub check_answers_so : CutsOfDocumentsHaveRoom → CheckAnswersAsUnderWinners
check_answers_so room bytes json outcome text = answers_so (cut_of_document bytes) (room bytes) json outcome text

answers_firm_so : (reading : Reading (DocVersion × CutParts)) → HasRoomIn reading → (json : List ℕ) (outcome : Firmness) (text : List ℕ) → IsCertified reading Written (json ++ newline) → length json ≤ most_bytes → IsFirmAnswerOfBytes json outcome text → IsFirmAnswerUnderWinners reading outcome text
answers_firm_so (Read said) room json outcome text certified short answer =
    inl
    (record {
      rows = certified.rows;
      winners = certified.winners;
      report = subst (λ (reading : Reading (CutParts × List Row)). IsFirmAnswer reading outcome text) (reads_so said.0 said.1 json (room said refl) certified short) answer;
    })
answers_firm_so (Refused fault) room json outcome text certified short answer = let e = certified.0 in absurd (cc)

pub firm_answers_so : CutsOfDocumentsHaveRoom → FirmAnswersAsUnderWinners
firm_answers_so room bytes json outcome text = answers_firm_so (cut_of_document bytes) (room bytes) json outcome text

-- ---- what it says

-- a report that says settled is of a cut that is settled under its winners
pub settled_under : (cut : CutParts) (rows : Option (List Row)) (outcome : Outcome) (text : List ℕ) → IsReportUnder cut rows outcome text → outcome ≡ outcomes.Settled
    → (won : List Row) × IsListOfWinners (tables_of cut) won × IsSettled (tables_of cut) won × HasCluster cut
settled_under cut (Some rows) outcome text report is =
    (rows, report.winners, settled_verdict cut rows report.report.verdict report.report.judged (sym is ∙ report.report.told), report.report.from)
settled_under cut None outcome text report is = let other = sym is ∙ report.told in absurd (cc)

settled_reading : SettledStaysPut → SettledStaysSettled → (reading : Reading (DocVersion × CutParts)) (outcome : Outcome) (text : List ℕ) → IsAnswerUnderWinners reading outcome text → outcome ≡ outcomes.Settled → TellsSettledUnderWinners reading
settled_reading put again (Read said) outcome text answer is =
    let found = settled_under said.1 answer.0 outcome text answer.1 is in
    record { version = said.0; cut = said.1; rows = found.0; says = refl; winners = found.1; settled = settled_tells put again said.1 found.0 found.3 found.2 }
settled_reading put again (Refused fault) outcome text answer is = let e = sym answer.0 ∙ is in absurd (cc)

pub settled_answer_under : SettledStaysPut → SettledStaysSettled → (unread left held now : Option (List ℕ)) (outcome : Outcome) → IsWhole IsAnswerUnderWinnersOfBytes unread left held now outcome → outcome ≡ outcomes.Settled
    → SaysSettledUnderWinners unread left
settled_answer_under put again unread left held now outcome whole is = record {
  bytes = whole.bytes;
  read = whole.read;
  reading = settled_reading put again (cut_of_document whole.bytes) outcome whole.text whole.says is;
}

-- and one that says firm is of a cut that is firm under them
firm_under : (cut : CutParts) (outcome : Firmness) (text : List ℕ) → IsFirmReportUnder cut outcome text → outcome ≡ firmness.Firm
    → (won : List Row) × IsListOfWinners (tables_of cut) won × IsFirm (tables_of cut) won × HasCluster cut
firm_under cut outcome text (inl report) is =
    (report.rows, report.winners, firm_judged cut report.rows report.report.verdict report.report.judged (sym is ∙ report.report.told), report.report.from)
firm_under cut outcome text (inr report) is = let other = sym is ∙ report.told in absurd (cc)

module _ (firmly : FirmStaysFirm) (own : FirmCutsStayPut) (put : SettledStaysPut) (again : SettledStaysSettled) where
  firm_reading : (reading : Reading (DocVersion × CutParts)) (outcome : Firmness) (text : List ℕ) → IsFirmAnswerUnderWinners reading outcome text → outcome ≡ firmness.Firm → TellsFirmUnderWinners reading
  firm_reading (Read said) outcome text answer is =
      let found = firm_under said.1 outcome text answer is in
      record { version = said.0; cut = said.1; rows = found.0; says = refl; winners = found.1; firm = firm_tells firmly own put again said.1 found.0 found.3 found.2 }
  firm_reading (Refused fault) outcome text answer is = let e = sym answer.0 ∙ is in absurd (cc)

  pub firm_answer_under : (unread left held now : Option (List ℕ)) (outcome : Firmness) → IsWhole IsFirmAnswerUnderWinnersOfBytes unread left held now outcome → outcome ≡ firmness.Firm → SaysFirmUnderWinners unread left
  firm_answer_under unread left held now outcome whole is = record {
    bytes = whole.bytes;
    read = whole.read;
    reading = firm_reading (cut_of_document whole.bytes) outcome whole.text whole.says is;
  }
