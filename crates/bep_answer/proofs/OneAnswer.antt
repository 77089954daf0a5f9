-- The definitions of answers leave no choice.
use Rattle.std.proofs.Common.{◌≡◌, ◌∙◌, ℕ, List, None, refl, sym, ap}
use Rattle.bep_json.specs.declared.version.DocVersion.{DocVersion}
use Rattle.bep_document.specs.Reading.{Reading, Read, Refused}
use Rattle.bep_lines.specs.Lines.{verdict_line}
use Rattle.bep_model.specs.declared.reason.Reason.TheVariants.{NotWinner}
use Rattle.bep_model.specs.declared.row.Row.{Row}
use Rattle.bep_model.specs.Laws.{FirmVerdictIsUnique, FirstWithoutIsUnique, ListOfWinnersIsUnique, VerdictIsUnique, WinnersLeaveNoneOut}
use Rattle.bep_model.specs.Tables.{Folder, FileName}
use Rattle.bep_model.specs.Verdict.{Not}
use Rattle.bep_report.specs.Report.{firm_report_text, report_text}
use Rattle.bep_tables.specs.declared.cut.CutParts.{CutParts}
use Rattle.bep_cut_document.specs.Written.{check_of, cut_of_document}
use Rattle.bep_tables.specs.Cut.{tables_of}
use Rattle.bep_answer.specs.Answer.{IsAnswer, outcome_of}
use Rattle.bep_answer.specs.Certified.{IsCertified, document_text}
use Rattle.bep_answer.specs.Firm.{IsFirmAnswer, firmness_of}
use Rattle.bep_answer.specs.declared.outcome.Certified.{Certified}
use Rattle.bep_answer.specs.declared.outcome.Certified.TheVariants.{Written, NoWinner}
use Rattle.bep_answer.specs.declared.outcome.Certified.TheVariants as certificates
use Rattle.bep_answer.specs.declared.outcome.Firmness.{Firmness}
use Rattle.bep_answer.specs.declared.outcome.Outcome.{Outcome}
use Rattle.bep_answer.specs.Laws.{AuditIsUnique, CutAnswerIsUnique, DocumentAnswerIsUnique, FirmAuditIsUnique}

-- ---- audits

pub one_audit : VerdictIsUnique → (reading : Reading (CutParts × List Row)) (one other : Outcome) (text more : List ℕ) → IsAnswer reading one text → IsAnswer reading other more → (one ≡ other) × (text ≡ more)
one_audit unique (Read check) one other text more is also =
    let same = unique (tables_of check.0) check.1 is.verdict also.verdict is.judged also.judged in
    (is.told ∙ ap outcome_of same ∙ sym also.told, is.reported ∙ ap (report_text check.0) same ∙ sym also.reported)
one_audit unique (Refused fault) one other text more is also = (is.0 ∙ sym also.0, is.1 ∙ sym also.1)

pub audit_is_unique : VerdictIsUnique → AuditIsUnique
audit_is_unique unique bytes = one_audit unique (check_of bytes)

pub one_firm_audit : FirmVerdictIsUnique → (reading : Reading (CutParts × List Row)) (one other : Firmness) (text more : List ℕ) → IsFirmAnswer reading one text → IsFirmAnswer reading other more → (one ≡ other) × (text ≡ more)
one_firm_audit unique (Read check) one other text more is also =
    let same = unique (tables_of check.0) check.1 is.verdict also.verdict is.judged also.judged in
    (is.told ∙ ap firmness_of same ∙ sym also.told, is.reported ∙ ap (firm_report_text check.0) same ∙ sym also.reported)
one_firm_audit unique (Refused fault) one other text more is also = (is.0 ∙ sym also.0, is.1 ∙ sym also.1)

pub firm_audit_is_unique : FirmVerdictIsUnique → FirmAuditIsUnique
firm_audit_is_unique unique bytes = one_firm_audit unique (check_of bytes)

-- ---- certificates

module _ (lists : ListOfWinnersIsUnique) (none_left_out : WinnersLeaveNoneOut) (first : FirstWithoutIsUnique) where
  pub cut_answer_is_unique : CutAnswerIsUnique
  cut_answer_is_unique version cut Written Written text more is also =
      (refl, is.written ∙ ap (document_text version cut) (lists (tables_of cut) is.rows also.rows is.winners also.winners) ∙ sym also.written)
  cut_answer_is_unique version cut NoWinner NoWinner text more is also =
      let same = first (tables_of cut) (is.folder, is.name) (also.folder, also.name) is.without also.without in
      (refl, is.told ∙ ap (λ (place : Folder × FileName). verdict_line (Not NotWinner place.0 place.1 None)) same ∙ sym also.told)
  cut_answer_is_unique version cut Written NoWinner text more is also =
      absurd (none_left_out (tables_of cut) is.rows also.folder also.name is.winners also.without.without)
  cut_answer_is_unique version cut NoWinner Written text more is also =
      absurd (none_left_out (tables_of cut) also.rows is.folder is.name also.winners is.without.without)
  cut_answer_is_unique version cut certificates.Refused other text more is also = absurd is
  cut_answer_is_unique version cut Written certificates.Refused text more is also = absurd also
  cut_answer_is_unique version cut NoWinner certificates.Refused text more is also = absurd also

  one_certified : (reading : Reading (DocVersion × CutParts)) (one other : Certified) (text more : List ℕ) → IsCertified reading one text → IsCertified reading other more → (one ≡ other) × (text ≡ more)
  one_certified (Read said) one other text more is also = cut_answer_is_unique said.0 said.1 one other text more is also
  one_certified (Refused fault) one other text more is also = (is.0 ∙ sym also.0, is.1 ∙ sym also.1)

  pub document_answer_is_unique : DocumentAnswerIsUnique
  document_answer_is_unique bytes = one_certified (cut_of_document bytes)
