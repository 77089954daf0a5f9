-- An answer that says firm is of a cut and rows that are firm, and so stay.
use Rattle.std.proofs.Common.{◌≡◌, ℕ, List, Option, refl}
use Rattle.bep_document.specs.Reading.{Reading, Read, Refused}
use Rattle.bep_model.specs.declared.row.Row.{Row}
use Rattle.bep_model.specs.Firm.{IsFirm}
use Rattle.bep_model.specs.FirmVerdict as verdicts
use Rattle.bep_model.specs.Laws.{FirmStaysFirm}
use Rattle.bep_machine.specs.FreeLaws.{FirmCutsStayPut}
use Rattle.bep_machine.specs.Laws.{SettledStaysPut, SettledStaysSettled}
use Rattle.bep_origin.specs.FromCut.{HasCluster}
use Rattle.bep_tables.specs.declared.cut.CutParts.{CutParts}
use Rattle.bep_tables.specs.Cut.{tables_of}
use Rattle.bep_cut_document.specs.Written.{check_of}
use Rattle.bep_answer.specs.declared.outcome.Firmness.{Firmness}
use Rattle.bep_answer.specs.declared.outcome.Firmness.TheVariants as outcomes
use Rattle.bep_answer.specs.Exchange.{IsWhole}
use Rattle.bep_answer.specs.Firm.{IsFirmAnswer, IsFirmAnswerOfBytes, SaysFirm, TellsFirm, firmness_of}
use Rattle.bep_answer.proofs.SettledSaid.{settled_tells}

pub firm_judged : (cut : CutParts) (rows : List Row) (verdict : verdicts.FirmVerdict) → verdicts.IsFirmVerdict (tables_of cut) rows verdict → outcomes.Firm ≡ firmness_of verdict → IsFirm (tables_of cut) rows
firm_judged cut rows verdicts.Firm judged told = judged
firm_judged cut rows (verdicts.Unsettled reason folder name device) judged told = absurd (cc)
firm_judged cut rows (verdicts.Loose reason folder name device) judged told = absurd (cc)

module _ (firmly : FirmStaysFirm) (own : FirmCutsStayPut) (put : SettledStaysPut) (again : SettledStaysSettled) where
  -- firm tables stay, so a reading that has them tells so
  pub firm_tells : (cut : CutParts) (rows : List Row) → HasCluster cut → IsFirm (tables_of cut) rows → TellsFirm (Read (cut, rows))
  firm_tells cut rows from firm = record {
    cut = cut;
    rows = rows;
    says = refl;
    firm = firm;
    stays_firm = firmly (tables_of cut) rows firm;
    stays_put = own (tables_of cut) rows firm;
    settled = settled_tells put again cut rows from firm.settled;
  }

  firm_reading : (reading : Reading (CutParts × List Row)) (outcome : Firmness) (text : List ℕ) → IsFirmAnswer reading outcome text → outcome ≡ outcomes.Firm → TellsFirm reading
  firm_reading (Read check) outcome text answer is =
      firm_tells check.0 check.1 answer.from (firm_judged check.0 check.1 answer.verdict answer.judged (cc))
  firm_reading (Refused fault) outcome text answer is = let e = answer.0 in absurd (cc)

  pub firm_answer : (unread left held now : Option (List ℕ)) (outcome : Firmness) → IsWhole IsFirmAnswerOfBytes unread left held now outcome → outcome ≡ outcomes.Firm → SaysFirm unread left
  firm_answer unread left held now outcome whole is = record {
    bytes = whole.bytes;
    read = whole.read;
    reading = firm_reading (check_of whole.bytes) outcome whole.text whole.says is;
  }
