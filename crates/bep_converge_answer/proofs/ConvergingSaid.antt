-- An answer that says converging is of a cut that prevails, and so goes on; and so is an exit status of 0.
use Rattle.std.proofs.Common.{◌≡◌, ℕ, List, Option, refl, arith}
use Rattle.std.specs.Prelude.{Result, Ok, Err, IfOk}
use Rattle.bep_document.specs.Reading.{Reading, Read, Refused}
use Rattle.bep_json.specs.declared.version.DocVersion.{DocVersion}
use Rattle.bep_tables.specs.declared.cut.CutParts.{CutParts}
use Rattle.bep_tables.specs.Cut.{tables_of}
use Rattle.bep_cut_document.specs.Written.{cut_of_document}
use Rattle.bep_report.specs.declared.error.ReportError.{ReportError}
use Rattle.bep_report.specs.declared.error.ReportError.TheVariants as faults
use Rattle.bep_answer.specs.Exchange.{IsWhole}
use Rattle.bep_answer.specs.Status.{without_hint}
use Rattle.bep_converge.specs.Prevails.{AllPrevail}
use Rattle.bep_converge.specs.ConvergeVerdict as verdicts
use Rattle.bep_converge.specs.Laws.{PrevailingGoesOn}
use Rattle.bep_converge_answer.specs.declared.outcome.Convergence.{Convergence}
use Rattle.bep_converge_answer.specs.declared.outcome.Convergence.TheVariants as outcomes
use Rattle.bep_converge_answer.specs.Convergence.{IsConvergeAnswer, IsConvergeAnswerOfBytes, SaysConverging, TellsConverging, convergence_of}
use Rattle.bep_converge_answer.specs.Status.{converge_status_of}

converging_judged : (cut : CutParts) (verdict : verdicts.ConvergeVerdict) → verdicts.IsConvergeVerdict (tables_of cut) verdict → outcomes.Converging ≡ convergence_of verdict → AllPrevail (tables_of cut)
converging_judged cut verdicts.Converging judged told = judged
converging_judged cut (verdicts.NotConverging reason folder name device) judged told = absurd (cc)

module _ (goes_on : PrevailingGoesOn) where
  converging_reading : (reading : Reading (DocVersion × CutParts)) (outcome : Convergence) (text : List ℕ) → IsConvergeAnswer reading outcome text → outcome ≡ outcomes.Converging → TellsConverging reading
  converging_reading (Read said) outcome text answer is =
      let all = converging_judged said.1 answer.verdict answer.judged (cc) in
      record { version = said.0; cut = said.1; says = refl; from = answer.from; all = all; goes_on = goes_on (tables_of said.1) all }
  converging_reading (Refused fault) outcome text answer is = let e = answer.0 in absurd (cc)

  pub converging_answer : (unread left held now : Option (List ℕ)) (outcome : Convergence) → IsWhole IsConvergeAnswerOfBytes unread left held now outcome → outcome ≡ outcomes.Converging → SaysConverging unread left
  converging_answer unread left held now outcome whole is = record {
    bytes = whole.bytes;
    read = whole.read;
    reading = converging_reading (cut_of_document whole.bytes) outcome whole.text whole.says is;
  }

converging_at : {P : Type 0} (outcome : Convergence) → (outcome ≡ outcomes.Converging → P) → converge_status_of (Ok outcome) ≡ 0 → P
converging_at outcomes.Converging says zero = says refl
converging_at outcomes.NotConverging says zero = absurd (omega (arith, zero))
converging_at outcomes.Refused says zero = absurd (omega (arith, zero))

pub converging_by_status : {H P : Type 0} (answer : Result (Convergence × H) ReportError) → IfOk answer (λ told. told.0 ≡ outcomes.Converging → P) → converge_status_of (without_hint answer) ≡ 0 → P
converging_by_status (Ok told) says zero = converging_at told.0 says zero
converging_by_status (Err faults.Memory) says zero = absurd (omega (arith, zero))
converging_by_status (Err faults.Read) says zero = absurd (omega (arith, zero))
converging_by_status (Err faults.Write) says zero = absurd (omega (arith, zero))
