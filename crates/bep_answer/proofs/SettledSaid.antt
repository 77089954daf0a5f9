-- An answer that says settled is of a cut and rows that are settled, and so stay.
use Rattle.std.proofs.Common.{◌≡◌, ℕ, List, Option, refl}
use Rattle.bep_document.specs.Reading.{Reading, Read, Refused}
use Rattle.bep_model.specs.declared.row.Row.{Row}
use Rattle.bep_model.specs.Settled.{IsSettled}
use Rattle.bep_model.specs.Verdict as verdicts
use Rattle.bep_machine.specs.Laws.{SettledStaysPut, SettledStaysSettled}
use Rattle.bep_origin.specs.FromCut.{HasCluster}
use Rattle.bep_tables.specs.declared.cut.CutParts.{CutParts}
use Rattle.bep_tables.specs.Cut.{tables_of}
use Rattle.bep_answer.specs.declared.outcome.Outcome.{Outcome}
use Rattle.bep_answer.specs.declared.outcome.Outcome.TheVariants as outcomes
use Rattle.bep_cut_document.specs.Written.{check_of}
use Rattle.bep_answer.specs.Answer.{IsAnswer, IsAnswerOfBytes, SaysSettled, TellsSettled, outcome_of}
use Rattle.bep_answer.specs.Exchange.{IsWhole}

pub settled_verdict : (cut : CutParts) (rows : List Row) (verdict : verdicts.Verdict) → verdicts.IsVerdict (tables_of cut) rows verdict → outcomes.Settled ≡ outcome_of verdict → IsSettled (tables_of cut) rows
settled_verdict cut rows verdicts.Settled judged told = judged
settled_verdict cut rows (verdicts.Not reason folder name device) judged told = absurd (cc)

-- settled tables stay, so a reading that has them tells so
pub settled_tells : SettledStaysPut → SettledStaysSettled → (cut : CutParts) (rows : List Row) → HasCluster cut → IsSettled (tables_of cut) rows → TellsSettled (Read (cut, rows))
settled_tells put again cut rows from settled = record {
  cut = cut;
  rows = rows;
  says = refl;
  from = from;
  settled = settled;
  stays_put = put (tables_of cut) rows settled;
  stays_settled = again (tables_of cut) rows settled;
}

settled_reading : SettledStaysPut → SettledStaysSettled → (reading : Reading (CutParts × List Row)) (outcome : Outcome) (text : List ℕ) → IsAnswer reading outcome text → outcome ≡ outcomes.Settled → TellsSettled reading
settled_reading put again (Read check) outcome text answer is =
    settled_tells put again check.0 check.1 answer.from (settled_verdict check.0 check.1 answer.verdict answer.judged (cc))
settled_reading put again (Refused fault) outcome text answer is = let e = answer.0 in absurd (cc)

pub settled_answer : SettledStaysPut → SettledStaysSettled → (unread left held now : Option (List ℕ)) (outcome : Outcome) → IsWhole IsAnswerOfBytes unread left held now outcome → outcome ≡ outcomes.Settled → SaysSettled unread left
settled_answer put again unread left held now outcome whole is = record {
  bytes = whole.bytes;
  read = whole.read;
  reading = settled_reading put again (check_of whole.bytes) outcome whole.text whole.says is;
}
