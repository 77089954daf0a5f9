-- A run that ends settled leads to a cut that is settled under its winners, and so stays.
use Rattle.std.proofs.Common.{◌≡◌, ℕ, List, Option, refl, sym, ◌∙◌}
use Rattle.bep_cut.specs.Cut.{cut_at}
use Rattle.bep_document.specs.Reading.{Reading, Read, Refused}
use Rattle.bep_machine.specs.Laws.{SettledStaysPut, SettledStaysSettled}
use Rattle.bep_scenario.specs.Scenario.{Said, scenario_of}
use Rattle.bep_tables.specs.Cut.{tables_of}
use Rattle.bep_answer.specs.declared.outcome.Outcome.{Outcome}
use Rattle.bep_answer.specs.declared.outcome.Outcome.TheVariants as outcomes
use Rattle.bep_answer.specs.Exchange.{IsWhole}
use Rattle.bep_answer.proofs.UnderWinners.{settled_under}
use Rattle.bep_play.specs.Played.{EndsSettled, IsRunOf, IsRunOfBytes, LeadsToSettled}

settled_run : SettledStaysPut → SettledStaysSettled → (reading : Reading Said) (outcome : Outcome) (text : List ℕ) → IsRunOf reading outcome text → outcome ≡ outcomes.Settled → LeadsToSettled reading
settled_run put again (Read scenario) outcome text run is =
    let found = settled_under (cut_at run.last.members run.last.links) run.end.rows outcome run.end.report run.end.audit is in
    record {
      scenario = scenario;
      says = refl;
      last = run.last;
      told = run.told;
      leads = run.leads;
      rows = found.0;
      settled = found.2;
      stays_put = put (tables_of (cut_at run.last.members run.last.links)) found.0 found.2;
      stays_settled = again (tables_of (cut_at run.last.members run.last.links)) found.0 found.2;
    }
settled_run put again (Refused fault) outcome text run is = let e = sym run.0 ∙ is in absurd (cc)

pub settled_end : SettledStaysPut → SettledStaysSettled → (unread left held now : Option (List ℕ)) (outcome : Outcome) → IsWhole IsRunOfBytes unread left held now outcome → outcome ≡ outcomes.Settled → EndsSettled unread left
settled_end put again unread left held now outcome whole is = record {
  bytes = whole.bytes;
  read = whole.read;
  end = settled_run put again (scenario_of whole.bytes) outcome whole.text whole.says is;
}
