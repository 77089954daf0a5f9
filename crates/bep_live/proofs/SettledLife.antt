-- Where threads end settled, the cut that is reported is settled under its winners, and so stays.
use Rattle.std.proofs.Common.{◌≡◌, ℕ, List, Option, refl, sym, ◌∙◌}
use Rattle.bep_answer.proofs.UnderWinners.{settled_under}
use Rattle.bep_answer.specs.Exchange.{IsWhole}
use Rattle.bep_answer.specs.declared.outcome.Outcome.{Outcome}
use Rattle.bep_answer.specs.declared.outcome.Outcome.TheVariants as outcomes
use Rattle.bep_document.specs.Reading.{Reading, Read, Refused}
use Rattle.bep_fit.specs.declared.verdict.RunVerdict.{RunVerdict}
use Rattle.bep_fit.specs.declared.verdict.RunVerdict.TheVariants.{Fits, Misfit}
use Rattle.bep_machine.specs.Laws.{SettledStaysPut, SettledStaysSettled}
use Rattle.bep_scenario.specs.Scenario.{Said, scenario_of}
use Rattle.bep_tables.specs.Cut.{tables_of}
use Rattle.bep_live.specs.Lived.{EndsLived, IsLiveOf, IsLiveOfBytes, LivesSettled, cut_in, outcome_under}

-- settled is answered only where the logs fit and settled was found
fits_and_found : (verdict : RunVerdict) (found outcome : Outcome) → outcome ≡ outcome_under verdict found → outcome ≡ outcomes.Settled → (count : ℕ) × (verdict ≡ Fits count) × (found ≡ outcomes.Settled)
fits_and_found (Fits count) found outcome ended is = (count, refl, sym ended ∙ is)
fits_and_found (Misfit object ticket) found outcome ended is = let e : outcomes.NotSettled ≡ outcomes.Settled = sym ended ∙ is in absurd (cc)

settled_run : SettledStaysPut → SettledStaysSettled → (reading : Reading Said) (outcome : Outcome) (text : List ℕ) → IsLiveOf reading outcome text → outcome ≡ outcomes.Settled → LivesSettled reading
settled_run put again (Read scenario) outcome text lived is =
    let fits = fits_and_found lived.verdict lived.found outcome lived.ended is in
    let found = settled_under (cut_in lived.run) lived.end.rows lived.found lived.end.report lived.end.audit fits.2 in
    record {
      scenario = scenario;
      says = refl;
      told = lived.told;
      run = lived.run;
      leads = lived.leads;
      verdict = lived.verdict;
      judged = lived.judged;
      count = fits.0;
      fits = fits.1;
      rows = found.0;
      settled = found.2;
      stays_put = put (tables_of (cut_in lived.run)) found.0 found.2;
      stays_settled = again (tables_of (cut_in lived.run)) found.0 found.2;
    }
settled_run put again (Refused fault) outcome text lived is = let e = sym lived.0 ∙ is in absurd (cc)

pub settled_life : SettledStaysPut → SettledStaysSettled → (unread left held now : Option (List ℕ)) (outcome : Outcome) → IsWhole IsLiveOfBytes unread left held now outcome → outcome ≡ outcomes.Settled → EndsLived unread left
settled_life put again unread left held now outcome whole is = record {
  bytes = whole.bytes;
  read = whole.read;
  end = settled_run put again (scenario_of whole.bytes) outcome whole.text whole.says is;
}
