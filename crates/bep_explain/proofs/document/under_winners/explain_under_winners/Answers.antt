use Rattle.std.proofs.Common.{◌∙◌, map, ap, subst}
use Rattle.bep_audit.specs.Walk.{failure_shown}
use Rattle.bep_answer.specs.Answer.{outcome_of}
use Rattle.bep_explain.specs.Found.{verdict_of}
use Rattle.bep_explain.specs.document.Explained.{IsWritten}
use Rattle.bep_explain.proofs.JsonFacts.{none_shown}
use Rattle.bep_explain.proofs.document.under_winners.explain_under_winners.Goals as goal

pub returns : goal.returns
returns c = record {
  rows = _;
  without = _;
  winners = c.in_ok-certificate.ensures;
  told = map failure_shown c.in_ok-found.found.items;
  all = c.in_ok-found.ensures.all;
  settled = none_shown failure_shown _ c.in_ok-found.found.items c.in_ok-found.ensures.settled;
  verdict = c.outcome_for.ensures ∙ ap (λ shown. outcome_of (verdict_of (map failure_shown shown))) c.as_slice-2.ensures.value;
  written = subst (λ shown. IsWritten c.args.form (map failure_shown shown) c.in_ok-text.text.items) c.as_slice.ensures.value c.in_ok-text.ensures;
}
