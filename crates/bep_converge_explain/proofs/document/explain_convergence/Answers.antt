use Rattle.std.proofs.Common.{◌∙◌, map, ap, subst}
use Rattle.bep_explain.proofs.JsonFacts.{none_shown}
use Rattle.bep_converge_answer.specs.Convergence.{convergence_of}
use Rattle.bep_converge_check.specs.Hindrance.{hinder_shown}
use Rattle.bep_converge_check.specs.Hindrances.{converge_verdict_of}
use Rattle.bep_converge_explain.specs.Explained.{IsConvergeWritten}
use Rattle.bep_converge_explain.proofs.document.explain_convergence.Goals as goal

pub returns : goal.returns
returns c = record {
  found = map hinder_shown c.in_ok-found.found.items;
  all = c.in_ok-found.ensures.all;
  converging = none_shown hinder_shown _ c.in_ok-found.found.items c.in_ok-found.ensures.converging;
  judged = c.in_ok-found.ensures.verdict;
  verdict = c.convergence_for.ensures ∙ ap (λ shown. convergence_of (converge_verdict_of (map hinder_shown shown))) c.as_slice-told.ensures.value;
  written = subst (λ shown. IsConvergeWritten c.args.form (map hinder_shown shown) c.in_ok-text.text.items) c.as_slice-told.ensures.value c.in_ok-text.ensures;
}
