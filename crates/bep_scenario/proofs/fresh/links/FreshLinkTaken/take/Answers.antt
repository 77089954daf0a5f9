use Rattle.std.proofs.Common.{◌≡◌, ◌∙◌, Err, ap, rules}
use Rattle.bep_scenario.specs.inner.Fresh.{link_told}
use Rattle.bep_scenario.proofs.told.Fresh.{link_is}
use Rattle.bep_scenario.proofs.fresh.links.FreshLinkTaken.take.Goals as goal

pub returns-in_err-ends-clause-value : goal.returns-in_err-ends-clause-value
returns-in_err-ends-clause-value c = λ d rest stood.
    let fails = c.in_err-ends.ensures.value d rest stood in
    let is : c.from_residual.result ≡ Err c.in_err-ends.field-0.0 = search rules in
    rw is fails

pub returns-clause-value : goal.returns-clause-value
returns-clause-value c = λ d rest stood.
    let taken = c.in_ok-ends.ensures.value d rest stood in
    (c.link_told.ensures ∙ ap link_told taken.0 ∙ link_is d, taken.1)
