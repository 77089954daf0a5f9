use Rattle.std.proofs.Common.{◌≡◌, ◌∙◌, Err, ap, rules}
use Rattle.bep_document.specs.inner.Few.{few_told}
use Rattle.bep_document.proofs.Taking.{few_is}
use Rattle.bep_document.proofs.take.few.FewTaken.take.Goals as goal

pub returns-in_err-items-clause-value : goal.returns-in_err-items-clause-value
returns-in_err-items-clause-value g c = λ d rest stood.
    let fails = c.in_err-items.ensures.value d rest stood in
    let is : c.from_residual.result ≡ Err c.in_err-items.field-0.0 = search rules in
    rw is fails

pub returns-clause-value : goal.returns-clause-value
returns-clause-value g c = λ d rest stood.
    let taken = c.in_ok-items.ensures.value d rest stood in
    (c.few_of.ensures ∙ ap (few_told g.row.MOST) taken.0 ∙ few_is _ _ _ d, taken.1)
