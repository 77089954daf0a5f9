use Rattle.std.proofs.Common.{◌≡◌, ◌∙◌, Err, rules}
use Rattle.bep_scenario.proofs.told.Fresh.{folder_is}
use Rattle.bep_scenario.proofs.fresh.folders.FreshFolderPartsTaken.take.Goals as goal

pub returns-in_err-slots-clause-value : goal.returns-in_err-slots-clause-value
returns-in_err-slots-clause-value c = λ d rest stood.
    let fails = c.in_err-slots.ensures.value d rest stood in
    let is : c.from_residual.result ≡ Err c.in_err-slots.field-0.0 = search rules in
    rw is fails

pub returns-clause-value : goal.returns-clause-value
returns-clause-value c = λ d rest stood.
    let filled = c.in_ok-slots.ensures.value d rest stood in
    (c.in_ok-told.ensures ∙ folder_is _ d filled.0, filled.1)
