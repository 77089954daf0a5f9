use Rattle.std.proofs.Common.{◌≡◌, Err, Some, refl, ap, rules}
use Rattle.bep_json.proofs.slots.fill.Goals as goal

pub returns-in_err-take-clause-value : goal.returns-in_err-take-clause-value
returns-in_err-take-clause-value g c = λ d rest stood.
    let fails = c.in_err-take.ensures.value d rest stood in
    let is : c.from_residual.result ≡ Err c.in_err-take.field-0.0 = search rules in
    rw is fails

pub returns-clause-value : goal.returns-clause-value
returns-clause-value g c = λ d rest stood.
    let taken = c.in_ok-take.ensures.value d rest stood in
    (refl, ap Some taken.0, taken.1)
