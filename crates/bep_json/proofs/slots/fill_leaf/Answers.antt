use Rattle.std.proofs.Common.{◌≡◌, Err, Some, refl, ap, rules}
use Rattle.bep_json.proofs.slots.fill_leaf.Goals as goal

pub returns-in_err-take_leaf-clause-value : goal.returns-in_err-take_leaf-clause-value
returns-in_err-take_leaf-clause-value g c = λ d rest stood.
    let fails = c.in_err-take_leaf.ensures.value d rest stood in
    let is : c.from_residual.result ≡ Err c.in_err-take_leaf.field-0.0 = search rules in
    rw is fails

pub returns-clause-value : goal.returns-clause-value
returns-clause-value g c = λ d rest stood.
    let taken = c.in_ok-take_leaf.ensures.value d rest stood in
    (refl, ap Some taken.0, taken.1)
