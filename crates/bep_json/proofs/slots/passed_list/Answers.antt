use Rattle.std.proofs.Common.{◌≡◌, Err, refl, rules}
use Rattle.bep_json.proofs.slots.passed_list.Goals as goal

pub returns-in_err-pass_items-clause-value : goal.returns-in_err-pass_items-clause-value
returns-in_err-pass_items-clause-value c = λ ds rest stood.
    let fails = c.in_err-pass_items.ensures.value ds rest stood in
    let is : c.from_residual.result ≡ Err c.in_err-pass_items.field-0.0 = search rules in
    rw is fails

pub returns-clause-value : goal.returns-clause-value
returns-clause-value c = λ ds rest stood. (refl, c.in_ok-pass_items.ensures.value ds rest stood)
