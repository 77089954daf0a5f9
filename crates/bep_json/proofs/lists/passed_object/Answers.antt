use Rattle.std.proofs.Common.{◌≡◌, Err, refl, rules}
use Rattle.serde_json.specs.Data.{no_members}
use Rattle.bep_json.proofs.lists.passed_object.Goals as goal

pub returns-in_err-pass_members-clause-value : goal.returns-in_err-pass_members-clause-value
returns-in_err-pass_members-clause-value c = λ ms rest stood.
    let fails = c.in_err-pass_members.ensures.value no_members ms rest stood in
    let is : c.from_residual.result ≡ Err c.in_err-pass_members.field-0.0 = search rules in
    rw is fails

pub returns-clause-value : goal.returns-clause-value
returns-clause-value c = λ ms rest stood. (refl, c.in_ok-pass_members.ensures.value no_members ms rest stood)
