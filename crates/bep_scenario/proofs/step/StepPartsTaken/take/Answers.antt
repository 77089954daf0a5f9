use Rattle.std.proofs.Common.{◌≡◌, ◌∙◌, Err, ap, sym, subst, rules}
use Rattle.bep_tree.proofs.Walking.{reaches_so}
use Rattle.bep_json.specs.Tuples.{EntersList}
use Rattle.bep_scenario.proofs.told.Steps.{said, no_list_told}
use Rattle.bep_scenario.proofs.step.StepPartsTaken.take.Goals as goal

pub returns-in_err-inside-clause-value : goal.returns-in_err-inside-clause-value
returns-in_err-inside-clause-value c = λ d rest stood.
    let fails = c.in_err-inside.ensures.value d rest stood in
    let is : c.from_residual.result ≡ Err c.in_err-inside.field-0.0 = search rules in
    rw is fails

pub returns-in-Some-clause-value : goal.returns-in-Some-clause-value
returns-in-Some-clause-value c = λ d rest stood.
    let list = subst (λ inside. EntersList inside d c.enter_list.new.reader rest) c.in-Some.is (c.in_ok-inside.ensures.value d rest stood) in
    reaches_so _ _ c.take_step.result (λ told is. (is.0 ∙ sym (ap (said c.args.version) list.1), is.1)) (c.take_step.ensures.value list.0 rest list.2)

pub returns-in-None-clause-value : goal.returns-in-None-clause-value
returns-in-None-clause-value c = λ d rest stood.
    let other = subst (λ inside. EntersList inside d c.enter_list.new.reader rest) c.in-None.is (c.in_ok-inside.ensures.value d rest stood) in
    (no_list_told c.args.version d other.0, other.1)
