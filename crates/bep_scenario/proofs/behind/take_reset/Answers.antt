use Rattle.std.proofs.Common.{◌≡◌, ◌∙◌, Err, ap, rules}
use Rattle.bep_json.specs.Numbers.{is_whole}
use Rattle.bep_json.specs.Taking.{told_as}
use Rattle.bep_machine.specs.declared.step.Step.TheVariants as steps
use Rattle.bep_scenario.specs.Steps.{read_device, read_index_id, read_reset}
use Rattle.bep_scenario.specs.declared.parts.StepParts.TheVariants as parts
use Rattle.bep_scenario.proofs.told.Behind.{two_told}
use Rattle.bep_scenario.proofs.behind.take_reset.Goals as goal

pub returns-in_err-items-clause-value : goal.returns-in_err-items-clause-value
returns-in_err-items-clause-value c = λ first ds rest stood.
    let fails = c.in_err-items.ensures.value ds rest stood in
    let is : c.from_residual.result ≡ Err c.in_err-items.field-0.0 = search rules in
    rw is fails

pub returns-clause-value : goal.returns-clause-value
unfolding read_reset
returns-clause-value c = λ first ds rest stood.
    let taken = c.in_ok-items.ensures.value ds rest stood in
    (c.reset_of.ensures ∙ ap (told_as (λ t. parts.Other (steps.Reset t.0 t.1.0))) taken.0 ∙ two_told is_whole is_whole read_device read_index_id (λ t. parts.Other (steps.Reset t.0 t.1.0)) first ds, taken.1)
