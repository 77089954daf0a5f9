use Rattle.std.proofs.Common.{◌≡◌, ◌∙◌, Err, ap, rules}
use Rattle.bep_json.specs.Nodes.{is_node, read_node}
use Rattle.bep_json.specs.Numbers.{is_whole}
use Rattle.bep_json.specs.Taking.{told_as}
use Rattle.bep_json.specs.Texts.{is_text, read_folder_name}
use Rattle.bep_scenario.specs.Steps.{read_device, read_edit}
use Rattle.bep_scenario.specs.declared.parts.StepParts.TheVariants as parts
use Rattle.bep_scenario.proofs.told.Behind.{three_told}
use Rattle.bep_scenario.proofs.behind.take_edit.Goals as goal

pub returns-in_err-items-clause-value : goal.returns-in_err-items-clause-value
returns-in_err-items-clause-value c = λ first ds rest stood.
    let fails = c.in_err-items.ensures.value ds rest stood in
    let is : c.from_residual.result ≡ Err c.in_err-items.field-0.0 = search rules in
    rw is fails

pub returns-clause-value : goal.returns-clause-value
unfolding read_edit
returns-clause-value c = λ first ds rest stood.
    let taken = c.in_ok-items.ensures.value ds rest stood in
    (c.edit_of.ensures ∙ ap (told_as (λ t. parts.Edit t.0 t.1.0 t.1.1.0)) taken.0 ∙ three_told is_whole is_text is_node read_device read_folder_name (read_node c.args.version) (λ t. parts.Edit t.0 t.1.0 t.1.1.0) first ds, taken.1)
