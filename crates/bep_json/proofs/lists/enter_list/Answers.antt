use Rattle.std.proofs.Common.{◌≡◌, Err, ap, subst, rules}
use Rattle.serde_json.specs.Find.{as_array}
use Rattle.bep_tree.specs.Walk.{Enters}
use Rattle.bep_tree.proofs.Walking.{reaches_so}
use Rattle.bep_json.proofs.TupleFacts.{passed_list}
use Rattle.bep_json.proofs.lists.enter_list.Goals as goal

pub returns-in_err-inside-clause-value : goal.returns-in_err-inside-clause-value
returns-in_err-inside-clause-value c = λ d rest stood.
    let fails = c.in_err-inside.ensures.value d rest stood in
    let is : c.from_residual.result ≡ Err c.in_err-inside.field-0.0 = search rules in
    rw is fails

pub returns-in-List-clause-value : goal.returns-in-List-clause-value
returns-in-List-clause-value c = λ d rest stood.
    subst (λ entered. Enters entered d c.enter.new.reader rest) c.in-List.is (c.in_ok-inside.ensures.value d rest stood)

pub returns-in-Object-clause-value : goal.returns-in-Object-clause-value
returns-in-Object-clause-value c = λ d rest stood.
    let object = subst (λ entered. Enters entered d c.enter.new.reader rest) c.in-Object.is (c.in_ok-inside.ensures.value d rest stood) in
    reaches_so _ _ c.passed_object.result (λ inside is. passed_list inside d _ rest is.0 (ap as_array object.1) is.1) (c.passed_object.ensures.value object.0 rest object.2)

pub returns-in-Leaf-clause-value : goal.returns-in-Leaf-clause-value
returns-in-Leaf-clause-value c = λ d rest stood.
    let leaf = subst (λ entered. Enters entered d c.enter.new.reader rest) c.in-Leaf.is (c.in_ok-inside.ensures.value d rest stood) in
    (leaf.1.0, leaf.2)
