use Rattle.std.proofs.Common.{◌≡◌, ◌∙◌, Err, inl, inr, subst, rules}
use Rattle.serde_json.specs.Data.{no_members}
use Rattle.bep_tree.specs.Walk.{Enters}
use Rattle.bep_json.proofs.taken.enter_leaf.Goals as goal
use Rattle.bep_json.proofs.taken.enter_leaf.Goals.{in-List+in_ok-pass_items-in-List, in-Object+in_ok-pass_members-in-Object}

pub returns-in_err-tree-clause-value : goal.returns-in_err-tree-clause-value
returns-in_err-tree-clause-value c = λ d rest stood.
    let fails = c.in_err-tree.ensures.value d rest stood in
    let is : c.from_residual.result ≡ Err c.in_err-tree.field-0.0 = search rules in
    rw is fails

pub returns-in-Leaf-clause-value : goal.returns-in-Leaf-clause-value
returns-in-Leaf-clause-value c = λ d rest stood.
    let leaf = subst (λ entered. Enters entered d c.enter.new.reader rest) c.in-Leaf.is (c.in_ok-tree.ensures.value d rest stood) in
    ((leaf.0, leaf.1), leaf.2)

pub returns-in_err-pass_items-in-List-clause-value : goal.returns-in_err-pass_items-in-List-clause-value
returns-in_err-pass_items-in-List-clause-value c = λ d rest stood.
    let list = subst (λ entered. Enters entered d c.enter.new.reader rest) c.in-List.is (c.in_ok-tree.ensures.value d rest stood) in
    let fails = c.in_err-pass_items-in-List.ensures.value list.0 rest list.2 in
    let is : c.from_residual-in_err-pass_items-in-List.result ≡ Err c.in_err-pass_items-in-List.field-0.0 = search rules in
    rw is fails

pub returns-in_err-pass_members-in-Object-clause-value : goal.returns-in_err-pass_members-in-Object-clause-value
returns-in_err-pass_members-in-Object-clause-value c = λ d rest stood.
    let object = subst (λ entered. Enters entered d c.enter.new.reader rest) c.in-Object.is (c.in_ok-tree.ensures.value d rest stood) in
    let fails = c.in_err-pass_members-in-Object.ensures.value no_members object.0 rest object.2 in
    let is : c.from_residual-in_err-pass_members-in-Object.result ≡ Err c.in_err-pass_members-in-Object.field-0.0 = search rules in
    rw is fails

pub returns-clause-value : goal.returns-clause-value
returns-clause-value c = λ d rest stood.
    let entered = c.in_ok-tree.ensures.value d rest stood in
    elim c.match-branch-2.branch [
      | in-List+in_ok-pass_items-in-List w ↦
          let list = subst (λ entered. Enters entered d c.enter.new.reader rest) w.in-List.is entered in
          (inl (list.0, list.1), w.reader-is ∙ w.in_ok-pass_items-in-List.ensures.value list.0 rest list.2)
      | in-Object+in_ok-pass_members-in-Object w ↦
          let object = subst (λ entered. Enters entered d c.enter.new.reader rest) w.in-Object.is entered in
          (inr (object.0, object.1), w.reader-is ∙ w.in_ok-pass_members-in-Object.ensures.value no_members object.0 rest object.2)
    ]
