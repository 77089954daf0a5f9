use Rattle.std.proofs.Common.{◌≡◌, ◌∙◌, Err, false, ⊎_elim, ap, sym, subst, rules}
use Rattle.bep_tree.specs.Walk.{Stops}
use Rattle.bep_tree.proofs.Walking.{reaches_so}
use Rattle.bep_json.specs.Taking.{EntersLeaf, judged}
use Rattle.bep_json.proofs.taken.take_leaf.Goals as goal

pub returns-in_err-tree-clause-value : goal.returns-in_err-tree-clause-value
returns-in_err-tree-clause-value g c = λ d rest stood.
    let fails = c.in_err-tree.ensures.value d rest stood in
    let is : c.from_residual.result ≡ Err c.in_err-tree.field-0.0 = search rules in
    rw is fails

pub returns-in_err-tree-clause-other_shape : goal.returns-in_err-tree-clause-other_shape
returns-in_err-tree-clause-other_shape g c = λ d rest stood other.
    absurd (subst Stops c.in_err-tree.ensures.takes_no_memory (c.in_err-tree.ensures.value d rest stood))

pub returns-in-Some-clause-value : goal.returns-in-Some-clause-value
returns-in-Some-clause-value g c = λ d rest stood.
    let entered = c.in_ok-tree.ensures.value d rest stood in
    let leaf = subst (λ leaf. EntersLeaf leaf d) c.in-Some.is entered.0 in
    let shape = g.T.Shaped.has_shape c.args.version in
    let reads = g.T.Shaped.reads c.args.version in
    reaches_so _ _ c.told_of.result (λ told is. (is ∙ ap (λ e. judged (shape e) (reads e)) leaf.0, entered.1)) c.told_of.ensures.value

pub returns-in-Some-clause-other_shape : goal.returns-in-Some-clause-other_shape
returns-in-Some-clause-other_shape g c = λ d rest stood other.
    let leaf = subst (λ leaf. EntersLeaf leaf d) c.in-Some.is (c.in_ok-tree.ensures.value d rest stood).0 in
    c.told_of.ensures.other_shape (ap (g.T.Shaped.has_shape c.args.version) leaf.0 ∙ other)

pub returns-in-None-clause-value : goal.returns-in-None-clause-value
returns-in-None-clause-value g c = λ d rest stood.
    let entered = c.in_ok-tree.ensures.value d rest stood in
    let version = c.args.version in
    let shape = g.T.Shaped.has_shape version in
    let other : shape d ≡ false =
    ⊎_elim (λ list. ap shape list.1 ∙ g.met.T.Leaf.not_list version list.0) (λ object. ap shape object.1 ∙ g.met.T.Leaf.not_object version object.0) (subst (λ leaf. EntersLeaf leaf d) c.in-None.is entered.0) in
    (sym (ap (λ shape. judged shape (g.T.Shaped.reads version d)) other), entered.1)
