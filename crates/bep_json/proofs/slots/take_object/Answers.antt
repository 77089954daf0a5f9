use Rattle.std.proofs.Common.{◌≡◌, Err, subst, rules}
use Rattle.bep_json.specs.inner.Filled.{AreFilled}
use Rattle.bep_json.proofs.slots.take_object.Goals as goal

pub returns-in_err-fill_object-clause-value : goal.returns-in_err-fill_object-clause-value
returns-in_err-fill_object-clause-value g c = λ d rest stood.
    let fails = c.in_err-fill_object.ensures.value d rest (c.none-slots.ensures c.args.version) stood in
    let is : c.from_residual.result ≡ Err c.in_err-fill_object.field-0.0 = search rules in
    rw is fails

pub returns-then-branch-clause-value : goal.returns-then-branch-clause-value
returns-then-branch-clause-value g c = λ d rest stood.
    let filled = c.in_ok-fill_object.ensures.value d rest (c.none-slots.ensures c.args.version) stood in
    (subst (λ f. AreFilled g.S.Slots.names (g.S.Slots.known c.args.version) f c.fill_object.new.slots d) c.if-branch.true filled.0, filled.1)

pub returns-else-branch-clause-value : goal.returns-else-branch-clause-value
returns-else-branch-clause-value g c = λ d rest stood.
    let filled = c.in_ok-fill_object.ensures.value d rest (c.none-slots.ensures c.args.version) stood in
    (subst (λ f. AreFilled g.S.Slots.names (g.S.Slots.known c.args.version) f c.fill_object.new.slots d) c.if-branch.false filled.0, filled.1)
