use Rattle.std.proofs.Common.{◌≡◌, Err, false, ap, sym, subst, rules}
use Rattle.std.specs.Prelude.{option_map, unwrap_or}
use Rattle.bep_tree.specs.Names.{are_among, has_only}
use Rattle.bep_tree.specs.Walk.{Enters, Reaches}
use Rattle.bep_tree.proofs.Walking.{reaches_so}
use Rattle.bep_json.specs.inner.Filled.{AreFilled}
use Rattle.bep_json.proofs.slots.fill_object.Goals as goal

pub returns-in_err-inside-clause-value : goal.returns-in_err-inside-clause-value
returns-in_err-inside-clause-value g c = λ d rest empty stood.
    let fails = c.in_err-inside.ensures.value d rest stood in
    let is : c.from_residual.result ≡ Err c.in_err-inside.field-0.0 = search rules in
    rw is fails

pub returns-in-Object-clause-value : goal.returns-in-Object-clause-value
returns-in-Object-clause-value g c = λ d rest empty stood.
    let object = subst (λ entered. Enters entered d c.enter.new.reader rest) c.in-Object.is (c.in_ok-inside.ensures.value d rest stood) in
    subst (λ e. Reaches c.fill_members.result (λ filled. AreFilled g.S.Slots.names (g.S.Slots.known c.args.version) filled c.fill_members.new.slots e × (c.fill_members.new.reader ≡ rest))) (sym object.1)
    (c.fill_members.ensures.value object.0 rest empty object.2)

pub returns-in-List-clause-value : goal.returns-in-List-clause-value
returns-in-List-clause-value g c = λ d rest empty stood.
    let list = subst (λ entered. Enters entered d c.enter.new.reader rest) c.in-List.is (c.in_ok-inside.ensures.value d rest stood) in
    let names = g.S.Slots.names in
    let other : has_only names d ≡ false = ap (has_only names) list.1 in
    reaches_so _ _ c.passed_list.result (λ filled is. (subst (λ f. AreFilled names (g.S.Slots.known c.args.version) f c.args.slots.now d) (sym is.0) other, is.1)) (c.passed_list.ensures.value list.0 rest list.2)

pub returns-in-Leaf-clause-value : goal.returns-in-Leaf-clause-value
returns-in-Leaf-clause-value g c = λ d rest empty stood.
    let leaf = subst (λ entered. Enters entered d c.enter.new.reader rest) c.in-Leaf.is (c.in_ok-inside.ensures.value d rest stood) in
    (ap (λ members. unwrap_or (option_map (are_among g.S.Slots.names) members) false) leaf.1.1, leaf.2)
