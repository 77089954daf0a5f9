use Rattle.std.proofs.Common.{◌≡◌, ◌∙◌, Err, ap, sym, subst, false, rules}
use Rattle.std.specs.Prelude.{option_map, unwrap_or}
use Rattle.bep_tree.proofs.Walking.{reaches_so}
use Rattle.bep_json.specs.Lists.{have_shape, is_list, read_list}
use Rattle.bep_json.specs.Taking.{judged}
use Rattle.bep_json.specs.Tuples.{EntersList}
use Rattle.bep_json.proofs.items.take_list.Goals as goal

pub returns-in_err-inside-clause-value : goal.returns-in_err-inside-clause-value
returns-in_err-inside-clause-value g c = λ d rest stood.
    let fails = c.in_err-inside.ensures.value d rest stood in
    let is : c.from_residual.result ≡ Err c.in_err-inside.field-0.0 = search rules in
    rw is fails

pub returns-in-Some-clause-value : goal.returns-in-Some-clause-value
returns-in-Some-clause-value g c = λ d rest stood.
    let list = subst (λ inside. EntersList inside d c.enter_list.new.reader rest) c.in-Some.is (c.in_ok-inside.ensures.value d rest stood) in
    let shape = is_list (g.T.Shaped.has_shape c.args.version) in
    let reads = read_list (g.T.Shaped.reads c.args.version) in
    reaches_so _ _ c.take_items.result (λ told is. (is.0 ∙ ap (λ e. judged (shape e) (reads e)) (sym list.1), is.1)) (c.take_items.ensures.value list.0 rest list.2)

pub returns-in-None-clause-value : goal.returns-in-None-clause-value
returns-in-None-clause-value g c = λ d rest stood.
    let other = subst (λ inside. EntersList inside d c.enter_list.new.reader rest) c.in-None.is (c.in_ok-inside.ensures.value d rest stood) in
    (sym (ap (λ items. judged (unwrap_or (option_map (have_shape (g.T.Shaped.has_shape c.args.version)) items) false) (read_list (g.T.Shaped.reads c.args.version) d)) other.0), other.1)
