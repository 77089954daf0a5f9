use Rattle.std.proofs.Common.{◌≡◌, None, Err, sym, ap, subst, rules, arith}
use Rattle.json.specs.Json.{after_end_array}
use Rattle.bep_tree.specs.Walk.{StandItems}
use Rattle.bep_tree.proofs.Walking.{item_comes, list_ends}
use Rattle.bep_json.specs.Taking.{judged}
use Rattle.bep_json.specs.Tuples.{are_none, read_none}
use Rattle.bep_json.proofs.tuples.UnitTuple.take_items.Goals as goal

pub returns-then-take_end_array-clause-value : goal.returns-then-take_end_array-clause-value
returns-then-take_end_array-clause-value c = λ ds rest stood.
    let ends = list_ends c.args.depth c.args.reader.now c.take_end_array.new.self ds rest c.if-take_end_array.ensures stood in
    (sym (ap (λ ds. judged (are_none ds) (read_none ds)) ends.0), ends.1)

pub returns-in_err-pass_items-clause-value : goal.returns-in_err-pass_items-clause-value
returns-in_err-pass_items-clause-value c = λ ds rest stood.
    let going : (after_end_array c.args.reader.now ≡ None) × (c.take_end_array.new.self ≡ c.args.reader.now) = grind arith in
    let fails = c.in_err-pass_items.ensures.value ds rest (subst (λ ts. StandItems c.args.depth ts ds rest) (sym going.1) stood) in
    let is : c.from_residual.result ≡ Err c.in_err-pass_items.field-0.0 = search rules in
    rw is fails

pub returns-clause-value : goal.returns-clause-value
returns-clause-value c = λ ds rest stood.
    let going : (after_end_array c.args.reader.now ≡ None) × (c.take_end_array.new.self ≡ c.args.reader.now) = grind arith in
    let one = item_comes c.args.depth c.args.reader.now ds rest going.0 stood in
    let passed = c.in_ok-pass_items.ensures.value ds rest (subst (λ ts. StandItems c.args.depth ts ds rest) (sym going.1) stood) in
    (sym (ap (λ ds. judged (are_none ds) (read_none ds)) one.3), passed)
