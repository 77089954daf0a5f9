use Rattle.std.proofs.Common.{◌≡◌, ◌∙◌, None, Err, sym, ap, ap₂, subst, rules, arith}
use Rattle.json.specs.Json.{after_end_array}
use Rattle.bep_tree.specs.Walk.{Stands, StandItems}
use Rattle.bep_tree.proofs.Walking.{item_comes, list_ends}
use Rattle.bep_json.specs.Taking.{judged, both}
use Rattle.bep_json.specs.Tuples.{are_first, read_first}
use Rattle.bep_json.proofs.TupleFacts.{first_told}
use Rattle.bep_json.proofs.tuples.Tuple2Tuple.take_items.Goals as goal

pub returns-then-take_end_array-clause-value : goal.returns-then-take_end_array-clause-value
returns-then-take_end_array-clause-value g c = λ ds rest stood.
    let ends = list_ends c.args.depth c.args.reader.now c.take_end_array.new.self ds rest c.if-take_end_array.ensures stood in
    let version = c.args.version in
    let shape = are_first (g.T.Shaped.has_shape version) (g.R.Tuple.have_shapes version) in
    let reads = read_first (g.T.Shaped.reads version) (g.R.Tuple.reads version) in
    (sym (ap (λ ds. judged (shape ds) (reads ds)) ends.0), ends.1)

pub returns-in_err-first-clause-value : goal.returns-in_err-first-clause-value
returns-in_err-first-clause-value g c = λ ds rest stood.
    let going : (after_end_array c.args.reader.now ≡ None) × (c.take_end_array.new.self ≡ c.args.reader.now) = grind arith in
    let one = item_comes c.args.depth c.args.reader.now ds rest going.0 stood in
    let fails = c.in_err-first.ensures.value one.0 one.2 (subst (λ ts. Stands c.args.depth ts one.0 one.2) (sym going.1) one.4) in
    let is : c.from_residual.result ≡ Err c.in_err-first.field-0.0 = search rules in
    rw is fails

pub returns-in_err-others-clause-value : goal.returns-in_err-others-clause-value
returns-in_err-others-clause-value g c = λ ds rest stood.
    let going : (after_end_array c.args.reader.now ≡ None) × (c.take_end_array.new.self ≡ c.args.reader.now) = grind arith in
    let one = item_comes c.args.depth c.args.reader.now ds rest going.0 stood in
    let taken = c.in_ok-first.ensures.value one.0 one.2 (subst (λ ts. Stands c.args.depth ts one.0 one.2) (sym going.1) one.4) in
    let fails = c.in_err-others.ensures.value one.1 rest (subst (λ ts. StandItems c.args.depth ts one.1 rest) (sym taken.1) one.5) in
    let is : c.from_residual-in_err-others.result ≡ Err c.in_err-others.field-0.0 = search rules in
    rw is fails

pub returns-clause-value : goal.returns-clause-value
returns-clause-value g c = λ ds rest stood.
    let going : (after_end_array c.args.reader.now ≡ None) × (c.take_end_array.new.self ≡ c.args.reader.now) = grind arith in
    let one = item_comes c.args.depth c.args.reader.now ds rest going.0 stood in
    let first = c.in_ok-first.ensures.value one.0 one.2 (subst (λ ts. Stands c.args.depth ts one.0 one.2) (sym going.1) one.4) in
    let others = c.in_ok-others.ensures.value one.1 rest (subst (λ ts. StandItems c.args.depth ts one.1 rest) (sym first.1) one.5) in
    let version = c.args.version in
    (c.both.ensures ∙ ap₂ both first.0 others.0 ∙ first_told (g.T.Shaped.has_shape version) (g.R.Tuple.have_shapes version) (g.T.Shaped.reads version) (g.R.Tuple.reads version) one.0 ds one.1 one.3, others.1)
