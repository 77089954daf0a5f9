use Rattle.std.proofs.Common.{◌≡◌, ◌∙◌, None, Err, ap, sym, subst, rules, arith}
use Rattle.json.specs.Json.{after_end_array}
use Rattle.bep_tree.specs.Walk.{Stands, StandItems}
use Rattle.bep_tree.proofs.Walking.{item_comes, list_ends, reaches_so}
use Rattle.bep_scenario.specs.inner.Steps.{known}
use Rattle.bep_scenario.proofs.told.Steps.{word_told, no_word_told, nothing_told}
use Rattle.bep_scenario.proofs.step.take_step.Goals as goal

pub returns-then-take_end_array-clause-value : goal.returns-then-take_end_array-clause-value
returns-then-take_end_array-clause-value c = λ ds rest stood.
    let ends = list_ends c.args.depth c.args.reader.now c.take_end_array.new.self ds rest c.if-take_end_array.ensures stood in
    (nothing_told c.args.version ds ends.0, ends.1)

pub returns-in_err-word-clause-value : goal.returns-in_err-word-clause-value
returns-in_err-word-clause-value c = λ ds rest stood.
    let going : (after_end_array c.args.reader.now ≡ None) × (c.take_end_array.new.self ≡ c.args.reader.now) = grind arith in
    let one = item_comes c.args.depth c.args.reader.now ds rest going.0 stood in
    let fails = c.in_err-word.ensures.value one.0 one.2 (subst (λ ts. Stands c.args.depth ts one.0 one.2) (sym going.1) one.4) in
    let is : c.from_residual.result ≡ Err c.in_err-word.field-0.0 = search rules in
    rw is fails

pub returns-in-Some-clause-value : goal.returns-in-Some-clause-value
returns-in-Some-clause-value c = λ ds rest stood.
    let going : (after_end_array c.args.reader.now ≡ None) × (c.take_end_array.new.self ≡ c.args.reader.now) = grind arith in
    let one = item_comes c.args.depth c.args.reader.now ds rest going.0 stood in
    let taken = c.in_ok-word.ensures.value one.0 one.2 (subst (λ ts. Stands c.args.depth ts one.0 one.2) (sym going.1) one.4) in
    let named = ap (known c.args.version) (sym taken.0) ∙ sym c.known.ensures ∙ c.in-Some.is in
    reaches_so _ _ c.take_behind.result (λ told is. (is.0 ∙ word_told c.args.version c.in-Some.word one.0 ds one.1 one.3 named, is.1))
    (c.take_behind.ensures.value one.0 one.1 rest (subst (λ ts. StandItems c.args.depth ts one.1 rest) (sym taken.1) one.5))

pub returns-in-None-clause-value : goal.returns-in-None-clause-value
returns-in-None-clause-value c = λ ds rest stood.
    let going : (after_end_array c.args.reader.now ≡ None) × (c.take_end_array.new.self ≡ c.args.reader.now) = grind arith in
    let one = item_comes c.args.depth c.args.reader.now ds rest going.0 stood in
    let taken = c.in_ok-word.ensures.value one.0 one.2 (subst (λ ts. Stands c.args.depth ts one.0 one.2) (sym going.1) one.4) in
    let none = ap (known c.args.version) (sym taken.0) ∙ sym c.known.ensures ∙ c.in-None.is in
    reaches_so _ _ c.passed_items.result (λ told is. (is.0 ∙ no_word_told c.args.version one.0 ds one.1 one.3 none, is.1))
    (c.passed_items.ensures.value one.1 rest (subst (λ ts. StandItems c.args.depth ts one.1 rest) (sym taken.1) one.5))
