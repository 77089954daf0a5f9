use Rattle.std.proofs.Common.{◌≡◌, ◌∙◌, Err, ap, sym, subst, rules}
use Rattle.bep_json.specs.Lists.{is_pair, read_pair}
use Rattle.bep_json.specs.Taking.{judged, told_as}
use Rattle.bep_json.specs.Tuples.{EntersList}
use Rattle.bep_json.proofs.PairFacts.{others_are_no_pair, items_are_pair, pair_of}
use Rattle.bep_json.proofs.pairs.Tuple2U64U64Taken.take.Goals as goal

pub returns-in_err-inside-clause-value : goal.returns-in_err-inside-clause-value
returns-in_err-inside-clause-value c = λ d rest stood.
    let fails = c.in_err-inside.ensures.value d rest stood in
    let is : c.from_residual.result ≡ Err c.in_err-inside.field-0.0 = search rules in
    rw is fails

pub returns-in_default-clause-value : goal.returns-in_default-clause-value
returns-in_default-clause-value c = λ d rest stood.
    let other = subst (λ inside. EntersList inside d c.enter_list.new.reader rest) c.in_default.is (c.in_ok-inside.ensures.value d rest stood) in
    (others_are_no_pair d other.0, other.1)

pub returns-in_err-numbers-clause-value : goal.returns-in_err-numbers-clause-value
returns-in_err-numbers-clause-value c = λ d rest stood.
    let list = subst (λ inside. EntersList inside d c.enter_list.new.reader rest) c.in-Some.is (c.in_ok-inside.ensures.value d rest stood) in
    let fails = c.in_err-numbers.ensures.value list.0 rest list.2 in
    let is : c.from_residual-in_err-numbers.result ≡ Err c.in_err-numbers.field-0.0 = search rules in
    rw is fails

pub returns-clause-value : goal.returns-clause-value
returns-clause-value c = λ d rest stood.
    let list = subst (λ inside. EntersList inside d c.enter_list.new.reader rest) c.in-Some.is (c.in_ok-inside.ensures.value d rest stood) in
    let taken = c.in_ok-numbers.ensures.value list.0 rest list.2 in
    (c.pair_of.ensures ∙ ap (told_as pair_of) taken.0 ∙ items_are_pair list.0 ∙ sym (ap (λ e. judged (is_pair e) (read_pair e)) list.1), taken.1)
