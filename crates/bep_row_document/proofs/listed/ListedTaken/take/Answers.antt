use Rattle.std.proofs.Common.{◌≡◌, ◌∙◌, Err, ap, sym, subst, rules}
use Rattle.bep_json.specs.Taking.{judged}
use Rattle.bep_json.specs.Tuples.{EntersList}
use Rattle.bep_row_document.specs.Listed.{is_listed, read_listed}
use Rattle.bep_row_document.proofs.ListedFacts.{others_are_none}
use Rattle.bep_row_document.proofs.listed.ListedTaken.take.Goals as goal

pub returns-in_err-inside-clause-value : goal.returns-in_err-inside-clause-value
returns-in_err-inside-clause-value g c = λ d rest stood.
    let fails = c.in_err-inside.ensures.value d rest stood in
    let is : c.from_residual.result ≡ Err c.in_err-inside.field-0.0 = search rules in
    rw is fails

pub returns-in_default-clause-value : goal.returns-in_default-clause-value
returns-in_default-clause-value g c = λ d rest stood.
    let other = subst (λ inside. EntersList inside d c.enter_list.new.reader rest) c.in_default.is (c.in_ok-inside.ensures.value d rest stood) in
    (others_are_none _ _ d other.0, other.1)

pub returns-in_err-things-clause-value : goal.returns-in_err-things-clause-value
returns-in_err-things-clause-value g c = λ d rest stood.
    let list = subst (λ inside. EntersList inside d c.enter_list.new.reader rest) c.in-Some.is (c.in_ok-inside.ensures.value d rest stood) in
    let fails = c.in_err-things.ensures.value list.0 rest list.2 in
    let is : c.from_residual-in_err-things.result ≡ Err c.in_err-things.field-0.0 = search rules in
    rw is fails

pub returns-clause-value : goal.returns-clause-value
returns-clause-value g c = λ d rest stood.
    let list = subst (λ inside. EntersList inside d c.enter_list.new.reader rest) c.in-Some.is (c.in_ok-inside.ensures.value d rest stood) in
    let taken = c.in_ok-things.ensures.value list.0 rest list.2 in
    let shapes = g.R.Tuple.have_shapes c.args.version in
    let reads = g.R.Tuple.reads c.args.version in
    (c.listed_of.ensures ∙ taken.0 ∙ sym (ap (λ e. judged (is_listed shapes e) (read_listed reads e)) list.1), taken.1)
