use Rattle.std.proofs.Common.{◌≡◌, ◌∙◌, Err, [], ◌∷◌, ◌++◌, ap, sym, rules}
use Rattle.bep_json.specs.Taking.{misread_of, with_told}
use Rattle.bep_json.proofs.taken.Taken.take_onto.Goals as goal

pub returns-in_err-thing-clause-value : goal.returns-in_err-thing-clause-value
returns-in_err-thing-clause-value g c = λ d rest stood.
    let fails = c.in_err-thing.ensures.value d rest stood in
    let is : c.from_residual.result ≡ Err c.in_err-thing.field-0.0 = search rules in
    rw is fails

pub returns-in_ok-push-in-Ok-clause-value : goal.returns-in_ok-push-in-Ok-clause-value
returns-in_ok-push-in-Ok-clause-value g c = λ d rest stood.
    let taken = c.in_ok-thing.ensures.value d rest stood in
    let is = sym c.in-Ok.is ∙ taken.0 in
    let pushed : c.push.new.self.items ≡ c.args.things.now.items ++ c.in-Ok.thing ∷ [] = search rules in
    (ap misread_of is, pushed ∙ ap (with_told c.args.things.now.items) is, taken.1)

pub returns-in-Err-clause-value : goal.returns-in-Err-clause-value
returns-in-Err-clause-value g c = λ d rest stood.
    let taken = c.in_ok-thing.ensures.value d rest stood in
    let is = sym c.in-Err.is ∙ taken.0 in
    (ap misread_of is, ap (with_told c.args.things.now.items) is, taken.1)
