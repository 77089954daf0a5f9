use Rattle.std.proofs.Common.{◌≡◌, ◌∙◌, [], Err, sym, subst, rules}
use Rattle.bep_tree.specs.Walk.{Stands}
use Rattle.bep_document.proofs.told.Readings.{document_stands}
use Rattle.bep_scenario.proofs.told.Members.{scenario_is}
use Rattle.bep_scenario.proofs.reading.scenario_in.Goals as goal

pub returns-in_err-slots : goal.returns-in_err-slots
returns-in_err-slots c = λ d is.
    let stood = subst (λ ts. Stands 127 ts d []) (sym c.in_ok-reader.ensures.ok) (document_stands c.args.text.now d is) in
    let fails = c.in_err-slots.ensures.value d [] stood in
    let made : c.from_residual-in_err-slots.result ≡ Err c.in_err-slots.field-0.0 = search rules in
    rw made fails

pub returns : goal.returns
returns c = λ d is.
    let stood = subst (λ ts. Stands 127 ts d []) (sym c.in_ok-reader.ensures.ok) (document_stands c.args.text.now d is) in
    let reached = c.in_ok-slots.ensures.value d [] stood in
    c.in_ok-told.ensures ∙ scenario_is c.args.version _ d reached.0
