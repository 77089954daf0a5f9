use Rattle.std.proofs.Common.{◌∙◌, map, ap}
use Rattle.std.proofs.lemmas.Result.{IfOk-weaker}
use Rattle.bep_audit.specs.Walk.{failure_shown}
use Rattle.bep_explain.specs.Unwon.{as_unwon}
use Rattle.bep_explain.proofs.UnwonFacts.{both_none, instead}
use Rattle.bep_explain.proofs.unwon.failures_unwon.Goals as goal

pub returns-clause-all : goal.returns-clause-all
returns-clause-all c =
    IfOk-weaker c.all_unwon.result _ _
    (λ told same. (map failure_shown c.in_ok-found.found.items, c.in_ok-found.ensures.all, same ∙ ap (λ shown. map as_unwon (map failure_shown shown)) c.as_slice.ensures.value))
    c.all_unwon.ensures

pub returns-clause-settled : goal.returns-clause-settled
returns-clause-settled c =
    IfOk-weaker c.all_unwon.result _ _
    (λ told same. instead told.items c.in_ok-found.found.items
    (both_none failure_shown as_unwon failure_shown told.items c.in_ok-found.found.items (same ∙ ap (λ shown. map as_unwon (map failure_shown shown)) c.as_slice.ensures.value))
    c.in_ok-found.ensures.settled)
    c.all_unwon.ensures
