use Rattle.std.proofs.Common.{rules, tests}
use Rattle.std.proofs.lemmas.Iterator.{YieldsList-from_slice, cases_from_any}
use Rattle.bep_model.specs.declared.flight.Flight.{Flight}
use Rattle.bep_audit.specs.inner.Known.{Brings}
use Rattle.bep_audit.proofs.ListFacts.{some_exactly}
use Rattle.bep_audit.proofs.known.is_brought.Goals as goal

pub returns : goal.returns
returns c =
    let P = λ (flight : Flight). Brings c.args.folder.now c.args.name.now flight in
    some_exactly P c.any.result c.args.flights.now
    (cases_from_any _ _ _ P (λ x. ¬ P x) c.any.ensures.ran (YieldsList-from_slice c.args.flights.now cc) (λ x q k. search (rules, tests)) (λ x q k. search (rules, tests)))
