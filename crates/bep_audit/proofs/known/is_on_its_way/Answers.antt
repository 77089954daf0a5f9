use Rattle.std.proofs.Common.{rules, tests}
use Rattle.std.proofs.lemmas.Iterator.{YieldsList-from_slice, cases_from_any}
use Rattle.bep_tables.specs.declared.link.LinkState.{LinkState}
use Rattle.bep_audit.specs.inner.Known.{IsOver}
use Rattle.bep_audit.proofs.ListFacts.{some_exactly}
use Rattle.bep_audit.proofs.known.is_on_its_way.Goals as goal

pub returns : goal.returns
returns c =
    let P = λ (link : LinkState). IsOver c.args.folder.now c.args.name.now link in
    some_exactly P c.any.result c.args.links.now
    (cases_from_any _ _ _ P (λ x. ¬ P x) c.any.ensures.ran (YieldsList-from_slice c.args.links.now cc) (λ x q k. search (rules, tests)) (λ x q k. search (rules, tests)))
