use Rattle.std.proofs.Common.{rules, tests}
use Rattle.std.proofs.lemmas.Iterator.{YieldsList-from_slice, cases_from_any}
use Rattle.bep_tables.specs.declared.share.Share.{Share}
use Rattle.bep_audit.specs.inner.Known.{HasName}
use Rattle.bep_audit.proofs.ListFacts.{some_exactly}
use Rattle.bep_audit.proofs.known.is_held.Goals as goal

pub returns : goal.returns
returns c =
    let P = λ (share : Share). HasName share c.args.name.now in
    some_exactly P c.any.result c.args.shares.now
    (cases_from_any _ _ _ P (λ x. ¬ P x) c.any.ensures.ran (YieldsList-from_slice c.args.shares.now cc) (λ x q k. search (rules, tests)) (λ x q k. search (rules, tests)))
