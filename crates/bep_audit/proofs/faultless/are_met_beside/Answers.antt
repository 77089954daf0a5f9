use Rattle.std.proofs.Common.{rules, tests, map}
use Rattle.std.proofs.lemmas.Iterator.{YieldsList-from_slice, cases_from_all}
use Rattle.bep_tables.specs.declared.share.Share.{Share}
use Rattle.bep_tables.specs.Listed.{listed}
use Rattle.bep_audit.specs.inner.Faultless.{AsksAll}
use Rattle.bep_audit.proofs.ListFacts.{each_exactly}
use Rattle.bep_audit.proofs.faultless.are_met_beside.Goals as goal

pub returns : goal.returns
returns c =
    let P = λ (share : Share). AsksAll c.args.row.now (map listed c.args.group.now) share.device in
    each_exactly P c.all.result c.args.shares.now
    (cases_from_all _ _ _ P (λ x. ¬ P x) c.all.ensures.ran (YieldsList-from_slice c.args.shares.now cc) (λ x q k. search (rules, tests)) (λ x q k. search (rules, tests)))
