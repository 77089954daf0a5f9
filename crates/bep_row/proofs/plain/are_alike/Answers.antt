use Rattle.std.proofs.Common.{rules, tests}
use Rattle.std.proofs.lemmas.Iterator.{YieldsList-from_slice, cases_from_all}
use Rattle.bep_audit.proofs.ListFacts.{each_exactly}
use Rattle.bep_record.specs.declared.entry.Entry.{Entry}
use Rattle.bep_row.specs.Plain.{IsAlike}
use Rattle.bep_row.proofs.plain.are_alike.Goals as goal

pub returns : goal.returns
returns c =
    let P = λ (entry : Entry). IsAlike c.args.first.now entry in
    each_exactly P c.all.result c.args.records.now
    (cases_from_all _ _ _ P (λ x. ¬ P x) c.all.ensures.ran (YieldsList-from_slice c.args.records.now cc) (λ x q k. search (rules, tests)) (λ x q k. search (rules, tests)))
