use Rattle.std.proofs.Common.{rules, tests}
use Rattle.std.proofs.lemmas.Iterator.{YieldsList-from_slice, cases_from_any}
use Rattle.bep_record.specs.declared.entry.Entry.{Entry}
use Rattle.bep_audit.specs.inner.Known.{IsValidOf}
use Rattle.bep_audit.proofs.ListFacts.{some_exactly}
use Rattle.bep_audit.proofs.known.has_valid_of.Goals as goal

pub returns : goal.returns
returns c =
    let P = λ (entry : Entry). IsValidOf c.args.name.now entry in
    some_exactly P c.any.result c.args.records.now
    (cases_from_any _ _ _ P (λ x. ¬ P x) c.any.ensures.ran (YieldsList-from_slice c.args.records.now cc) (λ x q k. search (rules, tests)) (λ x q k. search (rules, tests)))
