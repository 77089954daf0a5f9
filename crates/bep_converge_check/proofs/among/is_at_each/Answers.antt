use Rattle.std.proofs.Common.{rules, tests}
use Rattle.std.specs.Option.{option_copied}
use Rattle.std.proofs.lemmas.Iterator.{YieldsList-from_slice, cases_from_all}
use Rattle.bep_tables.specs.declared.table.entry.TableEntry.{TableEntry}
use Rattle.bep_tables.specs.Listed.{listed}
use Rattle.bep_audit.proofs.ListFacts.{each_exactly}
use Rattle.bep_audit.proofs.GroupFacts.{each_listed}
use Rattle.bep_converge_check.specs.inner.Says.{IsAtIfAbove}
use Rattle.bep_converge_check.proofs.among.is_at_each.Goals as goal

pub returns : goal.returns
returns c =
    let Q = IsAtIfAbove (option_copied c.args.own) c.args.top.now in
    let P = λ (entry : TableEntry). Q (listed entry) in
    let each =
    each_listed Q c.all.result c.args.group.now
    (each_exactly P c.all.result c.args.group.now
    (cases_from_all _ _ _ P (λ x. ¬ P x) c.all.ensures.ran (YieldsList-from_slice c.args.group.now cc) (λ x q k. search (rules, tests)) (λ x q k. search (rules, tests)))) in
    each
