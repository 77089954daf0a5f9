use Rattle.std.proofs.Common.{rules, tests}
use Rattle.std.proofs.lemmas.Iterator.{YieldsList-from_slice, cases_from_all}
use Rattle.std.specs.Option.{option_copied}
use Rattle.bep_tables.specs.declared.table.entry.TableEntry.{TableEntry}
use Rattle.bep_tables.specs.Listed.{listed}
use Rattle.bep_audit.specs.inner.Faultless.{AsksAllElsewhere, PassesElsewhere}
use Rattle.bep_audit.proofs.ListFacts.{each_exactly}
use Rattle.bep_audit.proofs.GroupFacts.{each_listed}
use Rattle.bep_audit.proofs.faultless.meets_elsewhere.Goals as goal

pub returns : goal.returns
unfolding AsksAllElsewhere PassesElsewhere
returns c =
    let Q = PassesElsewhere c.args.device c.args.row.now (option_copied c.args.own) in
    let P = λ (entry : TableEntry). Q (listed entry) in
    let each = each_listed Q c.all.result c.args.group.now
    (each_exactly P c.all.result c.args.group.now
    (cases_from_all _ _ _ P (λ x. ¬ P x) c.all.ensures.ran (YieldsList-from_slice c.args.group.now cc) (λ x q k. search (rules, tests)) (λ x q k. search (rules, tests)))) in (
      λ is. (λ one member. (each.0 is one member).0, λ one member. (each.0 is one member).1, λ one member. (each.0 is one member).2),
      λ all. each.1 (λ one member. (all.0 one member, all.1 one member, all.2 one member)),
    )
