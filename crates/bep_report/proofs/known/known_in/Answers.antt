use Rattle.std.proofs.Common.{◌++◌, map, sym, ap, ◌∙◌}
use Rattle.std.proofs.lemmas.List.{append-nil, drop_all}
use Rattle.bep_tables.specs.Listed.{listed}
use Rattle.bep_report.specs.inner.Known.{names_in, names_lent}
use Rattle.bep_report.proofs.KnownFacts.{all_known}
use Rattle.bep_report.proofs.known.known_in.Goals as goal

pub returns : goal.returns
returns c =
    let names = names_lent c.loop-place.names.items in
    sym (append-nil names)
    ∙ sym (ap (λ rest. names ++ names_in c.args.folder.now (map listed rest)) (drop_all c.loop-place.place c.args.table.now c.loop-place-test.false))
    ∙ c.loop-place.invariant
    ∙ all_known c.args.cut.now c.args.table.now c.args.folder.now c.names_are_known.ensures.known c.group_says.ensures.known c.is_a_cut.ensures c.requires
