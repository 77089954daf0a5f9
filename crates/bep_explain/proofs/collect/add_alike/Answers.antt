use Rattle.std.proofs.Common.{map, subst, arith}
use Rattle.bep_facts.specs.Members.{Contains-image}
use Rattle.bep_record.specs.declared.entry.Entry.{Entry}
use Rattle.bep_tables.specs.Listed.{listed}
use Rattle.bep_audit.specs.Group.{IsGroupOf}
use Rattle.bep_explain.specs.inner.Rows.{row_shown}
use Rattle.bep_explain.proofs.GroupFound.{table_is_sorted, group_found}
use Rattle.bep_explain.proofs.RowLists.{item_is_there}
use Rattle.bep_explain.proofs.collect.add_alike.Goals as goal

pub add_name-requires-clause-group : goal.add_name-requires-clause-group
add_name-requires-clause-group c =
    let cut = c.args.cut.now in
    let table = c.args.table.now in
    let folder = (row_shown c.first-item.result).folder in
    let found = c.about-group.ensures (table_is_sorted table c.requires.table.in_order) in
    subst (λ (e : Entry). IsGroupOf cut (folder, e.name) (map listed c.about-group.result.now)) c.entry.ensures.value
    (group_found cut table c.requires.table (folder, c.entry.result.now.name) c.about-group.result.now found)

pub add_name-requires-clause-about : goal.add_name-requires-clause-about
add_name-requires-clause-about c =
    let rows = c.args.rows.now in
    let first = c.first-item.result in
    c.requires.alike (row_shown first) (Contains-image row_shown rows first (item_is_there rows 0 first (omega (arith, c.in-len1-up.len_at_least)) c.first-item.is))
