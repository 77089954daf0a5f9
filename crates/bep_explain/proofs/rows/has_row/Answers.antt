use Rattle.bep_explain.proofs.RowLists.{found_has_row}
use Rattle.bep_explain.proofs.rows.has_row.Goals as goal

pub returns : goal.returns
returns c = found_has_row c.is_empty.result c.args.rows.now c.about.result.now c.args.folder.now c.args.name.now c.is_empty.ensures (c.about.ensures c.requires)
