use Rattle.bep_explain.proofs.RowLists.{front_alike}
use Rattle.bep_explain.proofs.rows.alike_at.Goals as goal

pub returns-in-len1-up-clause-alike : goal.returns-in-len1-up-clause-alike
returns-in-len1-up-clause-alike c = front_alike c.args.rows.now c.first-item.result c.count_alike.result c.in-len1-up.len_at_least c.first-item.is c.count_alike.ensures.alike
