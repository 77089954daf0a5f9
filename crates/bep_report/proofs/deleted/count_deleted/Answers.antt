use Rattle.std.proofs.Common.{sym}
use Rattle.bep_report.proofs.StoredFacts.{all_deleted}
use Rattle.bep_report.proofs.deleted.count_deleted.Goals as goal

pub returns-in-empty : goal.returns-in-empty
returns-in-empty c = sym (all_deleted c.args.shares.now c.args.names.now c.in-empty.len_below)
