use Rattle.bep_tables.proofs.Said.{entries_are_held, holders_share}
use Rattle.bep_tables.proofs.table.laws.entries_are_held.Goals as goal

pub returns-clause-held : goal.returns-clause-held
returns-clause-held c = entries_are_held

pub returns-clause-shares : goal.returns-clause-shares
returns-clause-shares c = holders_share
