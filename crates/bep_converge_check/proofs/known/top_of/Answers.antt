use Rattle.std.proofs.Common.{map}
use Rattle.bep_tables.specs.Listed.{listed}
use Rattle.bep_converge_check.proofs.KnownFacts.{no_top}
use Rattle.bep_converge_check.proofs.known.top_of.Goals as goal

pub returns-in-None-clause-none : goal.returns-in-None-clause-none
returns-in-None-clause-none c = no_top (map listed c.args.group.now) c.in-None.ensures
