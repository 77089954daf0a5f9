use Rattle.std.proofs.Common.{refl}
use Rattle.bep_tables.specs.Listed.{listed}
use Rattle.bep_converge_check.proofs.KnownFacts.{below_where_none}
use Rattle.bep_converge_check.proofs.known.is_below.Goals as goal

pub returns-in-None : goal.returns-in-None
returns-in-None c = (λ _. below_where_none c.args.version.now (listed c.args.entry.now) c.in-None.ensures, λ _. refl)
