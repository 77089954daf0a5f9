use Rattle.std.proofs.Common.{refl}
use Rattle.bep_tables.specs.Listed.{listed}
use Rattle.bep_converge_check.proofs.AlikeFacts.{repeats_where_none}
use Rattle.bep_converge_check.proofs.alike.repeats_if_valid.Goals as goal

pub returns-in-None : goal.returns-in-None
returns-in-None c = (λ _. repeats_where_none c.args.top.now (listed c.args.entry.now) c.in-None.ensures, λ _. refl)
