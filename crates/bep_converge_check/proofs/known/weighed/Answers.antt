use Rattle.std.proofs.Common.{map}
use Rattle.bep_tables.specs.Listed.{listed}
use Rattle.bep_converge_check.proofs.KnownFacts.{permuted}
use Rattle.bep_converge_check.proofs.known.weighed.Goals as goal

pub returns-clause-same : goal.returns-clause-same
returns-clause-same c = permuted (map listed c.args.group.now) c.in_ok-found.found.items c.sort_unstable.new.self.items c.sort_unstable.ensures.permutation c.in_ok-found.ensures
