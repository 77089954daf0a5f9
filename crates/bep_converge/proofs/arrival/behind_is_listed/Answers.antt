use Rattle.bep_converge.proofs.BehindListed.{behind_is_listed_lem}
use Rattle.bep_converge.proofs.arrival.behind_is_listed.Goals as goal

pub returns : goal.returns
returns c = behind_is_listed_lem c.clusters_are_finite.ensures c.prevailing_is_unique.ensures
