use Rattle.bep_machine.proofs.KnownPlaces.{cluster_is_finite}
use Rattle.bep_machine.proofs.finite.clusters_are_finite.Goals as goal

pub returns : goal.returns
returns c = cluster_is_finite
